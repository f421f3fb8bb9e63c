-- One record after another.
use Rattle.std.proofs.lemmas.Result.{err_from_is_err_and}
use Rattle.std.proofs.Common.{◌∙◌, Bool, sym, subst}
use Rattle.std.specs.Prelude.{IsTrue}
use Rattle.hyd_sim.specs.RunView.{standing_of}
use Rattle.hyd_witness_stream.proofs.FoundLemmas.{entry-of-project, moments-of-project, turn-goes-on, turn-halts}
use Rattle.hyd_witness_stream.proofs.FoundLemmas.{turn-breaks}
use Rattle.hyd_witness_stream.proofs.records.take_records.Goals as goal

pub take_record-requires-clause-entry : goal.take_record-requires-clause-entry
take_record-requires-clause-entry g c =
    let i = c.loop-end.invariant in
    entry-of-project _ _ _ i.project i.entry

pub take_record-requires-clause-moments : goal.take_record-requires-clause-moments
take_record-requires-clause-moments g c =
    let i = c.loop-end.invariant in
    moments-of-project _ _ _ i.project i.moments

pub take_record-requires-clause-ready : goal.take_record-requires-clause-ready
take_record-requires-clause-ready g c =
    subst (λ (b : Bool). IsTrue b) (sym c.loop-end.invariant.ready) c.requires.ready

pub returns-in-Some-clause-give : goal.returns-in-Some-clause-give
returns-in-Some-clause-give g c =
    let i = c.loop-end.invariant in
    let gives = rw c.in-Some.is at c.in_ok-end.ensures.gives in
    λ S start so. turn-halts _ _ _ (standing_of c.take_record.new.sim) _ c.take_record.new.moments.course _ _ i.project
    S start (i.so_far S start so) c.in-Some.end gives

pub returns-in_err-end-clause-give : goal.returns-in_err-end-clause-give
returns-in_err-end-clause-give g c =
    let p = err_from_is_err_and c.from_residual.result c.from_residual.ensures.1 in
    rw (p.1, p.2) (let i = c.loop-end.invariant in
    λ S start so. turn-breaks _ _ _ (standing_of c.take_record.new.sim) _ c.take_record.new.moments.course _ _ i.project
    S start (i.so_far S start so) c.in_err-end.field-0.0
    c.in_err-end.ensures.gives)

pub loop-end-preserved : goal.loop-end-preserved
loop-end-preserved g c =
    let i = c.loop-end.invariant in
    let e = c.take_record.ensures in
    let gives = rw c.in_default.is at c.in_ok-end.ensures.gives in
    record {
      project = e.project ∙ i.project;
      running = e.running;
      entry = entry-of-project _ _ _ (sym i.project) e.entry;
      moments = moments-of-project _ _ _ (sym i.project) e.moments;
      going = rw c.in_default.is at c.in_ok-end.ensures.going;
      writing = c.in_ok-end.ensures.writing;
      ready = e.ready ∙ i.ready;
      so_far = λ S start so. turn-goes-on _ _ _ _ _ _ _ _ i.project S start (i.so_far S start so) gives;
    }

pub loop-end-smaller : goal.loop-end-smaller
loop-end-smaller g c =
    let i = c.loop-end.invariant in
    let more = rw c.in_default.is at c.in_ok-end.ensures.one_more in
    rw i.project at more.fewer
