-- One record after another.
use Rattle.std.proofs.lemmas.Result.{err_from_is_err_and}
use Rattle.std.proofs.Common.{◌∙◌, sym, ap}
use Rattle.hyd_sim.specs.RunView.{header_for}
use Rattle.hyd_cert_check.proofs.RecordByRecordLemmas.{turn-more, turn-over, turn-lost, goes-on}
use Rattle.hyd_cert_check.proofs.records.take_records.Goals as goal

pub take_record-requires-clause-header : goal.take_record-requires-clause-header
take_record-requires-clause-header g c =
    let i = c.loop-conclusion.invariant in
    i.header ∙ ap header_for (sym i.project)

pub returns-in-Some-clause-give : goal.returns-in-Some-clause-give
returns-in-Some-clause-give g c =
    let i = c.loop-conclusion.invariant in
    let over = rw c.in-Some.is at c.in_ok-conclusion.ensures.gives in
    λ start so_far. turn-over _ _ _ _ start _ _ (c.take_record.ensures.project ∙ i.project) over (i.so_far start so_far)

pub returns-in-Some-clause-unbroken : goal.returns-in-Some-clause-unbroken
returns-in-Some-clause-unbroken g c =
    let over = rw c.in-Some.is at c.in_ok-conclusion.ensures.gives in
    over.put.open_still

pub returns-in_err-conclusion-clause-give : goal.returns-in_err-conclusion-clause-give
returns-in_err-conclusion-clause-give g c =
    let p = err_from_is_err_and c.from_residual.result c.from_residual.ensures.1 in
    rw (p.1, p.2) (let i = c.loop-conclusion.invariant in
    λ start so_far. turn-lost _ c.in_err-conclusion.field-0.0 _ _ start _ _ (c.take_record.ensures.project ∙ i.project)
    c.project-project.ensures.is_sim.sound c.in_err-conclusion.ensures.gives (i.so_far start so_far))

pub loop-conclusion-preserved : goal.loop-conclusion-preserved
loop-conclusion-preserved g c =
    let i = c.loop-conclusion.invariant in
    let p = c.take_record.ensures.project ∙ i.project in
    let did = rw c.in_default.is at c.in_ok-conclusion.ensures.gives in
    record {
      project = p;
      settings = c.take_record.ensures.settings ∙ i.settings;
      running = c.take_record.ensures.running;
      header = c.take_record.ensures.header ∙ i.header;
      going = goes-on _ _ _ _ did;
      part = c.take_record.ensures.part;
      so_far = λ start so_far. turn-more _ _ _ start _ _ p c.project-project.ensures.is_sim.sound did
          (i.so_far start so_far);
    }

pub loop-conclusion-smaller : goal.loop-conclusion-smaller
loop-conclusion-smaller g c =
    let i = c.loop-conclusion.invariant in
    let p = c.take_record.ensures.project ∙ i.project in
    let did = rw c.in_default.is at c.in_ok-conclusion.ensures.gives in
    rw p at did.fewer
