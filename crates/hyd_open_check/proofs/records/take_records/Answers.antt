-- One record after another.
use Rattle.std.proofs.lemmas.Result.{err_from_is_err_and}
use Rattle.std.proofs.Common.{◌∙◌, sym, ap}
use Rattle.std.specs.Prelude.{Ok, Err, Some, None}
use Rattle.hyd_open_run.specs.PeriodsOfOpenRuns.{header_for}
use Rattle.hyd_open_check_so_far.proofs.WholeOpenCheckLemmas.{turn-more, turn-over, turn-lost, goes-on}
use Rattle.hyd_open_check.proofs.OpenRecordLemmas.{turn-as}
use Rattle.hyd_open_check.proofs.records.take_records.Goals as goal

pub take_record-requires-clause-header : goal.take_record-requires-clause-header
take_record-requires-clause-header g c =
    let i = c.loop-conclusion.invariant in
    i.header ∙ ap header_for (sym i.project)

pub returns-in-Some-clause-give : goal.returns-in-Some-clause-give
returns-in-Some-clause-give g c =
    let i = c.loop-conclusion.invariant in
    let over = turn-as (Ok (Some c.in-Some.conclusion)) _ _ _ _ _ _ i.project
    (rw c.in-Some.is at c.in_ok-conclusion.ensures.gives) in
    λ start so_far. turn-over _ c.in-Some.conclusion _ _ start _ _ over (i.so_far start so_far)

pub returns-in-Some-clause-unbroken : goal.returns-in-Some-clause-unbroken
returns-in-Some-clause-unbroken g c =
    let over = rw c.in-Some.is at c.in_ok-conclusion.ensures.gives in
    over.put.open_still

pub returns-in_err-conclusion-clause-give : goal.returns-in_err-conclusion-clause-give
returns-in_err-conclusion-clause-give g c =
    let p = err_from_is_err_and c.from_residual.result c.from_residual.ensures.1 in
    rw (p.1, p.2) (let i = c.loop-conclusion.invariant in
    let lost = turn-as (Err c.in_err-conclusion.field-0.0) _ _ _ _ _ _ i.project c.in_err-conclusion.ensures.gives in
    λ start so_far. turn-lost _ c.in_err-conclusion.field-0.0 _ _ start _ _ c.project-project.ensures.is_sim.sound lost
    (i.so_far start so_far))

pub loop-conclusion-preserved : goal.loop-conclusion-preserved
loop-conclusion-preserved g c =
    let i = c.loop-conclusion.invariant in
    let did = turn-as (Ok None) _ _ _ _ _ _ i.project
    (rw c.in_default.is at c.in_ok-conclusion.ensures.gives) in
    record {
      project = c.take_record.ensures.project ∙ i.project;
      settings = c.take_record.ensures.settings ∙ i.settings;
      running = c.take_record.ensures.running;
      header = c.take_record.ensures.header ∙ i.header;
      going = goes-on _ _ _ _ _ did;
      so_far = λ start so_far. turn-more _ _ _ start _ _ c.project-project.ensures.is_sim.sound did
          (i.so_far start so_far);
    }

pub loop-conclusion-smaller : goal.loop-conclusion-smaller
loop-conclusion-smaller g c =
    let i = c.loop-conclusion.invariant in
    let did = turn-as (Ok None) _ _ _ _ _ _ i.project
    (rw c.in_default.is at c.in_ok-conclusion.ensures.gives) in did.fewer
