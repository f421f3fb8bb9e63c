-- One step after another.
use Rattle.std.proofs.lemmas.Result.{err_from_is_err_and}
use Rattle.std.proofs.Common.{◌∙◌}
use Rattle.std.specs.Prelude.{Ok, Err, Some, None}
use Rattle.hyd_open_run.proofs.OpenStepLemmas.{steps-as}
use Rattle.hyd_open_run_so_far.proofs.OpenRunLemmas.{so-far-more, so-far-cut-off}
use Rattle.hyd_open_run_so_far.proofs.WholeOpenRunLemmas.{steps-over}
use Rattle.hyd_open_run.proofs.steps.put_steps.Goals as goal

pub returns-in-Some-clause-puts : goal.returns-in-Some-clause-puts
returns-in-Some-clause-puts g c =
    let i = c.loop-end.invariant in
    let over = steps-as (Ok (Some c.in-Some.end)) _ _ _ _ _ _ _ _ i.project i.settings
    (rw c.in-Some.is at c.in_ok-end.ensures.puts) in
    (over.end, λ start so_far. steps-over _ _ _ _ _ start _ _ over (i.so_far start so_far))

pub returns-in_err-end-clause-puts : goal.returns-in_err-end-clause-puts
returns-in_err-end-clause-puts g c =
    let p = err_from_is_err_and c.from_residual.result c.from_residual.ensures.1 in
    rw (p.1, p.2) (let i = c.loop-end.invariant in
    let lost = steps-as (Err c.in_err-end.field-0.0) _ _ _ _ _ _ _ _ i.project i.settings c.in_err-end.ensures.puts in
    λ start so_far. so-far-cut-off _ _ c.in_err-end.field-0.0 _ _ start _ _ lost (i.so_far start so_far))

pub loop-end-preserved : goal.loop-end-preserved
loop-end-preserved g c =
    let i = c.loop-end.invariant in
    let did = steps-as (Ok None) _ _ _ _ _ _ _ _ i.project i.settings
    (rw c.in_default.is at c.in_ok-end.ensures.puts) in
    record {
      project = c.put_step.ensures.project ∙ i.project;
      settings = c.put_step.ensures.settings ∙ i.settings;
      unbroken = did.0.put.unbroken;
      so_far = λ start so_far. so-far-more _ _ _ _ start _ _ did.0 (i.so_far start so_far);
    }

pub loop-end-smaller : goal.loop-end-smaller
loop-end-smaller g c =
    let i = c.loop-end.invariant in
    let did = steps-as (Ok None) _ _ _ _ _ _ _ _ i.project i.settings
    (rw c.in_default.is at c.in_ok-end.ensures.puts) in did.1
