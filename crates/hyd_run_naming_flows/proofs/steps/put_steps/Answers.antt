-- One step after another.
use Rattle.std.proofs.lemmas.Result.{err_from_is_err_and}
use Rattle.std.proofs.Common.{◌∙◌}
use Rattle.hyd_run.proofs.StepLemmas.{steps-end, steps-names}
use Rattle.hyd_run_naming_flows.proofs.RunLemmas.{steps-more, steps-cut-off, steps-over}
use Rattle.hyd_run_naming_flows.proofs.StepLemmas.{may-still}
use Rattle.hyd_run_naming_flows.proofs.steps.put_steps.Goals as goal

pub put_step-requires : goal.put_step-requires
put_step-requires g c =
    let i = c.loop-end.invariant in
    record {
      unbroken = i.unbroken;
      named = may-still _ _ _ _ i.project i.names c.requires.named;
      junctions = rw i.project (i.junctions ∙ c.requires.junctions);
      room = rw i.project (i.room ∙ c.requires.room);
    }

pub returns-in-Some-clause-puts : goal.returns-in-Some-clause-puts
returns-in-Some-clause-puts g c =
    let i = c.loop-end.invariant in
    let p = c.put_step.ensures.project ∙ i.project in
    let s = c.put_step.ensures.settings ∙ i.settings in
    let over = rw c.in-Some.is at c.in_ok-end.ensures.puts in (
      steps-end _ _ _ _ _ _ _ p s over,
      (
        steps-names _ _ _ _ _ _ _ p s over,
        λ start so_far. steps-over _ c.args.sim.now.settings _ _ _ _ start _ _ over (i.so_far start so_far),
      ),
    )

pub returns-in_err-end-clause-puts : goal.returns-in_err-end-clause-puts
returns-in_err-end-clause-puts g c =
    let out = err_from_is_err_and c.from_residual.result c.from_residual.ensures.1 in
    rw (out.1, out.2) (let i = c.loop-end.invariant in
    let p = c.put_step.ensures.project ∙ i.project in
    let s = c.put_step.ensures.settings ∙ i.settings in
    λ start so_far. steps-cut-off _ _ _ _ _ _ start _ _ p s i.names c.in_err-end.field-0.0 c.in_err-end.ensures.puts
    (i.so_far start so_far))

pub loop-end-preserved : goal.loop-end-preserved
loop-end-preserved g c =
    let i = c.loop-end.invariant in
    let p = c.put_step.ensures.project ∙ i.project in
    let s = c.put_step.ensures.settings ∙ i.settings in
    let did = rw c.in_default.is at c.in_ok-end.ensures.puts in
    record {
      project = p;
      settings = s;
      names = c.put_step.ensures.names ∙ i.names;
      junctions = c.put_step.ensures.junctions ∙ i.junctions;
      room = c.put_step.ensures.room ∙ i.room;
      unbroken = did.put.unbroken;
      so_far = λ start so_far. steps-more _ _ _ _ _ _ start _ _ p s i.names did (i.so_far start so_far);
    }

pub loop-end-smaller : goal.loop-end-smaller
loop-end-smaller g c =
    let i = c.loop-end.invariant in
    let p = c.put_step.ensures.project ∙ i.project in
    let did = rw c.in_default.is at c.in_ok-end.ensures.puts in
    rw p at did.fewer
