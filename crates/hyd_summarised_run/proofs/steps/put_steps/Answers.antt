-- One step after another.
use Rattle.std.proofs.lemmas.Result.{err_from_is_err_and}
use Rattle.std.proofs.Common.{◌∙◌, refl, arith}
use Rattle.hyd_run.proofs.StepLemmas.{steps-end, steps-names}
use Rattle.hyd_summarised_run.proofs.RunLemmas.{more-done, more-lost, over-stays}
use Rattle.hyd_summarised_run.proofs.steps.put_steps.Goals as goal

pub returns-in-Over-clause-puts : goal.returns-in-Over-clause-puts
returns-in-Over-clause-puts g c =
    let i = c.loop-more.invariant in
    let p = c.put_step.ensures.project ∙ i.project in
    let s = c.put_step.ensures.settings ∙ i.settings in
    let over = rw c.in-Over.is at c.in_ok-more.ensures.puts in (
      steps-end _ _ _ _ _ _ _ p s over,
      (
        steps-names _ _ _ _ _ _ _ p s over,
        λ start so_far. over-stays _ c.args.sim.now.settings _ _ _ _ start _ _ over (i.so_far start so_far),
      ),
    )

pub returns-in_err-more-clause-puts : goal.returns-in_err-more-clause-puts
returns-in_err-more-clause-puts g c =
    let out = err_from_is_err_and c.from_residual.result c.from_residual.ensures.1 in
    rw (out.1, out.2) (let i = c.loop-more.invariant in
    let p = c.put_step.ensures.project ∙ i.project in
    let s = c.put_step.ensures.settings ∙ i.settings in
    λ start so_far. more-lost _ _ c.in_err-more.field-0.0 _ _ start _ _ _ p s c.in_err-more.ensures.puts (i.so_far start so_far))

pub overflow_add-events : goal.overflow_add-events
overflow_add-events g c =
    let i = c.loop-more.invariant in
    let did = rw c.in-Period.is at c.in_ok-more.ensures.puts in
    let few = i.few in
    let next = did.next in
    let small = did.few in
    let more = c.is_count.ensures in
    omega (arith, few, next, small, more)

pub loop-more-preserved : goal.loop-more-preserved
loop-more-preserved g c =
    let i = c.loop-more.invariant in
    let p = c.put_step.ensures.project ∙ i.project in
    let s = c.put_step.ensures.settings ∙ i.settings in
    let did = rw c.in-Period.is at c.in_ok-more.ensures.puts in
    record {
      project = p;
      settings = s;
      unbroken = did.put.unbroken;
      few = let few = i.few in let next = did.next in let more = c.is_count.ensures in omega (arith, few, next, more);
      so_far = λ start so_far. more-done _ _ _ _ start _ _ _ _ _ p s refl did (i.so_far start so_far);
    }

pub loop-more-smaller : goal.loop-more-smaller
loop-more-smaller g c =
    let i = c.loop-more.invariant in
    let p = c.put_step.ensures.project ∙ i.project in
    let did = rw c.in-Period.is at c.in_ok-more.ensures.puts in
    rw p at did.fewer
