use Rattle.std.proofs.Common.{◌≡◌, ◌≤◌, ◌∙◌, sym, subst, ap, w64, to_z, of_z, arith, ℤ, pos, ◌≤ℤ◌, None}
use Rattle.std.specs.Int.{w128}
use Rattle.std.proofs.lemmas.Bool.{false≢true}
use Rattle.std.proofs.lemmas.Int.{ints}
use Rattle.hyd_spec.specs.Assignment.{head_at}
use Rattle.hyd_period_network.specs.NetAsPeriodNetwork.{grid_of}
use Rattle.hyd_vector_check.specs.NetOutflowBySide.{PassesWith}
use Rattle.hyd_sweep.specs.Sweeps.{further}
use Rattle.hyd_sweep.proofs.RaiseValues.{passes-later}
use Rattle.hyd_sweep.proofs.single_raises.ticks_to_pass.Goals as goal

pub loop-low-preserved-then-is_enough : goal.loop-low-preserved-then-is_enough
loop-low-preserved-then-is_enough c =
    let grid = grid_of c.args.net.now in
    let side = c.args.side in
    let u = c.args.u.now in
    let i = c.args.i in
    let ticks = c.next-ticks.result in
    let inv = c.loop-low.invariant in
    let k1 : to_z w64 (of_z w64 c.head_of-here.result) ≡ c.head_of-here.result = omega (arith, ints) in
    let here : to_z w64 (of_z w64 c.head_of-here.result) ≡ head_at u i = k1 ∙ c.head_of-here.ensures in
    let kept : to_z w64 (of_z w64 c.further.result) ≡ c.further.result = omega (arith, ints) in
    let at : to_z w64 (of_z w64 c.further.result) ≡ further side (head_at u i) ticks = kept
    ∙ (c.further.ensures.value ∙ ap (λ (h : ℤ). further side h ticks) here) in
    let from = c.next-ticks.ensures.from in
    let below = c.next-ticks.ensures.below in
    let most = inv.at_most in
    let kept-over : to_z w128 (of_z w128 c.surplus-surplus.result) ≡ c.surplus-surplus.result = omega (arith, ints) in
    let over : pos 0 ≤ℤ c.surplus-surplus.result = subst (λ (s : ℤ). pos 0 ≤ℤ s) kept-over
    (c.is_enough.ensures.0 c.if-is_enough.true) in
    let passes : PassesWith grid c.args.problem side u i (further side (head_at u i) ticks) =
    subst (λ (h : ℤ). PassesWith grid c.args.problem side u i h) at (c.surplus-surplus.ensures.passes.0 over) in
    record {
      ordered = from;
      at_most = omega (arith, below, most);
      before = inv.before;
      after = λ k le within. passes-later None grid c.requires.steady c.args.problem side u i c.requires.inside
          (head_at u i) ticks k le passes;
    }

pub loop-low-preserved : goal.loop-low-preserved
loop-low-preserved c =
    let grid = grid_of c.args.net.now in
    let side = c.args.side in
    let u = c.args.u.now in
    let i = c.args.i in
    let ticks = c.next-ticks.result in
    let inv = c.loop-low.invariant in
    let k1 : to_z w64 (of_z w64 c.head_of-here.result) ≡ c.head_of-here.result = omega (arith, ints) in
    let here : to_z w64 (of_z w64 c.head_of-here.result) ≡ head_at u i = k1 ∙ c.head_of-here.ensures in
    let kept : to_z w64 (of_z w64 c.further.result) ≡ c.further.result = omega (arith, ints) in
    let at : to_z w64 (of_z w64 c.further.result) ≡ further side (head_at u i) ticks = kept
    ∙ (c.further.ensures.value ∙ ap (λ (h : ℤ). further side h ticks) here) in
    let below = c.next-ticks.ensures.below in
    let most = inv.at_most in
    let kept-over : to_z w128 (of_z w128 c.surplus-surplus.result) ≡ c.surplus-surplus.result = omega (arith, ints) in
    record {
      ordered = omega (arith, below);
      at_most = most;
      before = λ k lt passes.
          let le : k ≤ ticks = omega (arith, lt) in
          let over = c.surplus-surplus.ensures.passes.1 (subst (λ (h : ℤ). PassesWith grid c.args.problem side u i h)
          (sym at)
          (passes-later None grid c.requires.steady c.args.problem side u i c.requires.inside (head_at u i) k ticks le
          passes)) in
          false≢true (sym c.if-is_enough.false ∙ c.is_enough.ensures.1 (subst (λ (s : ℤ). pos 0 ≤ℤ s) (sym kept-over)
          over));
      after = inv.after;
    }
