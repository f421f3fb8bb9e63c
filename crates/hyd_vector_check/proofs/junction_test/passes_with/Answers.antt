use Rattle.std.proofs.Common.{◌≡◌, subst, sym, w64, to_z, of_z, arith, ℤ, pos, ◌≤ℤ◌}
use Rattle.std.specs.Int.{w128}
use Rattle.std.proofs.lemmas.Int.{ints}
use Rattle.hyd_period_network.specs.NetAsPeriodNetwork.{grid_of}
use Rattle.hyd_vector_check.specs.NetOutflowBySide.{PassesWith}
use Rattle.hyd_vector_check.proofs.junction_test.passes_with.Goals as goal

pub returns : goal.returns
returns c =
    let here : to_z w64 (of_z w64 c.args.head) ≡ c.args.head = omega (arith, ints) in
    let kept : to_z w128 (of_z w128 c.surplus.result) ≡ c.surplus.result = omega (arith, ints) in (
      (λ yes. subst (λ (h : ℤ). PassesWith (grid_of c.args.net.now) c.args.problem c.args.side c.args.u.now c.args.i
          h) here
          (c.surplus.ensures.passes.0 (subst (λ (s : ℤ). pos 0 ≤ℤ s) kept (c.is_some.ensures.0 yes)))),
      (λ passes. c.is_some.ensures.1 (subst (λ (s : ℤ). pos 0 ≤ℤ s) (sym kept) (c.surplus.ensures.passes.1
          (subst (λ (h : ℤ). PassesWith (grid_of c.args.net.now) c.args.problem c.args.side c.args.u.now c.args.i h)
          (sym here) passes)))),
    )
