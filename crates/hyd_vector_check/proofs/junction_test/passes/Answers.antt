use Rattle.std.proofs.Common.{◌≡◌, ◌∙◌, subst, sym, ap, w64, to_z, of_z, arith, ℤ, pos, List}
use Rattle.std.specs.Prelude.{slice_set}
use Rattle.std.proofs.lemmas.Int.{ints}
use Rattle.std.proofs.lemmas.List.{set-get_or}
use Rattle.hyd_period_network.specs.NetAsPeriodNetwork.{grid_of}
use Rattle.hyd_vector_check.specs.NetOutflowBySide.{PassesAt}
use Rattle.hyd_vector_check.proofs.junction_test.passes.Goals as goal

pub returns : goal.returns
returns c =
    let u = c.args.u.now in
    let here : to_z w64 (of_z w64 c.head_of.result) ≡ c.head_of.result = omega (arith, ints) in
    let whole : slice_set u c.args.i (to_z w64 (of_z w64 c.head_of.result)) ≡ u = ap (slice_set u c.args.i)
    (here ∙ c.head_of.ensures) ∙ set-get_or u c.args.i (pos 0) in (
      (λ yes. subst (λ (v : List ℤ). PassesAt (grid_of c.args.net.now) c.args.problem c.args.side v c.args.i) whole
          (c.passes_with.ensures.0 yes)),
      (λ passes. c.passes_with.ensures.1 (subst (λ (v : List ℤ). PassesAt (grid_of c.args.net.now) c.args.problem
          c.args.side v c.args.i) (sym whole) passes)),
    )
