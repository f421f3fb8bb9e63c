use Rattle.std.proofs.Common.{FitsSigned, ◌-ℤ◌, ◌∙◌, arith}
use Rattle.std.specs.Int.{w128}
use Rattle.std.proofs.lemmas.Int.{ints, to_z-of_z}
use Rattle.hyd_curves.proofs.ItemsInTurnLemmas.{and_third}
use Rattle.hyd_curves.proofs.pumps.is_parabola.Goals as goal

pub returns : goal.returns
returns c =
    let q : FitsSigned w128 c.args.b.x.nano = omega (arith, ints, c.args.b.x.bounded) in
    let p : FitsSigned w128 c.args.c.x.nano = omega (arith, ints, c.args.c.x.bounded) in
    let high : FitsSigned w128 c.args.a.y.nano = omega (arith, ints, c.args.a.y.bounded) in
    let middle : FitsSigned w128 c.args.b.y.nano = omega (arith, ints, c.args.b.y.bounded) in
    let low : FitsSigned w128 c.args.c.y.nano = omega (arith, ints, c.args.c.y.bounded) in
    let all : FitsSigned w128 (c.args.a.y.nano -ℤ c.args.c.y.nano) = omega (
      arith,
      ints,
      c.args.a.y.bounded,
      c.args.c.y.bounded,
    ) in
    let some : FitsSigned w128 (c.args.a.y.nano -ℤ c.args.b.y.nano) = omega (
      arith,
      ints,
      c.args.a.y.bounded,
      c.args.b.y.bounded,
    ) in
    (simp (
      to_z-of_z w128 c.args.b.x.nano q,
      to_z-of_z w128 c.args.c.x.nano p,
      to_z-of_z w128 c.args.a.y.nano high,
      to_z-of_z w128 c.args.b.y.nano middle,
      to_z-of_z w128 c.args.c.y.nano low,
      to_z-of_z w128 _ all,
      to_z-of_z w128
          _ some,
    )
    at c.are_squares_alike.ensures)
    ∙ and_third _ _ _ c.if-not-fall_from_0.ensures
