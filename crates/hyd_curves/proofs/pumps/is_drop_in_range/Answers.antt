use Rattle.std.proofs.Common.{FitsSigned, ◌-ℤ◌, arith}
use Rattle.std.specs.Int.{w128}
use Rattle.std.proofs.lemmas.Int.{ints, to_z-of_z}
use Rattle.hyd_curves.proofs.ItemsInTurnLemmas.{and_then}
use Rattle.hyd_curves.proofs.pumps.is_drop_in_range.Goals as goal

pub returns : goal.returns
returns c =
    let high : FitsSigned w128 c.args.a.y.nano = omega (arith, ints, c.args.a.y.bounded) in
    let low : FitsSigned w128 c.args.b.y.nano = omega (arith, ints, c.args.b.y.bounded) in
    let drop : FitsSigned w128 (c.args.a.y.nano -ℤ c.args.b.y.nano) = omega (
      arith,
      ints,
      c.args.a.y.bounded,
      c.args.b.y.bounded,
    ) in
    let head : FitsSigned w128 c.head_ticks.result = record { sfits = c.head_ticks.type_inv } in
    rw (
      to_z-of_z w128 c.args.a.y.nano high,
      to_z-of_z w128 c.args.b.y.nano low,
      to_z-of_z w128 (c.args.a.y.nano -ℤ
          c.args.b.y.nano) drop,
    )
    (and_then _ _ (rw (to_z-of_z w128 c.head_ticks.result head, c.head_ticks.ensures) at c.if-not-is_within.ensures))
