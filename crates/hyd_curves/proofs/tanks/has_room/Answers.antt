use Rattle.std.proofs.Common.{FitsSigned, ◌-ℤ◌, refl, arith}
use Rattle.std.specs.Int.{w128}
use Rattle.std.proofs.lemmas.Int.{ints, to_z-of_z}
use Rattle.hyd_curves.proofs.TankCurveTestLemmas.{shape, covered_small}
use Rattle.hyd_curves.proofs.tanks.has_room.Goals as goal

pub volume_up_to-requires-clause-level : goal.volume_up_to-requires-clause-level
volume_up_to-requires-clause-level c =
    rw (to_z-of_z w128 c.args.maximum c.ranges.maximum) (covered_small c.args.minimum c.args.maximum
    (shape c.args.us c.args.points.now) c.requires.right c.requires.covered c.requires.ordered).1

pub volume_up_to-requires-2-clause-level : goal.volume_up_to-requires-2-clause-level
volume_up_to-requires-2-clause-level c =
    rw (to_z-of_z w128 c.args.minimum c.ranges.minimum) (covered_small c.args.minimum c.args.maximum
    (shape c.args.us c.args.points.now) c.requires.right c.requires.covered c.requires.ordered).0

pub overflow_sub-result : goal.overflow_sub-result
overflow_sub-result c = omega (arith, ints, c.volume_up_to.ensures.small, c.volume_up_to-2.ensures.small)

pub returns : goal.returns
returns c =
    let a : FitsSigned w128 c.volume_up_to.result = record { sfits = c.volume_up_to.type_inv } in
    let b : FitsSigned w128 c.volume_up_to-2.result = record { sfits = c.volume_up_to-2.type_inv } in
    let d : FitsSigned w128 (c.volume_up_to.result -ℤ c.volume_up_to-2.result) =
    omega (arith, ints, c.volume_up_to.ensures.small, c.volume_up_to-2.ensures.small) in
    let e = rw (to_z-of_z w128 c.args.maximum c.ranges.maximum) at c.volume_up_to.ensures.value in
    let f = rw (to_z-of_z w128 c.args.minimum c.ranges.minimum) at c.volume_up_to-2.ensures.value in
    rw (
      to_z-of_z w128 c.volume_up_to.result a,
      to_z-of_z w128 c.volume_up_to-2.result b,
      to_z-of_z w128 (c.volume_up_to.result -ℤ c.volume_up_to-2.result) d,
      e,
      f,
    ) refl
