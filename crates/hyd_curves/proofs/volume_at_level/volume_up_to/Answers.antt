use Rattle.std.proofs.Common.{to_z, of_z, FitsSigned, arith, sym, ◌∙◌}
use Rattle.std.specs.Int.{w128}
use Rattle.std.proofs.lemmas.Int.{ints, to_z-of_z}
use Rattle.hyd_curves.proofs.TankCurveTestLemmas.{AreTicks, small, walk_on, walk_ends, walk_alone, next_two}
use Rattle.hyd_curves.proofs.volume_at_level.volume_up_to.Goals as goal

pub volume_between-requires-clause-first : goal.volume_between-requires-clause-first
volume_between-requires-clause-first c = small _ _ c.loop-next.invariant.right

pub volume_between-requires-clause-second : goal.volume_between-requires-clause-second
volume_between-requires-clause-second c =
    let t : AreTicks c.args.us c.in-Some-split_first.next.now c.volume_point-second.result =
    record { place = c.volume_point-second.ensures.place; value = c.volume_point-second.ensures.value } in
    (next_two c.args.us c.args.points.now c.loop-next.left.now c.in-Some-split_first.later.now
    (to_z w128 (of_z w128 c.args.level)) c.loop-next.first c.volume_point-second.result c.in-Some-split_first.next.now
    c.loop-next.invariant c.in-Some-split_first.ensures.cases.0 t).0

pub volume_between-requires-clause-apart : goal.volume_between-requires-clause-apart
volume_between-requires-clause-apart c =
    let t : AreTicks c.args.us c.in-Some-split_first.next.now c.volume_point-second.result =
    record { place = c.volume_point-second.ensures.place; value = c.volume_point-second.ensures.value } in
    (next_two c.args.us c.args.points.now c.loop-next.left.now c.in-Some-split_first.later.now
    (to_z w128 (of_z w128 c.args.level)) c.loop-next.first c.volume_point-second.result c.in-Some-split_first.next.now
    c.loop-next.invariant c.in-Some-split_first.ensures.cases.0 t).1

pub returns-then-is_reached-clause-value : goal.returns-then-is_reached-clause-value
returns-then-is_reached-clause-value c =
    let t : AreTicks c.args.us c.in-Some-split_first.next.now c.volume_point-second.result =
    record { place = c.volume_point-second.ensures.place; value = c.volume_point-second.ensures.value } in
    let fits : FitsSigned w128 c.volume_between.result = record { sfits = c.volume_between.type_inv } in
    rw (to_z-of_z w128 c.volume_between.result fits)
    (walk_ends c.args.us c.args.points.now c.loop-next.left.now c.in-Some-split_first.later.now c.args.level
    c.volume_between.result c.loop-next.first c.volume_point-second.result c.in-Some-split_first.next.now
    (rw (to_z-of_z w128 c.args.level c.ranges.level) at c.loop-next.invariant) c.in-Some-split_first.ensures.cases.0 t
    (rw (to_z-of_z w128 c.args.level c.ranges.level) at (sym c.if-is_reached.true ∙ c.is_reached.ensures))
    (rw (to_z-of_z w128 c.args.level c.ranges.level) at c.volume_between.ensures.value))

pub loop-next-preserved : goal.loop-next-preserved
loop-next-preserved c =
    let t : AreTicks c.args.us c.in-Some-split_first.next.now c.volume_point-second.result =
    record { place = c.volume_point-second.ensures.place; value = c.volume_point-second.ensures.value } in
    walk_on c.args.us c.args.points.now c.loop-next.left.now c.in-Some-split_first.later.now
    (to_z w128 (of_z w128 c.args.level)) c.loop-next.first c.volume_point-second.result c.in-Some-split_first.next.now
    c.loop-next.invariant c.in-Some-split_first.ensures.cases.0 t
    (sym c.if-is_reached.false ∙ c.is_reached.ensures)

pub returns-clause-value : goal.returns-clause-value
returns-clause-value c =
    walk_alone c.args.us c.args.points.now c.loop-next.left.now c.args.level (to_z w128 (of_z w128
    c.loop-next.first.value))
    c.loop-next.first (rw (to_z-of_z w128 c.args.level c.ranges.level) at c.loop-next.invariant)
    c.in_default-split_first.ensures.cases
    (omega (arith, ints, (small c.loop-next.first _ c.loop-next.invariant.right).value))

pub returns-clause-small : goal.returns-clause-small
returns-clause-small c = omega (arith, ints, (small c.loop-next.first _ c.loop-next.invariant.right).value)
