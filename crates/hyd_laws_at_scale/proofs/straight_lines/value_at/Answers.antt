use Rattle.std.proofs.Common.{◌≡◌, ◌+◌, pos, to_z, of_z, w64, length, slice_index_or, ◌-◌, arith}
use Rattle.std.proofs.lemmas.Int.{ints, to_z-of_z}
use Rattle.hyd_law.specs.declared.law_kinds.Knot.{Knot}
use Rattle.hyd_laws_at_scale.specs.Scales.{parts_of}
use Rattle.hyd_laws_at_scale.proofs.LineAtScale.{stops_at, ends_with, goes_on}
use Rattle.hyd_laws_at_scale.proofs.straight_lines.value_at.Goals as goal

abbrev none : Knot
none = record { head = pos 0; flow = pos 0 }

pub returns-then-lies_before-clause-value : goal.returns-then-lies_before-clause-value
returns-then-lies_before-clause-value c =
    let range = c.requires.ranges (c.loop-i.i + 1) none (omega arith) in
    let kept : to_z w64 (of_z w64 (slice_index_or c.args.knots.now (c.loop-i.i + 1) none).head)
    ≡ (slice_index_or c.args.knots.now (c.loop-i.i + 1) none).head = omega (arith, ints, range.head_range) in
    let e = to_z-of_z w64 c.args.d c.ranges.d in
    stops_at (parts_of c.args.scale) c.args.knots.now c.args.d c.loop-i.i none c.between.result.numerator
    c.between.result.denominator
    (rw e at c.loop-i.invariant) (omega arith) (rw (e, kept) at c.if-lies_before.ensures.before)
    (rw e at c.between.ensures.value)

pub loop-i-preserved : goal.loop-i-preserved
loop-i-preserved c =
    let range = c.requires.ranges (c.loop-i.i + 1) none (omega arith) in
    let kept : to_z w64 (of_z w64 (slice_index_or c.args.knots.now (c.loop-i.i + 1) none).head)
    ≡ (slice_index_or c.args.knots.now (c.loop-i.i + 1) none).head = omega (arith, ints, range.head_range) in
    goes_on (parts_of c.args.scale) c.args.knots.now (to_z w64 (of_z w64 c.args.d)) c.loop-i.i none
    c.loop-i.invariant (omega arith) (rw kept at c.if-lies_before.ensures.from)

pub returns-clause-value : goal.returns-clause-value
returns-clause-value c =
    let e = to_z-of_z w64 c.args.d c.ranges.d in
    let n = length c.args.knots.now in
    ends_with (parts_of c.args.scale) c.args.knots.now c.args.d c.loop-i.i (n - 1 - 1) (n - 1) none
    c.between-2.result.numerator c.between-2.result.denominator
    (rw e at c.loop-i.invariant) (omega arith) (omega arith) (omega arith) (rw e at c.between-2.ensures.value)
