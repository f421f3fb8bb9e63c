use Rattle.std.proofs.Common.{SFits, to_z, of_z, w64, arith, rules}
use Rattle.std.specs.Int.{w128}
use Rattle.std.proofs.lemmas.Int.{ints, to_z-of_z}
use Rattle.hyd_lemmas.proofs.BooleanTests.{le-yes, le-no}
use Rattle.hyd_tank.specs.Contents.{bounds_of, in_ticks}
use Rattle.hyd_tank.proofs.Contents.{parts_of, end-most, end-least, end-between}
use Rattle.hyd_tank.proofs.contents_of_tanks.bound_at.Goals as goal

pub returns-then-parts-in_parts-clause-bound : goal.returns-then-parts-in_parts-clause-bound
returns-then-parts-in_parts-clause-bound c = λ inside.
    let fits : SFits w64 c.args.range.most = search rules in
    let most = parts_of c.in_parts.result c.args.breadth c.args.bounds.most c.in_parts.ensures.value
    c.requires.breadth (omega (arith, ints)) (omega (arith, ints)) in
    let reached = le-yes (to_z w128 (of_z w128 c.in_parts.result)) (to_z w128 (of_z w128 c.args.parts))
    c.if-parts-in_parts.true in
    rw (to_z-of_z w64 c.args.range.most fits)
    (end-most (bounds_of c.args.bounds) (bounds_of c.args.range) (in_ticks c.args.breadth c.args.parts) inside
    (omega (arith, ints, most, reached)))

pub returns-then-parts-in_parts-2-clause-bound : goal.returns-then-parts-in_parts-2-clause-bound
returns-then-parts-in_parts-2-clause-bound c = λ inside.
    let fits : SFits w64 c.args.range.least = search rules in
    let most = parts_of c.in_parts.result c.args.breadth c.args.bounds.most c.in_parts.ensures.value
    c.requires.breadth (omega (arith, ints)) (omega (arith, ints)) in
    let least = parts_of c.in_parts-2.result c.args.breadth c.args.bounds.least c.in_parts-2.ensures.value
    c.requires.breadth (omega (arith, ints)) (omega (arith, ints)) in
    let short = le-no (to_z w128 (of_z w128 c.in_parts.result)) (to_z w128 (of_z w128 c.args.parts))
    c.if-parts-in_parts.false in
    let reached = le-yes (to_z w128 (of_z w128 c.args.parts)) (to_z w128 (of_z w128 c.in_parts-2.result))
    c.if-parts-in_parts-2.true in
    rw (to_z-of_z w64 c.args.range.least fits)
    (end-least (bounds_of c.args.bounds) (bounds_of c.args.range) (in_ticks c.args.breadth c.args.parts) inside
    (omega (arith, ints, most, short)) (omega (arith, ints, least, reached)))

pub returns-clause-inside : goal.returns-clause-inside
returns-clause-inside c = λ none inside.
    let most = parts_of c.in_parts.result c.args.breadth c.args.bounds.most c.in_parts.ensures.value
    c.requires.breadth (omega (arith, ints)) (omega (arith, ints)) in
    let least = parts_of c.in_parts-2.result c.args.breadth c.args.bounds.least c.in_parts-2.ensures.value
    c.requires.breadth (omega (arith, ints)) (omega (arith, ints)) in
    let short = le-no (to_z w128 (of_z w128 c.in_parts.result)) (to_z w128 (of_z w128 c.args.parts))
    c.if-parts-in_parts.false in
    let above = le-no (to_z w128 (of_z w128 c.args.parts)) (to_z w128 (of_z w128 c.in_parts-2.result))
    c.if-parts-in_parts-2.false in
    end-between (bounds_of c.args.bounds) (bounds_of c.args.range) (in_ticks c.args.breadth c.args.parts) inside
    (record { above_least = omega (arith, ints, least, above); below_most = omega (arith, ints, most, short) })

pub returns-clause-between : goal.returns-clause-between
returns-clause-between c = λ none.
    let most = parts_of c.in_parts.result c.args.breadth c.args.bounds.most c.in_parts.ensures.value
    c.requires.breadth (omega (arith, ints)) (omega (arith, ints)) in
    let least = parts_of c.in_parts-2.result c.args.breadth c.args.bounds.least c.in_parts-2.ensures.value
    c.requires.breadth (omega (arith, ints)) (omega (arith, ints)) in
    let short = le-no (to_z w128 (of_z w128 c.in_parts.result)) (to_z w128 (of_z w128 c.args.parts))
    c.if-parts-in_parts.false in
    let above = le-no (to_z w128 (of_z w128 c.args.parts)) (to_z w128 (of_z w128 c.in_parts-2.result))
    c.if-parts-in_parts-2.false in
    record { above_least = omega (arith, ints, least, above); below_most = omega (arith, ints, most, short) }
