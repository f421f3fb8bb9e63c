use Rattle.std.proofs.Common.{◌-ℤ◌, arith, refl, rules, sym, ◌∙◌, w64, SFits}
use Rattle.std.specs.Int.{w128, int_max}
use Rattle.std.proofs.lemmas.Int.{ints, to_z-of_z}
use Rattle.hyd_num.specs.Rational.{floor}
use Rattle.hyd_tank.specs.Contents.{bounds_of, in_ticks}
use Rattle.hyd_tank.proofs.Contents.{floor_between}
use Rattle.hyd_tank.proofs.LevelAndVolumeEnds.{floor_moved}
use Rattle.hyd_tank.proofs.contents_of_tanks.lower_content.Goals as goal
use Rattle.hyd_theorems_on_definitions.proofs.SoundTankLemmas.{some-area}

pub returns-in-Some : goal.returns-in-Some
returns-in-Some c =
    let b = to_z-of_z w128 c.args.breadth c.ranges.breadth in
    let p = to_z-of_z w128 c.args.parts c.ranges.parts in
    let fits : SFits w64 c.in-Some.bound = search rules in
    to_z-of_z w64 c.in-Some.bound fits
    ∙ sym (rw (b, p) at (c.in-Some.ensures.bound (int_max c.args.bounds.least
    (floor (in_ticks c.args.breadth c.args.parts) -ℤ c.args.widening))))

pub moved_down-requires-clause-number : goal.moved_down-requires-clause-number
moved_down-requires-clause-number c =
    let b = to_z-of_z w128 c.args.breadth c.ranges.breadth in
    let p = to_z-of_z w128 c.args.parts c.ranges.parts in
    let between = rw (b, p) at (c.in_default.ensures.between refl) in
    let e = rw (b, p) at c.floor.ensures in
    let range = floor_between (bounds_of c.args.bounds) (in_ticks c.args.breadth c.args.parts)
    (some-area c.args.breadth c.requires.breadth.at_least) between in
    record { at_least = omega (arith, ints, e, range.0, range.1); at_most = omega (arith, ints, e, range.0, range.1) }

pub returns : goal.returns
returns c =
    let b = to_z-of_z w128 c.args.breadth c.ranges.breadth in
    let p = to_z-of_z w128 c.args.parts c.ranges.parts in
    let e = rw (b, p) at c.floor.ensures in
    let inside = int_max c.args.bounds.least (floor (in_ticks c.args.breadth c.args.parts) -ℤ c.args.widening) in
    floor_moved c.args.bounds.least c.floor.result (floor (in_ticks c.args.breadth c.args.parts)) c.args.widening
    c.moved_down.result
    (record { sfits = c.floor.type_inv }) c.ranges.widening (record {
      sfits = c.moved_down.type_inv;
    }) e c.moved_down.ensures
    ∙ sym (rw (b, p) at (c.in_default.ensures.inside refl inside))
