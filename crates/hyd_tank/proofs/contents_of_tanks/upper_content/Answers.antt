use Rattle.std.proofs.Common.{◌+ℤ◌, arith, refl, rules, sym, ◌∙◌, w64, SFits}
use Rattle.std.specs.Int.{w128, int_min}
use Rattle.std.proofs.lemmas.Int.{ints, to_z-of_z}
use Rattle.hyd_num.specs.Rational.{ceiling}
use Rattle.hyd_tank.specs.Contents.{bounds_of, in_ticks}
use Rattle.hyd_tank.proofs.Contents.{ceiling_between}
use Rattle.hyd_tank.proofs.LevelAndVolumeEnds.{ceiling_moved}
use Rattle.hyd_tank.proofs.contents_of_tanks.upper_content.Goals as goal
use Rattle.hyd_theorems_on_definitions.proofs.SoundTankLemmas.{some-area}

pub returns-in-Some : goal.returns-in-Some
returns-in-Some c =
    let b = to_z-of_z w128 c.args.breadth c.ranges.breadth in
    let p = to_z-of_z w128 c.args.parts c.ranges.parts in
    let fits : SFits w64 c.in-Some.bound = search rules in
    to_z-of_z w64 c.in-Some.bound fits
    ∙ sym (rw (b, p) at (c.in-Some.ensures.bound (int_min c.args.bounds.most
    (ceiling (in_ticks c.args.breadth c.args.parts) +ℤ c.args.widening))))

pub moved_up-requires-clause-number : goal.moved_up-requires-clause-number
moved_up-requires-clause-number c =
    let b = to_z-of_z w128 c.args.breadth c.ranges.breadth in
    let p = to_z-of_z w128 c.args.parts c.ranges.parts in
    let between = rw (b, p) at (c.in_default.ensures.between refl) in
    let e = rw (b, p) at c.ceiling.ensures in
    let range = ceiling_between (bounds_of c.args.bounds) (in_ticks c.args.breadth c.args.parts)
    (some-area c.args.breadth c.requires.breadth.at_least) between in
    record { at_least = omega (arith, ints, e, range.0, range.1); at_most = omega (arith, ints, e, range.0, range.1) }

pub returns : goal.returns
returns c =
    let b = to_z-of_z w128 c.args.breadth c.ranges.breadth in
    let p = to_z-of_z w128 c.args.parts c.ranges.parts in
    let e = rw (b, p) at c.ceiling.ensures in
    let inside = int_min c.args.bounds.most (ceiling (in_ticks c.args.breadth c.args.parts) +ℤ c.args.widening) in
    ceiling_moved c.args.bounds.most c.ceiling.result (ceiling (in_ticks c.args.breadth c.args.parts)) c.args.widening
    c.moved_up.result
    (record { sfits = c.ceiling.type_inv }) c.ranges.widening (record {
      sfits = c.moved_up.type_inv;
    }) e c.moved_up.ensures
    ∙ sym (rw (b, p) at (c.in_default.ensures.inside refl inside))
