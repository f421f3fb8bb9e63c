use Rattle.std.proofs.Common.{ap, not}
use Rattle.std.specs.Int.{w128}
use Rattle.std.proofs.lemmas.Int.{to_z-of_z}
use Rattle.hyd_rules_at_scale.proofs.Comparisons.{less_is, at_most_is, more_is, at_least_is}
use Rattle.hyd_rules_at_scale.proofs.quantities.compares_with.Goals as goal

pub returns-in-Less : goal.returns-in-Less
returns-in-Less c = λ x amount is floor ceiling.
    rw (to_z-of_z w128 c.args.low c.ranges.low, to_z-of_z w128 c.args.whole c.ranges.whole, c.in-Less.is)
    (less_is x amount c.args.whole is c.args.low floor)

pub returns-in-AtMost : goal.returns-in-AtMost
returns-in-AtMost c = λ x amount is floor ceiling.
    rw (to_z-of_z w128 c.args.high c.ranges.high, to_z-of_z w128 c.args.whole c.ranges.whole, c.in-AtMost.is)
    (at_most_is x amount c.args.whole is c.args.high ceiling)

pub returns-in-More : goal.returns-in-More
returns-in-More c = λ x amount is floor ceiling.
    rw (to_z-of_z w128 c.args.whole c.ranges.whole, to_z-of_z w128 c.args.high c.ranges.high, c.in-More.is)
    (more_is x amount c.args.whole is c.args.high ceiling)

pub returns-in-AtLeast : goal.returns-in-AtLeast
returns-in-AtLeast c = λ x amount is floor ceiling.
    rw (to_z-of_z w128 c.args.whole c.ranges.whole, to_z-of_z w128 c.args.low c.ranges.low, c.in-AtLeast.is)
    (at_least_is x amount c.args.whole is c.args.low floor)

pub returns-in-Equal : goal.returns-in-Equal
returns-in-Equal c = λ x amount is floor ceiling.
    rw c.in-Equal.is (c.equals.ensures x amount
    (rw (to_z-of_z w128 c.args.whole c.ranges.whole) is)
    (rw (to_z-of_z w128 c.args.low c.ranges.low) floor)
    (rw (to_z-of_z w128 c.args.high c.ranges.high) ceiling))

pub returns-in-Unequal : goal.returns-in-Unequal
returns-in-Unequal c = λ x amount is floor ceiling.
    rw c.in-Unequal.is (ap not (c.equals-in-Unequal.ensures x amount
    (rw (to_z-of_z w128 c.args.whole c.ranges.whole) is)
    (rw (to_z-of_z w128 c.args.low c.ranges.low) floor)
    (rw (to_z-of_z w128 c.args.high c.ranges.high) ceiling)))
