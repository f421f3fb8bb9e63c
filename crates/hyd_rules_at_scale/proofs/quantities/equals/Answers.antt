use Rattle.std.proofs.Common.{◌≤ℤ◌, arith}
use Rattle.std.specs.Int.{w128}
use Rattle.std.proofs.lemmas.Int.{ints, to_z-of_z}
use Rattle.hyd_rules_at_scale.proofs.Comparisons.{equal_is}
use Rattle.hyd_rules_at_scale.proofs.quantities.equals.Goals as goal

pub returns-then-high-whole : goal.returns-then-high-whole
returns-then-high-whole c = λ x amount is floor ceiling.
    let h : c.args.high ≤ℤ c.args.whole = omega (arith, ints) in
    rw (to_z-of_z w128 c.args.whole c.ranges.whole, to_z-of_z w128 c.args.low c.ranges.low)
    (equal_is x amount c.args.whole is c.args.low c.args.high floor ceiling h)
