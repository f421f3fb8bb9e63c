use Rattle.std.proofs.Common.{pos, to_z, of_z, subst, arith}
use Rattle.std.specs.Int.{w128}
use Rattle.std.proofs.lemmas.Int.{ints}
use Rattle.hyd_num.specs.Rational.{Rational}
use Rattle.hyd_law.specs.KnotsOfStraightLines.{place_of, IsValue}
use Rattle.hyd_law.proofs.LineAtDifference.{first_is, second_is}
use Rattle.hyd_law.proofs.straight_lines.between.Goals as goal

pub returns-then-lies_before-2-clause-value : goal.returns-then-lies_before-2-clause-value
returns-then-lies_before-2-clause-value c =
    subst (λ (x : Rational). IsValue (to_z w128 (of_z w128 c.from.result)) (pos 1) x)
    (first_is (place_of c.args.first) (place_of c.args.second) c.args.d
    (omega (arith, ints, c.if-lies_before.ensures.from)) (omega (arith, ints, c.if-lies_before-2.ensures.before)))
    (record { num_is = omega (arith, ints); den_is = omega (arith, ints); above = omega arith })

pub returns-clause-value : goal.returns-clause-value
returns-clause-value c =
    subst (λ (x : Rational). IsValue (to_z w128 (of_z w128 c.from-2.result)) (pos 1) x)
    (second_is (place_of c.args.first) (place_of c.args.second) c.args.d
    (omega (arith, ints, c.if-lies_before.ensures.from)) (omega (arith, ints, c.if-lies_before-2.ensures.from)))
    (record { num_is = omega (arith, ints); den_is = omega (arith, ints); above = omega arith })
