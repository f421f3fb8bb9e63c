use Rattle.std.proofs.Common.{◌≡◌, arith, le_of_lt}
use Rattle.std.proofs.lemmas.Int.{ints}
use Rattle.std.proofs.lemmas.Bool.{leb-true, leb-false}
use Rattle.hyd_num.proofs.RoundingLemmas.{lesser_exponent, same_exponent, same_exponent_strictly}
use Rattle.hyd_num.proofs.power_5_33.is_at_most.Goals as goal

pub returns-then-a-b-clause-at_most : goal.returns-then-a-b-clause-at_most
returns-then-a-b-clause-at_most c = λ h. let e : c.args.a.exp ≡ c.args.b.exp = omega (arith, ints) in
    same_exponent c.args.a c.args.b e (leb-true c.args.a.mant c.args.b.mant h)

pub returns-then-a-b-clause-above : goal.returns-then-a-b-clause-above
returns-then-a-b-clause-above c = λ h. let e : c.args.b.exp ≡ c.args.a.exp = omega (arith, ints) in
    same_exponent_strictly c.args.b c.args.a e (leb-false c.args.a.mant c.args.b.mant h)

pub returns-clause-at_most : goal.returns-clause-at_most
returns-clause-at_most c = λ h. le_of_lt (lesser_exponent c.args.a c.args.b (omega (arith, ints)))

pub returns-clause-above : goal.returns-clause-above
returns-clause-above c = λ h. lesser_exponent c.args.b c.args.a (omega (arith, ints))
