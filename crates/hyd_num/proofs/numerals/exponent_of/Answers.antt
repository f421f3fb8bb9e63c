use Rattle.std.proofs.Common.{ℕ, ◌≡◌, ◌≤◌, ◌+◌, ◌^◌, min, true, false, pos, neg_ℤ, ◌-ℤ◌, FitsSigned, to_z, of_z, w32}
use Rattle.std.proofs.Common.{ap, sym, ◌∙◌, arith}
use Rattle.std.proofs.lemmas.Int.{ints}
use Rattle.hyd_num.specs.Numeral.{number, behind_sign, is_negative}
use Rattle.hyd_num.proofs.Digits.{three_digits}
use Rattle.hyd_num.proofs.numerals.exponent_of.Goals as goal
use Rattle.hyd_num.proofs.numerals.exponent_of.Goals.{After-capped-magnitude}

-- the digits' number, and that it has three digits at most
value : (c : After-capped-magnitude) → (c.capped-magnitude.result ≡ number (behind_sign c.args.text.now))
    × (number (behind_sign c.args.text.now) ≤ 999)
value c =
    let l : number (behind_sign c.args.text.now) ≤ 999 = three_digits (behind_sign c.args.text.now) c.requires.digits
    c.requires.short in
    let e : c.capped-magnitude.result ≡ min (number c.behind_sign.result.now) (10 ^ 21 + 1) =
    c.capped-magnitude.ensures in
    let f : number c.behind_sign.result.now ≡ number (behind_sign c.args.text.now) = ap number c.behind_sign.ensures in
    (omega arith, l)

pub overflow_cast-magnitude : goal.overflow_cast-magnitude
overflow_cast-magnitude c = let v : (c.capped-magnitude.result ≡ number (behind_sign c.args.text.now))
    × (number (behind_sign c.args.text.now) ≤ 999) = value c in record { sfits = omega arith }

opposite : (n m : ℕ) → n ≡ m → m ≤ 999 → (to_z w32 (of_z w32 (pos 0 -ℤ to_z w32 n)) ≡ neg_ℤ (pos m))
    × FitsSigned w32 (pos 0 -ℤ to_z w32 n)
opposite n m e l = (omega (arith, ints), omega (arith, ints))

pub overflow_sub-result : goal.overflow_sub-result
overflow_sub-result c = let v = value (goal.at.overflow_sub-result c).After-capped-magnitude in
    (opposite c.capped-magnitude.result (number (behind_sign c.args.text.now)) v.0 v.1).1

pub returns-then-is_negative-clause-value : goal.returns-then-is_negative-clause-value
returns-then-is_negative-clause-value c =
    let v = value (goal.at.returns-then-is_negative-clause-value c).After-capped-magnitude in
    let n : is_negative c.args.text.now ≡ true = sym c.is_negative.ensures ∙ c.if-is_negative.true in
    rw n ((opposite c.capped-magnitude.result (number (behind_sign c.args.text.now)) v.0 v.1).0)

pub returns-then-is_negative-clause-small : goal.returns-then-is_negative-clause-small
returns-then-is_negative-clause-small c =
    let v = value (goal.at.returns-then-is_negative-clause-small c).After-capped-magnitude in
    let o : to_z w32 (of_z w32 (pos 0 -ℤ to_z w32 c.capped-magnitude.result))
    ≡ neg_ℤ (pos (number (behind_sign c.args.text.now))) =
    (opposite c.capped-magnitude.result (number (behind_sign c.args.text.now)) v.0 v.1).0 in
    omega (arith, ints, v.1)

pub returns-clause-value : goal.returns-clause-value
returns-clause-value c =
    let v = value (goal.at.returns-clause-value c).After-capped-magnitude in
    let n : is_negative c.args.text.now ≡ false = sym c.is_negative.ensures ∙ c.if-is_negative.false in
    let o : to_z w32 c.capped-magnitude.result ≡ pos (number (behind_sign c.args.text.now)) =
    omega (arith, ints, v.0, v.1) in
    rw n o

pub returns-clause-small : goal.returns-clause-small
returns-clause-small c =
    let v = value (goal.at.returns-clause-small c).After-capped-magnitude in
    let o : to_z w32 c.capped-magnitude.result ≡ pos (number (behind_sign c.args.text.now)) =
    omega (arith, ints, v.0, v.1) in
    omega (arith, ints, v.1)
