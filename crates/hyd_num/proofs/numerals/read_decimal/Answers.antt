use Rattle.std.proofs.Common.{◌≡◌, ◌+◌, ◌^◌, ◌++◌, true, false, min, length, pos, ◌+ℤ◌, ◌-ℤ◌, FitsSigned, to_z-of_z}
use Rattle.std.proofs.Common.{w32, refl, ap, ap₂, sym, ◌∙◌}
use Rattle.std.proofs.lemmas.Bool.{both_ways}
use Rattle.hyd_num.specs.Numeral.{is_numeral, magnitude_of, nano_of, signed, number, shifted}
use Rattle.hyd_num.proofs.NumeralParts.{Parts, parts_of, unmarked, test_is, Passed, passed, magnitude_is, above_limit}
use Rattle.hyd_num.proofs.NumeralParts.{within_limit}
use Rattle.hyd_num.proofs.numerals.read_decimal.Goals as goal
use Rattle.hyd_num.proofs.numerals.read_decimal.Goals.{After-is_numeral, After-magnitude-magnitude}

pub is_numeral-requires : goal.is_numeral-requires
is_numeral-requires c = unmarked c.args.text.now c.before_point-whole.result.now c.behind_point-decimals.result.now
    c.behind_mark-exponent.result.now c.has_mark.result
    (parts_of c.args.text.now c.behind_sign-body.result.now c.before_mark-mantissa.result.now
    c.before_point-whole.result.now c.behind_point-decimals.result.now c.behind_mark-exponent.result.now
    c.has_mark.result
    c.behind_sign-body.ensures c.before_mark-mantissa.ensures c.behind_mark-exponent.ensures
    c.before_point-whole.ensures c.behind_point-decimals.ensures c.has_mark.ensures)

parts : (c : After-is_numeral) → Parts c.args.text.now c.before_point-whole.result.now
    c.behind_point-decimals.result.now c.behind_mark-exponent.result.now c.has_mark.result
parts c = parts_of c.args.text.now c.behind_sign-body.result.now c.before_mark-mantissa.result.now
    c.before_point-whole.result.now c.behind_point-decimals.result.now c.behind_mark-exponent.result.now
    c.has_mark.result
    c.behind_sign-body.ensures c.before_mark-mantissa.ensures c.behind_mark-exponent.ensures
    c.before_point-whole.ensures c.behind_point-decimals.ensures c.has_mark.ensures

tested : (c : After-is_numeral) → c.is_numeral.result ≡ is_numeral c.args.text.now
tested c = c.is_numeral.ensures ∙ test_is c.args.text.now c.before_point-whole.result.now
    c.behind_point-decimals.result.now c.behind_mark-exponent.result.now c.has_mark.result (parts c)

given : (c : After-is_numeral) → c.is_numeral.result ≡ true → Passed c.before_point-whole.result.now
    c.behind_point-decimals.result.now c.behind_mark-exponent.result.now
given c h = passed c.before_point-whole.result.now c.behind_point-decimals.result.now
    c.behind_mark-exponent.result.now c.has_mark.result
    (unmarked c.args.text.now c.before_point-whole.result.now c.behind_point-decimals.result.now
    c.behind_mark-exponent.result.now c.has_mark.result (parts c)) (sym c.is_numeral.ensures ∙ h)

pub exponent_of-requires-clause-digits : goal.exponent_of-requires-clause-digits
exponent_of-requires-clause-digits c = (given (goal.at.exponent_of-requires-clause-digits c).After-is_numeral
    c.if-not-is_numeral.false).power_digits

pub exponent_of-requires-clause-short : goal.exponent_of-requires-clause-short
exponent_of-requires-clause-short c = (given (goal.at.exponent_of-requires-clause-short c).After-is_numeral
    c.if-not-is_numeral.false).power_short

pub returns-then-not-is_numeral-clause-not_a_number : goal.returns-then-not-is_numeral-clause-not_a_number
returns-then-not-is_numeral-clause-not_a_number c = (
  λ e. sym (tested (goal.at.returns-then-not-is_numeral-clause-not_a_number c).After-is_numeral)
      ∙ c.if-not-is_numeral.true,
  λ f. refl,
)

pub returns-then-not-is_numeral-clause-too_large : goal.returns-then-not-is_numeral-clause-too_large
returns-then-not-is_numeral-clause-too_large c =
    let f : is_numeral c.args.text.now ≡ false = sym (tested (goal.at.returns-then-not-is_numeral-clause-too_large
    c).After-is_numeral) ∙ c.if-not-is_numeral.true in
    (λ e. cc, λ p. absurd (both_ways (is_numeral c.args.text.now) f p.0))

magnitude : (c : After-magnitude-magnitude) → c.magnitude-magnitude.result ≡ min (magnitude_of c.args.text.now)
    (10 ^ 21 + 1)
magnitude c =
    let f : FitsSigned w32 c.exponent_of.result = record { sfits = c.exponent_of.type_inv } in
    let e : c.magnitude-magnitude.result
    ≡ min (shifted (number (c.before_point-whole.result.now ++ c.behind_point-decimals.result.now))
    ((c.exponent_of.result +ℤ pos 9) -ℤ pos (length c.behind_point-decimals.result.now))) (10 ^ 21 + 1) =
    rw to_z-of_z at c.magnitude-magnitude.ensures in
    e ∙ ap (λ x. min x (10 ^ 21 + 1))
    (magnitude_is c.args.text.now c.before_point-whole.result.now c.behind_point-decimals.result.now
    c.behind_mark-exponent.result.now c.has_mark.result c.exponent_of.result
    (parts_of c.args.text.now c.behind_sign-body.result.now c.before_mark-mantissa.result.now
    c.before_point-whole.result.now c.behind_point-decimals.result.now c.behind_mark-exponent.result.now
    c.has_mark.result
    c.behind_sign-body.ensures c.before_mark-mantissa.ensures c.behind_mark-exponent.ensures
    c.before_point-whole.ensures c.behind_point-decimals.ensures c.has_mark.ensures) c.exponent_of.ensures.value)

pub returns-then-magnitude-gt-LIMIT-clause-not_a_number : goal.returns-then-magnitude-gt-LIMIT-clause-not_a_number
returns-then-magnitude-gt-LIMIT-clause-not_a_number c =
    let t : is_numeral c.args.text.now
    ≡ true = sym (tested (goal.at.returns-then-magnitude-gt-LIMIT-clause-not_a_number c).After-is_numeral)
    ∙ c.if-not-is_numeral.false in
    (λ e. cc, λ f. absurd (both_ways (is_numeral c.args.text.now) f t))

pub returns-then-magnitude-gt-LIMIT-clause-too_large : goal.returns-then-magnitude-gt-LIMIT-clause-too_large
returns-then-magnitude-gt-LIMIT-clause-too_large c =
    let t : is_numeral c.args.text.now ≡ true = sym (tested (goal.at.returns-then-magnitude-gt-LIMIT-clause-too_large
    c).After-is_numeral) ∙ c.if-not-is_numeral.false in
    let m : c.magnitude-magnitude.result ≡ min (magnitude_of c.args.text.now) (10 ^ 21 + 1) = magnitude
    (goal.at.returns-then-magnitude-gt-LIMIT-clause-too_large c).After-magnitude-magnitude in (
      λ e. (t, above_limit (magnitude_of c.args.text.now) c.magnitude-magnitude.result m c.if-magnitude-gt-LIMIT.true),
      λ p. refl,
    )

pub returns-clause-not_a_number : goal.returns-clause-not_a_number
returns-clause-not_a_number c =
    let t : is_numeral c.args.text.now ≡ true = sym (tested (goal.at.returns-clause-not_a_number c).After-is_numeral)
    ∙ c.if-not-is_numeral.false in
    (λ e. cc, λ f. absurd (both_ways (is_numeral c.args.text.now) f t))

pub returns-clause-too_large : goal.returns-clause-too_large
returns-clause-too_large c =
    let m : c.magnitude-magnitude.result ≡ min (magnitude_of c.args.text.now) (10 ^ 21 + 1) = magnitude
    (goal.at.returns-clause-too_large c).After-magnitude-magnitude in (
      λ e. cc,
      λ p. absurd ((within_limit (magnitude_of c.args.text.now) c.magnitude-magnitude.result m
          c.if-magnitude-gt-LIMIT.false).1 p.1),
    )

pub returns-clause-numeral : goal.returns-clause-numeral
returns-clause-numeral c = sym (tested (goal.at.returns-clause-numeral c).After-is_numeral) ∙ c.if-not-is_numeral.false

pub returns-clause-value : goal.returns-clause-value
unfolding nano_of
returns-clause-value c =
    let m : c.magnitude-magnitude.result ≡ min (magnitude_of c.args.text.now) (10 ^ 21 + 1) = magnitude
    (goal.at.returns-clause-value c).After-magnitude-magnitude in
    c.decimal.ensures ∙ ap₂ (λ n x. signed n x) c.is_negative.ensures
    ((within_limit (magnitude_of c.args.text.now) c.magnitude-magnitude.result m c.if-magnitude-gt-LIMIT.false).0)
