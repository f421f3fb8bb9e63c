-- The parts of a text that is tried as a number, and what the test of them says.
use Rattle.std.proofs.Common.{◌≡◌, ℕ, ◌+◌, ◌^◌, ◌<◌, ◌≤◌, Bool, true, false, ◌&&◌, nat_le, if◌then◌else◌, min, List, []}
use Rattle.std.proofs.Common.{◌++◌, length, ℤ, pos, ◌+ℤ◌, ◌-ℤ◌, refl, ap, sym, ◌∙◌, arith, lit≤, leb-true}
use Rattle.std.specs.List.{before_first, after_first, list_all, list_any}
use Rattle.std.proofs.lemmas.Bool.{and_parts}
use Rattle.hyd_num.specs.Numeral.{is_digit, is_point, is_exponent_mark, behind_sign, is_negative, number, signed}
use Rattle.hyd_num.specs.Numeral.{whole_digits, decimal_digits, has_exponent, exponent_text, is_exponent, is_numeral}
use Rattle.hyd_num.specs.Numeral.{shifted, magnitude_of}
use Rattle.hyd_num.proofs.Digits.{nothing_behind}

pub record Parts (text whole decimals power : List ℕ) (marked : Bool) : Type 0 where
  pub whole_is : whole ≡ whole_digits text
  pub decimals_is : decimals ≡ decimal_digits text
  pub power_is : power ≡ exponent_text text
  pub marked_is : marked ≡ has_exponent text

pub parts_of : (text body front whole decimals power : List ℕ) (marked : Bool) → body ≡ behind_sign text
    → front ≡ before_first is_exponent_mark body
    → power ≡ after_first is_exponent_mark body → whole ≡ before_first is_point front
    → decimals ≡ after_first is_point front → marked ≡ list_any is_exponent_mark body
    → Parts text whole decimals power marked
parts_of text body front whole decimals power marked body_is front_is power_is whole_is decimals_is marked_is = record {
  whole_is = whole_is ∙ ap (λ x. before_first is_point x) (front_is ∙ ap (λ x. before_first is_exponent_mark x)
      body_is);
  decimals_is = decimals_is ∙ ap (λ x. after_first is_point x) (front_is ∙ ap (λ x. before_first is_exponent_mark x)
      body_is);
  power_is = power_is ∙ ap (λ x. after_first is_exponent_mark x) body_is;
  marked_is = marked_is ∙ ap (λ x. list_any is_exponent_mark x) body_is;
}

-- the test of the parts
abbrev pub passes : (whole decimals power : List ℕ) → Bool → Bool
passes whole decimals power marked = ((list_all is_digit whole && list_all is_digit decimals)
    && nat_le 1 (length whole + length decimals)) && (if marked then is_exponent power else true)

pub unmarked : (text whole decimals power : List ℕ) (marked : Bool) → Parts text whole decimals power marked
    → marked ≡ false → power ≡ []
unmarked text whole decimals power marked p none = p.power_is ∙ nothing_behind is_exponent_mark (behind_sign text)
    (sym p.marked_is ∙ none)

pub test_is : (text whole decimals power : List ℕ) (marked : Bool) → Parts text whole decimals power marked
    → passes whole decimals power marked ≡ is_numeral text
unfolding is_numeral
test_is text whole decimals power marked p = rw (p.whole_is, p.decimals_is, p.power_is, p.marked_is) refl

-- what a passed test gives
pub record Passed (whole decimals power : List ℕ) : Type 0 where
  pub whole_digits : list_all is_digit whole ≡ true
  pub decimal_digits : list_all is_digit decimals ≡ true
  pub power_digits : list_all is_digit (behind_sign power) ≡ true
  pub power_short : length (behind_sign power) ≤ 3

powers : (power : List ℕ) (marked : Bool) → (marked ≡ false → power ≡ [])
    → (if marked then is_exponent power else true) ≡ true → (list_all is_digit (behind_sign power) ≡ true)
    × (length (behind_sign power) ≤ 3)
powers power true none h =
    let p : (list_all is_digit (behind_sign power) ≡ true) × ((nat_le 1 (length (behind_sign power))
    && nat_le (length (behind_sign power)) 3) ≡ true) = and_parts _ _ h in
    let q : (nat_le 1 (length (behind_sign power)) ≡ true) × (nat_le (length (behind_sign power)) 3 ≡ true) =
    and_parts _ _ p.1 in
    (p.0, leb-true _ _ q.1)
powers power false none h = let e : power ≡ [] = none refl in rw e (refl, lit≤ tt)

pub passed : (whole decimals power : List ℕ) (marked : Bool) → (marked ≡ false → power ≡ [])
    → passes whole decimals power marked ≡ true → Passed whole decimals power
passed whole decimals power marked none h =
    let p : (((list_all is_digit whole && list_all is_digit decimals) && nat_le 1 (length whole + length decimals))
    ≡ true) × ((if marked then is_exponent power else true) ≡ true) = and_parts _ _ h in
    let q : ((list_all is_digit whole && list_all is_digit decimals) ≡ true)
    × (nat_le 1 (length whole + length decimals) ≡ true) = and_parts _ _ p.0 in
    let r : (list_all is_digit whole ≡ true) × (list_all is_digit decimals ≡ true) = and_parts _ _ q.0 in
    let s : (list_all is_digit (behind_sign power) ≡ true) × (length (behind_sign power) ≤ 3) = powers power marked
    none p.1 in
    record { whole_digits = r.0; decimal_digits = r.1; power_digits = s.0; power_short = s.1 }

-- the magnitude that the parts give
pub magnitude_is : (text whole decimals power : List ℕ) (marked : Bool) (z : ℤ)
    → Parts text whole decimals power marked → z ≡ signed (is_negative power) (number (behind_sign power))
    → shifted (number (whole ++ decimals)) ((z +ℤ pos 9) -ℤ pos (length decimals)) ≡ magnitude_of text
unfolding magnitude_of
magnitude_is text whole decimals power marked z p e = rw (e, p.whole_is, p.decimals_is, p.power_is) refl

-- a capped magnitude is above the limit exactly where the magnitude is
pub above_limit : (m r : ℕ) → r ≡ min m (10 ^ 21 + 1) → 10 ^ 21 < r → 10 ^ 21 < m
above_limit m r e h = omega arith

pub within_limit : (m r : ℕ) → r ≡ min m (10 ^ 21 + 1) → r ≤ 10 ^ 21 → (r ≡ m) × (10 ^ 21 < m → ⊥)
within_limit m r e h = (omega arith, λ l. absurd (omega arith))
