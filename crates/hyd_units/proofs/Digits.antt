-- The digits of a number of 128 bits, and how long its text is.
use Rattle.std.proofs.Common.{Bool, true, false, ◌≡◌, ℕ, zero, suc, ◌+◌, ◌-◌, ◌/◌, ◌%◌, ◌^◌, ◌<◌, ◌≤◌, List, [], ◌∷◌}
use Rattle.std.proofs.Common.{◌++◌, length, refl, ap, ◌∙◌, arith, length-append}
use Rattle.std.proofs.lemmas.Fmt.{decimal_step_wide, length-decimal-le_wide}
use Rattle.std.specs.Fmt.{decimal, sign_text}
use Rattle.hyd_units.specs.TextInBuffer.{Writes}
use Rattle.hyd_num.specs.PrintedDecimals.{last_digits, fixed_point}

pub length-last_digits : (places n : ℕ) → length (last_digits places n) ≡ places
length-last_digits zero n = refl
length-last_digits (suc places) n =
    let e : length (last_digits places (n / 10) ++ (48 + n % 10) ∷ []) ≡ length (last_digits places (n / 10))
    + 1 = length-append _ _ in
    omega (arith, e, length-last_digits places (n / 10))

pub last_digits_front : (places n : ℕ) → 0 < places → last_digits (places - 1) (n / 10) ++ (48 + n % 10) ∷ []
    ≡ last_digits places n
last_digits_front zero n h = absurd (omega arith)
last_digits_front (suc places) n h = let e : suc places - 1 ≡ places = omega arith in rw e refl

pub decimal_front : (n : ℕ) → 10 ≤ n → n < 2 ^ 128 → decimal (n / 10) ++ (48 + n % 10) ∷ [] ≡ decimal n
decimal_front n low high = rw (decimal_step_wide n low (omega arith))

pub length-decimal_front : (n : ℕ) → 10 ≤ n → n < 2 ^ 128 → length (decimal n) ≡ length (decimal (n / 10)) + 1
length-decimal_front n low high = ap length (decimal_step_wide n low (omega arith)) ∙ length-append _ _

-- the same with the number's parts under names of their own
pub last_digits_by : (places n t d : ℕ) → t ≡ n / 10 → d ≡ n % 10 → 0 < places
    → last_digits (places - 1) t ++ (48 + d) ∷ [] ≡ last_digits places n
last_digits_by places n t d e f some = rw (e, f) (last_digits_front places n some)

pub decimal_by : (n t d : ℕ) → t ≡ n / 10 → d ≡ n % 10 → 10 ≤ n → n < 2 ^ 128 → decimal t ++ (48 + d) ∷ [] ≡ decimal n
decimal_by n t d e f low high = rw (e, f) (decimal_front n low high)

pub length-decimal_by : (n t : ℕ) → t ≡ n / 10 → 10 ≤ n → n < 2 ^ 128 → length (decimal n) ≡ length (decimal t) + 1
length-decimal_by n t e low high = rw e (length-decimal_front n low high)

-- four places: the whole part, a point, and they
pub length-four_places : (n : ℕ) → length (fixed_point 4 n) ≡ length (decimal (n / 10000)) + 5
unfolding fixed_point
length-four_places n = length-append _ _

pub short_four_places : (n : ℕ) → n < 2 ^ 128 → length (fixed_point 4 n) ≤ 40
short_four_places n h = omega (
  arith,
  length-four_places n,
  length-decimal-le_wide 35 (n / 10000) (omega arith)
      (omega arith) (omega arith),
)

pub short_sign : {old new : List ℕ} {from to : ℕ} (negative : Bool) → Writes old new from to (sign_text negative)
    → to ≤ from + 1
short_sign true w = omega (arith, w.end)
short_sign false w = omega (arith, w.end)
