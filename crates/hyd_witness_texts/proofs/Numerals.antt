-- The numbers and the values that words spell.
use Rattle.std.proofs.Common.{◌≡◌, ◌≢◌, ℕ, suc, ◌-◌, ◌<◌, ◌≤◌, ◌^◌, Option, Some, None, IfSome, IfNone, ℤ}
use Rattle.std.proofs.Common.{pos, negsuc, List, [], ◌∷◌, length, take, drop, get_or, refl, sym, ap, ◌∙◌, subst, arith}
use Rattle.std.proofs.Common.{◌+◌, ◌*◌, Bool, true, false, nat_lt, add-one, pow-suc}
use Rattle.std.specs.Fmt.{decimal, signed_decimal}
use Rattle.std.specs.Str.Parse.{AllDigits, digits_value}
use Rattle.std.proofs.lemmas.Fmt.{decimal_digit, decimal_is_IsNumeral_wide, length-decimal-le_wide}
use Rattle.std.proofs.lemmas.Str.Parse.{digits_value_short, digit_at}
use Rattle.std.proofs.lemmas.List.{length-take-le}
use Rattle.std.proofs.lemmas.Bool.Decides.{Decides-ltb}
use Rattle.std.proofs.Math.Nat.{pow-le-pow_right}
use Rattle.hyd_lemmas.proofs.BooleanTests.{equal_by_order}
use Rattle.hyd_io.proofs.MovedBytesLemmas.{take-drop}
use Rattle.hyd_spec_witnesses.specs.WitnessText.{IsValue}
use Rattle.hyd_line_reader.proofs.Numerals.{own, wide_numeral, wide_zero, digits_spell}

-- ---- numbers below 10^25

-- the value of a numeral
pub spelled_value : (word : List ℕ) (n : ℕ) → n < 10 ^ 64 → word ≡ decimal n → digits_value 10 word ≡ n
spelled_value word n fits e = ap (digits_value 10) e ∙ (decimal_is_IsNumeral_wide n fits).1

pub few_digits : (word : List ℕ) (n : ℕ) → n < 10 ^ 25 → word ≡ decimal n → length word ≤ 25
few_digits word n fits e = subst (λ (w : List ℕ). length w ≤ 25) (sym e)
    (length-decimal-le_wide 25 n (omega arith) fits (omega (arith, fits)))

pub value_fits : (word : List ℕ) → length word ≤ 25 → AllDigits 10 word → digits_value 10 word < 10 ^ 25
value_fits word few all = digits_value_short own word 25 all few

-- before one digit more
pub front_fits : (word : List ℕ) (i : ℕ) → i < length word → length word ≤ 25 → AllDigits 10 (take i word)
    → digits_value 10 (take i word) < 10 ^ 24
front_fits word i within few all = digits_value_short own (take i word) 24 all
    (let k = length-take-le i word (omega arith) in omega (arith, k))

pub zero_some : (word : List ℕ) (o : Option ℕ) → get_or word 0 0 ≡ 48 → IfSome o (λ n. (n ≡ 0) × (length word ≡ 1))
    → IfSome o (λ n. word ≡ decimal n)
zero_some [] None first h = tt
zero_some (c ∷ word) None first h = tt
zero_some [] (Some n) first h = absurd (omega (arith, h.1))
zero_some (c ∷ []) (Some n) first h = ap (λ x. x ∷ []) first
    ∙ (sym (decimal_digit 0 (omega arith)) ∙ ap decimal (sym h.0))
zero_some (c ∷ d ∷ word) (Some n) first h = absurd (omega (arith, h.1))

pub zero_fits : (word : List ℕ) (o : Option ℕ) → IfSome o (λ n. (n ≡ 0) × (length word ≡ 1))
    → IfSome o (λ n. n < 10 ^ 25)
zero_fits word None h = tt
zero_fits word (Some n) h = omega (arith, h.0)

pub zero_none : (word : List ℕ) (o : Option ℕ) → get_or word 0 0 ≡ 48 → IfNone o (length word ≢ 1)
    → IfNone o ((n : ℕ) → n < 10 ^ 25 → word ≢ decimal n)
zero_none word (Some n) first h = tt
zero_none word None first h = λ n fits e. h (wide_zero word n (omega (arith, fits)) e first)

pub digits_some : (word : List ℕ) (o : Option ℕ) → 0 < length word → length word ≤ 25 → get_or word 0 0 ≢ 48
    → IfSome o (λ n. AllDigits 10 word × (n ≡ digits_value 10 word)) → IfSome o (λ n. word ≡ decimal n)
digits_some word None some few first h = tt
digits_some word (Some n) some few first h =
    let k = digits_spell word some (omega (arith, few)) h.0 first in
    k.1.1 ∙ ap decimal (sym (spelled_value word k.0 k.1.0 k.1.1) ∙ sym h.1)

pub digits_fit : (word : List ℕ) (o : Option ℕ) → length word ≤ 25
    → IfSome o (λ n. AllDigits 10 word × (n ≡ digits_value 10 word)) → IfSome o (λ n. n < 10 ^ 25)
digits_fit word None few h = tt
digits_fit word (Some n) few h = let k = value_fits word few h.0 in omega (arith, k, h.1)

pub digits_none : (word : List ℕ) (o : Option ℕ) → IfNone o (¬ (AllDigits 10 word))
    → IfNone o ((n : ℕ) → n < 10 ^ 25 → word ≢ decimal n)
digits_none word (Some n) h = tt
digits_none word None h = λ n fits e. h (wide_numeral word n (omega (arith, fits)) e).1

-- ---- values

pub record IsUnsigned (word : List ℕ) (v : ℤ) : Type 0 where
  pub magnitude : ℕ
  pub is : v ≡ pos magnitude
  pub fits : magnitude ≤ 10 ^ 24
  pub spelled : word ≡ decimal magnitude

pub record IsNegative (word : List ℕ) (v : ℤ) : Type 0 where
  pub before : ℕ
  pub is : v ≡ negsuc before
  pub fits : suc before ≤ 10 ^ 24
  pub spelled : word ≡ 45 ∷ decimal (suc before)

first_digit : (n : ℕ) → n < 10 ^ 64 → 48 ≤ get_or (decimal n) 0 0
first_digit n fits = let k = wide_numeral (decimal n) n fits refl in (digit_at (decimal n) 0 k.1 k.0).0

pub unsigned : (word : List ℕ) (v : ℤ) → IsValue v → word ≡ signed_decimal v → get_or word 0 0 ≢ 45
    → IsUnsigned word v
unsigned word (pos n) fits e first = record { magnitude = n; is = refl; fits = fits; spelled = e }
unsigned word (negsuc n) fits e first = absurd (first (ap (λ w. get_or w 0 0) e))

pub negative : (word : List ℕ) (v : ℤ) → IsValue v → word ≡ signed_decimal v → get_or word 0 0 ≡ 45
    → IsNegative word v
negative word (pos n) fits e first =
    let low = first_digit n (omega (arith, fits)) in
    let same : get_or word 0 0 ≡ get_or (decimal n) 0 0 = ap (λ w. get_or w 0 0) e in absurd (omega (arith, low, same))
negative word (negsuc n) fits e first = record { before = n; is = refl; fits = fits; spelled = e }

-- a value is spelled by some byte
pub value_some : (word : List ℕ) (v : ℤ) → IsValue v → word ≡ signed_decimal v → 0 < length word
value_some word (pos n) fits e = (wide_numeral word n (omega (arith, fits)) e).0
value_some word (negsuc n) fits e = subst (λ (w : List ℕ). 0 < length w) (sym e) (omega arith)

-- the digits of a negative value, as the slice behind the sign is seen
pub after_sign : (word : List ℕ) (before : ℕ) → word ≡ 45 ∷ decimal (suc before)
    → take (length word - 1) (drop 1 word) ≡ decimal (suc before)
after_sign word before e = take-drop word 1 ∙ ap (drop 1) e

-- ---- scales

-- a number that is no power of two so far
pub no_power_so_far : (number scale n : ℕ) → scale ≡ 2 ^ n → number ≢ scale → ((p : ℕ) → p < n → number ≢ 2 ^ p)
    → (p : ℕ) → p < n + 1 → number ≢ 2 ^ p
no_power_so_far number scale n power apart none p low same = by (nat_lt p n) refl
  where
    by : (b : Bool) → nat_lt p n ≡ b → ⊥
    by true e = none p ((Decides-ltb p n).0 e) same
    by false e =
        let not_less : p < n → ⊥ = λ less. (let yes : nat_lt p n ≡ true = (Decides-ltb p n).1 less in
        absurd (cc (yes, e))) in
        let equal = equal_by_order p n not_less (λ more. omega (arith, low, more)) in
        apart (same ∙ (ap (λ k. 2 ^ k) equal ∙ sym power))

pub next_power : (scale n : ℕ) → scale ≡ 2 ^ n → scale * 2 ≡ 2 ^ (n + 1)
next_power scale n power =
    let step : 2 ^ (n + 1) ≡ 2 ^ n * 2 = ap (λ k. 2 ^ k) (add-one n) ∙ pow-suc 2 n in omega (arith, power, step)

pub small_power : (scale n : ℕ) → scale ≡ 2 ^ n → n < 11 → scale ≤ 1024
small_power scale n power low =
    let le = pow-le-pow_right {n = 2} (omega arith) {i = n} {j = 10} (omega (arith, low)) in omega (arith, le, power)
