-- Numerals: the spelling of a number, and what a word that spells one is.
use Rattle.std.proofs.Common.{◌≡◌, ◌≢◌, ℕ, zero, suc, ◌+◌, ◌*◌, ◌-◌, ◌/◌, ◌%◌, ◌<◌, ◌≤◌, ◌==◌, false, Option, Some}
use Rattle.std.proofs.Common.{None, IfSome, IfNone, ◌^◌, ℤ, pos, negsuc, List, [], ◌∷◌, ◌++◌, length, length-append}
use Rattle.std.proofs.Common.{take, drop, get_or, refl, sym, ap, ap₂, add-one, ◌∙◌, subst, arith, rules}
use Rattle.std.specs.Fmt.{decimal, signed_decimal}
use Rattle.std.specs.Char.{digit_value}
use Rattle.std.specs.Str.Parse.{AllDigits, digits_value}
use Rattle.std.proofs.lemmas.Fmt.{decimal_is_IsNumeral, length-decimal-le, decimal_nonempty, first_decimal}
use Rattle.std.proofs.lemmas.Fmt.{decimal_digit, decimal-digits_value, decimal_is_IsNumeral_wide, decimal_by_steps_wide}
use Rattle.std.proofs.lemmas.Fmt.{decimal_step_wide}
use Rattle.std.proofs.lemmas.Int.Digits.{digits_value_more}
use Rattle.std.proofs.lemmas.Str.Parse.{IsNumeralModel, numerals_by_value, tells_digits, digits_value_short, digit_at}
use Rattle.std.proofs.lemmas.Int.{ints}
use Rattle.hyd_spec_certificates.specs.Certificate.{IsInBox}
use Rattle.hyd_io.proofs.MovedBytesLemmas.{take-drop}
use Rattle.std.proofs.lemmas.List.{take_more, take_all, length-take-le}

pub own : IsNumeralModel (AllDigits 10) (digits_value 10)
own = numerals_by_value (AllDigits 10) tells_digits

-- a byte from 48 to 57 is a digit
pub value_of_digit : (c : ℕ) → 48 ≤ c → c ≤ 57 → digit_value c ≡ c - 48
value_of_digit c low high = search (rules, arith)

all_push : (ds : List ℕ) (c : ℕ) → AllDigits 10 ds → digit_value c < 10 → AllDigits 10 (ds ++ (c ∷ []))
all_push [] c all digit = (digit, tt)
all_push (d ∷ ds) c all digit = (all.0, all_push ds c all.1 digit)

-- one digit more
pub digits_more : (word : List ℕ) (i : ℕ) → i < length word → 48 ≤ get_or word i 0 → get_or word i 0 ≤ 57
    → AllDigits 10 (take i word)
    → AllDigits 10 (take (i + 1) word)
digits_more word i within low high all =
    let e = value_of_digit (get_or word i 0) low high in
    subst (AllDigits 10) (sym (take_more word i 0 within)) (all_push (take i word) (get_or word i 0) all
    (omega (arith, e)))

pub value_more : (word : List ℕ) (i : ℕ) → i < length word → 48 ≤ get_or word i 0 → get_or word i 0 ≤ 57
    → digits_value 10 (take (i + 1) word) ≡ digits_value 10 (take i word) * 10 + (get_or word i 0 - 48)
value_more word i within low high = digits_value_more 10 word i within ∙ ap (λ d. digits_value 10 (take i word) * 10
    + d) (value_of_digit (get_or word i 0) low high)

-- what a numeral below 10^19 is
pub record IsShort (word : List ℕ) (n : ℕ) : Type 0 where
  pub some : 0 < length word
  pub few : length word ≤ 19
  pub digits : AllDigits 10 word
  pub no_zero : get_or word 0 0 ≡ 48 → length word ≡ 1
  pub value : digits_value 10 word ≡ n

no_leading : (n : ℕ) → n < 10 ^ 19 → get_or (decimal n) 0 0 ≡ 48 → length (decimal n) ≡ 1
no_leading zero fits first = ap length (decimal_digit 0 (omega arith))
no_leading (suc n) fits first = absurd (let k = first_decimal (suc n) (omega arith) (omega arith) in omega (arith, k))

pub short_numeral : (word : List ℕ) (n : ℕ) → n < 10 ^ 19 → word ≡ decimal n → IsShort word n
short_numeral word n fits e = subst (λ w. IsShort w n) (sym e) (record {
  some = decimal_nonempty n (omega arith);
  few = length-decimal-le 19 n (omega arith) fits (omega arith);
  digits = (decimal_is_IsNumeral n (omega arith)).0.1;
  no_zero = no_leading n fits;
  value = (decimal_is_IsNumeral n (omega arith)).1;
})

-- and a word that is so spells its value
pub spells_value : (word : List ℕ) → 0 < length word → length word ≤ 19 → AllDigits 10 word
    → (get_or word 0 0 ≡ 48 → length word ≡ 1) → word ≡ decimal (digits_value 10 word)
spells_value word some few all no_zero =
    let low = digits_value_short own word 19 all few in
    sym (decimal-digits_value own word all some no_zero (omega (arith, low)))

pub value_fits : (word : List ℕ) → length word ≤ 19 → AllDigits 10 word → digits_value 10 word < 10 ^ 19
value_fits word few all = digits_value_short own word 19 all few

-- before one digit more
pub front_fits : (word : List ℕ) (i : ℕ) → i < length word → length word ≤ 19 → AllDigits 10 (take i word)
    → digits_value 10 (take i word) < 10 ^ 18
front_fits word i within few all = digits_value_short own (take i word) 18 all
    (let k = length-take-le i word (omega arith) in omega (arith, k))

-- ---- numbers of any size

pub wide_numeral : (word : List ℕ) (n : ℕ) → n < 10 ^ 64 → word ≡ decimal n → (0 < length word) × AllDigits 10 word
wide_numeral word n fits e = subst (λ w. (0 < length w) × AllDigits 10 w) (sym e) (decimal_is_IsNumeral_wide n fits).0

-- no number but 0 begins with 0
record StartsHigh (n : ℕ) (ds : List ℕ) : Type 0 where
  some : 0 < length ds
  high : 0 < n → 48 < get_or ds 0 0

starts_high : (n : ℕ) → n < 10 ^ 64 → StartsHigh n (decimal n)
starts_high n fits = decimal_by_steps_wide StartsHigh (λ m low. record {
  some = omega arith;
  high = λ positive. omega (arith, positive);
}) longer n fits
  where
    front_same : (ds : List ℕ) (c : ℕ) → 0 < length ds → get_or (ds ++ (c ∷ [])) 0 0 ≡ get_or ds 0 0
    front_same [] c some = absurd (omega (arith, some))
    front_same (d ∷ ds) c some = refl

    longer : (m : ℕ) (ds : List ℕ) → 10 ≤ m → StartsHigh (m / 10) ds → StartsHigh m (ds ++ ((48 + m % 10) ∷ []))
    longer m ds big so_far = record {
      some = (let l = length-append ds ((48 + m % 10) ∷ []) in omega (arith, l));
      high = λ positive. (let h = so_far.high (omega (arith, big)) in
          let same = front_same ds (48 + m % 10) so_far.some in omega (arith, h, same));
    }

wide_leading : (n : ℕ) → n < 10 ^ 64 → get_or (decimal n) 0 0 ≡ 48 → length (decimal n) ≡ 1
wide_leading zero fits first = ap length (decimal_digit 0 (omega arith))
wide_leading (suc n) fits first = absurd (let k = (starts_high (suc n) fits).high (omega arith) in
    omega (arith, k, first))

pub wide_zero : (word : List ℕ) (n : ℕ) → n < 10 ^ 64 → word ≡ decimal n → get_or word 0 0 ≡ 48 → length word ≡ 1
wide_zero word n fits e first = ap length e ∙ wide_leading n fits (sym (ap (λ w. get_or w 0 0) e) ∙ first)

-- the value of digits that don't begin with 0 is above 0, and spelled by them
record IsSpelled (word : List ℕ) (n : ℕ) : Type 0 where
  some : 0 < digits_value 10 (take n word)
  spelled : take n word ≡ decimal (digits_value 10 (take n word))

all_take : (k : ℕ) (ds : List ℕ) → AllDigits 10 ds → AllDigits 10 (take k ds)
all_take zero [] all = tt
all_take zero (d ∷ ds) all = tt
all_take (suc k) [] all = tt
all_take (suc k) (d ∷ ds) all = (all.0, all_take k ds all.1)

spelled_more : (word : List ℕ) (n : ℕ) → n < length word → n < 64 → AllDigits 10 word → IsSpelled word n
    → IsSpelled word (n + 1)
spelled_more word n within few all so_far =
    let c = digit_at word n all within in
    let value = value_more word n within c.0 c.1 in
    let len = length-take-le (n + 1) word (omega (arith, within)) in
    let fits = digits_value_short own (take (n + 1) word) 64 (all_take (n + 1) word all) (omega (arith, len, few)) in
    let v = digits_value 10 (take n word) in
    let m = digits_value 10 (take (n + 1) word) in
    let positive = so_far.some in
    let tenth : m / 10 ≡ v = omega (arith, value, c.0, c.1) in
    let last : 48 + m % 10 ≡ get_or word n 0 = omega (arith, value, c.0, c.1) in
    record {
      some = omega (arith, value, positive);
      spelled = take_more word n 0 within
          ∙ (ap₂ (λ front d. front ++ (d ∷ [])) (so_far.spelled ∙ ap decimal (sym tenth)) (sym last)
          ∙ sym (decimal_step_wide m (omega (arith, value, positive)) fits));
    }

first_spelled : (word : List ℕ) → 0 < length word → AllDigits 10 word → get_or word 0 0 ≢ 48 → IsSpelled word 1
first_spelled [] some all first = absurd (omega (arith, some))
first_spelled (c ∷ word) some all first =
    let d = digit_at (c ∷ word) 0 all some in
    let value : digits_value 10 (c ∷ []) ≡ c - 48 = search (rules, arith, value_of_digit c d.0 d.1) in
    let high : 48 < c = not_least c d.0 first in
    record {
      some = omega (arith, value, high);
      spelled = ap (λ x. x ∷ []) (omega (arith, high)) ∙ (sym (decimal_digit (c - 48) (omega (arith, d.1)))
          ∙ ap decimal (sym value));
    }
  where
    not_least : (c : ℕ) → 48 ≤ c → c ≢ 48 → 48 < c
    not_least c low apart = omega (arith, low, apart)

all_spelled : (word : List ℕ) (n : ℕ) → n < length word → n < 64 → AllDigits 10 word → get_or word 0 0 ≢ 48
    → IsSpelled word (n + 1)
all_spelled word zero within few all first = first_spelled word within all first
all_spelled word (suc n) within few all first =
    spelled_more word (suc n) within few all (subst (IsSpelled word) (add-one n)
    (all_spelled word n (omega arith) (omega arith) all first))

-- digits that don't begin with 0 spell a number
pub digits_spell : (word : List ℕ) → 0 < length word → length word ≤ 64 → AllDigits 10 word → get_or word 0 0 ≢ 48
    → (n : ℕ) × ((n < 10 ^ 64) × (word ≡ decimal n))
digits_spell word some few all first =
    let k = all_spelled word (length word - 1) (omega (arith, some)) (omega (arith, some, few)) all first in
    let whole : take (length word - 1 + 1) word ≡ word = take_all (length word - 1 + 1) word (omega (arith, some)) in (
      digits_value 10 word,
      (
        digits_value_short own word 64 all few,
        subst (λ (w : List ℕ). w ≡ decimal (digits_value 10 w)) whole k.spelled,
      ),
    )

pub zero_spells : (word : List ℕ) → get_or word 0 0 ≡ 48 → length word ≡ 1
    → (n : ℕ) × ((n < 10 ^ 64) × (word ≡ decimal n))
zero_spells [] first one = absurd (omega (arith, one))
zero_spells (c ∷ []) first one = (0, (omega arith, ap (λ x. x ∷ []) first ∙ sym (decimal_digit 0 (omega arith))))
zero_spells (c ∷ d ∷ word) first one = absurd (omega (arith, one))

-- ---- heads

pub record IsUnsigned (word : List ℕ) (h : ℤ) : Type 0 where
  pub magnitude : ℕ
  pub is : h ≡ pos magnitude
  pub fits : magnitude ≤ 10 ^ 18
  pub spelled : word ≡ decimal magnitude

pub record IsNegative (word : List ℕ) (h : ℤ) : Type 0 where
  pub before : ℕ
  pub is : h ≡ negsuc before
  pub fits : suc before ≤ 10 ^ 18
  pub spelled : word ≡ 45 ∷ decimal (suc before)

first_digit : (n : ℕ) → n < 10 ^ 19 → 48 ≤ get_or (decimal n) 0 0
first_digit n fits = let k = short_numeral (decimal n) n fits refl in (digit_at (decimal n) 0 k.digits k.some).0

pub unsigned : (word : List ℕ) (h : ℤ) → IsInBox h → word ≡ signed_decimal h → get_or word 0 0 ≢ 45 → IsUnsigned word h
unsigned word (pos n) box e first = record {
  magnitude = n;
  is = refl;
  fits = let b = box.below_ceiling in
      omega (arith, ints, b);
  spelled = e;
}
unsigned word (negsuc n) box e first = absurd (first (ap (λ w. get_or w 0 0) e))

pub negative : (word : List ℕ) (h : ℤ) → IsInBox h → word ≡ signed_decimal h → get_or word 0 0 ≡ 45 → IsNegative word h
negative word (pos n) box e first =
    let b = box.below_ceiling in
    let low = first_digit n (omega (arith, ints, b)) in
    let same : get_or word 0 0 ≡ get_or (decimal n) 0 0 = ap (λ w. get_or w 0 0) e in absurd (omega (arith, low, same))
negative word (negsuc n) box e first = record {
  before = n;
  is = refl;
  fits = let b = box.above_floor in
      omega (arith, ints, b);
  spelled = e;
}

-- a head is spelled by some byte
pub head_some : (word : List ℕ) (h : ℤ) → IsInBox h → word ≡ signed_decimal h → 0 < length word
head_some word (pos n) box e = let b = box.below_ceiling in (short_numeral word n (omega (arith, ints, b)) e).some
head_some word (negsuc n) box e = subst (λ (w : List ℕ). 0 < length w) (sym e) (omega arith)

-- the digits of a negative head, as the slice behind the sign is seen
pub after_sign : (word : List ℕ) (before : ℕ) → word ≡ 45 ∷ decimal (suc before)
    → take (length word - 1) (drop 1 word) ≡ decimal (suc before)
after_sign word before e = take-drop word 1 ∙ ap (drop 1) e

-- ---- what the parts of `number` give

pub some_length : (word : List ℕ) → (length word == 0) ≡ false → 0 < length word
some_length [] e = absurd (cc)
some_length (c ∷ word) e = omega arith

pub not_one : (n : ℕ) → (n == 1) ≡ false → n ≢ 1
not_one n other e = let same : (1 == 1) ≡ false = ap (λ k. k == 1) (sym e) ∙ other in absurd (cc)

pub zero_some : (word : List ℕ) (o : Option ℕ) → get_or word 0 0 ≡ 48 → IfSome o (λ n. (n ≡ 0) × (length word ≡ 1))
    → IfSome o (λ n. word ≡ decimal n)
zero_some [] None first h = tt
zero_some (c ∷ word) None first h = tt
zero_some [] (Some n) first h = absurd (omega (arith, h.1))
zero_some (c ∷ []) (Some n) first h = ap (λ x. x ∷ []) first
    ∙ (sym (decimal_digit 0 (omega arith)) ∙ ap decimal (sym h.0))
zero_some (c ∷ d ∷ word) (Some n) first h = absurd (omega (arith, h.1))

pub zero_none : (word : List ℕ) (o : Option ℕ) → get_or word 0 0 ≡ 48 → IfNone o (length word ≢ 1)
    → IfNone o ((n : ℕ) → n < 10 ^ 19 → word ≢ decimal n)
zero_none word (Some n) first h = tt
zero_none word None first h = λ n fits e. let k = short_numeral word n fits e in h (k.no_zero first)

pub digits_some : (word : List ℕ) (o : Option ℕ) → 0 < length word → length word ≤ 19 → get_or word 0 0 ≢ 48
    → IfSome o (λ n. AllDigits 10 word × (n ≡ digits_value 10 word)) → IfSome o (λ n. word ≡ decimal n)
digits_some word None some few first h = tt
digits_some word (Some n) some few first h = spells_value word some few h.0 (λ e. absurd (first e))
    ∙ ap decimal (sym h.1)

pub digits_fit : (word : List ℕ) (o : Option ℕ) → length word ≤ 19
    → IfSome o (λ n. AllDigits 10 word × (n ≡ digits_value 10 word)) → IfSome o (λ n. n < 10 ^ 19)
digits_fit word None few h = tt
digits_fit word (Some n) few h = let k = value_fits word few h.0 in omega (arith, k, h.1)

pub digits_none : (word : List ℕ) (o : Option ℕ) → IfNone o (¬ (AllDigits 10 word))
    → IfNone o ((n : ℕ) → n < 10 ^ 19 → word ≢ decimal n)
digits_none word (Some n) h = tt
digits_none word None h = λ n fits e. let k = short_numeral word n fits e in h k.digits
