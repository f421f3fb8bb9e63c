-- The texts that are numbers, and their values in billionths.
-- A number is an optional sign, decimal digits with at most one point and at least one digit, then optionally an
-- exponent:
-- `e` or `E`, an optional sign and one to three digits. Its value is the text with the exponent applied, cut toward
-- zero
--     after nine decimals.
--     Source: EPANET 2.2 User Manual, appendix C (numbers of an input file); the cut is this program's.
use Rattle.std.specs.Prelude.{ℕ, ◌+◌, ◌-◌, ◌*◌, ◌/◌, ◌^◌, Bool, true, false, ◌==◌, ◌&&◌, ◌||◌, nat_le, if◌then◌else◌}
use Rattle.std.specs.Prelude.{List, [], ◌∷◌, ◌++◌, length, fold, ℤ, pos, ◌+ℤ◌, ◌-ℤ◌, neg_ℤ}
use Rattle.std.specs.List.{before_first, after_first, list_all, list_any}
use borrow.Author.Differences.{up, down}

-- `0` to `9`
abbrev pub is_digit : ℕ → Bool
is_digit c = nat_le 48 c && nat_le c 57

-- `+` or `-`
abbrev pub is_sign : ℕ → Bool
is_sign c = (c == 43) || (c == 45)

-- `.`
abbrev pub is_point : ℕ → Bool
is_point c = c == 46

-- `e` or `E`
abbrev pub is_exponent_mark : ℕ → Bool
is_exponent_mark c = (c == 101) || (c == 69)

-- a text behind its optional sign
abbrev pub behind_sign : List ℕ → List ℕ
behind_sign [] = []
behind_sign (c ∷ cs) = if is_sign c then cs else (c ∷ cs)

-- a text begins with `-`
abbrev pub is_negative : List ℕ → Bool
is_negative [] = false
is_negative (c ∷ cs) = c == 45

-- the number that a row of decimal digits writes
abbrev pub number : List ℕ → ℕ
number digits = fold (λ n c. 10 * n + (c - 48)) 0 digits

-- a magnitude with its sign
abbrev pub signed : Bool → ℕ → ℤ
signed negative n = if negative then neg_ℤ (pos n) else pos n

-- the digits and the point, before the exponent
abbrev pub mantissa : List ℕ → List ℕ
mantissa text = before_first is_exponent_mark (behind_sign text)

-- the digits before the point
abbrev pub whole_digits : List ℕ → List ℕ
whole_digits text = before_first is_point (mantissa text)

-- the digits after the point
abbrev pub decimal_digits : List ℕ → List ℕ
decimal_digits text = after_first is_point (mantissa text)

-- a text has an exponent
abbrev pub has_exponent : List ℕ → Bool
has_exponent text = list_any is_exponent_mark (behind_sign text)

-- the sign and the digits of the exponent, empty where there is none
abbrev pub exponent_text : List ℕ → List ℕ
exponent_text text = after_first is_exponent_mark (behind_sign text)

-- an optional sign and one to three digits
abbrev pub is_exponent : List ℕ → Bool
is_exponent text = list_all is_digit (behind_sign text) && (nat_le 1 (length (behind_sign text))
    && nat_le (length (behind_sign text)) 3)

-- the mantissa has digits before and after its point alone, and one at least
abbrev pub has_digits : List ℕ → Bool
has_digits text =
    (list_all is_digit (whole_digits text) && list_all is_digit (decimal_digits text))
    && nat_le 1 (length (whole_digits text) + length (decimal_digits text))

-- where there is an exponent, it has the form of one
abbrev pub ends_well : List ℕ → Bool
ends_well text = if has_exponent text then is_exponent (exponent_text text) else true

-- a text that is a number
unfoldable pub is_numeral : List ℕ → Bool
is_numeral text = has_digits text && ends_well text

-- the exponent of the power of ten by which the number is multiplied, 0 where there is none
abbrev pub exponent : List ℕ → ℤ
exponent text = signed (is_negative (exponent_text text)) (number (behind_sign (exponent_text text)))

-- the exponent of the power of ten by which the number of all its digits makes billionths
abbrev pub places : List ℕ → ℤ
places text = (exponent text +ℤ pos 9) -ℤ pos (length (decimal_digits text))

-- a number times a power of ten, cut to a whole number
abbrev pub shifted : ℕ → ℤ → ℕ
shifted n z = n * 10 ^ up z / 10 ^ down z

-- the magnitude of a number in billionths, cut
unfoldable pub magnitude_of : List ℕ → ℕ
magnitude_of text = shifted (number (whole_digits text ++ decimal_digits text)) (places text)

-- a number in billionths, cut toward zero
unfoldable pub nano_of : List ℕ → ℤ
nano_of text = signed (is_negative text) (magnitude_of text)
