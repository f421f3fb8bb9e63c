-- Powers of whole numbers, cut to 63 significant binary digits after each product.
use Rattle.std.specs.Prelude.{ℕ, zero, suc, ◌+◌, ◌*◌, ◌/◌, ◌^◌, ◌<◌, ◌≤◌, Bool, true, false, if◌then◌else◌, nat_le}
use Rattle.std.specs.Prelude.{List, [], ◌∷◌}
use Rattle.hyd_spec_power_laws.specs.declared.cut_numbers.CutNumber.{CutNumber}

-- the whole number
abbrev pub value : CutNumber → ℕ
value a = a.mant * 2 ^ a.exp

-- it has 63 significant digits
pub record IsNormal (a : CutNumber) : Type 0 where
  pub least : 2 ^ 62 ≤ a.mant
  pub short : a.mant < 2 ^ 63

-- the product of two such numbers, with 0 for its digits past the 63rd
abbrev pub cut_product : CutNumber → CutNumber → CutNumber
cut_product a b =
    if nat_le (2 ^ 125) (a.mant * b.mant)
    then record { mant = a.mant * b.mant / 2 ^ 63; exp = a.exp + b.exp + 63 }
    else record { mant = a.mant * b.mant / 2 ^ 62; exp = a.exp + b.exp + 62 }

-- the power whose exponent has these binary digits below its first one, the last digit first: for each digit a square,
-- and times the number where it is 1
unfoldable pub cut_power : CutNumber → List Bool → CutNumber
cut_power a [] = a
cut_power a (d ∷ ds) =
    if d then cut_product (cut_product (cut_power a ds) (cut_power a ds)) a
    else cut_product (cut_power a ds) (cut_power a ds)

-- that exponent
unfoldable pub exponent : List Bool → ℕ
exponent [] = 1
exponent (d ∷ ds) = if d then exponent ds + exponent ds + 1 else exponent ds + exponent ds

-- how many products it takes, each counted as often as it stands in the power
unfoldable pub roundings : List Bool → ℕ
roundings [] = 0
roundings (d ∷ ds) = if d then roundings ds + roundings ds + 2 else roundings ds + roundings ds + 1

-- 1852
abbrev pub digits_of_1852 : List Bool
digits_of_1852 = false ∷ false ∷ true ∷ true ∷ true ∷ true ∷ false ∷ false ∷ true ∷ true ∷ []

-- 1000
abbrev pub digits_of_1000 : List Bool
digits_of_1000 = false ∷ false ∷ false ∷ true ∷ false ∷ true ∷ true ∷ true ∷ true ∷ []

-- ---- whole numbers that pass a test

-- the greatest of at most a bound that passes, 0 where none does
unfoldable pub greatest : (ℕ → Bool) → ℕ → ℕ
greatest test zero = zero
greatest test (suc bound) = if test (suc bound) then suc bound else greatest test bound

-- the least from k on that passes, of so many; the one after them where none does
unfoldable pub least : (ℕ → Bool) → ℕ → ℕ → ℕ
least test k zero = k
least test k (suc many) = if test k then k else least test (k + 1) many

-- ---- a whole number below 2^128 as a cut number

-- how many binary digits it has below its first one
abbrev pub places : ℕ → ℕ
places n = greatest (λ l. nat_le (2 ^ l) n) 127

-- 2^62 times the number, with 0 for its digits past the 63rd
abbrev pub in_63_digits : ℕ → CutNumber
in_63_digits n = record { mant = n * 2 ^ 62 / 2 ^ places n; exp = places n }
