-- A loss by powers in ticks, at any scale S: the power 1852 of the flow is k times the power 1000 of the head that is
-- left when r times the squared flow is taken off it.
use Rattle.std.specs.Prelude.{◌≡◌, ℕ, Option, Some, None}
use Rattle.hyd_num.specs.declared.pairs.Pair.{Pair}
use Rattle.hyd_num.specs.Fraction.{Fraction, fraction, AtMost, times, minus, power}
use Rattle.hyd_num.specs.Pairs.{Encloses}

-- r times the squared flow, in head ticks
abbrev pub minor_ticks : Fraction → ℕ → ℕ → Fraction
minor_ticks r S q = times r (power (fraction q S) 2)

-- k times the power 1000 of what is left of the head
abbrev pub driven : Fraction → Fraction → ℕ → ℕ → ℕ → Fraction
driven k r S q y = times k (power (minus (fraction y S) (minor_ticks r S q)) 1000)

-- A flow of q loses at most the head y.
pub record PowerLossAtMost (k r : Fraction) (S q y : ℕ) : Type 0 where
  pub minor_within : AtMost (minor_ticks r S q) (fraction y S)
  pub friction_within : AtMost (power (fraction q S) 1852) (driven k r S q y)

-- A flow of q loses at least the head y.
abbrev pub PowerLossAtLeast : Fraction → Fraction → ℕ → ℕ → ℕ → Type 0
PowerLossAtLeast k r S q y = AtMost (driven k r S q y) (power (fraction q S) 1852)

-- r lies between the ends of the pair, and is 0 where there is none.
abbrev pub EnclosesMinor : Option Pair → Fraction → Type 0
EnclosesMinor None r = r.num ≡ 0
EnclosesMinor (Some m) r = Encloses m r
