-- Binary numbers and minor losses where a tick has 2^p parts.
use Rattle.std.specs.Prelude.{◌≡◌, ℕ, pos, ◌+ℤ◌, Option, Some, None, ⊤}
use Rattle.hyd_num.specs.declared.binary.Scaled.{Scaled}
use Rattle.hyd_num.specs.declared.pairs.Pair.{Pair}

-- t is 2^n times s
pub record IsTimes (n : ℕ) (s t : Scaled) : Type 0 where
  pub mantissa : t.mant ≡ s.mant
  pub exponent : t.exp ≡ s.exp +ℤ pos n

-- both ends are divided by 2^p
pub record IsDivided (p : ℕ) (r s : Pair) : Type 0 where
  pub low : IsTimes p s.lo r.lo
  pub high : IsTimes p s.hi r.hi

-- so is a minor loss, if there is one
abbrev pub IsMinorDivided : ℕ → Option Pair → Option Pair → Type 0
IsMinorDivided p None None = ⊤
IsMinorDivided p (Some r) (Some s) = IsDivided p r s
IsMinorDivided p None (Some s) = ⊥
IsMinorDivided p (Some r) None = ⊥
