-- The low and the high flow of a law, or that it isn't in range.
use Rattle.std.specs.Prelude.{◌≡◌, ℕ, ℤ, Option, MatchOption}
use Rattle.hyd_spec.specs.Law.{Law}
use Rattle.hyd_spec_certificates.specs.EnclosingFunctions.{DemandLaw}
use Rattle.hyd_spec_witnesses.specs.EnclosingFunctionsAtScale.{low_at, high_at, IsInRange}
use Rattle.hyd_spec_witnesses.specs.DemandsAtScale.{demand_low_at, demand_high_at, IsDemandInRange}
use Rattle.hyd_laws_at_scale.specs.declared.windows.Window.{Window}

-- ---- links and emitters

-- a law is in range at a head difference, and these are its low and its high flow there
pub record IsWindow (S : ℕ) (law : Law) (d : ℤ) (window : Window) : Type 0 where
  pub in_range : IsInRange S law d
  pub low_is : window.low ≡ low_at S law d
  pub high_is : window.high ≡ high_at S law d

-- they are given where the law is in range, and none where it isn't
abbrev pub IsAnswer : ℕ → Law → ℤ → Option Window → Type 0
IsAnswer S law d answer = MatchOption answer (IsInRange S law d → ⊥) (IsWindow S law d)

-- ---- demands

-- a demand is in range at a pressure, and these are its low and its high flow there
pub record IsDemandWindow (S : ℕ) (law : DemandLaw) (p : ℤ) (window : Window) : Type 0 where
  pub in_range : IsDemandInRange S law p
  pub low_is : window.low ≡ demand_low_at S law p
  pub high_is : window.high ≡ demand_high_at S law p

-- they are given where it is in range, and none where it isn't
abbrev pub IsDemandAnswer : ℕ → DemandLaw → ℤ → Option Window → Type 0
IsDemandAnswer S law p answer = MatchOption answer (IsDemandInRange S law p → ⊥) (IsDemandWindow S law p)
