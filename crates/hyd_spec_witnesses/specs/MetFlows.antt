-- When a flow is met: the enclosing functions of a scale show that the law's exact flow is within the tolerance of it.
-- Heads and flows are S-th parts of ticks.
-- Source: this program's.
use Rattle.std.specs.Prelude.{◌≡◌, ℕ, ℤ, pos, ◌+ℤ◌, ◌-ℤ◌, ◌≤ℤ◌, Option, MatchOption}
use Rattle.hyd_spec.specs.ProgramTypes.{Capacity}
use Rattle.hyd_spec.specs.Scale.{tolerance}
use Rattle.hyd_spec.specs.Law.{Law, QuadraticLaw}
use Rattle.hyd_spec_certificates.specs.EnclosingFunctions.{DemandLaw}
use Rattle.hyd_spec_witnesses.specs.EnclosingFunctionsAtScale.{low_at, high_at, IsInRange}
use Rattle.hyd_spec_witnesses.specs.DemandsAtScale.{demand_low_at, demand_high_at, IsDemandInRange}

-- A flow lies between a high flow less the tolerance and a low flow plus it: each flow from the low to the high one is
-- within the tolerance of it.
pub record IsNearBoth (S : ℕ) (low high q : ℤ) : Type 0 where
  pub from : (high -ℤ tolerance S) ≤ℤ q
  pub to : q ≤ℤ (low +ℤ tolerance S)

-- A law's flow q is met at a head difference.
pub record IsMetBy (law : Law) (S : ℕ) (d q : ℤ) : Type 0 where
  pub in_range : IsInRange S law d
  pub near : IsNearBoth S (low_at S law d) (high_at S law d) q

-- A demand flow q is met at a pressure.
pub record IsDemandMetBy (law : DemandLaw) (S : ℕ) (p q : ℤ) : Type 0 where
  pub in_range : IsDemandInRange S law p
  pub near : IsNearBoth S (demand_low_at S law p) (demand_high_at S law p) q

-- An emitter flow q is met at a pressure: by the emitter's law, and 0 where there is no emitter.
abbrev pub IsEmitterMetBy : Option Capacity → ℕ → ℤ → ℤ → Type 0
IsEmitterMetBy emitter S p q =
    MatchOption emitter (q ≡ pos 0) (λ capacity. IsMetBy (QuadraticLaw capacity) S p q)
