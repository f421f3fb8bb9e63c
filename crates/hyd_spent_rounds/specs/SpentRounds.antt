-- How far rounds lead at most, and when they lead to no certificate.
-- Source: this program's; maps that keep order and move with a shift of their argument (Crandall and Tartar 1980).
use Rattle.std.specs.Prelude.{◌≡◌, ◌≢◌, ℕ, ◌<◌, ◌*◌, ℤ, pos, ◌+ℤ◌, ◌<ℤ◌, List, length, All, Some}
use Rattle.hyd_spec.specs.Assignment.{head_at}
use Rattle.hyd_spec_certificates.specs.declared.Problem.TheVariants.{Main}
use Rattle.hyd_spec_certificates.specs.declared.Side.{Side}
use Rattle.hyd_spec_certificates.specs.declared.HeldJunction.{HeldJunction}
use Rattle.hyd_spec_certificates.specs.PeriodNetwork.{Grid}
use Rattle.hyd_spec_certificates.specs.Certificate.{IsInBox, IsBeyond, IsCertificateHolding, AreRoundsHolding}
use Rattle.hyd_theorems_on_definitions.specs.Sides.{along}
use Rattle.hyd_vector_check.specs.NetOutflowBySide.{PassesWith}
use Rattle.hyd_sweep.specs.Sweeps.{further}

-- so many rounds from the start lead to no certificate with the junction held
abbrev pub AreSpent : HeldJunction → Grid → Side → ℕ → List ℤ → Type 0
AreSpent held grid side rounds start = (reached : List ℤ)
    → AreRoundsHolding (Some held) grid Main side rounds start reached
    → IsCertificateHolding (Some held) grid Main side reached → ⊥

-- at junction i a bound stands as far out as the start, or farther; the held one stands at its head, every other one
-- passes a step farther out, with all others as they stand in the bound
pub record BoundsAt (held : HeldJunction) (grid : Grid) (side : Side) (start bound : List ℤ) (step i : ℕ) : Type 0 where
  pub ahead : IsBeyond side (head_at start i) (head_at bound i)
  pub stands : i ≡ held.junction → head_at bound i ≡ held.head
  pub gains : i ≢ held.junction → PassesWith grid Main side bound i (further side (head_at bound i) step)

-- so it is at each junction: a round from the bound leads no head farther on than a step
pub record IsBound (held : HeldJunction) (grid : Grid) (side : Side) (start bound : List ℤ) (step : ℕ) : Type 0 where
  pub one_each : length bound ≡ length start
  pub in_box : All IsInBox bound
  pub each : (i : ℕ) → i < length bound → BoundsAt held grid side start bound step i

-- somewhere a vector lies farther out than so many steps from the bound lead
abbrev pub LiesPast : Side → ℕ → ℕ → List ℤ → List ℤ → Type 0
LiesPast side rounds step bound u = (i : ℕ) × ((i < length bound)
    × ((along side (head_at bound i) +ℤ pos (rounds * step)) <ℤ along side (head_at u i)))
