-- Turns that lead from one tick nearer to proposed heads: junctions that fail, each when it is its turn, are put to
-- theirs. A held junction stands at its head from the beginning, and one at the near end of the box may stay there.
-- Source: the burning test of Dhar 1990, as a leap of the comparison of Ortega and Rheinboldt 1970.
use Rattle.std.specs.Prelude.{◌≡◌, ◌⊎◌, ℕ, ◌<◌, ℤ, pos, ◌-ℤ◌, ◌≤ℤ◌, List, length, All, Option}
use Rattle.hyd_spec.specs.Assignment.{head_at}
use Rattle.hyd_spec_certificates.specs.declared.Problem.TheVariants.{Main}
use Rattle.hyd_spec_certificates.specs.declared.Side.{Side}
use Rattle.hyd_spec_certificates.specs.declared.HeldJunction.{HeldJunction}
use Rattle.hyd_spec_certificates.specs.PeriodNetwork.{Grid}
use Rattle.hyd_spec_certificates.specs.Certificate.{IsInBox, IsCertificateHolding}
use Rattle.hyd_theorems_on_definitions.specs.Sides.{along, near_end}
use Rattle.hyd_sweep.specs.Leaps.{nearer}
use Rattle.hyd_sweep.specs.Sweeps.{IsHeldAt}

-- ---- held junctions

-- a held junction is one of the first n
abbrev pub HoldsBelow : Option HeldJunction → ℕ → Type 0
HoldsBelow held n = (k : ℕ) (h : ℤ) → IsHeldAt held k h → k < n

-- a held junction has its head in a vector
abbrev pub StandsHeld : Option HeldJunction → List ℤ → Type 0
StandsHeld held u = (k : ℕ) (h : ℤ) → k < length u → IsHeldAt held k h → head_at u k ≡ h

-- ---- turns

-- no turn is needed to show that every certificate lies beyond a head: the junction is held there, or the head lies at
-- the near end of the box
abbrev pub IsSettled : Option HeldJunction → Side → ℕ → ℤ → Type 0
IsSettled held side k h = IsHeldAt held k h ⊎ (h ≡ near_end side)

-- the head of junction k before the first turn, of a proposed one: one tick nearer, or the same where no turn is needed
pub record FirstHead (held : Option HeldJunction) (side : Side) (k : ℕ) (proposed head : ℤ) : Type 0 where
  pub near : (head ≡ nearer side proposed) ⊎ ((head ≡ proposed) × IsSettled held side k proposed)
  pub stands : (h : ℤ) → IsHeldAt held k h → proposed ≡ h

-- y has the heads before the first turn, of the proposed heads v
pub record IsBeforeTurns (held : Option HeldJunction) (side : Side) (v y : List ℤ) : Type 0 where
  pub one_each : length y ≡ length v
  pub in_box : All IsInBox y
  pub to_in_box : All IsInBox v
  pub first : (k : ℕ) → k < length v → FirstHead held side k (head_at v k) (head_at y k)

-- v lies beyond w by at most so many ticks at a place
abbrev pub Leads : Side → List ℤ → List ℤ → ℤ → ℕ → Type 0
Leads side v w most k = (along side (head_at v k) -ℤ along side (head_at w k)) ≤ℤ most

-- y has the heads of v, or one tick nearer. Where v lies beyond a certificate somewhere, it doesn't by most at a
-- junction that has its head in y.
pub record AreInTurn (held : Option HeldJunction) (grid : Grid) (side : Side) (v y : List ℤ) : Type 0 where
  pub one_each : length y ≡ length v
  pub in_box : All IsInBox y
  pub to_in_box : All IsInBox v
  pub stands : StandsHeld held v
  pub near : (k : ℕ) → k < length v → (head_at y k ≡ head_at v k) ⊎ (head_at y k ≡ nearer side (head_at v k))
  pub less : (w : List ℤ) → IsCertificateHolding held grid Main side w → (most : ℤ) → pos 1 ≤ℤ most
      → ((k : ℕ) → k < length v → Leads side v w most k)
      → (i : ℕ) → i < length v → head_at y i ≡ head_at v i → Leads side v w (most -ℤ pos 1) i
