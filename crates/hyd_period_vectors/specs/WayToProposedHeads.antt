-- The way to proposed heads from one tick nearer: junctions that fail, each when it is its turn, are put to theirs.
-- Source: the burning test of Dhar 1990, as a leap of the comparison of Ortega and Rheinboldt 1970.
use Rattle.std.specs.Prelude.{◌≡◌, ℕ, ◌<◌, ℤ, pos, ◌-ℤ◌, ◌≤ℤ◌, List, length, All, Some, None, slice_get, slice_set, ◌⊎◌}
use Rattle.hyd_spec.specs.Assignment.{head_at}
use Rattle.hyd_spec_certificates.specs.declared.Problem.{Problem}
use Rattle.hyd_spec_certificates.specs.declared.Side.{Side}
use Rattle.hyd_spec_certificates.specs.PeriodNetwork.{Grid, GridJunction}
use Rattle.hyd_spec_certificates.specs.Certificate.{IsInBox, IsCertificate}
use Rattle.hyd_spec_certificates.specs.StartsRaisesAndLeaps.{Fails}
use Rattle.hyd_theorems_on_definitions.specs.Sides.{along}
use Rattle.hyd_sweep.specs.Leaps.{nearer}

-- turns lead from y to w: each junction fails when it is its turn, and is put to its head in v then
pub data AreTurns (grid : Grid) (problem : Problem) (side : Side) (v : List ℤ) : List ℤ → List ℤ → Type 0 where
  no_turn : {y : List ℤ} → AreTurns grid problem side v y y
  one_turn : {y w : List ℤ} (i : ℕ) (junction : GridJunction) → AreTurns grid problem side v y w
      → slice_get grid.junctions i ≡ Some junction → Fails None grid problem side w i junction
      → AreTurns grid problem side v y (slice_set w i (head_at v i))

-- turns lead to y from heads that are all one tick nearer than those of v
pub record ComesInTurn (grid : Grid) (problem : Problem) (side : Side) (v y : List ℤ) : Type 0 where
  pub before : List ℤ
  pub one_each : length before ≡ length v
  pub in_box : All IsInBox before
  pub short : (k : ℕ) → k < length v → head_at before k ≡ nearer side (head_at v k)
  pub turns : AreTurns grid problem side v before y

-- v lies beyond w by at most so many ticks at a place
abbrev pub Leads : Side → List ℤ → List ℤ → ℤ → ℕ → Type 0
Leads side v w most k = (along side (head_at v k) -ℤ along side (head_at w k)) ≤ℤ most

-- y has the heads of v, or one tick nearer. Where v lies beyond a certificate somewhere, it doesn't by most at a
-- junction that has its head in y.
pub record AreInTurn (grid : Grid) (problem : Problem) (side : Side) (v y : List ℤ) : Type 0 where
  pub comes : ComesInTurn grid problem side v y
  pub one_each : length y ≡ length v
  pub in_box : All IsInBox y
  pub to_in_box : All IsInBox v
  pub near : (k : ℕ) → k < length v → (head_at y k ≡ head_at v k) ⊎ (head_at y k ≡ nearer side (head_at v k))
  pub less : (w : List ℤ) → IsCertificate grid problem side w → (most : ℤ) → pos 1 ≤ℤ most
      → ((k : ℕ) → k < length v → Leads side v w most k)
      → (i : ℕ) → i < length v → head_at y i ≡ head_at v i → Leads side v w (most -ℤ pos 1) i
