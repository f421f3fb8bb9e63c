-- Leaps: vectors farther out that some other source proposes, and what makes one a start.
-- Source: this program's, by the comparison of Ortega and Rheinboldt 1970.
use Rattle.std.specs.Prelude.{◌≡◌, ◌≢◌, ℕ, ◌<◌, ◌≤◌, ℤ, pos, ◌+ℤ◌, ◌-ℤ◌, List, length, All, slice_get, Option, Some}
use Rattle.std.specs.Prelude.{◌⊎◌}
use Rattle.hyd_spec.specs.Assignment.{head_at}
use Rattle.hyd_spec_certificates.specs.declared.Problem.{Problem}
use Rattle.hyd_spec_certificates.specs.declared.Side.{Side}
use Rattle.hyd_spec_certificates.specs.declared.Side.TheVariants.{Upper, Lower}
use Rattle.hyd_spec_certificates.specs.declared.HeldJunction.{HeldJunction}
use Rattle.hyd_spec_certificates.specs.PeriodNetwork.{Grid, GridJunction}
use Rattle.hyd_spec_certificates.specs.Certificate.{IsInBox}
use Rattle.hyd_spec_certificates.specs.StartsRaisesAndLeaps.{LiesBeyond, IsStart, Fails}

-- the head one tick nearer
abbrev pub nearer : Side → ℤ → ℤ
nearer Upper h = h -ℤ pos 1
nearer Lower h = h +ℤ pos 1

-- y has the heads of a leap from u to v when it is junction i's turn: the junctions before it stand where they leap to,
-- and of it and those after it each that moves is one tick short of that
pub record IsTurn (side : Side) (u v y : List ℤ) (i : ℕ) : Type 0 where
  pub one_each : length y ≡ length v
  pub before : (m : ℕ) → m < i → head_at y m ≡ head_at v m
  pub still : (m : ℕ) → i ≤ m → head_at v m ≡ head_at u m → head_at y m ≡ head_at v m
  pub short : (m : ℕ) → i ≤ m → head_at v m ≢ head_at u m → head_at y m ≡ nearer side (head_at v m)

-- junction i stays in a leap from u to v, or it isn't held, and fails when it is its turn
abbrev pub MayMove : Option HeldJunction → Grid → Problem → Side → List ℤ → List ℤ → ℕ → Type 0
MayMove held grid problem side u v i = (junction : GridJunction) → slice_get grid.junctions i ≡ Some junction
    → (head_at v i ≡ head_at u i)
    ⊎ ((y : List ℤ) → IsTurn side u v y i → Fails held grid problem side y i junction)

-- a leap from u to v: v is in the box and beyond u, and each junction that moves fails when it is its turn
pub record IsLeapInTurn (held : Option HeldJunction) (grid : Grid) (problem : Problem) (side : Side)
    (u v : List ℤ) : Type 0 where
  pub one_each : length v ≡ length u
  pub in_box : All IsInBox v
  pub beyond : LiesBeyond side u v
  pub moves : (i : ℕ) → i < length u → MayMove held grid problem side u v i

-- heads that leaps lead to
pub record LeapsLeadTo (held : Option HeldJunction) (grid : Grid) (problem : Problem) (side : Side)
    (u v : List ℤ) : Type 0 where
  pub one_each : length v ≡ length u
  pub in_box : All IsInBox u → All IsInBox v
  pub beyond : LiesBeyond side u v
  pub start : IsStart held grid problem side u → IsStart held grid problem side v
