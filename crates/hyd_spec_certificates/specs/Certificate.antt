-- Certificates: vectors of heads that lie above, or below, the heads of every assignment; and raises, which
-- lead to the tight ones.
-- Source: Ortega and Rheinboldt 1970 (supersolutions and subsolutions), made strict by a margin.
use Rattle.std.specs.Prelude.{◌≡◌, ℕ, suc, ◌<◌, ◌^◌, ◌==◌, ℤ, pos, neg_ℤ, ◌+ℤ◌, ◌≤ℤ◌, List, length, All, slice_get}
use Rattle.std.specs.Prelude.{slice_set, Option, Some, None, MatchBool}
use Rattle.hyd_spec_certificates.specs.declared.Problem.{Problem}
use Rattle.hyd_spec_certificates.specs.declared.Side.{Side}
use Rattle.hyd_spec_certificates.specs.declared.Side.TheVariants.{Upper, Lower}
use Rattle.hyd_spec_certificates.specs.declared.HeldJunction.{HeldJunction}
use Rattle.hyd_spec.specs.Lists.{Each}
use Rattle.hyd_spec.specs.Assignment.{head_at}
use Rattle.hyd_spec_certificates.specs.PeriodNetwork.{Grid, GridJunction}
use Rattle.hyd_spec_certificates.specs.NetOutflow.{net_low, net_high, margin}

-- The box in which certificates are looked for, in head ticks: 100 km either way.
abbrev pub box_limit : ℕ
box_limit = 10 ^ 18

-- A head (head ticks) lies in the box.
pub record IsInBox (h : ℤ) : Type 0 where
  pub above_floor : neg_ℤ (pos box_limit) ≤ℤ h
  pub below_ceiling : h ≤ℤ pos box_limit

-- The junction passes: for UPPER at least its margin and 1 (flow ticks) flows out of it on balance, for LOWER as much
-- flows into it.
abbrev pub Passes : Grid → Problem → Side → List ℤ → ℕ → GridJunction → Type 0
Passes grid problem Upper u i junction = (margin grid i +ℤ pos 1) ≤ℤ net_low grid problem u i junction
Passes grid problem Lower u i junction = net_high grid problem u i junction ≤ℤ neg_ℤ (margin grid i +ℤ pos 1)

-- ---- with or without a junction held

-- What is asked of a junction: a held one stands at its head, every other one passes.
abbrev pub Suits : Option HeldJunction → Grid → Problem → Side → List ℤ → ℕ → GridJunction → Type 0
Suits None grid problem side u i junction = Passes grid problem side u i junction
Suits (Some held) grid problem side u i junction =
    MatchBool (held.junction == i) (head_at u i ≡ held.head) (Passes grid problem side u i junction)

-- A certificate of a problem and side: one head in the box for each junction, at which what is asked of each holds.
pub record IsCertificateHolding (held : Option HeldJunction) (grid : Grid) (problem : Problem) (side : Side)
    (u : List ℤ) : Type 0 where
  pub one_each : length u ≡ length grid.junctions
  pub in_box : All IsInBox u
  pub passes : Each grid.junctions (Suits held grid problem side u)

-- A vector that isn't one fails first at a junction: the first whose head lies outside the box; where all lie inside,
-- the first at which what is asked of it doesn't hold.
pub data FailsFirst (held : Option HeldJunction) (grid : Grid) (problem : Problem) (side : Side) (u : List ℤ)
    : ℕ → Type 0 where
  outside : {i : ℕ} → i < length u → (IsInBox (head_at u i) → ⊥)
      → ((k : ℕ) → k < i → IsInBox (head_at u k)) → FailsFirst held grid problem side u i
  fails : {i : ℕ} (junction : GridJunction) → All IsInBox u → slice_get grid.junctions i ≡ Some junction
      → (Suits held grid problem side u i junction → ⊥)
      → ((k : ℕ) (before : GridJunction) → k < i → slice_get grid.junctions k ≡ Some before
      → Suits held grid problem side u k before) → FailsFirst held grid problem side u i

-- ---- raises

-- x is as far out as y, or farther: at least y for UPPER, at most y for LOWER.
abbrev pub IsBeyond : Side → ℤ → ℤ → Type 0
IsBeyond Upper y x = y ≤ℤ x
IsBeyond Lower y x = x ≤ℤ y

-- A value that junction i may be put to: in the box, as far out as its own head or farther, and such that what is asked
-- of the junction holds with the other heads as they are.
pub record IsCandidateHolding (held : Option HeldJunction) (grid : Grid) (problem : Problem) (side : Side)
    (u : List ℤ) (i : ℕ) (junction : GridJunction) (x : ℤ) : Type 0 where
  pub in_box : IsInBox x
  pub beyond : IsBeyond side (head_at u i) x
  pub passes : Suits held grid problem side (slice_set u i x) i junction

-- The raise of junction i puts it to the nearest such value. There may be none.
pub record IsRaisedHolding (held : Option HeldJunction) (grid : Grid) (problem : Problem) (side : Side)
    (u : List ℤ) (i : ℕ) (junction : GridJunction) (x : ℤ) : Type 0 where
  pub is_candidate : IsCandidateHolding held grid problem side u i junction x
  pub nearest : (y : ℤ) → IsCandidateHolding held grid problem side u i junction y → IsBeyond side x y

-- A round raises each junction from the same vector. (From a vector in which a held junction stands at its head, its
-- raise is no move.)
pub record IsRoundHolding (held : Option HeldJunction) (grid : Grid) (problem : Problem) (side : Side)
    (u v : List ℤ) : Type 0 where
  pub one_each : length v ≡ length u
  pub raised : Each grid.junctions (λ i junction. IsRaisedHolding held grid problem side u i junction (head_at v i))

-- n rounds lead from u to v.
pub data AreRoundsHolding (held : Option HeldJunction) (grid : Grid) (problem : Problem) (side : Side)
    : ℕ → List ℤ → List ℤ → Type 0 where
  none : {u : List ℤ} → AreRoundsHolding held grid problem side 0 u u
  more : {n : ℕ} {u v w : List ℤ} → IsRoundHolding held grid problem side u v
      → AreRoundsHolding held grid problem side n v w → AreRoundsHolding held grid problem side (suc n) u w

-- The tight vector: the certificate that every other one is as far out as, or farther, at each junction.
pub record IsTightHolding (held : Option HeldJunction) (grid : Grid) (problem : Problem) (side : Side)
    (u : List ℤ) : Type 0 where
  pub is_certificate : IsCertificateHolding held grid problem side u
  pub nearest : (v : List ℤ) → IsCertificateHolding held grid problem side v
      → Each grid.junctions (λ i junction. IsBeyond side (head_at u i) (head_at v i))

-- ---- with none held

-- A certificate: every junction passes.
abbrev pub IsCertificate : Grid → Problem → Side → List ℤ → Type 0
IsCertificate grid problem side u = IsCertificateHolding None grid problem side u

-- A value that a junction may be put to.
abbrev pub IsCandidate : Grid → Problem → Side → List ℤ → ℕ → GridJunction → ℤ → Type 0
IsCandidate grid problem side u i junction x = IsCandidateHolding None grid problem side u i junction x

-- The raise of a junction.
abbrev pub IsRaised : Grid → Problem → Side → List ℤ → ℕ → GridJunction → ℤ → Type 0
IsRaised grid problem side u i junction x = IsRaisedHolding None grid problem side u i junction x

-- A round of raises.
abbrev pub IsRound : Grid → Problem → Side → List ℤ → List ℤ → Type 0
IsRound grid problem side u v = IsRoundHolding None grid problem side u v

-- Rounds, one after another.
abbrev pub AreRounds : Grid → Problem → Side → ℕ → List ℤ → List ℤ → Type 0
AreRounds grid problem side n u v = AreRoundsHolding None grid problem side n u v

-- The tight vector.
abbrev pub IsTight : Grid → Problem → Side → List ℤ → Type 0
IsTight grid problem side u = IsTightHolding None grid problem side u
