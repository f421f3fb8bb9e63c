-- Vectors on the way to the tight one: where a search may begin, lists of raises in any order, and leaps.
-- Source: this program's; rounds in any order are chaotic iterations (Chazan and Miranker 1969).
use Rattle.std.specs.Prelude.{◌≡◌, ℕ, suc, ◌<◌, ◌==◌, ℤ, List, [], ◌∷◌, ◌++◌, length, All, slice_get, slice_set, Option}
use Rattle.std.specs.Prelude.{Some, None, MatchBool, ◌⊎◌, Contains, ⊤}
use Rattle.hyd_spec_certificates.specs.declared.Problem.{Problem}
use Rattle.hyd_spec_certificates.specs.declared.Side.{Side}
use Rattle.hyd_spec_certificates.specs.declared.HeldJunction.{HeldJunction}
use Rattle.hyd_spec.specs.Lists.{Each}
use Rattle.hyd_spec.specs.Assignment.{head_at}
use Rattle.hyd_spec_certificates.specs.PeriodNetwork.{Grid, GridJunction, GridLink}
use Rattle.hyd_spec_certificates.specs.Certificate.{IsInBox, Passes, IsBeyond, IsCertificateHolding, IsRaisedHolding}
use Rattle.hyd_spec_certificates.specs.Certificate.{AreRoundsHolding}

-- At each place of u the vector v lies as far out as u, or farther.
abbrev pub LiesBeyond : Side → List ℤ → List ℤ → Type 0
LiesBeyond side u v = (i : ℕ) → i < length u → IsBeyond side (head_at u i) (head_at v i)

-- ---- starts

-- A vector that a search may begin at: one head in the box for each junction, with every certificate beyond it.
pub record IsStart (held : Option HeldJunction) (grid : Grid) (problem : Problem) (side : Side)
    (u : List ℤ) : Type 0 where
  pub one_each : length u ≡ length grid.junctions
  pub in_box : All IsInBox u
  pub nearer : (w : List ℤ) → IsCertificateHolding held grid problem side w → LiesBeyond side u w

-- The head of a vector at the held junction isn't farther out than the held head.
abbrev pub IsOrderedHolding : Option HeldJunction → Side → List ℤ → Type 0
IsOrderedHolding None side v = ⊤
IsOrderedHolding (Some held) side v = IsBeyond side (head_at v held.junction) held.head

-- ---- leaps

-- The junction isn't held, and doesn't pass.
abbrev pub Fails : Option HeldJunction → Grid → Problem → Side → List ℤ → ℕ → GridJunction → Type 0
Fails None grid problem side u i junction = Passes grid problem side u i junction → ⊥
Fails (Some held) grid problem side u i junction =
    MatchBool (held.junction == i) ⊥ (Passes grid problem side u i junction → ⊥)

-- A leap from u to v: v is in the box and beyond u, and each junction that the leap moves fails at v.
pub record IsLeap (held : Option HeldJunction) (grid : Grid) (problem : Problem) (side : Side)
    (u v : List ℤ) : Type 0 where
  pub one_each : length v ≡ length u
  pub in_box : All IsInBox v
  pub beyond : LiesBeyond side u v
  pub fails : Each grid.junctions (λ i junction.
      (head_at v i ≡ head_at u i) ⊎ Fails held grid problem side v i junction)

-- ---- raises in any order

-- The raises of these junctions, each from what the ones before it left, lead from u to w, with leaps between them in
-- any places.
pub data Climbs (held : Option HeldJunction) (grid : Grid) (problem : Problem) (side : Side)
    : List ℕ → List ℤ → List ℤ → Type 0 where
  done : {u : List ℤ} → Climbs held grid problem side [] u u
  raised : {i : ℕ} {order : List ℕ} {u w : List ℤ} {junction : GridJunction} {x : ℤ}
      → slice_get grid.junctions i ≡ Some junction → IsRaisedHolding held grid problem side u i junction x
      → Climbs held grid problem side order (slice_set u i x) w → Climbs held grid problem side (i ∷ order) u w
  leapt : {order : List ℕ} {u v w : List ℤ} → IsLeap held grid problem side u v
      → Climbs held grid problem side order v w → Climbs held grid problem side order u w

-- A list begins with n parts, one after another, that each name every number below a count.
pub data HasParts (count : ℕ) : ℕ → List ℕ → Type 0 where
  no_more : {order : List ℕ} → HasParts count 0 order
  part : {n : ℕ} (first rest : List ℕ) → ((i : ℕ) → i < count → Contains first i) → HasParts count n rest
      → HasParts count (suc n) (first ++ rest)

-- n rounds lead from the first vector to one that u lies beyond.
pub record HasRounds (held : Option HeldJunction) (grid : Grid) (problem : Problem) (side : Side) (n : ℕ)
    (first u : List ℤ) : Type 0 where
  pub reached : List ℤ
  pub one_each : length reached ≡ length grid.junctions
  pub by_rounds : AreRoundsHolding held grid problem side n first reached
  pub ahead : LiesBeyond side reached u

-- ---- junctions apart

-- A link that doesn't join two of the first n nodes.
abbrev pub JoinsNone : ℕ → GridLink → Type 0
JoinsNone n link = link.from < n → link.to < n → ⊥
