-- What raises and sweeps give.
-- Source: this program's; rounds in any order are chaotic iterations (Chazan and Miranker 1969).
use Rattle.std.specs.Prelude.{◌≡◌, ◌≢◌, ℕ, ◌<◌, ◌≤◌, ℤ, pos, ◌+ℤ◌, ◌-ℤ◌, List, [], ◌∷◌, ◌++◌, length, take, All}
use Rattle.std.specs.Prelude.{Contains, slice_get, slice_set, slice_index_or, Option, Some, None, suc, zero, ⊤, ◌<ℤ◌}
use Rattle.std.specs.Prelude.{Bool, true, false}
use Rattle.std.specs.List.{AllByRecursion}
use Rattle.hyd_spec.specs.Lists.{Each}
use Rattle.hyd_spec.specs.Assignment.{head_at}
use Rattle.hyd_spec_certificates.specs.declared.Problem.{Problem}
use Rattle.hyd_spec_certificates.specs.declared.Side.{Side}
use Rattle.hyd_spec_certificates.specs.declared.Side.TheVariants.{Upper, Lower}
use Rattle.hyd_spec_certificates.specs.declared.HeldJunction.{HeldJunction}
use Rattle.hyd_spec_certificates.specs.PeriodNetwork.{Grid, GridJunction}
use Rattle.hyd_spec_certificates.specs.Certificate.{IsInBox, Suits, IsCertificateHolding, IsCandidateHolding}
use Rattle.hyd_spec_certificates.specs.Certificate.{IsRaisedHolding, AreRoundsHolding, IsTightHolding}
use Rattle.hyd_spec_certificates.specs.StartsRaisesAndLeaps.{IsStart, LiesBeyond, HasParts, HasRounds, JoinsNone}
use Rattle.hyd_theorems_on_definitions.specs.Sides.{along}
use Rattle.hyd_sweep.specs.declared.answers_of_sweeps.Raised.{Raised}
use Rattle.hyd_sweep.specs.declared.answers_of_sweeps.Raised.TheVariants.{Passed, Moved, NoValue}
use Rattle.hyd_sweep.specs.declared.answers_of_sweeps.Swept.{Swept}
use Rattle.hyd_sweep.specs.declared.answers_of_sweeps.Swept.TheVariants.{Least, NoCertificate, RoundsSpent}

-- ---- the held junction

-- junction i isn't the held one
abbrev pub IsFree : Option HeldJunction → ℕ → Type 0
IsFree None i = ⊤
IsFree (Some held) i = held.junction ≢ i

-- junction i is held at h
abbrev pub IsHeldAt : Option HeldJunction → ℕ → ℤ → Type 0
IsHeldAt held i h = held ≡ Some (record { junction = i; head = h })

-- where a junction is held, its head lies in the box
abbrev pub HoldsInBox : Option HeldJunction → Type 0
HoldsInBox None = ⊤
HoldsInBox (Some held) = IsInBox held.head

-- ---- one junction

-- the head so many ticks farther out
abbrev pub further : Side → ℤ → ℕ → ℤ
further Upper h k = h +ℤ pos k
further Lower h k = h -ℤ pos k

-- what is asked of junction i holds
abbrev pub SuitsAt : Option HeldJunction → Grid → Problem → Side → List ℤ → ℕ → Type 0
SuitsAt held grid problem side u i =
    (junction : GridJunction) → slice_get grid.junctions i ≡ Some junction → Suits held grid problem side u i junction

-- the raise of junction i puts it to x
abbrev pub RaisesTo : Option HeldJunction → Grid → Problem → Side → List ℤ → ℕ → ℤ → Type 0
RaisesTo held grid problem side u i x =
    (junction : GridJunction) → slice_get grid.junctions i ≡ Some junction
    → IsRaisedHolding held grid problem side u i junction x

-- there is no raise of junction i
abbrev pub HasNoValue : Option HeldJunction → Grid → Problem → Side → List ℤ → ℕ → Type 0
HasNoValue held grid problem side u i =
    (junction : GridJunction) → slice_get grid.junctions i ≡ Some junction → (x : ℤ)
    → IsCandidateHolding held grid problem side u i junction x → ⊥

-- what the raise of junction i gives
abbrev pub RaiseGives : Option HeldJunction → Grid → Problem → Side → ℕ → List ℤ → List ℤ → Raised → Type 0
RaiseGives held grid problem side i old new Passed =
    (new ≡ old) × RaisesTo held grid problem side old i (head_at old i)
RaiseGives held grid problem side i old new Moved =
    (x : ℤ) × ((new ≡ slice_set old i x) × ((x ≢ head_at old i) × RaisesTo held grid problem side old i x))
RaiseGives held grid problem side i old new NoValue = (new ≡ old) × HasNoValue held grid problem side old i

-- ---- junctions in an order

-- the raises of these junctions, each from what the ones before it left, lead from u to w
pub data AreRaises (held : Option HeldJunction) (grid : Grid) (problem : Problem) (side : Side)
    : List ℕ → List ℤ → List ℤ → Type 0 where
  no_raise : {u : List ℤ} → AreRaises held grid problem side [] u u
  one_raise : {i : ℕ} {order : List ℕ} {u w : List ℤ} {junction : GridJunction} {x : ℤ}
      → slice_get grid.junctions i ≡ Some junction → IsRaisedHolding held grid problem side u i junction x
      → AreRaises held grid problem side order (slice_set u i x) w → AreRaises held grid problem side (i ∷ order) u w

-- what raises in an order give: all of them where each exists, else those before the first that doesn't
abbrev pub FollowGives : Option HeldJunction → Grid → Problem → Side → List ℕ → List ℤ → List ℤ → Raised → Type 0
FollowGives held grid problem side order old new Passed =
    (new ≡ old) × AreRaises held grid problem side order old new
FollowGives held grid problem side order old new Moved =
    (new ≢ old) × AreRaises held grid problem side order old new
FollowGives held grid problem side order old new NoValue =
    (k : ℕ) × ((k < length order) × (AreRaises held grid problem side (take k order) old new
    × HasNoValue held grid problem side new (slice_index_or order k 0)))

-- an order names every junction
abbrev pub NamesEach : Grid → List ℕ → Type 0
NamesEach grid order = (i : ℕ) → i < length grid.junctions → Contains order i

-- where raises in an order lead: from a start to a start, which is the tight vector if every junction suits there, as
-- it does where no head moved in an order that names each; as far as n rounds, or farther, in an order of n parts that
-- each name every junction; and where a junction of the order has no value there is no certificate
pub record FollowLeads (held : Option HeldJunction) (grid : Grid) (problem : Problem) (side : Side) (order : List ℕ)
    (old new : List ℤ) (result : Raised) : Type 0 where
  pub start : IsStart held grid problem side old → IsStart held grid problem side new
  pub tight : IsStart held grid problem side old → Each grid.junctions (Suits held grid problem side new)
      → IsTightHolding held grid problem side new
  pub passed : IsStart held grid problem side old → result ≡ Passed → NamesEach grid order
      → IsTightHolding held grid problem side new
  pub rounds : (n : ℕ) → HasParts (length grid.junctions) n order → result ≢ NoValue
      → HasRounds held grid problem side n old new
  pub none : IsStart held grid problem side old → result ≡ NoValue → (w : List ℤ)
      → IsCertificateHolding held grid problem side w → ⊥

-- the raises in an order so far, and whether one moved a head
pub record IsFollowing (held : Option HeldJunction) (grid : Grid) (problem : Problem) (side : Side) (order : List ℕ)
    (old u : List ℤ) (moved : Bool) : Type 0 where
  pub one_each : length u ≡ length grid.junctions
  pub in_box : All IsInBox u
  pub raises : AreRaises held grid problem side order old u
  pub still : moved ≡ false → u ≡ old
  pub ahead : moved ≡ true → (m : ℕ) × ((m < length old) × (along side (head_at old m) <ℤ along side (head_at u m)))

-- ---- rounds

-- the numbers below n, in order
abbrev pub numbers : ℕ → List ℕ
numbers zero = []
numbers (suc n) = numbers n ++ (n ∷ [])

-- what a round in file order gives: the junction without a value, if there is one
abbrev pub RoundGives : Option HeldJunction → Grid → Problem → Side → List ℤ → List ℤ → Option ℕ → Type 0
RoundGives held grid problem side old new None =
    AreRaises held grid problem side (numbers (length grid.junctions)) old new
RoundGives held grid problem side old new (Some j) =
    (j < length grid.junctions) × (AreRaises held grid problem side (numbers j) old new
    × HasNoValue held grid problem side new j)

-- what a sweep of at most so many rounds gives: the tight vector; or a junction without a value at heads in the box,
-- and then there is no certificate; or so many rounds from the first heads exist, and lead to none, and the heads are
-- a start that lies as far out as these rounds lead, or farther, and is no certificate either
abbrev pub SweepGives : Option HeldJunction → Grid → Problem → Side → ℕ → List ℤ → List ℤ → Swept → Type 0
SweepGives held grid problem side rounds old new Least = IsTightHolding held grid problem side new
SweepGives held grid problem side rounds old new (NoCertificate j) =
    (j < length grid.junctions) × (HasNoValue held grid problem side new j
    × (All IsInBox new × ((w : List ℤ) → IsCertificateHolding held grid problem side w → ⊥)))
SweepGives held grid problem side rounds old new RoundsSpent =
    (v : List ℤ) × (AreRoundsHolding held grid problem side rounds old v
    × ((IsCertificateHolding held grid problem side v → ⊥)
    × (LiesBeyond side v new × (IsStart held grid problem side new
    × (IsCertificateHolding held grid problem side new → ⊥)))))

-- so many rounds in file order, one after another
abbrev pub in_rounds : ℕ → ℕ → List ℕ
in_rounds zero count = []
in_rounds (suc n) count = in_rounds n count ++ numbers count

-- how a sweep of plain rounds goes: some of the rounds, or all of them; where a junction has no value, the raises of
-- one more that come before its own
abbrev pub RoundsGo : Option HeldJunction → Grid → Problem → Side → ℕ → List ℤ → List ℤ → Swept → Type 0
RoundsGo held grid problem side rounds old new Least =
    (n : ℕ) × ((n ≤ rounds) × AreRaises held grid problem side (in_rounds n (length grid.junctions)) old new)
RoundsGo held grid problem side rounds old new (NoCertificate j) =
    (n : ℕ) × ((n < rounds)
    × AreRaises held grid problem side (in_rounds n (length grid.junctions) ++ numbers j) old new)
RoundsGo held grid problem side rounds old new RoundsSpent =
    AreRaises held grid problem side (in_rounds rounds (length grid.junctions)) old new

-- where no link joins two junctions a sweep that may go one round doesn't spend its rounds
abbrev pub EndsWhereApart : Grid → ℕ → Swept → Type 0
EndsWhereApart grid rounds result =
    AllByRecursion (JoinsNone (length grid.junctions)) grid.links → 1 ≤ rounds → result ≢ RoundsSpent
