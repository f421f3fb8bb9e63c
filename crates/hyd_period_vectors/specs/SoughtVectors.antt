-- What a search for the vectors of a period finds.
-- Source: this program's.
use Rattle.std.specs.Prelude.{◌≡◌, ℕ, ◌<◌, ◌≤◌, ℤ, Bool, true, false, List, length, All, Option, Some, None, ◌⊎◌}
use Rattle.hyd_spec_certificates.specs.declared.Problem.{Problem}
use Rattle.hyd_spec_certificates.specs.declared.Side.{Side}
use Rattle.hyd_spec_certificates.specs.declared.Problem.TheVariants.{Main}
use Rattle.hyd_spec_certificates.specs.PeriodNetwork.{Grid, opposite}
use Rattle.hyd_spec_certificates.specs.Certificate.{IsInBox, IsCertificate, AreRounds, IsTight}
use Rattle.hyd_spec_certificates.specs.RecordAndStanding.{Record, vector_of}
use Rattle.hyd_spec_certificates.specs.TurnsOfProblems.{beginning, turn}
use Rattle.hyd_cert.specs.RecordView.{header_of, IsProblemOf}
use Rattle.hyd_cert.specs.Lines.{Header}
use Rattle.hyd_cert.specs.declared.record.Record.{Record as Row}
use Rattle.hyd_period_network.specs.NetView.{NetView}
use Rattle.hyd_finders.specs.ProposedVectors.{IsOfSize, told_vector}
use Rattle.hyd_sweep.specs.LeapingRounds.{AreLeapingRounds}
use Rattle.hyd_sweep.specs.Sweeps.{RoundGives}
use Rattle.hyd_period_vectors.specs.WayToProposedHeads.{ComesInTurn}
use Rattle.hyd_period_vectors.specs.declared.missing_vector.Lack.{Lack}
use Rattle.hyd_period_vectors.specs.declared.missing_vector.Lack.TheVariants.{NoCertificate, RoundsSpent}

-- ---- one vector

-- the finder tells a vector of this problem and side that is a certificate
pub record IsTold (told : Option (List ℤ)) (grid : Grid) (tanks : ℕ) (problem : Problem) (side : Side)
    (u : List ℤ) : Type 0 where
  pub heads : List ℤ
  pub told_is : told ≡ Some heads
  pub size : IsOfSize (length grid.junctions) tanks heads
  pub vector : u ≡ told_vector heads (length grid.junctions) problem side
  pub certificate : IsCertificate grid problem side u

-- a vector is a certificate, and the one that the finder tells where that is one
pub record IsFound (told : Option (List ℤ)) (grid : Grid) (tanks : ℕ) (problem : Problem) (side : Side)
    (u : List ℤ) : Type 0 where
  pub certificate : IsCertificate grid problem side u
  pub proposal : (w : List ℤ) → IsTold told grid tanks problem side w → u ≡ w

-- what is sought: the tight vector, or a certificate by the finder's where that is one
abbrev pub IsSought : Bool → Option (List ℤ) → Grid → ℕ → Problem → Side → List ℤ → Type 0
IsSought true told grid tanks problem side u = IsTight grid problem side u
IsSought false told grid tanks problem side u = IsFound told grid tanks problem side u

-- what would do at once: where no tight vector is sought, a certificate that the finder tells
abbrev pub IsOffered : Bool → Option (List ℤ) → Grid → ℕ → Problem → Side → List ℤ → Type 0
IsOffered true told grid tanks problem side u = ⊥
IsOffered false told grid tanks problem side u = IsTold told grid tanks problem side u

-- ---- rounds

-- the vector of MAIN on the other side is a certificate, where its turn comes before
abbrev pub HasOther : Grid → Problem → Side → Record → Type 0
HasOther grid problem side row = turn Main (opposite side) < turn problem side
    → IsCertificate grid Main (opposite side) (vector_of row Main (opposite side))

-- where rounds begin if no start is proposed: at the end of the box, or at a certificate of MAIN on the other side,
-- where the turn of that comes before
abbrev pub IsAtHand : Grid → Problem → Side → List ℤ → Type 0
IsAtHand grid problem side u = (u ≡ beginning side (length grid.junctions))
    ⊎ ((turn Main (opposite side) < turn problem side) × IsCertificate grid Main (opposite side) u)

-- where they begin in any case: there, or at heads that turns lead to
abbrev pub IsBegun : Grid → Problem → Side → List ℤ → Type 0
IsBegun grid problem side u = IsAtHand grid problem side u ⊎ ComesInTurn grid problem side u u

-- at most so many rounds in file order, with leaps after each, lead from such heads to a vector
pub record IsReached (Begins : Grid → Problem → Side → List ℤ → Type 0) (grid : Grid) (problem : Problem) (side : Side)
    (rounds : ℕ) (u : List ℤ) : Type 0 where
  pub first : List ℤ
  pub begun : Begins grid problem side first
  pub made : ℕ
  pub most : made ≤ rounds
  pub by_rounds : AreLeapingRounds None grid problem side made first u

-- a finder tells a list with a vector for each problem and side
pub record Tells (told : Option (List ℤ)) (n tanks : ℕ) : Type 0 where
  pub heads : List ℤ
  pub told_is : told ≡ Some heads
  pub size : IsOfSize n tanks heads

-- how a vector comes: the tight one by at most so many rounds; another one, where the finder tells its vectors, by as
-- many from what is at hand, or from the finder
abbrev pub Comes : Bool → Option (List ℤ) → Grid → ℕ → ℕ → Problem → Side → List ℤ → Type 0
Comes true told grid tanks rounds problem side u = IsReached IsBegun grid problem side rounds u
Comes false told grid tanks rounds problem side u =
    Tells told (length grid.junctions) tanks
    → IsReached IsAtHand grid problem side rounds u ⊎ IsTold told grid tanks problem side u

-- ---- none

-- so many plain rounds from the beginning exist, and lead to no certificate
pub record AreSpent (grid : Grid) (problem : Problem) (side : Side) (rounds : ℕ) : Type 0 where
  pub reached : List ℤ
  pub by_rounds : AreRounds grid problem side rounds (beginning side (length grid.junctions)) reached
  pub not_one : IsCertificate grid problem side reached → ⊥

-- no vector is a certificate
abbrev pub HasNone : Grid → Problem → Side → Type 0
HasNone grid problem side = (u : List ℤ) → IsCertificate grid problem side u → ⊥

-- a junction has no value at heads that were reached: from where rounds begin less than so many of them lead on, with
-- leaps after each, and one more comes as far as this junction, which no head in the box lets pass then
pub record IsStuck (grid : Grid) (problem : Problem) (side : Side) (rounds junction : ℕ) : Type 0 where
  pub first : List ℤ
  pub begun : IsBegun grid problem side first
  pub made : ℕ
  pub fewer : made < rounds
  pub before : List ℤ
  pub by_rounds : AreLeapingRounds None grid problem side made first before
  pub reached : List ℤ
  pub in_box : All IsInBox reached
  pub no_value : RoundGives None grid problem side before reached (Some junction)

-- why a problem and side has no vector: there is none, and a junction has no value at the heads that were reached; or
-- so many rounds are spent
abbrev pub Lacks : Grid → Problem → Side → ℕ → Lack → Type 0
Lacks grid problem side rounds (NoCertificate lacking on junction) =
    (lacking ≡ problem) × ((on ≡ side) × ((junction < length grid.junctions)
    × (HasNone grid problem side × IsStuck grid problem side rounds junction)))
Lacks grid problem side rounds (RoundsSpent lacking on) =
    (lacking ≡ problem) × ((on ≡ side) × AreSpent grid problem side rounds)

-- ---- the vectors of a record

-- a record for texts with this header has a head for each junction of a net, and vectors for each of its tanks
pub record Fits (net : NetView) (header : Header) : Type 0 where
  pub junctions : header.junctions ≡ length net.junctions
  pub tanks : header.tanks ≡ length net.tanks

-- all of a record but its vectors stays
pub record Stays (before now : Row) : Type 0 where
  pub header : header_of now ≡ header_of before
  pub number : now.number ≡ before.number
  pub time : now.time ≡ before.time
  pub length_is : now.length ≡ before.length

-- something holds of each vector of a record whose turn comes before a number
abbrev pub EachBefore : (Problem → Side → List ℤ → Type 0) → ℕ → ℕ → Record → Type 0
EachBefore P tanks number row = (problem : Problem) (side : Side) → IsProblemOf tanks problem
    → turn problem side < number → P problem side (vector_of row problem side)

-- it holds of all
abbrev pub OfEach : (Problem → Side → List ℤ → Type 0) → ℕ → Record → Type 0
OfEach P tanks row = (problem : Problem) (side : Side) → IsProblemOf tanks problem
    → P problem side (vector_of row problem side)

-- the first problem and side, in their order, that lacks a vector, and is offered none; those before have theirs
pub record LacksFirst (tight : Bool) (told : Option (List ℤ)) (grid : Grid) (tanks rounds : ℕ) (row : Record)
    (lack : Lack) : Type 0 where
  pub problem : Problem
  pub side : Side
  pub is_problem : IsProblemOf tanks problem
  pub lacks : Lacks grid problem side rounds lack
  pub unoffered : (w : List ℤ) → IsOffered tight told grid tanks problem side w → ⊥
  pub earlier : EachBefore (IsSought tight told grid tanks) tanks (turn problem side) row

-- each vector of a record is a certificate that the finder tells
abbrev pub AreTold : Option (List ℤ) → Grid → ℕ → Record → Type 0
AreTold told grid tanks row = OfEach (IsTold told grid tanks) tanks row

-- two records have the same vectors
abbrev pub HaveSame : ℕ → Record → Record → Type 0
HaveSame tanks one other = OfEach (λ problem side u. u ≡ vector_of other problem side) tanks one
