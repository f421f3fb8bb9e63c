-- What a search for the vectors of a spread finds: on the outermost network of each side both vectors of each problem,
-- of which the record has those of the network's own side.
-- Source: this program's.
use Rattle.std.specs.Prelude.{◌≡◌, ℕ, ℤ, Bool, List, Option}
use Rattle.hyd_spec_certificates.specs.declared.Problem.{Problem}
use Rattle.hyd_spec_certificates.specs.declared.Side.{Side}
use Rattle.hyd_spec_certificates.specs.declared.Side.TheVariants.{Upper, Lower}
use Rattle.hyd_spec_certificates.specs.RecordAndStanding.{Record, vector_of}
use Rattle.hyd_spec_spread_runs.specs.OutermostPairs.{Pair, grid_on}
use Rattle.hyd_cert.specs.RecordView.{row_of, header_of}
use Rattle.hyd_cert.specs.declared.record.Record.{Record as Row}
use Rattle.hyd_period_network.specs.NetAsPeriodNetwork.{grid_of}
use Rattle.hyd_period_network.specs.NetView.{NetView}
use Rattle.hyd_period_vectors.specs.SoughtVectors.{IsSought, Comes, OfEach, LacksFirst}
use Rattle.hyd_spread_vectors.specs.declared.lack_on_network.SpreadLack.{SpreadLack}

-- ---- both networks

-- the grids of the nets of both networks
abbrev pub pair_of : NetView → NetView → Pair
pair_of above below = record { upper = grid_of above; lower = grid_of below }

-- what the finders of both networks tell
pub record Told : Type 0 where
  pub above : Option (List ℤ)
  pub below : Option (List ℤ)

-- what that of a side's network tells
abbrev pub told_on : Side → Told → Option (List ℤ)
told_on Upper told = told.above
told_on Lower told = told.below

-- the records of both networks, each with both vectors of each problem
pub record Held : Type 0 where
  pub above : Record
  pub below : Record

-- the record of a side's network
abbrev pub held_on : Side → Held → Record
held_on Upper held = held.above
held_on Lower held = held.below

-- the records that the program keeps
abbrev pub held_in : Row → Row → Held
held_in above below = record { above = row_of above; below = row_of below }

-- two records are for the same counts
pub record HaveSameCounts (one other : Row) : Type 0 where
  pub junctions : one.junctions ≡ other.junctions
  pub tanks : one.tanks ≡ other.tanks

-- what contracts see of a search: how many junctions and tanks it is for, how many rounds a search may take, and the
-- records of both networks
pub record SpreadRoom : Type 0 where
  pub junctions : ℕ
  pub tanks : ℕ
  pub rounds : ℕ
  pub held : Held

-- all but the records stays
pub record KeepsSize (before now : SpreadRoom) : Type 0 where
  pub junctions : now.junctions ≡ before.junctions
  pub tanks : now.tanks ≡ before.tanks
  pub rounds : now.rounds ≡ before.rounds

-- the records of a search fit its counts
pub record AreOfSize (junctions tanks : ℕ) (above below : Row) : Type 0 where
  pub header_above : header_of above ≡ record { version = 1; junctions = junctions; tanks = tanks }
  pub header_below : header_of below ≡ record { version = 1; junctions = junctions; tanks = tanks }

-- ---- vectors

-- the record of a side's network has what is sought there of each problem, on both sides, and it comes as it does on a
-- single network
pub record AreFoundOn (tight : Bool) (told : Told) (pair : Pair) (tanks rounds : ℕ) (network : Side) (held : Record)
    : Type 0 where
  pub found : OfEach (IsSought tight (told_on network told) (grid_on network pair) tanks) tanks held
  pub come : OfEach (Comes tight (told_on network told) (grid_on network pair) tanks rounds) tanks held

-- a vector is the one that is held of the network of its side
abbrev pub IsHeldIn : Held → Problem → Side → List ℤ → Type 0
IsHeldIn held problem side u = u ≡ vector_of (held_on side held) problem side

-- a vector is what is sought on the network of its side
abbrev pub IsSoughtOver : Bool → Told → Pair → ℕ → Problem → Side → List ℤ → Type 0
IsSoughtOver tight told pair tanks problem side u =
    IsSought tight (told_on side told) (grid_on side pair) tanks problem side u

-- and comes as it does there
abbrev pub ComesOver : Bool → Told → Pair → ℕ → ℕ → Problem → Side → List ℤ → Type 0
ComesOver tight told pair tanks rounds problem side u =
    Comes tight (told_on side told) (grid_on side pair) tanks rounds problem side u

-- ---- none

-- the first network, the upper one before the lower one, and its first problem and side that lacks a vector, on either
-- side; all vectors before that one are found
pub record LacksFirstOver (tight : Bool) (told : Told) (pair : Pair) (tanks rounds : ℕ) (held : Held)
    (lack : SpreadLack) : Type 0 where
  pub lacks : LacksFirst tight (told_on lack.network told) (grid_on lack.network pair) tanks rounds
      (held_on lack.network held) lack.lack
  pub earlier : lack.network ≡ Lower → AreFoundOn tight told pair tanks rounds Upper held.above
