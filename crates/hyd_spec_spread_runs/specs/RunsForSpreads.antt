-- Runs for a spread: records whose vectors are certificates on the outermost grids, each on that of its side, and which
-- leave no doubt about how their periods end, whatever the data within the spread are.
-- Source: this program's.
use Rattle.std.specs.Prelude.{◌≡◌, ◌≤◌, ℕ, List, [], ◌∷◌, length, false, unsigned_abs}
use Rattle.std.specs.List.{AllByRecursion}
use Rattle.hyd_spec.specs.ProgramTypes.{Project}
use Rattle.hyd_spec.specs.NodeNumbers.{tank_count}
use Rattle.hyd_spec_certificates.specs.declared.Problem.{Problem}
use Rattle.hyd_spec_certificates.specs.declared.Side.{Side}
use Rattle.hyd_spec_certificates.specs.Certificate.{IsCertificate}
use Rattle.hyd_spec_certificates.specs.RecordAndStanding.{Record, Standing, vector_of, initial_standing}
use Rattle.hyd_spec_certificates.specs.Decided.{links_at}
use Rattle.hyd_spec_certificates.specs.Valid.{IsProblem, demand_limit, AreStates, ControlsAreDecided, LeadsOn}
use Rattle.hyd_spec_spread.specs.Spreads.{Spread}
use Rattle.hyd_spec_spread.specs.IntervalsOfData.{KnownJunction, known_junctions, known_levels, known_volumes}
use Rattle.hyd_spec_spread.specs.OutermostGrids.{IsOutermostGrid}
use Rattle.hyd_spec_spread_runs.specs.OutermostPairs.{Pair, grid_on, spanned, spanning}

-- ---- the start

-- What is known at the start of a run for a spread: that of the file's network, but for each tank's level and volume,
-- which are known within the limits of the spread.
abbrev pub standing_within : Project → Spread → Standing
standing_within project spread = record (initial_standing project) {
  levels = known_levels project spread;
  volumes = known_volumes project spread;
}

-- The levels that a spread allows at the start leave no doubt about the state of a tank or a level control.
pub record StartIsDecided (project : Project) (spread : Spread) : Type 0 where
  pub states : AreStates project (known_levels project spread) (standing_within project spread).tanks
  pub controls : ControlsAreDecided project (known_levels project spread)

-- ---- records

-- The outermost grids of the period that begins at a standing.
abbrev pub ArePairAt : Project → Spread → Standing → Pair → Type 0
ArePairAt project spread standing pair =
    (side : Side) → IsOutermostGrid project spread side standing.time standing.levels standing.tanks
    (links_at project standing) (grid_on side pair)

-- Both ends of the demand of each junction at a time are in range.
pub record IsDemandInRange (known : KnownJunction) : Type 0 where
  pub least : unsigned_abs known.demand.lo ≤ demand_limit
  pub greatest : unsigned_abs known.demand.hi ≤ demand_limit

abbrev pub AreDemandsInRange : Project → Spread → ℕ → Type 0
AreDemandsInRange project spread time = AllByRecursion IsDemandInRange (known_junctions project spread time)

-- Each vector of the record is a certificate of its problem and side on the grid of that side.
pub record AreCertificatesOver (project : Project) (pair : Pair) (row : Record) : Type 0 where
  pub pinned_each : length row.pinned ≡ tank_count project
  pub each : (problem : Problem) (side : Side) → IsProblem project problem
      → IsCertificate (grid_on side pair) problem side (vector_of row problem side)

-- A record is valid for a spread at a standing, on the outermost grids of its period, and leads on to the next
-- standing:
-- it has the standing's number and time, both ends of each demand are in range, its vectors are certificates, all its
-- matters are decided by what both grids leave open, and its length is the decided one.
pub record IsValidOver (project : Project) (spread : Spread) (standing : Standing) (pair : Pair) (row : Record)
    (next : Standing) : Type 0 where
  pub unfinished : standing.finished ≡ false
  pub number : row.number ≡ standing.number
  pub time : row.time ≡ standing.time
  pub demands : AreDemandsInRange project spread standing.time
  pub are_pair : ArePairAt project spread standing pair
  pub certificates : AreCertificatesOver project pair row
  pub leads_on : LeadsOn project (spanned pair) standing (spanning pair row) next

-- ---- runs

-- A period of a run for a spread, and what is known of it: the standing at its start, its grids and its record, and the
-- standing that it leaves.
pub record FoundOver : Type 0 where
  pub standing : Standing
  pub pair : Pair
  pub row : Record
  pub next : Standing

-- One valid record after another, from one standing to another.
pub data IsRunOverFrom (project : Project) (spread : Spread) : Standing → List FoundOver → Standing → Type 0 where
  none : {standing : Standing} → IsRunOverFrom project spread standing [] standing
  more : {last : Standing} {found : FoundOver} {rest : List FoundOver}
      → IsValidOver project spread found.standing found.pair found.row found.next
      → IsRunOverFrom project spread found.next rest last
      → IsRunOverFrom project spread found.standing (found ∷ rest) last

-- A run for a spread from its start on, which leaves no doubt there.
pub record IsRunOver (project : Project) (spread : Spread) (founds : List FoundOver) (last : Standing) : Type 0 where
  pub start : StartIsDecided project spread
  pub run : IsRunOverFrom project spread (standing_within project spread) founds last
