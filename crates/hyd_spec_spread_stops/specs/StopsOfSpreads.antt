-- Stop conditions of runs for a spread: why such a run can't go on from a standing. Demands are judged at both ends.
-- Vectors are sought on the outermost network of each side, on the upper one first, and there of each problem on both
-- sides. Matters are judged by the tight vectors of both grids, by the words for a single grid.
-- Source: this program's.
use Rattle.std.specs.Prelude.{◌≡◌, ℕ, ◌<◌, ◌≤◌, ℤ, Bool, List, Option, Some, None, true, false, length, position}
use Rattle.std.specs.Prelude.{slice_get}
use Rattle.hyd_spec.specs.ProgramTypes.{Project, Junction, Control, AtLevel}
use Rattle.hyd_spec.specs.NodeNumbers.{junction_count}
use Rattle.hyd_spec.specs.DemandsHeadsAndPumpLifts.{demand_of}
use Rattle.hyd_spec_certificates.specs.declared.Problem.{Problem}
use Rattle.hyd_spec_certificates.specs.declared.Side.{Side}
use Rattle.hyd_spec_certificates.specs.declared.Side.TheVariants.{Lower}
use Rattle.hyd_spec_certificates.specs.declared.StopCause.{StopCause}
use Rattle.hyd_spec_certificates.specs.declared.StopCause.TheVariants.{Demand as DemandOutOfRange, NoCertificate}
use Rattle.hyd_spec_certificates.specs.declared.StopCause.TheVariants.{RoundsSpent, RuleOpen, EventOpen, TankOpen}
use Rattle.hyd_spec_certificates.specs.declared.StopCause.TheVariants.{ControlOpen}
use Rattle.hyd_spec_certificates.specs.Interval.{Interval}
use Rattle.hyd_spec_certificates.specs.Certificate.{IsCertificate, AreRounds, IsTight}
use Rattle.hyd_spec_certificates.specs.RecordAndStanding.{Record, Standing, vector_of}
use Rattle.hyd_spec_certificates.specs.Decided.{Watch, End, RuleIsOpen, EventIsOpen}
use Rattle.hyd_spec_certificates.specs.Valid.{IsProblem}
use Rattle.hyd_spec_certificates.specs.Stops.{open_states, is_open_control, period_of}
use Rattle.hyd_spec_certificates.specs.TurnsOfProblems.{EarlierHaveCertificates, beginning}
use Rattle.hyd_spec_open_ends.specs.OpenStandings.{OpenStanding, OpenRecord}
use Rattle.hyd_spec_open_ends.specs.OpenEnds.{Way, EndsIn, shortest_length, longest_length, late_at_end, IsFirstOpen}
use Rattle.hyd_spec_open_ends.specs.Arrivals.{Arrives}
use Rattle.hyd_spec_open_ends.specs.OpenRecords.{levels_left}
use Rattle.hyd_spec_spread.specs.Spreads.{Spread}
use Rattle.hyd_spec_spread.specs.IntervalsOfData.{KnownJunction, known_junctions}
use Rattle.hyd_spec_spread_runs.specs.OutermostPairs.{Pair, grid_on, spanned, spanning}
use Rattle.hyd_spec_spread_runs.specs.RunsForSpreads.{IsDemandInRange, AreDemandsInRange, ArePairAt}
use Rattle.hyd_spec_open_spreads.specs.OpenRunsForSpreads.{spanning_openly}

-- ---- demands

-- The first junction of whose demand an end is out of range, and the file's demand.
pub record IsFirstDemandOver (project : Project) (spread : Spread) (time j : ℕ) (demand : ℤ) : Type 0 where
  pub junction : Junction
  pub is_junction : slice_get project.junctions.list j ≡ Some junction
  pub is_demand : demand ≡ demand_of project time junction
  pub known : KnownJunction
  pub is_known : slice_get (known_junctions project spread time) j ≡ Some known
  pub out_of_range : IsDemandInRange known → ⊥
  pub first : (earlier : ℕ) (before : KnownJunction) → earlier < j
      → slice_get (known_junctions project spread time) earlier ≡ Some before → IsDemandInRange before

-- ---- vectors

-- On one of the outermost networks of a period with demands in range every problem and side before one has a
-- certificate; and where that is the lower network, every problem and side of the upper one has.
pub record HasEarlierOver (project : Project) (spread : Spread) (standing : Standing) (pair : Pair) (network : Side)
    (problem : Problem) (side : Side) : Type 0 where
  pub in_range : AreDemandsInRange project spread standing.time
  pub is_problem : IsProblem project problem
  pub are_pair : ArePairAt project spread standing pair
  pub earlier : EarlierHaveCertificates project (grid_on network pair) problem side
  pub upper_first : network ≡ Lower → (other : Problem) (face : Side) → IsProblem project other
      → (u : List ℤ) × IsCertificate pair.upper other face u

-- No vector is a certificate of the problem and side on one of the networks, the first such.
pub record HasNoCertificateOver (project : Project) (spread : Spread) (standing : Standing) (problem : Problem)
    (side : Side) : Type 0 where
  pub pair : Pair
  pub network : Side
  pub earlier : HasEarlierOver project spread standing pair network problem side
  pub none : (u : List ℤ) → IsCertificate (grid_on network pair) problem side u → ⊥

-- So many plain rounds from the beginning exist there, and their result is no certificate.
pub record SpendsRoundsOver (project : Project) (spread : Spread) (standing : Standing) (problem : Problem)
    (side : Side) (rounds : ℕ) : Type 0 where
  pub pair : Pair
  pub network : Side
  pub earlier : HasEarlierOver project spread standing pair network problem side
  pub reached : List ℤ
  pub by_rounds : AreRounds (grid_on network pair) problem side rounds
      (beginning side (length (grid_on network pair).junctions)) reached
  pub not_one : IsCertificate (grid_on network pair) problem side reached → ⊥

-- ---- matters under the tight vectors

-- A record whose vectors are the tight ones, each on the grid of its side, at a standing with demands in range.
pub record IsTightRowOver (project : Project) (spread : Spread) (standing : Standing) (pair : Pair) (row : Record)
    : Type 0 where
  pub in_range : AreDemandsInRange project spread standing.time
  pub are_pair : ArePairAt project spread standing pair
  pub one_each : length row.pinned ≡ length project.tanks.list
  pub each : (problem : Problem) (side : Side) → IsProblem project problem
      → IsTight (grid_on side pair) problem side (vector_of row problem side)

-- Under the tight vectors the end of the period is open by a rule, or between two seconds.
pub record LeavesEndOpenOver (project : Project) (spread : Spread) (standing : OpenStanding) (slack : ℕ) (end : End)
    : Type 0 where
  pub pair : Pair
  pub row : Record
  pub tight : IsTightRowOver project spread standing.known pair row
  pub is_open : IsFirstOpen project (spanned pair) standing (spanning pair row) slack end

-- Under the tight vectors the period ends in a way that is open by at most the slack, and these are the level intervals
-- there.
pub record EndsAtLevelsOver (project : Project) (spread : Spread) (standing : OpenStanding) (slack : ℕ)
    (levels : List Interval) : Type 0 where
  pub pair : Pair
  pub found : OpenRecord
  pub tight : IsTightRowOver project spread standing.known pair found.row
  pub way : Way
  pub ends : EndsIn project (spanned pair) standing (spanning pair found.row) way
  pub within : late_at_end standing.late way ≤ slack
  pub shortest : found.shortest ≡ shortest_length standing.late way
  pub longest : found.row.length ≡ longest_length way
  pub reached : Option Watch
  pub arrives : Arrives project (spanned pair) standing.known (spanning pair found.row) way reached
  pub levels_are : levels
      ≡ levels_left project (spanned pair) standing.known (spanning_openly pair found) reached

-- The first tank whose state is open at these levels, and its interval.
pub record LeavesTankOpenOver (project : Project) (spread : Spread) (standing : OpenStanding) (slack tank : ℕ)
    (level : Interval) : Type 0 where
  pub levels : List Interval
  pub at_levels : EndsAtLevelsOver project spread standing slack levels
  pub first : position (λ is_open. is_open) (open_states project levels) ≡ Some tank
  pub level_is : slice_get levels tank ≡ Some level

-- The first level control that is open there, all tank states being decided, and its tank's interval.
pub record LeavesControlOpenOver (project : Project) (spread : Spread) (standing : OpenStanding) (slack number : ℕ)
    (level : Interval) : Type 0 where
  pub levels : List Interval
  pub at_levels : EndsAtLevelsOver project spread standing slack levels
  pub tanks_decided : position (λ is_open. is_open) (open_states project levels) ≡ None
  pub first : position (is_open_control levels) project.controls.list ≡ Some number
  pub tank : ℕ
  pub above : Bool
  pub ticks : ℤ
  pub control : Control
  pub is_control : slice_get project.controls.list number ≡ Some control
  pub is_level : control.when ≡ AtLevel tank above ticks
  pub level_is : slice_get levels tank ≡ Some level

-- ---- the condition

-- What a cause says at a standing, for this slack and number of rounds.
abbrev pub HoldsOverAt : Project → Spread → OpenStanding → ℕ → ℕ → StopCause → Type 0
HoldsOverAt project spread standing slack rounds (DemandOutOfRange period junction demand) =
    IsFirstDemandOver project spread standing.known.time junction demand
HoldsOverAt project spread standing slack rounds (NoCertificate period problem side junction) =
    (junction < junction_count project) × HasNoCertificateOver project spread standing.known problem side
HoldsOverAt project spread standing slack rounds (RoundsSpent period problem side spent) =
    (spent ≡ rounds) × SpendsRoundsOver project spread standing.known problem side rounds
HoldsOverAt project spread standing slack rounds (RuleOpen period rule clause lo hi) =
    LeavesEndOpenOver project spread standing slack
    (RuleIsOpen (record { rule = rule; clause = clause; lo = lo; hi = hi }))
HoldsOverAt project spread standing slack rounds (EventOpen period earliest latest) =
    LeavesEndOpenOver project spread standing slack (EventIsOpen earliest latest)
HoldsOverAt project spread standing slack rounds (TankOpen period tank lo hi) =
    LeavesTankOpenOver project spread standing slack tank (record { lo = lo; hi = hi })
HoldsOverAt project spread standing slack rounds (ControlOpen period control lo hi) =
    LeavesControlOpenOver project spread standing slack control (record { lo = lo; hi = hi })

-- The cause names the period that begins at the standing, and what it says is so.
pub record StopsOver (project : Project) (spread : Spread) (standing : OpenStanding) (slack rounds : ℕ)
    (cause : StopCause) : Type 0 where
  pub period_is : period_of cause ≡ standing.known.number
  pub holds : HoldsOverAt project spread standing slack rounds cause

-- A run that stops for no cause has done the period at the end of the run; at the standing that another one leaves, its
-- cause holds.
abbrev pub EndsOverSo : Project → Spread → OpenStanding → ℕ → ℕ → Option StopCause → Type 0
EndsOverSo project spread standing slack rounds None = standing.known.finished ≡ true
EndsOverSo project spread standing slack rounds (Some cause) =
    (standing.known.finished ≡ false) × StopsOver project spread standing slack rounds cause
