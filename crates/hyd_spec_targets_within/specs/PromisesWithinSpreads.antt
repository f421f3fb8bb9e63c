-- What the two commands on pressure targets promise for a spread: what is printed, and what it says of every assignment
-- of the first period of every network within.
-- Source: this program's.
use Rattle.std.specs.Prelude.{◌≡◌, ℕ, ℤ, Bool, IsTrue, List, [], ◌++◌, length, map, take, slice_get, if◌then◌else◌}
use Rattle.std.specs.Prelude.{Some}
use Rattle.std.specs.List.{AllZip}
use Rattle.hyd_num.specs.Rational.{Rational}
use Rattle.hyd_spec.specs.ProgramTypes.{Project, Junction}
use Rattle.hyd_spec.specs.Lists.{joined, map_from}
use Rattle.hyd_spec.specs.NodeNumbers.{junction_count}
use Rattle.hyd_spec_certificates.specs.declared.StopCause.TheVariants.{Demand as DemandOutOfRange}
use Rattle.hyd_spec_reports.specs.ReportLine.{stop_line, done_line}
use Rattle.hyd_spec_pressure_targets.specs.declared.Bracket.{Bracket}
use Rattle.hyd_spec_pressure_targets.specs.declared.ClosureWord.{ClosureWord}
use Rattle.hyd_spec_pressure_targets.specs.TargetHeads.{target_low, target_high}
use Rattle.hyd_spec_pressure_targets.specs.FirstPeriod.{pipes_of}
use Rattle.hyd_spec_pressure_targets.specs.LinesOfTargets.{IsFireLine, shut_line, word_line}
use Rattle.hyd_spec_pressure_targets.specs.PromisesOfTargets.{IsJunctionNamed}
use Rattle.hyd_spec_spread.specs.Spreads.{Spread}
use Rattle.hyd_spec_spread_runs.specs.OutermostPairs.{Pair}
use Rattle.hyd_spec_spread_stops.specs.StopsOfSpreads.{IsFirstDemandOver}
use Rattle.hyd_spec_spread_targets.specs.FirstPeriodWithin.{IsFirstPair, IsFirstPairWithShut}
use Rattle.hyd_spec_spread_targets.specs.BracketsOverPairs.{IsBracketOver, IsEnoughWithin, IsTooMuchWithin}
use Rattle.hyd_spec_spread_targets.specs.WordsOverPairs.{IsWordOver, WordHoldsWithin}

-- ---- a bracket

-- The one line that was printed is that of the bracket of the junction with the target, and every assignment with a
-- draw within the spread agrees with it.
pub record FindsBracketWithin (project : Project) (spread : Spread) (name : List ℕ) (target : Rational) (rounds : ℕ)
    (printed : List ℕ) : Type 0 where
  pub place : ℕ
  pub is_place : IsJunctionNamed project name place
  pub junction : Junction
  pub is_junction : slice_get project.junctions.list place ≡ Some junction
  pub pair : Pair
  pub is_pair : IsFirstPair project spread pair
  pub bracket : Bracket
  pub is_bracket : IsBracketOver pair place (target_low junction.elevation target)
      (target_high junction.elevation target) rounds bracket
  pub enough : IsEnoughWithin project spread place junction.elevation target bracket.below
  pub too_much : IsTooMuchWithin project spread place junction.elevation target bracket.above
  pub is_line : IsFireLine project place bracket printed

-- ---- closures

-- A pipe that was shut, the grids of the first period with it closed, and the word of each junction in order.
pub record ClosureWithin : Type 0 where
  pub pipe : ℕ
  pub pair : Pair
  pub words : List ClosureWord

-- The words of a closure are those of the junctions with the target, and every assignment within the spread with that
-- pipe closed agrees with them.
pub record IsClosureWithin (project : Project) (spread : Spread) (target : Rational) (rounds pipe : ℕ)
    (closure : ClosureWithin) : Type 0 where
  pub pipe_is : closure.pipe ≡ pipe
  pub are_pair : IsFirstPairWithShut project spread pipe closure.pair
  pub one_each : length closure.words ≡ junction_count project
  pub words : (j : ℕ) (junction : Junction) (word : ClosureWord)
      → slice_get project.junctions.list j ≡ Some junction → slice_get closure.words j ≡ Some word
      → IsWordOver closure.pair rounds j (target_low junction.elevation target) (target_high junction.elevation target)
      word
  pub holds : (j : ℕ) (junction : Junction) (word : ClosureWord)
      → slice_get project.junctions.list j ≡ Some junction → slice_get closure.words j ≡ Some word
      → WordHoldsWithin project spread pipe j junction.elevation target word

-- The lines of a closure: the pipe, and each junction that isn't safe.
abbrev pub closure_text : Project → ClosureWithin → List ℕ
closure_text project closure =
    shut_line project closure.pipe ++ joined (map_from (word_line project) 0 closure.words)

-- What was printed are the lines of the closure of each pipe, in order, and their number.
pub record FindsClosuresWithin (project : Project) (spread : Spread) (target : Rational) (rounds : ℕ)
    (printed : List ℕ) : Type 0 where
  pub closures : List ClosureWithin
  pub each : AllZip (IsClosureWithin project spread target rounds) (pipes_of project) closures
  pub is_text : printed ≡ joined (map (closure_text project) closures) ++ done_line (length closures)

-- A fault of the outside ended the work: what was printed is a front of the lines of the closures of the first pipes,
-- and of their number where these are all.
pub record ClosuresWithinBreakOff (project : Project) (spread : Spread) (target : Rational) (rounds : ℕ)
    (printed : List ℕ) : Type 0 where
  pub closures : List ClosureWithin
  pub each : AllZip (IsClosureWithin project spread target rounds) (take (length closures) (pipes_of project)) closures
  pub is_whole : Bool
  pub all : IsTrue is_whole → length closures ≡ length (pipes_of project)
  pub unprinted : List ℕ
  pub front : printed ++ unprinted ≡ joined (map (closure_text project) closures)
      ++ (if is_whole then done_line (length closures) else [])

-- ---- a demand out of range

-- The line that was printed names the first junction of whose demand an end is out of range in the first period.
pub record NamesDemandWithin (project : Project) (spread : Spread) (printed : List ℕ) : Type 0 where
  pub junction : ℕ
  pub demand : ℤ
  pub first : IsFirstDemandOver project spread 0 junction demand
  pub is_line : printed ≡ stop_line project 0 (DemandOutOfRange 0 junction demand)
