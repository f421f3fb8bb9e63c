-- What the two commands on pressure targets promise: what is printed, and what it says of every assignment of the first
-- period.
-- Source: this program's.
use Rattle.std.specs.Prelude.{◌≡◌, ℕ, ◌<◌, ℤ, Bool, IsTrue, List, [], ◌++◌, length, map, take, slice_get}
use Rattle.std.specs.Prelude.{Some, if◌then◌else◌}
use Rattle.std.specs.List.{AllZip}
use Rattle.hyd_num.specs.Rational.{Rational}
use Rattle.hyd_spec.specs.ProgramTypes.{Project, Junction}
use Rattle.hyd_spec.specs.Lists.{joined, map_from}
use Rattle.hyd_spec.specs.NodeNumbers.{junction_count}
use Rattle.hyd_spec.specs.Assignment.{Assignment, head_at}
use Rattle.hyd_spec_certificates.specs.PeriodNetwork.{Grid}
use Rattle.hyd_spec_certificates.specs.declared.StopCause.TheVariants.{Demand as DemandOutOfRange}
use Rattle.hyd_spec_certificates.specs.Stops.{IsFirstDemand}
use Rattle.hyd_spec_reports.specs.ReportLine.{node_id, stop_line, done_line}
use Rattle.hyd_spec_pressure_targets.specs.declared.Bracket.{Bracket}
use Rattle.hyd_spec_pressure_targets.specs.declared.ClosureWord.{ClosureWord}
use Rattle.hyd_spec_pressure_targets.specs.TargetHeads.{target_low, target_high}
use Rattle.hyd_spec_pressure_targets.specs.FirstPeriod.{IsFirstGrid, IsFirstGridWithShut, IsFirstWithShut, pipes_of}
use Rattle.hyd_spec_pressure_targets.specs.BracketOfDraws.{IsBracket, IsEnough, IsTooMuch}
use Rattle.hyd_spec_pressure_targets.specs.ClosureWords.{IsWord, WordHolds}
use Rattle.hyd_spec_pressure_targets.specs.LinesOfTargets.{IsFireLine, shut_line, word_line}

-- ---- the junction that is asked of

-- Junction number j has the name.
pub record IsJunctionNamed (project : Project) (name : List ℕ) (j : ℕ) : Type 0 where
  pub inside : j < junction_count project
  pub named : node_id project j ≡ name

-- No junction has it, as where it is a reservoir's or a tank's.
abbrev pub NamesNoJunction : Project → List ℕ → Type 0
NamesNoJunction project name = (j : ℕ) → IsJunctionNamed project name j → ⊥

-- ---- a bracket

-- The one line that was printed is that of the bracket of the junction with the target, and every assignment with a
-- draw agrees with it.
pub record FindsBracket (project : Project) (name : List ℕ) (target : Rational) (rounds : ℕ)
    (printed : List ℕ) : Type 0 where
  pub place : ℕ
  pub is_place : IsJunctionNamed project name place
  pub junction : Junction
  pub is_junction : slice_get project.junctions.list place ≡ Some junction
  pub grid : Grid
  pub is_grid : IsFirstGrid project grid
  pub bracket : Bracket
  pub is_bracket : IsBracket grid place (target_low junction.elevation target) (target_high junction.elevation target)
      rounds bracket
  pub enough : IsEnough project place junction.elevation target bracket.below
  pub too_much : IsTooMuch project place junction.elevation target bracket.above
  pub is_line : IsFireLine project place bracket printed

-- ---- closures

-- A pipe that was shut, the grid of the first period with it closed, and the word of each junction in order.
pub record Closure : Type 0 where
  pub pipe : ℕ
  pub grid : Grid
  pub words : List ClosureWord

-- The words of a closure are those of the junctions with the target, and every assignment with that pipe closed agrees
-- with them.
pub record IsClosure (project : Project) (target : Rational) (rounds pipe : ℕ) (closure : Closure) : Type 0 where
  pub pipe_is : closure.pipe ≡ pipe
  pub is_grid : IsFirstGridWithShut project pipe closure.grid
  pub one_each : length closure.words ≡ junction_count project
  pub words : (j : ℕ) (junction : Junction) (word : ClosureWord)
      → slice_get project.junctions.list j ≡ Some junction → slice_get closure.words j ≡ Some word
      → IsWord closure.grid rounds j (target_low junction.elevation target) (target_high junction.elevation target) word
  pub holds : (S : ℕ) (assignment : Assignment) → IsFirstWithShut project S pipe assignment
      → (j : ℕ) (junction : Junction) (word : ClosureWord)
      → slice_get project.junctions.list j ≡ Some junction → slice_get closure.words j ≡ Some word
      → WordHolds S junction.elevation target (head_at assignment.heads j) word

-- The lines of a closure: the pipe, and each junction that isn't safe.
abbrev pub closure_text : Project → Closure → List ℕ
closure_text project closure =
    shut_line project closure.pipe ++ joined (map_from (word_line project) 0 closure.words)

-- What was printed are the lines of the closure of each pipe, in order, and their number.
pub record FindsClosures (project : Project) (target : Rational) (rounds : ℕ) (printed : List ℕ) : Type 0 where
  pub closures : List Closure
  pub each : AllZip (IsClosure project target rounds) (pipes_of project) closures
  pub is_text : printed ≡ joined (map (closure_text project) closures) ++ done_line (length closures)

-- A fault of the outside ended the work: what was printed is a front of the lines of the closures of the first pipes,
-- and of their number where these are all.
pub record ClosuresBreakOff (project : Project) (target : Rational) (rounds : ℕ) (printed : List ℕ) : Type 0 where
  pub closures : List Closure
  pub each : AllZip (IsClosure project target rounds) (take (length closures) (pipes_of project)) closures
  pub is_whole : Bool
  pub all : IsTrue is_whole → length closures ≡ length (pipes_of project)
  pub unprinted : List ℕ
  pub front : printed ++ unprinted ≡ joined (map (closure_text project) closures)
      ++ (if is_whole then done_line (length closures) else [])

-- ---- a demand out of range

-- The line that was printed names the first junction whose demand is out of range in the first period.
pub record NamesDemand (project : Project) (printed : List ℕ) : Type 0 where
  pub junction : ℕ
  pub demand : ℤ
  pub first : IsFirstDemand project 0 junction demand
  pub is_line : printed ≡ stop_line project 0 (DemandOutOfRange 0 junction demand)
