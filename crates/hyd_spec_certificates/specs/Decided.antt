-- Decided matters: what certificates leave no doubt about. A matter is decided where it has one answer for all
-- points of the intervals.
-- Source: this program's; the matters are those of EPANET 2.2 User Manual, chapter 3 (tanks, controls, time steps).
use Rattle.std.specs.Prelude.{◌≡◌, ◌≢◌, ℕ, suc, ◌+◌, ◌%◌, ◌<◌, ◌≤◌, ℤ, pos, neg_ℤ, Bool, true, false, IsTrue, IsFalse}
use Rattle.std.specs.Prelude.{◌⊎◌, List, [], ◌∷◌, ◌++◌, Option, Some, None, map, slice_get, slice_index_or}
use Rattle.std.specs.Prelude.{if◌then◌else◌, int_le, unsigned_abs, Contains, position}
use Rattle.std.specs.Int.{int_max}
use Rattle.std.specs.List.{list_any}
use Rattle.hyd_spec.specs.ProgramTypes.{Project, Tank, LinkState, Control, When, AtLevel, Rule, RuleClause, Clause}
use Rattle.hyd_spec.specs.declared.TankState.{TankState}
use Rattle.hyd_spec.specs.declared.Change.{Change}
use Rattle.hyd_spec_certificates.specs.declared.Problem.TheVariants.{Main}
use Rattle.hyd_spec_certificates.specs.declared.Side.TheVariants.{Upper, Lower}
use Rattle.hyd_spec_certificates.specs.declared.Truth.{Truth}
use Rattle.hyd_spec_certificates.specs.declared.Truth.TheVariants.{True, False, Open}
use Rattle.hyd_spec.specs.Lists.{map_from, present}
use Rattle.hyd_num.specs.Rational.{whole, floor, ceiling}
use Rattle.hyd_spec_certificates.specs.Interval.{Interval, exactly}
use Rattle.hyd_spec.specs.NodeNumbers.{tank_node}
use Rattle.hyd_spec.specs.Tank.{Walls, walls_of, reaches}
use Rattle.hyd_spec.specs.LinkLaw.{is_full, is_empty}
use Rattle.hyd_spec.specs.PumpPatternsAndSimpleControls.{started}
use Rattle.hyd_spec.specs.Rules.{Readings, clause_holds, groups_of, rule_changes, measured}
use Rattle.hyd_spec.specs.PeriodLength.{IsLeast, EndsByClock}
use Rattle.hyd_spec_certificates.specs.PeriodNetwork.{Grid, all_heads}
use Rattle.hyd_spec_certificates.specs.FlowIntervals.{flow_box, inflow_box}
use Rattle.hyd_spec_certificates.specs.RecordAndStanding.{Record, Standing}
use Rattle.hyd_spec_certificates.specs.Stocks.{Stocks, carried_levels, may_reach, must_reach}
use Rattle.hyd_spec_certificates.specs.declared.Verdict.{Verdict}
use Rattle.hyd_spec_certificates.specs.declared.Verdict.TheVariants.{Yes, No, Unknown}
use Rattle.hyd_spec_certificates.specs.ThreeValuedLogic.{at_both_ends, is_yes, is_unknown}
use Rattle.hyd_spec_certificates.specs.ThreeValuedLogic.{some_holds}
use Rattle.hyd_spec_certificates.specs.ThreeValuedLogic.{all_hold}

-- ---- intervals of a period

-- Heads of all nodes below (head ticks), from the LOWER vector with all tanks alike.
abbrev pub heads_below : Grid → Record → List ℤ
heads_below grid row = all_heads grid Main Lower row.main.lower

-- Heads of all nodes above (head ticks), from the UPPER vector with all tanks alike.
abbrev pub heads_above : Grid → Record → List ℤ
heads_above grid row = all_heads grid Main Upper row.main.upper

-- The flow box of each link (flow ticks).
abbrev pub flow_boxes : Grid → Record → List Interval
flow_boxes grid row = map (λ link. flow_box link (heads_below grid row) (heads_above grid row)) grid.links

-- The inflow box of each tank, from the vectors with it pinned.
abbrev pub inflow_boxes : Project → Grid → Record → List Interval
inflow_boxes project grid row =
    map_from (λ k vectors. inflow_box grid k (tank_node project k) vectors.lower vectors.upper) 0 row.pinned

-- What stands for the interval of a tank that isn't there.
abbrev pub nowhere : Interval
nowhere = exactly (pos 0)

-- The level interval (head ticks) of tank number k at the start.
abbrev pub level_of_tank : Standing → ℕ → Interval
level_of_tank standing k = slice_index_or standing.levels k nowhere

-- The stocks of tank number k at the start.
abbrev pub stocks_of_tank : Standing → ℕ → Stocks
stocks_of_tank standing k = record {
  level = level_of_tank standing k;
  volume = slice_index_or standing.volumes k nowhere;
}

-- The inflow interval (flow ticks) of tank number k.
abbrev pub inflow_of_tank : Project → Grid → Record → ℕ → Interval
inflow_of_tank project grid row k = slice_index_or (inflow_boxes project grid row) k nowhere

-- ---- level controls

-- A level control on a level interval.
abbrev pub control_truth : Interval → Bool → ℤ → Verdict
control_truth level above ticks = at_both_ends (reaches 1 above ticks (whole level.lo))
    (reaches 1 above ticks (whole level.hi))

-- Whether a level control acts at the level intervals of a standing, where it is decided.
abbrev pub acts_on : List Interval → ℕ → Bool → ℤ → Bool
acts_on levels tank above ticks = is_yes (control_truth (slice_index_or levels tank nowhere) above ticks)

-- The link states of the period that begins at a standing.
abbrev pub links_at : Project → Standing → List LinkState
links_at project standing = started project standing.time (acts_on standing.levels) standing.commanded

-- ---- events

-- A level (head ticks) that is watched: a tank that isn't full for its maximum, one that isn't empty for its minimum,
-- and the tank of a level control that doesn't hold for the control's level.
pub record Watch : Type 0 where
  pub tank : ℕ
  pub target : ℤ
  pub rising : Bool

-- The bounds that tanks in these states are watched for, from tank number k on.
abbrev pub tank_watches : ℕ → List Tank → List TankState → List Watch
tank_watches k [] states = []
tank_watches k (tank ∷ tanks) [] = []
tank_watches k (tank ∷ tanks) (state ∷ states) =
    (if is_full state then [] else record { tank = k; target = tank.maximum; rising = true } ∷ [])
    ++ ((if is_empty state then [] else record { tank = k; target = tank.minimum; rising = false } ∷ [])
    ++ tank_watches (suc k) tanks states)

-- A level control that doesn't hold at the start (each is decided there).
abbrev pub watch_of : List Interval → Control → Option Watch
watch_of levels control = by_when control.when
  where
    by_when : When → Option Watch
    by_when (AtLevel tank above ticks) =
        if acts_on levels tank above ticks then None
        else Some (record { tank = tank; target = ticks; rising = above })
    by_when when = None

-- All levels that are watched during the period: bounds of tanks, then levels of controls.
abbrev pub watches : Project → Standing → List Watch
watches project standing =
    tank_watches 0 project.tanks.list standing.tanks
    ++ present (map (watch_of standing.levels) project.controls.list)

-- A watched level reaches its target some seconds after the start, by a test of its tank's walls, of the tank, of its
-- stocks and inflow, of the target and its direction, and of the seconds.
pub record SomeReaches (test : Walls → Tank → Stocks → Interval → ℤ → Bool → ℕ → Bool)
    (project : Project) (grid : Grid) (standing : Standing) (row : Record) (seconds : ℕ) : Type 0 where
  pub watch : Watch
  pub is_watched : Contains (watches project standing) watch
  pub tank : Tank
  pub is_tank : slice_get project.tanks.list watch.tank ≡ Some tank
  pub reached : IsTrue (test (walls_of project tank) tank (stocks_of_tank standing watch.tank)
      (inflow_of_tank project grid row watch.tank) watch.target watch.rising seconds)

-- A watched level may have reached its target some seconds after the start.
abbrev pub SomeMayReach : Project → Grid → Standing → Record → ℕ → Type 0
SomeMayReach project grid standing row seconds = SomeReaches may_reach project grid standing row seconds

-- A watched level must have reached its target some seconds after the start.
abbrev pub SomeMustReach : Project → Grid → Standing → Record → ℕ → Type 0
SomeMustReach project grid standing row seconds = SomeReaches must_reach project grid standing row seconds

-- The length that the clock allows a period.
abbrev pub IsClockLength : Project → ℕ → ℕ → Type 0
IsClockLength project time cap = IsLeast (EndsByClock project time) (time + cap)

-- The earliest second after the start at which the clock or an event may end the period.
abbrev pub IsEarliestEnd : Project → Grid → Standing → Record → ℕ → Type 0
IsEarliestEnd project grid standing row second =
    IsLeast (λ s. IsClockLength project standing.time s ⊎ ((1 ≤ s) × SomeMayReach project grid standing row s)) second

-- The first second after the start by which the clock or an event must have ended the period: its latest end.
abbrev pub IsLatestEnd : Project → Grid → Standing → Record → ℕ → Type 0
IsLatestEnd project grid standing row second =
    IsLeast (λ s. IsClockLength project standing.time s ⊎ ((1 ≤ s) × SomeMustReach project grid standing row s)) second

-- ---- rules

-- The least magnitude of the numbers of an interval.
abbrev pub least_magnitude : Interval → ℕ
least_magnitude x =
    if int_le (pos 0) x.lo then unsigned_abs x.lo
    else if int_le x.hi (pos 0) then unsigned_abs x.hi
    else 0

-- The greatest magnitude of the numbers of an interval.
abbrev pub greatest_magnitude : Interval → ℕ
greatest_magnitude x = unsigned_abs (int_max x.hi (neg_ℤ x.lo))

-- The carried level intervals some seconds after the start.
abbrev pub carried_at : Project → Grid → Standing → Record → ℕ → List Interval
carried_at project grid standing row seconds =
    map_from (λ k tank. carried_levels (walls_of project tank) tank (stocks_of_tank standing k)
    (inflow_of_tank project grid row k) seconds) 0 project.tanks.list

-- What the rules look at, from below.
abbrev pub readings_below : Project → Grid → Standing → Record → ℕ → Readings
readings_below project grid standing row seconds = record {
  heads = heads_below grid row;
  levels = map (λ level. whole level.lo) (carried_at project grid standing row seconds);
  flows = map least_magnitude (flow_boxes grid row);
  links = links_at project standing;
}

-- What the rules look at, from above.
abbrev pub readings_above : Project → Grid → Standing → Record → ℕ → Readings
readings_above project grid standing row seconds = record {
  heads = heads_above grid row;
  levels = map (λ level. whole level.hi) (carried_at project grid standing row seconds);
  flows = map greatest_magnitude (flow_boxes grid row);
  links = links_at project standing;
}

-- A clause at a time, where what the rules look at lies between two readings. A comparison goes one way, so that both
-- ends decide; `=` and `<>` compare times and status words alone, which are the same in both readings.
abbrev pub clause_between : Project → ℕ → Readings → Readings → Clause → Verdict
clause_between project time below above clause =
    at_both_ends (clause_holds project 1 time below clause) (clause_holds project 1 time above clause)

-- A rule there, by three-valued logic over its groups.
abbrev pub rule_between : Project → ℕ → Readings → Readings → Rule → Verdict
rule_between project time below above rule =
    all_hold (map (λ group. some_holds (map (clause_between project time below above) group)) (groups_of rule))

-- The clause of a rule that is open there, the first by itself, and what it measures from below and above, in head or
-- flow ticks, of a flow its magnitude, rounded outward to whole ticks.
pub record IsOpenClause (project : Project) (time : ℕ) (below above : Readings) (rule : Rule) (clause : ℕ)
    (lo hi : ℤ) : Type 0 where
  pub first_clause : position (λ each. is_unknown (clause_between project time below above each.clause))
      rule.clauses.list
      ≡ Some clause
  pub each : RuleClause
  pub is_clause : slice_get rule.clauses.list clause ≡ Some each
  pub lo_is : lo ≡ floor (measured project 1 below each.clause.what)
  pub hi_is : hi ≡ ceiling (measured project 1 above each.clause.what)

-- What is known of a rule there: it is true, it is false, or it is open by a clause.
abbrev pub IsTruthBetween : Project → ℕ → Readings → Readings → Rule → Truth → Type 0
IsTruthBetween project time below above rule True = rule_between project time below above rule ≡ Yes
IsTruthBetween project time below above rule False = rule_between project time below above rule ≡ No
IsTruthBetween project time below above rule (Open clause lo hi) =
    (rule_between project time below above rule ≡ Unknown) × IsOpenClause project time below above rule clause lo hi

-- A clause at an instant, `seconds` after the start.
abbrev pub clause_truth : Project → Grid → Standing → Record → ℕ → Clause → Verdict
clause_truth project grid standing row seconds clause =
    clause_between project (standing.time + seconds) (readings_below project grid standing row seconds)
    (readings_above project grid standing row seconds) clause

-- A rule some seconds after the start.
abbrev pub rule_truth : Project → Grid → Standing → Record → ℕ → Rule → Verdict
rule_truth project grid standing row seconds rule =
    rule_between project (standing.time + seconds) (readings_below project grid standing row seconds)
    (readings_above project grid standing row seconds) rule

-- The truths of all rules, in order.
abbrev pub rule_truths : Project → Grid → Standing → Record → ℕ → List Verdict
rule_truths project grid standing row seconds =
    map (rule_truth project grid standing row seconds) project.rules.list

-- What the rules change at an instant at which all of them are decided.
abbrev pub decided_changes : Project → Grid → Standing → Record → ℕ → List Change
decided_changes project grid standing row seconds =
    rule_changes project (map is_yes (rule_truths project grid standing row seconds)) (links_at project standing)

-- The rules are tried some seconds after the start: at a multiple of the rule step.
pub record IsTried (project : Project) (standing : Standing) (seconds : ℕ) : Type 0 where
  pub later : 0 < seconds
  pub is_multiple : (standing.time + seconds) % project.times.rule ≡ 0

-- The rules matter there: one is open, or they change a link.
pub record RulesMatter (project : Project) (grid : Grid) (standing : Standing) (row : Record) (seconds : ℕ) : Type 0
  where
    pub tried : IsTried project standing seconds
    pub matters : IsTrue (list_any is_unknown (rule_truths project grid standing row seconds))
        ⊎ (decided_changes project grid standing row seconds ≢ [])

-- ---- the end of a period

-- A rule that is open: the first open rule, its first clause that is open by itself, and the two ends of what that
-- clause measures.
pub record OpenRule : Type 0 where
  pub rule : ℕ
  pub clause : ℕ
  pub lo : ℤ
  pub hi : ℤ

-- Some seconds after the start this is the open rule.
pub record IsOpenRule (project : Project) (grid : Grid) (standing : Standing) (row : Record) (seconds : ℕ)
    (open_rule : OpenRule) : Type 0 where
  pub first_rule : position is_unknown (rule_truths project grid standing row seconds) ≡ Some open_rule.rule
  pub rule : Rule
  pub is_rule : slice_get project.rules.list open_rule.rule ≡ Some rule
  pub clause_is : IsOpenClause project (standing.time + seconds) (readings_below project grid standing row seconds)
      (readings_above project grid standing row seconds) rule open_rule.clause open_rule.lo open_rule.hi

-- How a period that doesn't begin at the end of the run ends: after so many seconds, by the rules or without them;
-- or it is open by a rule, or between two seconds.
pub data End : Type 0 where
  ByRules : ℕ → End
  WithoutRules : ℕ → End
  RuleIsOpen : OpenRule → End
  EventIsOpen : ℕ → ℕ → End

-- The first instant at which the rules matter, up to the earliest end, of a period that doesn't begin at the end of the
-- run.
pub record IsFirstMatter (project : Project) (grid : Grid) (standing : Standing) (row : Record) (seconds : ℕ) : Type 0
  where
    pub not_last : standing.time ≢ project.times.duration
    pub earliest : ℕ
    pub is_earliest : IsEarliestEnd project grid standing row earliest
    pub in_time : seconds ≤ earliest
    pub first : IsLeast (RulesMatter project grid standing row) seconds

-- The rules matter at no instant up to the earliest end, in such a period.
pub record NoRuleMatters (project : Project) (grid : Grid) (standing : Standing) (row : Record) (earliest : ℕ) : Type
    0 where
  pub not_last : standing.time ≢ project.times.duration
  pub is_earliest : IsEarliestEnd project grid standing row earliest
  pub none : (seconds : ℕ) → RulesMatter project grid standing row seconds → earliest < seconds

-- The certificates of the record decide the end so. Where a rule is open at the first instant at which the rules
-- matter, the end is open by it; where they only change links there, it goes to that instant; where they
-- matter at no instant up to the earliest end, it is decided exactly where the latest end is the same.
pub data EndsBy (project : Project) (grid : Grid) (standing : Standing) (row : Record) : End → Type 0 where
  by_rules : {seconds : ℕ} → IsFirstMatter project grid standing row seconds
      → IsFalse (list_any is_unknown (rule_truths project grid standing row seconds))
      → EndsBy project grid standing row (ByRules seconds)
  rule_is_open : {seconds : ℕ} {open_rule : OpenRule} → IsFirstMatter project grid standing row seconds
      → IsOpenRule project grid standing row seconds open_rule
      → EndsBy project grid standing row (RuleIsOpen open_rule)
  by_clock : {second : ℕ} → NoRuleMatters project grid standing row second
      → IsLatestEnd project grid standing row second
      → EndsBy project grid standing row (WithoutRules second)
  event_is_open : {earliest latest : ℕ} → NoRuleMatters project grid standing row earliest
      → IsLatestEnd project grid standing row latest → earliest ≢ latest
      → EndsBy project grid standing row (EventIsOpen earliest latest)
