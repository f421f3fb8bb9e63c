-- How a period ends by a record is the same of alike parts.
use Rattle.std.proofs.Common.{◌≢◌, ℕ, ◌+◌, ◌≤◌, ◌⊎◌, inl, inr, ℤ, Bool, IsTrue, List, [], subst}
use Rattle.std.specs.Prelude.{IsFalse}
use Rattle.std.specs.List.{list_any}
use Rattle.hyd_spec.specs.ProgramTypes.{Project, Tank}
use Rattle.hyd_spec.specs.declared.Change.{Change}
use Rattle.hyd_spec.specs.Tank.{Walls, walls_of}
use Rattle.hyd_spec.specs.PeriodLength.{IsLeast, EndsByClock, step, duration, pattern, report, control_time}
use Rattle.hyd_spec.specs.PeriodLength.{control_clock}
use Rattle.hyd_spec_certificates.specs.Interval.{Interval}
use Rattle.hyd_spec_certificates.specs.PeriodNetwork.{Grid}
use Rattle.hyd_spec_certificates.specs.RecordAndStanding.{Record, Standing}
use Rattle.hyd_spec_certificates.specs.Stocks.{Stocks, may_reach, must_reach}
use Rattle.hyd_spec_certificates.specs.declared.Verdict.{Verdict}
use Rattle.hyd_spec_certificates.specs.ThreeValuedLogic.{is_unknown}
use Rattle.hyd_spec_certificates.specs.Decided.{stocks_of_tank, inflow_of_tank, SomeReaches, IsClockLength}
use Rattle.hyd_spec_certificates.specs.Decided.{IsEarliestEnd, IsLatestEnd, rule_truths, decided_changes, IsTried}
use Rattle.hyd_spec_certificates.specs.Decided.{RulesMatter, IsFirstMatter, NoRuleMatters, EndsBy, ByRules}
use Rattle.hyd_spec_certificates.specs.Decided.{WithoutRules, by_rules, by_clock}
use Rattle.hyd_theorems_on_rereading.proofs.PartsWithSpares.{Inner, with_inner, AreAlike, turned}
use Rattle.hyd_theorems_on_rereading.proofs.SameQuantities.{same_walls}
use Rattle.hyd_theorems_on_rereading.proofs.SameDecidedMatters.{same_inflow, same_truths, same_decided}

-- ---- the least of what holds

pub least_on : (A B : ℕ → Type 0) → ((k : ℕ) → A k → B k) → ((k : ℕ) → B k → A k) → (e : ℕ) → IsLeast A e → IsLeast B e
least_on A B on back e is = record { holds = on e is.holds; least = λ k b. is.least k (back k b) }

-- ---- the clock

module _ (p : Project) (x y : Inner) (time : ℕ) where
  pub clock_on : (e : ℕ) → EndsByClock (with_inner p x) time e → EndsByClock (with_inner p y) time e
  clock_on e (step l is) = step l is
  clock_on e (duration l is) = duration l is
  clock_on e (pattern l is) = pattern l is
  clock_on e (report l from is) = report l from is
  clock_on e (control_time control is at l) = control_time control is at l
  clock_on e (control_clock control at is when shows l) = control_clock control at is when shows l

clock_length_on : (p : Project) (x y : Inner) (time cap : ℕ) → IsClockLength (with_inner p x) time cap
    → IsClockLength (with_inner p y) time cap
clock_length_on p x y time cap is = least_on (EndsByClock (with_inner p x) time) (EndsByClock (with_inner p y) time)
    (clock_on p x y time) (clock_on p y x time) (time + cap) is

-- ---- levels

module _ (test : Walls → Tank → Stocks → Interval → ℤ → Bool → ℕ → Bool) (p : Project) (grid : Grid)
    (standing : Standing) (row : Record) where
  pub reaches_on : (x y : Inner) → AreAlike x y → (seconds : ℕ)
      → SomeReaches test (with_inner p x) grid standing row seconds
      → SomeReaches test (with_inner p y) grid standing row seconds
  reaches_on x y alike seconds is = record {
    watch = is.watch;
    is_watched = is.is_watched;
    tank = is.tank;
    is_tank = is.is_tank;
    reached = subst (λ (walls : Walls). IsTrue (test walls is.tank (stocks_of_tank standing is.watch.tank)
        (inflow_of_tank (with_inner p y) grid row is.watch.tank) is.watch.target is.watch.rising seconds))
        (same_walls p x y alike is.tank)
        (subst (λ (inflow : Interval). IsTrue (test (walls_of (with_inner p x) is.tank) is.tank
        (stocks_of_tank standing is.watch.tank) inflow is.watch.target is.watch.rising seconds))
        (same_inflow p x y alike grid standing row is.watch.tank) is.reached);
  }

  -- by the clock, or by a level
  abbrev End : Inner → ℕ → Type 0
  End x s = IsClockLength (with_inner p x) standing.time s
      ⊎ ((1 ≤ s) × SomeReaches test (with_inner p x) grid standing row s)

  either_on : (x y : Inner) → AreAlike x y → (s : ℕ) → End x s → End y s
  either_on x y alike s (inl is) = inl (clock_length_on p x y standing.time s is)
  either_on x y alike s (inr is) = inr (is.0, reaches_on x y alike s is.1)

  end_on : (x y : Inner) → AreAlike x y → (second : ℕ) → IsLeast (End x) second → IsLeast (End y) second
  end_on x y alike second is =
      least_on (End x) (End y) (either_on x y alike) (either_on y x (turned x y alike)) second is

module _ (p : Project) (grid : Grid) (standing : Standing) (row : Record) where
  earliest_on : (x y : Inner) → AreAlike x y → (second : ℕ)
      → IsEarliestEnd (with_inner p x) grid standing row second
      → IsEarliestEnd (with_inner p y) grid standing row second
  earliest_on x y alike second is = end_on may_reach p grid standing row x y alike second is

  latest_on : (x y : Inner) → AreAlike x y → (second : ℕ)
      → IsLatestEnd (with_inner p x) grid standing row second
      → IsLatestEnd (with_inner p y) grid standing row second
  latest_on x y alike second is = end_on must_reach p grid standing row x y alike second is

  -- ---- rules

  pub tried_on : (x y : Inner) (seconds : ℕ) → IsTried (with_inner p x) standing seconds
      → IsTried (with_inner p y) standing seconds
  tried_on x y seconds is = record { later = is.later; is_multiple = is.is_multiple }

  open_or_changing : (x y : Inner) → AreAlike x y → (seconds : ℕ)
      → IsTrue (list_any is_unknown (rule_truths (with_inner p x) grid standing row seconds))
      ⊎ (decided_changes (with_inner p x) grid standing row seconds ≢ [])
      → IsTrue (list_any is_unknown (rule_truths (with_inner p y) grid standing row seconds))
      ⊎ (decided_changes (with_inner p y) grid standing row seconds ≢ [])
  open_or_changing x y alike seconds (inl is) = inl (subst (λ (ts : List Verdict). IsTrue (list_any is_unknown ts))
      (same_truths p x y alike grid standing row seconds) is)
  open_or_changing x y alike seconds (inr is) = inr (subst (λ (cs : List Change). cs ≢ [])
      (same_decided p x y alike grid standing row seconds) is)

  matter_on : (x y : Inner) → AreAlike x y → (seconds : ℕ)
      → RulesMatter (with_inner p x) grid standing row seconds
      → RulesMatter (with_inner p y) grid standing row seconds
  matter_on x y alike seconds is = record {
    tried = tried_on x y seconds is.tried;
    matters = open_or_changing x y alike seconds is.matters;
  }

  first_on : (x y : Inner) → AreAlike x y → (seconds : ℕ)
      → IsFirstMatter (with_inner p x) grid standing row seconds
      → IsFirstMatter (with_inner p y) grid standing row seconds
  first_on x y alike seconds is = record {
    not_last = is.not_last;
    earliest = is.earliest;
    is_earliest = earliest_on x y alike is.earliest is.is_earliest;
    in_time = is.in_time;
    first = least_on (RulesMatter (with_inner p x) grid standing row) (RulesMatter (with_inner p y) grid standing row)
        (matter_on x y alike) (matter_on y x (turned x y alike)) seconds is.first;
  }

  none_on : (x y : Inner) → AreAlike x y → (earliest : ℕ)
      → NoRuleMatters (with_inner p x) grid standing row earliest
      → NoRuleMatters (with_inner p y) grid standing row earliest
  none_on x y alike earliest is = record {
    not_last = is.not_last;
    is_earliest = earliest_on x y alike earliest is.is_earliest;
    none = λ seconds matters. is.none seconds (matter_on y x (turned x y alike) seconds matters);
  }

  -- ---- the end

  pub ends_by_rules : (x y : Inner) → AreAlike x y → (seconds : ℕ)
      → EndsBy (with_inner p x) grid standing row (ByRules seconds)
      → EndsBy (with_inner p y) grid standing row (ByRules seconds)
  ends_by_rules x y alike seconds (by_rules first decided) = by_rules (first_on x y alike seconds first)
      (subst (λ (ts : List Verdict). IsFalse (list_any is_unknown ts))
      (same_truths p x y alike grid standing row seconds) decided)

  pub ends_without : (x y : Inner) → AreAlike x y → (seconds : ℕ)
      → EndsBy (with_inner p x) grid standing row (WithoutRules seconds)
      → EndsBy (with_inner p y) grid standing row (WithoutRules seconds)
  ends_without x y alike seconds (by_clock none latest) =
      by_clock (none_on x y alike seconds none) (latest_on x y alike seconds latest)
