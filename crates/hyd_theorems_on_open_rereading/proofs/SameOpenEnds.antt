-- How a period ends whose start may be open is the same of alike parts.
use Rattle.std.proofs.Common.{◌≡◌, ◌≢◌, ℕ, ◌+◌, ◌-◌, ◌<◌, ◌≤◌, ◌⊎◌, inl, inr, ℤ, Bool, IsTrue, List, [], map, ap₂}
use Rattle.std.proofs.Common.{subst, ◌∙◌}
use Rattle.std.specs.Prelude.{Option}
use Rattle.std.specs.List.{list_any}
use Rattle.hyd_num.specs.Rational.{whole}
use Rattle.hyd_spec.specs.ProgramTypes.{Project, Tank, Rule, LinkState}
use Rattle.hyd_spec.specs.declared.Change.{Change}
use Rattle.hyd_spec.specs.Tank.{Walls, walls_of}
use Rattle.hyd_spec.specs.PeriodLength.{IsLeast}
use Rattle.hyd_spec.specs.Rules.{Readings, rule_changes, acted}
use Rattle.hyd_spec_certificates.specs.Interval.{Interval}
use Rattle.hyd_spec_certificates.specs.PeriodNetwork.{Grid}
use Rattle.hyd_spec_certificates.specs.RecordAndStanding.{Record, Standing}
use Rattle.hyd_spec_certificates.specs.Stocks.{Stocks, may_reach, must_reach}
use Rattle.hyd_spec_certificates.specs.declared.Verdict.{Verdict}
use Rattle.hyd_spec_certificates.specs.ThreeValuedLogic.{is_yes, is_unknown}
use Rattle.hyd_spec_certificates.specs.Decided.{Watch, stocks_of_tank, inflow_of_tank, links_at, SomeReaches}
use Rattle.hyd_spec_certificates.specs.Decided.{heads_below, heads_above, flow_boxes, least_magnitude}
use Rattle.hyd_spec_certificates.specs.Decided.{greatest_magnitude, rule_between}
use Rattle.hyd_spec_open_ends.specs.InstantsOfClock.{IsInstant, duration, pattern, report, control_time, control_clock}
use Rattle.hyd_spec_open_ends.specs.InstantsOfClock.{AreSecondsToInstant}
use Rattle.hyd_spec_open_ends.specs.OpenStandings.{OpenStanding}
use Rattle.hyd_spec_open_ends.specs.StocksOverLengths.{carried_levels_over}
use Rattle.hyd_spec_open_ends.specs.RulesOverLengths.{carried_over, readings_below_over, readings_above_over}
use Rattle.hyd_spec_open_ends.specs.RulesOverLengths.{open_rule_truth, open_rule_truths, SomeRuleIsOpen, open_changes}
use Rattle.hyd_spec_open_ends.specs.RulesOverLengths.{acted_over, RulesMatterOver, NoRuleMattersUpTo}
use Rattle.hyd_spec_open_ends.specs.OpenEnds.{AreSeconds, Way, EndsIn, by_rules, by_instant, by_watched}
use Rattle.hyd_spec_open_ends.specs.Arrivals.{MayComeBy, IsArrival, Arrives, one, competing}
use Rattle.hyd_spec_open_ends.specs.Arrivals.{by_rules as none_by_rules, by_instant as none_by_instant}
use Rattle.hyd_theorems_on_rereading.proofs.PartsWithSpares.{Inner, with_inner, IsLikeRule, AreAlike, turned}
use Rattle.hyd_theorems_on_rereading.proofs.SameQuantities.{same_walls}
use Rattle.hyd_theorems_on_rereading.proofs.SameLinkStatesAtStart.{same_links_at}
use Rattle.hyd_theorems_on_rereading.proofs.SameRules.{same_rule, same_changes, same_acted}
use Rattle.hyd_theorems_on_rereading.proofs.SameDecidedMatters.{same_map_from, zip_map, same_inflow}
use Rattle.hyd_theorems_on_rereading.proofs.SamePeriodEnds.{least_on, reaches_on, tried_on}

-- ---- instants of the clock

instant_on : (p : Project) (x y : Inner) (e : ℕ) → IsInstant (with_inner p x) e → IsInstant (with_inner p y) e
instant_on p x y e (duration is) = duration is
instant_on p x y e (pattern is) = pattern is
instant_on p x y e (report from is) = report from is
instant_on p x y e (control_time control is at) = control_time control is at
instant_on p x y e (control_clock control at is when shows) = control_clock control at is when shows

cap_on : (p : Project) (x y : Inner) (time cap : ℕ) → AreSecondsToInstant (with_inner p x) time cap
    → AreSecondsToInstant (with_inner p y) time cap
cap_on p x y time cap is =
    least_on (λ e. (time < e) × IsInstant (with_inner p x) e) (λ e. (time < e) × IsInstant (with_inner p y) e)
    (λ e is. (is.0, instant_on p x y e is.1)) (λ e is. (is.0, instant_on p y x e is.1)) (time + cap) is

-- ---- what is watched

module _ (test : Walls → Tank → Stocks → Interval → ℤ → Bool → ℕ → Bool) (p : Project) (grid : Grid)
    (standing : Standing) (row : Record) (cap : ℕ) where
  -- by the next instant, by the hydraulic step, or by a level
  abbrev IsWatched : Inner → ℕ → Type 0
  IsWatched x s =
      (s ≡ cap) ⊎ ((s ≡ p.times.hydraulic) ⊎ ((1 ≤ s) × SomeReaches test (with_inner p x) grid standing row s))

  watched_by : (x y : Inner) → AreAlike x y → (s : ℕ) → IsWatched x s → IsWatched y s
  watched_by x y alike s (inl at) = inl at
  watched_by x y alike s (inr (inl at)) = inr (inl at)
  watched_by x y alike s (inr (inr is)) = inr (inr (is.0, reaches_on test p grid standing row x y alike s is.1))

  watched_on : (x y : Inner) → AreAlike x y → (second : ℕ) → IsLeast (IsWatched x) second
      → IsLeast (IsWatched y) second
  watched_on x y alike second is = least_on (IsWatched x) (IsWatched y) (watched_by x y alike)
      (watched_by y x (turned x y alike)) second is

module _ (p : Project) (grid : Grid) (standing : Standing) (row : Record) where
  seconds_on : (x y : Inner) → AreAlike x y → (cap earliest latest : ℕ)
      → AreSeconds (with_inner p x) grid standing row cap earliest latest
      → AreSeconds (with_inner p y) grid standing row cap earliest latest
  seconds_on x y alike cap earliest latest are = record {
    not_last = are.not_last;
    is_cap = cap_on p x y standing.time cap are.is_cap;
    is_earliest = watched_on may_reach p grid standing row cap x y alike earliest are.is_earliest;
    is_latest = watched_on must_reach p grid standing row cap x y alike latest are.is_latest;
    in_order = are.in_order;
  }

-- ---- what rules look at

module _ (p : Project) (x y : Inner) (alike : AreAlike x y) (grid : Grid) (standing : OpenStanding) (row : Record) where
  same_carried_over : (shortest longest : ℕ)
      → carried_over (with_inner p x) grid standing.known row shortest longest
      ≡ carried_over (with_inner p y) grid standing.known row shortest longest
  same_carried_over shortest longest = same_map_from
      (λ k (tank : Tank). carried_levels_over (walls_of (with_inner p x) tank) tank (stocks_of_tank standing.known k)
      (inflow_of_tank (with_inner p x) grid row k) shortest longest)
      (λ k (tank : Tank). carried_levels_over (walls_of (with_inner p y) tank) tank (stocks_of_tank standing.known k)
      (inflow_of_tank (with_inner p y) grid row k) shortest longest)
      (λ k tank. ap₂ (λ (walls : Walls) (inflow : Interval). carried_levels_over walls tank
      (stocks_of_tank standing.known k) inflow shortest longest) (same_walls p x y alike tank)
      (same_inflow p x y alike grid standing.known row k)) 0 p.tanks.list

  same_below_over : (shortest longest : ℕ)
      → readings_below_over (with_inner p x) grid standing.known row shortest longest
      ≡ readings_below_over (with_inner p y) grid standing.known row shortest longest
  same_below_over shortest longest =
      ap₂ (λ (levels : List Interval) (links : List LinkState). record {
        heads = heads_below grid row;
        levels = map (λ (level : Interval). whole level.lo) levels;
        flows = map least_magnitude (flow_boxes grid row);
        links = links;
      }) (same_carried_over shortest longest) (same_links_at p x y alike standing.known)

  same_above_over : (shortest longest : ℕ)
      → readings_above_over (with_inner p x) grid standing.known row shortest longest
      ≡ readings_above_over (with_inner p y) grid standing.known row shortest longest
  same_above_over shortest longest =
      ap₂ (λ (levels : List Interval) (links : List LinkState). record {
        heads = heads_above grid row;
        levels = map (λ (level : Interval). whole level.hi) levels;
        flows = map greatest_magnitude (flow_boxes grid row);
        links = links;
      }) (same_carried_over shortest longest) (same_links_at p x y alike standing.known)

  same_open_truth : (seconds : ℕ) (a b : Rule) → IsLikeRule a b
      → open_rule_truth (with_inner p x) grid standing row seconds a
      ≡ open_rule_truth (with_inner p y) grid standing row seconds b
  same_open_truth seconds a b like =
      ap₂ (λ (below above : Readings). rule_between (with_inner p x) (standing.known.time + seconds) below above a)
      (same_below_over (seconds - standing.late) seconds) (same_above_over (seconds - standing.late) seconds)
      ∙ same_rule p x y alike (standing.known.time + seconds)
      (readings_below_over (with_inner p y) grid standing.known row (seconds - standing.late) seconds)
      (readings_above_over (with_inner p y) grid standing.known row (seconds - standing.late) seconds) a b like

  same_open_truths : (seconds : ℕ)
      → open_rule_truths (with_inner p x) grid standing row seconds
      ≡ open_rule_truths (with_inner p y) grid standing row seconds
  same_open_truths seconds = zip_map IsLikeRule (open_rule_truth (with_inner p x) grid standing row seconds)
      (open_rule_truth (with_inner p y) grid standing row seconds) (same_open_truth seconds) x.rules.list y.rules.list
      alike.rules

  pub same_open_changes : (seconds : ℕ)
      → open_changes (with_inner p x) grid standing row seconds
      ≡ open_changes (with_inner p y) grid standing row seconds
  same_open_changes seconds =
      ap₂ (λ (truths : List Verdict) (links : List LinkState). rule_changes (with_inner p x) (map is_yes truths) links)
      (same_open_truths seconds) (same_links_at p x y alike standing.known)
      ∙ same_changes p x y alike (map is_yes (open_rule_truths (with_inner p y) grid standing row seconds))
      (links_at (with_inner p y) standing.known)

  pub same_acted_over : (seconds : ℕ)
      → acted_over (with_inner p x) grid standing row seconds ≡ acted_over (with_inner p y) grid standing row seconds
  same_acted_over seconds =
      ap₂ (λ (truths : List Verdict) (links : List LinkState). acted (with_inner p x) (map is_yes truths) links)
      (same_open_truths seconds) (same_links_at p x y alike standing.known)
      ∙ same_acted p x y alike (map is_yes (open_rule_truths (with_inner p y) grid standing row seconds))
      (links_at (with_inner p y) standing.known)

module _ (p : Project) (grid : Grid) (standing : OpenStanding) (row : Record) where
  -- ---- rules that matter

  open_on : (x y : Inner) → AreAlike x y → (seconds : ℕ)
      → SomeRuleIsOpen (with_inner p x) grid standing row seconds
      → SomeRuleIsOpen (with_inner p y) grid standing row seconds
  open_on x y alike seconds is = subst (λ (ts : List Verdict). IsTrue (list_any is_unknown ts))
      (same_open_truths p x y alike grid standing row seconds) is

  open_or_changing : (x y : Inner) → AreAlike x y → (seconds : ℕ)
      → SomeRuleIsOpen (with_inner p x) grid standing row seconds
      ⊎ (open_changes (with_inner p x) grid standing row seconds ≢ [])
      → SomeRuleIsOpen (with_inner p y) grid standing row seconds
      ⊎ (open_changes (with_inner p y) grid standing row seconds ≢ [])
  open_or_changing x y alike seconds (inl is) = inl (open_on x y alike seconds is)
  open_or_changing x y alike seconds (inr is) = inr (subst (λ (cs : List Change). cs ≢ [])
      (same_open_changes p x y alike grid standing row seconds) is)

  matter_on : (x y : Inner) → AreAlike x y → (seconds : ℕ)
      → RulesMatterOver (with_inner p x) grid standing row seconds
      → RulesMatterOver (with_inner p y) grid standing row seconds
  matter_on x y alike seconds is = record {
    tried = tried_on p grid standing.known row x y seconds is.tried;
    matters = open_or_changing x y alike seconds is.matters;
  }

  first_on : (x y : Inner) → AreAlike x y → (seconds : ℕ)
      → IsLeast (RulesMatterOver (with_inner p x) grid standing row) seconds
      → IsLeast (RulesMatterOver (with_inner p y) grid standing row) seconds
  first_on x y alike seconds is =
      least_on (RulesMatterOver (with_inner p x) grid standing row) (RulesMatterOver (with_inner p y) grid standing row)
      (matter_on x y alike) (matter_on y x (turned x y alike)) seconds is

  none_on : (x y : Inner) → AreAlike x y → (last : ℕ) → NoRuleMattersUpTo (with_inner p x) grid standing row last
      → NoRuleMattersUpTo (with_inner p y) grid standing row last
  none_on x y alike last none = λ seconds matters. none seconds (matter_on y x (turned x y alike) seconds matters)

  -- ---- the way

  pub ends_on : (x y : Inner) → AreAlike x y → (way : Way) → EndsIn (with_inner p x) grid standing row way
      → EndsIn (with_inner p y) grid standing row way
  ends_on x y alike _ (by_rules {seconds = seconds} are first after in_time decided) =
      by_rules (seconds_on p grid standing.known row x y alike _ _ _ are) (first_on x y alike seconds first) after
      in_time (λ is. decided (open_on y x (turned x y alike) seconds is))
  ends_on x y alike _ (by_instant {cap = cap} are same none) =
      by_instant (seconds_on p grid standing.known row x y alike _ _ _ are) same (none_on x y alike cap none)
  ends_on x y alike _ (by_watched {latest = latest} are before none) =
      by_watched (seconds_on p grid standing.known row x y alike _ _ _ are) before
      (none_on x y alike (standing.late + latest) none)

-- ---- the level that is reached

module _ (p : Project) (grid : Grid) (standing : Standing) (row : Record) where
  comes_on : (x y : Inner) → AreAlike x y → (watch : Watch) (last : ℕ)
      → MayComeBy (with_inner p x) grid standing row watch last
      → MayComeBy (with_inner p y) grid standing row watch last
  comes_on x y alike watch last is = record {
    is_watched = is.is_watched;
    second = is.second;
    some = is.some;
    in_time = is.in_time;
    tank = is.tank;
    is_tank = is.is_tank;
    reached = subst (λ (walls : Walls). IsTrue (may_reach walls is.tank (stocks_of_tank standing watch.tank)
        (inflow_of_tank (with_inner p y) grid row watch.tank) watch.target watch.rising is.second))
        (same_walls p x y alike is.tank)
        (subst (λ (inflow : Interval). IsTrue (may_reach (walls_of (with_inner p x) is.tank) is.tank
        (stocks_of_tank standing watch.tank) inflow watch.target watch.rising is.second))
        (same_inflow p x y alike grid standing row watch.tank) is.reached);
  }

  arrival_on : (x y : Inner) → AreAlike x y → (latest : ℕ) (watch : Watch)
      → IsArrival (with_inner p x) grid standing row latest watch
      → IsArrival (with_inner p y) grid standing row latest watch
  arrival_on x y alike latest watch is =
      let back = comes_on y x (turned x y alike) in
      record {
        comes = comes_on x y alike watch latest is.comes;
        step_later = is.step_later;
        same_tank = λ other comes. is.same_tank other (back other latest comes);
        same_way = λ other comes. is.same_way other (back other latest comes);
        nearest = λ other comes. is.nearest other (back other latest comes);
      }

  pub arrives_on : (x y : Inner) → AreAlike x y → (way : Way) (reached : Option Watch)
      → Arrives (with_inner p x) grid standing row way reached
      → Arrives (with_inner p y) grid standing row way reached
  arrives_on x y alike _ _ none_by_rules = none_by_rules
  arrives_on x y alike _ _ none_by_instant = none_by_instant
  arrives_on x y alike _ _ (one {latest = latest} {watch = watch} is) = one (arrival_on x y alike latest watch is)
  arrives_on x y alike _ _ (competing {latest = latest} none) =
      competing (λ watch is. none watch (arrival_on y x (turned x y alike) latest watch is))
