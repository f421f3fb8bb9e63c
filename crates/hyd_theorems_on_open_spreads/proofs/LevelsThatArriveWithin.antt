-- Where levels of one tank and one direction alone may end a period, each history within the spread has reached the
-- nearest of them at its end, and not a second before.
use Rattle.std.proofs.Common.{◌≡◌, ◌≢◌, ℕ, suc, ◌+◌, ◌-◌, ◌<◌, ◌≤◌, ℤ, refl, sym}
use Rattle.std.proofs.Common.{ap}
use Rattle.std.proofs.Common.{subst, ◌∙◌, arith, Bool, true, false, ◌==◌, ◌⊎◌, inl, inr, nat_le}
use Rattle.std.specs.Prelude.{Option, Some, None, slice_get}
use Rattle.std.proofs.lemmas.Bool.{cases_Bool, cond_both, eqb-true, leb-true}
use Rattle.hyd_net.specs.Sound.{IsSound}
use Rattle.hyd_spec.specs.ProgramTypes.{Project, Tank}
use Rattle.hyd_spec.specs.Tank.{Walls, Stock, walls_of, exact_content, has_reached, tank_inflow}
use Rattle.hyd_spec.specs.PeriodLength.{Period, EndsByLevel, HasItsLength, by_level, stock_at_start}
use Rattle.hyd_spec.specs.PeriodLength.{reached_after}
use Rattle.hyd_spec_certificates.specs.Interval.{Interval}
use Rattle.hyd_spec_certificates.specs.Stocks.{least_stock, greatest_stock, exact_least, exact_greatest}
use Rattle.hyd_spec_certificates.specs.PeriodNetwork.{Grid}
use Rattle.hyd_spec_certificates.specs.RecordAndStanding.{Record}
use Rattle.hyd_spec_certificates.specs.Decided.{Watch, inflow_of_tank}
use Rattle.hyd_spec_open_ends.specs.OpenStandings.{OpenStanding}
use Rattle.hyd_spec_spread.specs.NetworksWithin.{NodeData, with_data}
use Rattle.hyd_spec_open_ends.specs.StocksOverLengths.{Arrival, goal_stocks}
use Rattle.hyd_spec_open_ends.specs.RulesOverLengths.{NoRuleMattersUpTo}
use Rattle.hyd_spec_open_ends.specs.OpenEnds.{AreSeconds, Way, EndsIn}
use Rattle.hyd_spec_open_ends.specs.OpenEnds.{by_rules as in_by_rules, by_instant as in_by_instant}
use Rattle.hyd_spec_open_ends.specs.OpenEnds.{by_watched as in_by_watched}
use Rattle.hyd_spec_open_ends.specs.Arrivals.{MayComeBy, IsNoFarther, IsArrival, Arrives, one, competing, arrival_of}
use Rattle.hyd_spec_open_ends.specs.Arrivals.{by_rules as none_by_rules, by_instant as none_by_instant}
use Rattle.hyd_theorems_on_definitions.specs.LyingInIntervals.{LiesIn}
use Rattle.hyd_lemmas.proofs.ListsOptionsAndResults.{same_item, same_some}
use Rattle.hyd_theorems_on_definitions.proofs.ValuesAtTwoScales.{Leads}
use Rattle.hyd_theorems_on_open_ends.specs.AgreementOverStarts.{begun_at}
use Rattle.hyd_theorems_on_open_ends.proofs.ContentsOverLengths.{cut-above, cut-below}
use Rattle.hyd_theorems_on_open_ends.proofs.ContentsAtGoals.{IsMeasured, nearer, within_reach, come_up, not_up}
use Rattle.hyd_theorems_on_open_ends.proofs.ContentsAtGoals.{come_down, not_down, measured}
use Rattle.hyd_theorems_on_open_ends.proofs.StocksOverLengths.{HasCome, from_below, from_above, AllHaveCome}
use Rattle.hyd_theorems_on_open_ends.proofs.WatchesOfStandings.{HasReached}
use Rattle.hyd_theorems_on_open_ends.proofs.LevelsThatArrive.{none_come}
use Rattle.hyd_theorems_on_spread.proofs.EndsAlike.{level-back}
use Rattle.hyd_theorems_on_open_spreads.specs.BoundedOpenly.{IsBoundedOpenly}
use Rattle.hyd_theorems_on_open_spreads.proofs.WatchesWithin.{level_reached, reached_ends, reached_may_be}
use Rattle.hyd_theorems_on_open_spreads.proofs.LengthsOverPairs.{goes, itself, watched_most}

-- a level that has been reached, with a farther one, and not a second before
module _ (S : ℕ) (some : 0 < S) (walls : Walls) (tank : Tank) (is : IsMeasured walls tank) (inflow : Interval)
    (stock : Stock) (q : ℤ) (length : ℕ) (flow : LiesIn S inflow q)
    (target farther : ℤ) (not_before : Bool) (two : not_before ≡ true → 2 ≤ length) where
  come-by : (rising : Bool) → IsNoFarther rising target farther
      → has_reached S walls tank stock q rising farther length ≡ true
      → ((before : ℕ) → 1 ≤ before → before < length → has_reached S walls tank stock q rising target before ≡ false)
      → AllHaveCome S walls tank inflow stock q length
      (Some (record { target = target; rising = rising; not_before = not_before }))
  come-by true near reached unreached = λ other e. subst (HasCome S walls tank inflow _)
      (same_item Arrival _ other e)
      (from_below target not_before (come_up S some tank stock q length walls is target now)
      passed)
    where
      now : has_reached S walls tank stock q true target length ≡ true
      now = nearer S some tank stock q length walls is true target farther near reached

      passed : not_before ≡ true → Leads S 1 (exact_content walls stock q length)
          (exact_greatest walls (goal_stocks walls tank true target) inflow 1)
      passed e =
          let l = two e in
          let n : suc (length - 1) ≡ length = omega (arith, l) in
          subst (λ m. Leads S 1 (exact_content walls stock q m)
          (exact_greatest walls (goal_stocks walls tank true target) inflow 1)) n
          (cut-above S walls (greatest_stock (goal_stocks walls tank true target)) inflow stock q (length - 1) flow
          (not_up S some tank stock q (length - 1) walls is target
          (within_reach S some tank stock q length walls is true target now)
          (unreached (length - 1) (omega (arith, l)) (omega (arith, l)))))
  come-by false near reached unreached = λ other e. subst (HasCome S walls tank inflow _)
      (same_item Arrival _ other e)
      (from_above target not_before (come_down S some tank stock q length walls is target now) passed)
    where
      now : has_reached S walls tank stock q false target length ≡ true
      now = nearer S some tank stock q length walls is false target farther near reached

      passed : not_before ≡ true → Leads 1 S (exact_least walls (goal_stocks walls tank false target) inflow 1)
          (exact_content walls stock q length)
      passed e =
          let l = two e in
          let n : suc (length - 1) ≡ length = omega (arith, l) in
          subst (λ m. Leads 1 S (exact_least walls (goal_stocks walls tank false target) inflow 1)
          (exact_content walls stock q m)) n
          (cut-below S walls (least_stock (goal_stocks walls tank false target)) inflow stock q (length - 1) flow
          (not_down S some tank stock q (length - 1) walls is target
          (within_reach S some tank stock q length walls is false target now)
          (unreached (length - 1) (omega (arith, l)) (omega (arith, l)))))

-- ---- in a period

module _ (project : Project) (sound : IsSound project) (nodes : NodeData) (S : ℕ) (period : Period) (grid : Grid)
    (standing : OpenStanding) (row : Record) (bounded : IsBoundedOpenly project nodes S period grid standing row)
    (not_last : standing.known.time ≢ project.times.duration) (has : HasItsLength (with_data project nodes) S period)
  where
    module _ (cap earliest latest : ℕ) (seconds : AreSeconds project grid standing.known row cap earliest latest)
        (before : standing.late + latest < cap)
        (none : NoRuleMattersUpTo project grid standing row (standing.late + latest)) (watch : Watch)
        (arrival : IsArrival project grid standing.known row latest watch) where
      most : period.length ≤ latest
      most = watched_most project sound nodes S period grid standing row bounded not_last has cap earliest latest seconds before

      -- what was reached at the end may have come by then
      comes-by : (other : Watch) → 1 ≤ period.length
          → (reached : HasReached project S period (begun_at standing.known period.time) period.length other)
          → MayComeBy project grid standing.known row other latest
      comes-by other some reached = record {
        is_watched = reached.is_watched;
        second = period.length;
        some = some;
        in_time = most;
        tank = reached.tank;
        is_tank = reached.is_tank;
        reached = reached_may_be project nodes S period grid (begun_at standing.known period.time) row bounded.own
            period.length other reached;
      }

      -- A watched level that has been reached at the end: one of the same tank and direction, met no earlier.
      record Reached (tank : Tank) : Type 0 where
        farther : ℤ
        no_nearer : IsNoFarther watch.rising watch.target farther
        reached : reached_after project S period watch.tank tank watch.rising farther period.length ≡ true

      at-the-end : (tank : Tank) → slice_get project.tanks.list watch.tank ≡ Some tank → Reached tank
      at-the-end tank at = by-case (itself project sound nodes S period grid standing row bounded not_last has cap earliest latest
          seconds before none)
        where
          by-level' : 1 ≤ period.length → (other : Watch)
              → HasReached project S period (begun_at standing.known period.time) period.length other → Reached tank
          by-level' some other reached =
              let comes = comes-by other some reached in
              let same = arrival.same_tank other comes in
              let way = arrival.same_way other comes in
              let own : reached.tank ≡ tank = same_some (slice_get project.tanks.list watch.tank) reached.tank tank
              (subst (λ k. slice_get project.tanks.list k ≡ Some reached.tank) same reached.is_tank) at in
              record {
                farther = other.target;
                no_nearer = arrival.nearest other comes;
                reached =
                    (λ i. reached_after project S period (sym same i) (sym own i) (sym way i) other.target period.length)
                    ∙ reached.reached;
              }

          by-case : (period.length ≡ project.times.hydraulic)
              ⊎ ((1 ≤ period.length) × EndsByLevel project S period period.length) → Reached tank
          by-case (inl is) = absurd (let m = most in let l = arrival.step_later in omega (arith, is, m, l))
          by-case (inr level) =
              let found = level_reached project nodes S period grid (begun_at standing.known period.time) row bounded.own
              period.length level.1 in
              by-level' level.0 found.0 found.1

      not-before : (tank : Tank) → slice_get project.tanks.list watch.tank ≡ Some tank → (second : ℕ) → 1 ≤ second
          → second < period.length
          → reached_after project S period watch.tank tank watch.rising watch.target second ≡ false
      not-before tank at second some short =
          elim (cases_Bool (reached_after project S period watch.tank tank watch.rising watch.target second)) [
            | inl held ↦ absurd (
                let ends = reached_ends project nodes S period grid (begun_at standing.known period.time) row bounded.own second
                watch (record {
                  is_watched = arrival.comes.is_watched;
                  tank = tank;
                  is_tank = at;
                  reached = held;
                }) in
                let l = (goes project sound nodes S period grid standing row bounded not_last has).least.least
                (period.time + second) (by_level second some refl
                (level-back project nodes bounded.own.numbers bounded.own.elevations S period second ends)) in
                omega (arith, l, short))
            | inr fails ↦ fails
          ]

      -- what has just been reached has come, of each tank
      one-comes : (shortest : ℕ) → shortest ≤ period.length → (k : ℕ) (tank : Tank)
          → slice_get project.tanks.list k ≡ Some tank
          → AllHaveCome S (walls_of project tank) tank (inflow_of_tank project grid row k) (stock_at_start period k)
          (tank_inflow project k period.assignment.flows) period.length (arrival_of shortest (Some watch) k)
      one-comes shortest from k tank at =
          cond_both (watch.tank == k) (Some (record {
            target = watch.target;
            rising = watch.rising;
            not_before = nat_le 2 shortest;
          })) None
          (AllHaveCome S (walls_of project tank) tank (inflow_of_tank project grid row k) (stock_at_start period k)
          (tank_inflow project k period.assignment.flows) period.length)
          (λ e. here (eqb-true watch.tank k e))
          (λ e. none_come S (walls_of project tank) tank (inflow_of_tank project grid row k) (stock_at_start period k)
          (tank_inflow project k period.assignment.flows) period.length)
        where
          here : watch.tank ≡ k
              → AllHaveCome S (walls_of project tank) tank (inflow_of_tank project grid row k) (stock_at_start period k)
              (tank_inflow project k period.assignment.flows) period.length (Some (record {
                target = watch.target;
                rising = watch.rising;
                not_before = nat_le 2 shortest;
              }))
          here same =
              let there : slice_get project.tanks.list watch.tank ≡ Some tank =
              subst (λ n. slice_get project.tanks.list n ≡ Some tank) (sym same) at in
              let found = at-the-end tank there in
              come-by S bounded.own.some (walls_of project tank) tank (measured project sound k tank at)
              (inflow_of_tank project grid row k) (stock_at_start period k)
              (tank_inflow project k period.assignment.flows) period.length
              (bounded.own.inflows k tank at)
              watch.target found.farther (nat_le 2 shortest)
              (λ e. let two = leb-true 2 shortest e in omega (arith, two, from))
              watch.rising found.no_nearer
              (ap (λ n. reached_after project S period n tank watch.rising found.farther period.length) (sym same)
              ∙ found.reached)
              (λ second some short.
              ap (λ n. reached_after project S period n tank watch.rising watch.target second) (sym same)
              ∙ not-before tank there second some short)

    -- whatever the way
    pub all_come : (way : Way) (reached : Option Watch) → EndsIn project grid standing row way
        → Arrives project grid standing.known row way reached → (shortest : ℕ) → shortest ≤ period.length
        → (k : ℕ) (tank : Tank) → slice_get project.tanks.list k ≡ Some tank
        → AllHaveCome S (walls_of project tank) tank (inflow_of_tank project grid row k) (stock_at_start period k)
        (tank_inflow project k period.assignment.flows) period.length (arrival_of shortest reached k)
    all_come _ _ (in_by_watched {cap = cap} {earliest = earliest} {latest = latest} seconds before none)
        (one {watch = watch} arrival) shortest from k tank at =
        one-comes cap earliest latest seconds before none watch arrival shortest from k tank at
    all_come _ _ (in_by_watched seconds before none) (competing other) shortest from k tank at =
        none_come S (walls_of project tank) tank (inflow_of_tank project grid row k) (stock_at_start period k)
        (tank_inflow project k period.assignment.flows) period.length
    all_come _ _ (in_by_rules seconds first after in_time none_open) none_by_rules shortest from k tank at =
        none_come S (walls_of project tank) tank (inflow_of_tank project grid row k) (stock_at_start period k)
        (tank_inflow project k period.assignment.flows) period.length
    all_come _ _ (in_by_instant seconds same none) none_by_instant shortest from k tank at =
        none_come S (walls_of project tank) tank (inflow_of_tank project grid row k) (stock_at_start period k)
        (tank_inflow project k period.assignment.flows) period.length
