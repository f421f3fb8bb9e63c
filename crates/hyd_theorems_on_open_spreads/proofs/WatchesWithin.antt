-- In a period that both grids bound, a watched level is reached where a level ends the period, and where one has been
-- reached, a level does.
use Rattle.std.proofs.Common.{◌≡◌, ℕ, ◌+◌, sym, subst, ◌∙◌, arith, true, false, inl, inr}
use Rattle.std.specs.Prelude.{Some, slice_get, Contains}
use Rattle.hyd_num.specs.Rational.{whole}
use Rattle.hyd_spec.specs.ProgramTypes.{Project, Tank}
use Rattle.hyd_spec.specs.Tank.{walls_of, reaches, tank_inflow}
use Rattle.hyd_spec.specs.PeriodLength.{Period, EndsByLevel, full, empty, control as at_control, level_at_start}
use Rattle.hyd_spec.specs.PeriodLength.{stock_at_start, reached_after}
use Rattle.hyd_spec_certificates.specs.Stocks.{may_reach}
use Rattle.hyd_spec_certificates.specs.PeriodNetwork.{Grid}
use Rattle.hyd_spec_certificates.specs.RecordAndStanding.{Record, Standing}
use Rattle.hyd_spec_certificates.specs.Decided.{Watch, tank_watches, watches, control_truth, level_of_tank}
use Rattle.hyd_spec_certificates.specs.Decided.{stocks_of_tank, inflow_of_tank}
use Rattle.hyd_spec_spread.specs.NetworksWithin.{NodeData}
use Rattle.hyd_lemmas.proofs.ListsOptionsAndResults.{same_item}
use Rattle.hyd_theorems_on_definitions.proofs.DecidedByEnds.{control_tells, reached_may}
use Rattle.hyd_theorems_on_histories.proofs.TargetsReached.{reaches_maximum, reaches_minimum}
use Rattle.hyd_theorems_on_histories.proofs.WatchedLevels.{contains-left, contains-right, contains-split, isnt-full}
use Rattle.hyd_theorems_on_histories.proofs.WatchedLevels.{isnt-empty, not-yes, known-no}
use Rattle.hyd_theorems_on_open_ends.proofs.WatchesOfStandings.{HasReached}
use Rattle.hyd_theorems_on_spread_runs.specs.BoundedPeriods.{IsBounded}
use Rattle.hyd_theorems_on_spread_runs.proofs.BoundedReadings.{level_lies, stock_lies}
use Rattle.hyd_theorems_on_spread_runs.proofs.BoundedLevels.{IsTankWatch, maximum, minimum, tank-watched}
use Rattle.hyd_theorems_on_spread_runs.proofs.BoundedLevels.{watches-maximum, watches-minimum, IsControlWatch, level}
use Rattle.hyd_theorems_on_spread_runs.proofs.BoundedLevels.{control-watched, watches-control, not-full, not-empty}
use Rattle.hyd_theorems_on_spread_runs.proofs.BoundedLevels.{state-there, from-zero, own-states}

module _ (project : Project) (nodes : NodeData) (S : ℕ) (period : Period) (grid : Grid) (standing : Standing)
    (row : Record) (bounded : IsBounded project nodes S period grid standing row) where
  -- a level that ends the period is watched, and has been reached
  pub level_reached : (seconds : ℕ) → EndsByLevel project S period seconds
      → (watch : Watch) × HasReached project S period standing seconds watch
  level_reached seconds (full k tank at other reached) =
      let s = state-there project nodes S period grid standing row bounded k tank at in (
        record { tank = k; target = tank.maximum; rising = true },
        record {
          is_watched = subst (λ w. Contains (watches project standing) w) (from-zero project nodes S period grid standing row bounded k tank.maximum true)
              (contains-left Watch _ (tank_watches 0 project.tanks.list standing.tanks) _
              (watches-maximum 0 project.tanks.list standing.tanks k tank s.0 at s.2
              (not-full s.0 (λ e. other (s.1 ∙ e)))));
          tank = tank;
          is_tank = at;
          reached = reaches_maximum S (walls_of project tank) tank (stock_at_start period k)
              (tank_inflow project k period.assignment.flows) seconds ∙ reached;
        },
      )
  level_reached seconds (empty k tank at other reached) =
      let s = state-there project nodes S period grid standing row bounded k tank at in (
        record { tank = k; target = tank.minimum; rising = false },
        record {
          is_watched = subst (λ w. Contains (watches project standing) w) (from-zero project nodes S period grid standing row bounded k tank.minimum false)
              (contains-left Watch _ (tank_watches 0 project.tanks.list standing.tanks) _
              (watches-minimum 0 project.tanks.list standing.tanks k tank s.0 at s.2
              (not-empty s.0 (λ e. other (s.1 ∙ e)))));
          tank = tank;
          is_tank = at;
          reached = reaches_minimum S (walls_of project tank) tank (stock_at_start period k)
              (tank_inflow project k period.assignment.flows) seconds ∙ reached;
        },
      )
  level_reached seconds (at_control each k above ticks tank contained is at before reached) = (
    record { tank = k; target = ticks; rising = above },
    record {
      is_watched = contains-right Watch _ (tank_watches 0 project.tanks.list standing.tanks) _
          (watches-control standing.levels project.controls.list each k above ticks contained is
          (not-yes (control_truth (level_of_tank standing k) above ticks)
          (reaches S above ticks (whole (level_at_start period k)))
          (control_tells S (level_of_tank standing k) above ticks (level_at_start period k) bounded.some
          (level_lies project nodes S period grid standing row bounded k)) before));
      tank = tank;
      is_tank = at;
      reached = reached;
    },
  )

  tank-ends : (seconds : ℕ) (w : Watch) → IsTankWatch 0 project.tanks.list standing.tanks w → (tank : Tank)
      → slice_get project.tanks.list w.tank ≡ Some tank
      → reached_after project S period w.tank tank w.rising w.target seconds ≡ true
      → EndsByLevel project S period seconds
  tank-ends seconds _ (maximum k own state at is not) tank found reached =
      let n : 0 + k ≡ k = omega arith in
      let here : slice_get project.tanks.list k ≡ Some tank = subst (λ m. slice_get project.tanks.list m ≡ Some tank)
      n found in
      let same : tank ≡ own = same_item Tank tank own (sym here ∙ at) in
      let own-reached : reached_after project S period k tank true tank.maximum seconds ≡ true =
      subst (λ (t : Tank). reached_after project S period k tank true t.maximum seconds ≡ true) (sym same)
      (subst (λ m. reached_after project S period m tank true own.maximum seconds ≡ true) n reached) in
      full k tank here (λ e. isnt-full state not (sym (own-states project nodes S period grid standing row bounded k state is) ∙ e))
      (sym (reaches_maximum S (walls_of project tank) tank (stock_at_start period k)
      (tank_inflow project k period.assignment.flows) seconds) ∙ own-reached)
  tank-ends seconds _ (minimum k own state at is not) tank found reached =
      let n : 0 + k ≡ k = omega arith in
      let here : slice_get project.tanks.list k ≡ Some tank = subst (λ m. slice_get project.tanks.list m ≡ Some tank)
      n found in
      let same : tank ≡ own = same_item Tank tank own (sym here ∙ at) in
      let own-reached : reached_after project S period k tank false tank.minimum seconds ≡ true =
      subst (λ (t : Tank). reached_after project S period k tank false t.minimum seconds ≡ true) (sym same)
      (subst (λ m. reached_after project S period m tank false own.minimum seconds ≡ true) n reached) in
      empty k tank here (λ e. isnt-empty state not (sym (own-states project nodes S period grid standing row bounded k state is) ∙ e))
      (sym (reaches_minimum S (walls_of project tank) tank (stock_at_start period k)
      (tank_inflow project k period.assignment.flows) seconds) ∙ own-reached)

  control-ends : (seconds : ℕ) (w : Watch) → IsControlWatch standing.levels project.controls.list w → (tank : Tank)
      → slice_get project.tanks.list w.tank ≡ Some tank
      → reached_after project S period w.tank tank w.rising w.target seconds ≡ true
      → EndsByLevel project S period seconds
  control-ends seconds _ (level each k above ticks contained is not) tank found reached =
      at_control each k above ticks tank contained is found
      (known-no (control_truth (level_of_tank standing k) above ticks)
      (reaches S above ticks (whole (level_at_start period k)))
      (control_tells S (level_of_tank standing k) above ticks (level_at_start period k) bounded.some
      (level_lies project nodes S period grid standing row bounded k))
      (bounded.controls each k above ticks contained is) not) reached

  -- where a watched level has been reached, a level ends the period
  pub reached_ends : (seconds : ℕ) (watch : Watch) → HasReached project S period standing seconds watch
      → EndsByLevel project S period seconds
  reached_ends seconds watch has =
      elim (contains-split Watch watch (tank_watches 0 project.tanks.list standing.tanks) _ has.is_watched) [
        | inl c ↦ tank-ends seconds watch (tank-watched 0 project.tanks.list standing.tanks watch c) has.tank
            has.is_tank has.reached
        | inr c ↦ control-ends seconds watch (control-watched standing.levels project.controls.list watch c)
            has.tank has.is_tank has.reached
      ]

  -- a level that has been reached may have been
  pub reached_may_be : (seconds : ℕ) (watch : Watch) (has : HasReached project S period standing seconds watch)
      → may_reach (walls_of project has.tank) has.tank (stocks_of_tank standing watch.tank)
      (inflow_of_tank project grid row watch.tank) watch.target watch.rising seconds ≡ true
  reached_may_be seconds watch has =
      reached_may S (walls_of project has.tank) has.tank (stocks_of_tank standing watch.tank)
      (inflow_of_tank project grid row watch.tank) watch.target watch.rising seconds
      (stock_at_start period watch.tank) (tank_inflow project watch.tank period.assignment.flows)
      bounded.some (bounded.vessels watch.tank has.tank has.is_tank)
      (stock_lies project nodes S period grid standing row bounded watch.tank)
      (bounded.inflows watch.tank has.tank has.is_tank) has.reached
