-- Where a period's start is open, what the rules look at in a network within a spread lies between what both grids give
-- over the lengths, so that what they decide is what happens.
use Rattle.std.proofs.Common.{◌≡◌, ℕ, ◌+◌, ◌-◌, ◌≤◌, sym, ap, subst, ◌∙◌, arith, false, map}
use Rattle.std.specs.Prelude.{Some, slice_get}
use Rattle.std.specs.List.{list_any}
use Rattle.hyd_net.specs.Sound.{IsSound}
use Rattle.hyd_spec.specs.ProgramTypes.{Project, Tank}
use Rattle.hyd_spec.specs.Tank.{walls_of, tank_inflow, carried_level}
use Rattle.hyd_spec.specs.Rules.{rule_values, rule_changes}
use Rattle.hyd_spec.specs.PeriodLength.{Period, stock_at_start, readings_after, values_at}
use Rattle.hyd_spec_certificates.specs.ThreeValuedLogic.{is_yes, is_unknown}
use Rattle.hyd_spec_certificates.specs.PeriodNetwork.{Grid}
use Rattle.hyd_spec_certificates.specs.RecordAndStanding.{Record}
use Rattle.hyd_spec_certificates.specs.Decided.{stocks_of_tank, inflow_of_tank, clause_between}
use Rattle.hyd_spec_open_ends.specs.OpenStandings.{OpenStanding}
use Rattle.hyd_spec_open_ends.specs.StocksOverLengths.{carried_levels_over}
use Rattle.hyd_spec_open_ends.specs.RulesOverLengths.{readings_below_over, readings_above_over, open_rule_truths}
use Rattle.hyd_spec_open_ends.specs.RulesOverLengths.{open_changes}
use Rattle.hyd_spec_spread.specs.NetworksWithin.{NodeData, with_data}
use Rattle.hyd_theorems_on_definitions.specs.LyingInIntervals.{LiesAround}
use Rattle.hyd_theorems_on_definitions.specs.VerdictsOfTests.{TellEach}
use Rattle.hyd_theorems_on_histories.specs.Agreement.{AreBetween}
use Rattle.hyd_theorems_on_histories.proofs.Clauses.{clause_tells}
use Rattle.hyd_theorems_on_histories.proofs.TruthsAndRuleValues.{truths_tell, all_known}
use Rattle.hyd_theorems_on_open_ends.specs.AgreementOverStarts.{begun_at}
use Rattle.hyd_theorems_on_open_ends.proofs.StocksOverLengths.{carried_over_lies}
use Rattle.hyd_theorems_on_spread.proofs.RulesAlike.{rules-alike}
use Rattle.hyd_theorems_on_spread_runs.proofs.BoundedReadings.{levels-between, stock_lies, its_readings, readings-are}
use Rattle.hyd_theorems_on_spread_runs.proofs.BoundedReadings.{readings_between}
use Rattle.hyd_theorems_on_open_spreads.specs.BoundedOpenly.{IsBoundedOpenly}

module _ (project : Project) (nodes : NodeData) (S : ℕ) (period : Period) (grid : Grid) (standing : OpenStanding)
    (row : Record) (bounded : IsBoundedOpenly project nodes S period grid standing row) where
  abbrev network : Project
  network = with_data project nodes

  carried-there : (shortest seconds longest k : ℕ) (tank : Tank) → shortest ≤ seconds → seconds ≤ longest
      → slice_get project.tanks.list k ≡ Some tank
      → LiesAround S (carried_levels_over (walls_of project tank) tank (stocks_of_tank standing.known k)
      (inflow_of_tank project grid row k) shortest longest)
      (carried_level S (walls_of project tank) tank (stock_at_start period k)
      (tank_inflow project k period.assignment.flows) seconds)
  carried-there shortest seconds longest k tank from to at =
      carried_over_lies S (walls_of project tank) tank (stocks_of_tank standing.known k)
      (inflow_of_tank project grid row k) shortest seconds longest (stock_at_start period k)
      (tank_inflow project k period.assignment.flows) bounded.own.some (bounded.own.vessels k tank at)
      (stock_lies project nodes S period grid (begun_at standing.known period.time) row bounded.own k)
      (bounded.own.inflows k tank at) from to

  -- what the rules look at after a length lies between the ends over lengths around it
  pub between_over : (shortest seconds longest : ℕ) → shortest ≤ seconds → seconds ≤ longest
      → AreBetween project S (readings_below_over project grid standing.known row shortest longest)
      (its_readings project nodes S period grid (begun_at standing.known period.time) row bounded.own seconds)
      (readings_above_over project grid standing.known row shortest longest)
  between_over shortest seconds longest from to =
      let now = readings_between project nodes S period grid (begun_at standing.known period.time) row bounded.own
      seconds in
      record {
        heads = now.heads;
        levels = levels-between S (λ k tank. carried_levels_over (walls_of project tank) tank
            (stocks_of_tank standing.known k) (inflow_of_tank project grid row k) shortest longest)
            (λ k tank. carried_level S (walls_of project tank) tank (stock_at_start period k)
            (tank_inflow project k period.assignment.flows) seconds) 0 project.tanks.list
            (λ k tank at. let n : k ≡ 0 + k = omega arith in
            subst (λ (m : ℕ). LiesAround S (carried_levels_over (walls_of project tank) tank
            (stocks_of_tank standing.known m) (inflow_of_tank project grid row m) shortest longest)
            (carried_level S (walls_of project tank) tank (stock_at_start period m)
            (tank_inflow project m period.assignment.flows) seconds)) n
            (carried-there shortest seconds longest k tank from to at));
        flows_below = now.flows_below;
        flows_above = now.flows_above;
        links_below = sym bounded.links;
        links_above = sym bounded.links;
      }

  module _ (sound : IsSound project) (seconds : ℕ) (begun : period.time ≤ standing.known.time + seconds) where
    abbrev instant : ℕ
    instant = standing.known.time + seconds

    values-tell : TellEach (open_rule_truths project grid standing row seconds)
        (rule_values project S instant (its_readings project nodes S period grid (begun_at standing.known period.time)
        row bounded.own (instant - period.time)))
    values-tell =
        let between = between_over (seconds - standing.late) (instant - period.time) seconds
        (let a = bounded.after in let b = bounded.by in omega (arith, a, b, begun))
        (let a = bounded.after in omega (arith, a, begun)) in
        truths_tell project S instant _ _ _
        (clause_between project instant
        (readings_below_over project grid standing.known row (seconds - standing.late) seconds)
        (readings_above_over project grid standing.known row (seconds - standing.late) seconds))
        bounded.own.some sound between
        (λ clause way. clause_tells project S instant _ _ _ clause bounded.own.some way between)

    values-are : values_at network S period instant
        ≡ rule_values project S instant (its_readings project nodes S period grid (begun_at standing.known period.time)
        row bounded.own (instant - period.time))
    values-are =
        rules-alike project nodes bounded.own.numbers bounded.own.elevations S instant
        (readings_after network S period (instant - period.time))
        ∙ ap (rule_values project S instant) (readings-are project nodes S period grid
        (begun_at standing.known period.time) row bounded.own (instant - period.time))

    -- where no rule is open at an instant by which the period has begun, the values are those that are decided
    pub values_over : list_any is_unknown (open_rule_truths project grid standing row seconds) ≡ false
        → map is_yes (open_rule_truths project grid standing row seconds) ≡ values_at network S period instant
    values_over known = all_known (open_rule_truths project grid standing row seconds) _ known values-tell
        ∙ sym values-are

    -- and so are the changes
    pub changes_over : list_any is_unknown (open_rule_truths project grid standing row seconds) ≡ false
        → open_changes project grid standing row seconds
        ≡ rule_changes project (values_at network S period instant) period.links
    changes_over known =
        let v = values_over known in
        let l = bounded.links in
        λ i. rule_changes project (v i) (sym l i)
