-- Carried levels over lengths, by facts and by whatever standing and record these are of.
use Rattle.std.proofs.Common.{◌≡◌, ℕ, ◌+◌, List, ap, sym, ◌∙◌, subst, arith}
use Rattle.std.specs.Prelude.{Some, slice_get}
use Rattle.hyd_spec.specs.ProgramTypes.{Project, Tank}
use Rattle.hyd_spec.specs.Lists.{map_from}
use Rattle.hyd_spec.specs.Tank.{walls_of}
use Rattle.hyd_spec_certificates.specs.Interval.{Interval}
use Rattle.hyd_spec_certificates.specs.PeriodNetwork.{Grid}
use Rattle.hyd_spec_certificates.specs.RecordAndStanding.{Record, Standing}
use Rattle.hyd_spec_certificates.specs.Stocks.{Stocks}
use Rattle.hyd_spec_certificates.specs.Decided.{stocks_of_tank, inflow_of_tank}
use Rattle.hyd_spec_open_ends.specs.StocksOverLengths.{carried_levels_over}
use Rattle.hyd_spec_open_ends.specs.RulesOverLengths.{carried_over}
use Rattle.hyd_lemmas.proofs.ListsOptionsAndResults.{same_from}
use Rattle.hyd_period_facts.specs.declared.facts.Facts.{Facts}
use Rattle.hyd_period_facts.specs.FactsBeforeEnd.{AreStarted, inflow_in}
use Rattle.hyd_period_facts.proofs.StocksAndInflowsByFacts.{stocks_are, inflow_is}
use Rattle.hyd_open_rules.specs.OpenReadings.{carried_over_in}

at_first : (k : ℕ) → 0 + k ≡ k
at_first k = omega arith

abbrev pub all_carried : Project → Facts → ℕ → ℕ → List Interval
all_carried project facts shortest longest = map_from (carried_over_in project facts shortest longest) 0
    project.tanks.list

module _ (project : Project) (grid : Grid) (standing : Standing) (row : Record) (facts : Facts) (shortest longest : ℕ)
    (started : AreStarted project grid standing row facts) where
  one_is : (k : ℕ) (tank : Tank) → slice_get project.tanks.list k ≡ Some tank
      → carried_over_in project facts shortest longest k tank
      ≡ carried_levels_over (walls_of project tank) tank (stocks_of_tank standing k)
      (inflow_of_tank project grid row k) shortest longest
  one_is k tank at =
      ap (λ (s : Stocks). carried_levels_over (walls_of project tank) tank s (inflow_in facts k) shortest longest)
      (stocks_are project grid standing row facts started k)
      ∙ ap (λ (q : Interval). carried_levels_over (walls_of project tank) tank (stocks_of_tank standing k) q shortest
      longest)
      (inflow_is project grid standing row facts started k tank at)

  pub carried_are : all_carried project facts shortest longest
      ≡ carried_over project grid standing row shortest longest
  carried_are =
      same_from (carried_over_in project facts shortest longest)
      (λ k tank. carried_levels_over (walls_of project tank) tank (stocks_of_tank standing k)
      (inflow_of_tank project grid row k) shortest longest) 0 project.tanks.list
      (λ k tank at. subst (λ (n : ℕ). carried_over_in project facts shortest longest n tank
      ≡ carried_levels_over (walls_of project tank) tank (stocks_of_tank standing n)
      (inflow_of_tank project grid row n) shortest longest)
      (sym (at_first k)) (one_is k tank at))
