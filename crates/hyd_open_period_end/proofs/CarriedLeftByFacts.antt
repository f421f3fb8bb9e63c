-- Carried levels at the end, by facts and by whatever standing and record these are of.
use Rattle.std.proofs.Common.{◌≡◌, ℕ, ◌+◌, List, ap, sym, ◌∙◌, subst, arith}
use Rattle.std.specs.Prelude.{Option, Some, None, slice_get, IfSome}
use Rattle.hyd_spec.specs.ProgramTypes.{Project, Tank}
use Rattle.hyd_spec.specs.Lists.{map_from}
use Rattle.hyd_spec.specs.Tank.{walls_of}
use Rattle.hyd_spec_certificates.specs.Interval.{Interval}
use Rattle.hyd_spec_certificates.specs.PeriodNetwork.{Grid}
use Rattle.hyd_spec_certificates.specs.RecordAndStanding.{Standing}
use Rattle.hyd_spec_certificates.specs.Stocks.{Stocks}
use Rattle.hyd_spec_certificates.specs.Decided.{Watch, stocks_of_tank, inflow_of_tank}
use Rattle.hyd_spec_open_ends.specs.OpenStandings.{OpenRecord}
use Rattle.hyd_spec_open_ends.specs.StocksOverLengths.{carried_at_end}
use Rattle.hyd_spec_open_ends.specs.Arrivals.{arrival_of}
use Rattle.hyd_spec_open_ends.specs.OpenRecords.{carried_left}
use Rattle.hyd_spec_open_reports.specs.OpenReport.{all_carried_left}
use Rattle.hyd_lemmas.proofs.ListsOptionsAndResults.{same_from}
use Rattle.hyd_period_facts.specs.declared.facts.Facts.{Facts}
use Rattle.hyd_period_facts.specs.FactsBeforeEnd.{AreStarted, inflow_in}
use Rattle.hyd_period_facts.proofs.StocksAndInflowsByFacts.{stocks_are, inflow_is}
use Rattle.hyd_open_stocks.specs.declared.lengths_and_arrivals.Arrival.{Arrival}
use Rattle.hyd_open_stocks.specs.LevelsInReach.{IsInReach}
use Rattle.hyd_open_watches.specs.declared.watches.Watch.{Watch as Here}
use Rattle.hyd_open_tanks.specs.StocksLeft.{IsInReachOf, ComesFrom}
use Rattle.hyd_open_period_end.specs.CarriedAtEnd.{carried_left_in}

-- ---- what has just been reached is in reach

pub reached_here : (project : Project) (facts : Facts) (reached : Option Here) (tank : ℕ) (each : Tank)
    (inflow : Interval) (arrival : Option Arrival) → slice_get project.tanks.list tank ≡ Some each
    → inflow ≡ inflow_in facts tank → IsInReachOf project facts reached → IfSome arrival (ComesFrom reached tank)
    → IfSome arrival (λ here. IsInReach (walls_of project each) each inflow here.target here.rising)
reached_here project facts reached tank each inflow None at is reach from = from
reached_here project facts None tank each inflow (Some here) at is reach from = absurd from
reached_here project facts (Some watch) tank each inflow (Some here) at is reach from =
    let at_watch = ap (λ (n : ℕ). slice_get project.tanks.list n) from.0 ∙ at in
    subst (λ b. IsInReach (walls_of project each) each inflow here.target b) (sym from.1.1)
    (subst (λ t. IsInReach (walls_of project each) each inflow t watch.rising) (sym from.1.0)
    (subst (λ (q : Interval). IsInReach (walls_of project each) each q watch.target watch.rising) (sym is)
    (subst (λ (n : ℕ). IsInReach (walls_of project each) each (inflow_in facts n) watch.target watch.rising) from.0
    (reach each at_watch))))

-- ---- all tanks

abbrev pub all_left_in : Project → Facts → ℕ → ℕ → Option Watch → List Interval
all_left_in project facts shortest longest reached =
    map_from (carried_left_in project facts shortest longest reached) 0 project.tanks.list

at_first : (k : ℕ) → 0 + k ≡ k
at_first k = omega arith

module _ (project : Project) (facts : Facts) (shortest longest : ℕ) (reached : Option Watch) (grid : Grid)
    (standing : Standing) (found : OpenRecord) (started : AreStarted project grid standing found.row facts)
    (least : found.shortest ≡ shortest) (most : found.row.length ≡ longest) where
  abbrev left-by : ℕ → Tank → Stocks → Interval → ℕ → ℕ → Interval
  left-by k tank stocks inflow first last =
      carried_at_end (walls_of project tank) tank stocks inflow first last (arrival_of first reached k)

  one_is : (k : ℕ) (tank : Tank) → slice_get project.tanks.list k ≡ Some tank
      → carried_left_in project facts shortest longest reached k tank
      ≡ carried_left project grid standing found reached k tank
  one_is k tank at =
      ap (λ (s : Stocks). left-by k tank s (inflow_in facts k) shortest longest)
      (stocks_are project grid standing found.row facts started k)
      ∙ ap (λ (q : Interval). left-by k tank (stocks_of_tank standing k) q shortest longest)
      (inflow_is project grid standing found.row facts started k tank at)
      ∙ ap (λ (n : ℕ). left-by k tank (stocks_of_tank standing k) (inflow_of_tank project grid found.row k) n longest)
      (sym least)
      ∙ ap (λ (n : ℕ). left-by k tank (stocks_of_tank standing k) (inflow_of_tank project grid found.row k)
      found.shortest n) (sym most)

  pub left_are : all_left_in project facts shortest longest reached
      ≡ all_carried_left project grid standing found reached
  left_are =
      same_from (carried_left_in project facts shortest longest reached)
      (carried_left project grid standing found reached) 0 project.tanks.list
      (λ k tank at. subst (λ (n : ℕ). carried_left_in project facts shortest longest reached n tank
      ≡ carried_left project grid standing found reached n tank) (sym (at_first k)) (one_is k tank at))
