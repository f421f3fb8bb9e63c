-- The period of a trial as its end is looked for.
use Rattle.std.proofs.Common.{◌≡◌, ℤ, List, length, sym, ap, subst, ◌∙◌}
use Rattle.hyd_net.specs.Sound.{IsSound}
use Rattle.hyd_spec.specs.ProgramTypes.{LinkState}
use Rattle.hyd_spec.specs.declared.TankState.{TankState}
use Rattle.hyd_spec.specs.NodeNumbers.{tank_count}
use Rattle.hyd_witness_texts.specs.MomentView.{moment_of}
use Rattle.hyd_met_flows.specs.Periods.{period_in, IsMomentOf}
use Rattle.hyd_length_at_scale.specs.MetPeriods.{AreInflows, IsMetPeriod, told}
use Rattle.hyd_length_at_scale.specs.declared.periods.MetPeriod.{MetPeriod}
use Rattle.hyd_course.specs.Stocks.{AreSmallStocks}
use Rattle.hyd_course.proofs.SmallStocks.{levels_small, volumes_small}

module _ (period : MetPeriod) (inflows : List ℤ) (tanks : List TankState) (links : List LinkState)
    (inflows_are : period.inflows.now ≡ inflows) (tanks_are : period.tanks.now ≡ tanks)
    (links_are : period.links.now ≡ links) where
  pub met_period : IsSound period.project.now → IsMomentOf period.project.now (moment_of period.moment.now)
      → AreSmallStocks period.project.now (moment_of period.moment.now)
      → AreInflows period.project.now period.moment.now.flows.list inflows
      → length tanks ≡ tank_count period.project.now → length links ≡ length period.project.now.links.list
      → IsMetPeriod period
  met_period sound moment small flow tank_each link_each = record {
    sound = sound;
    moment = moment;
    levels = levels_small period.project.now (moment_of period.moment.now) small;
    volumes = volumes_small period.project.now (moment_of period.moment.now) small;
    inflows = subst (AreInflows period.project.now period.moment.now.flows.list) (sym inflows_are) flow;
    tank_each = ap length tanks_are ∙ tank_each;
    link_each = ap length links_are ∙ link_each;
  }

  pub told_is : told period ≡ period_in (moment_of period.moment.now) tanks links
  told_is =
      ap (λ (ts : List TankState). period_in (moment_of period.moment.now) ts period.links.now) tanks_are
      ∙ ap (λ (ls : List LinkState). period_in (moment_of period.moment.now) tanks ls) links_are
