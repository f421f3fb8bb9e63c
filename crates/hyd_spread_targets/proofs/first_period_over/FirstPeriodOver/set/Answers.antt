use Rattle.std.proofs.Common.{List, length, map, ap, subst, sym, refl, ◌∙◌}
use Rattle.hyd_spec.specs.ProgramTypes.{LinkState}
use Rattle.hyd_spec.specs.declared.TankState.{TankState}
use Rattle.hyd_spec_certificates.specs.Interval.{Interval}
use Rattle.hyd_spec_certificates.specs.SpansAsIntervals.{levels_of}
use Rattle.hyd_spec_spread.specs.OutermostGrids.{IsOutermostGrid}
use Rattle.hyd_spec_spread_runs.specs.RunsForSpreads.{standing_within}
use Rattle.hyd_period_network.specs.NetAsPeriodNetwork.{grid_of}
use Rattle.hyd_period_network.specs.NetsSetToPeriods.{AreLevels}
use Rattle.hyd_spread_networks.specs.NetsOfSpreads.{net_on}
use Rattle.hyd_lemmas.proofs.ListsOptionsAndResults.{on-ok}
use Rattle.hyd_spread_targets.proofs.FirstPeriodsReady.{still-ready}
use Rattle.hyd_spread_targets.proofs.first_period_over.FirstPeriodOver.set.Goals as goal

pub set_period-requires-clause-levels : goal.set_period-requires-clause-levels
set_period-requires-clause-levels c =
    subst (AreLevels c.args.project.now) (sym c.as_slice.ensures) c.requires.ready.levels_lie

pub set_period-requires-clause-tanks : goal.set_period-requires-clause-tanks
set_period-requires-clause-tanks c = ap length c.as_slice-2.ensures ∙ c.requires.ready.tanks_each

pub returns-clause-ready : goal.returns-clause-ready
returns-clause-ready c = still-ready c.args.project.now c.args.self.now _ c.requires.ready c.set_period.ensures.stays
    c.set_period.ensures.spread refl refl c.requires.ready.each

pub returns-clause-grids : goal.returns-clause-grids
returns-clause-grids c =
    let project = c.args.project.now in
    let spread = c.args.self.now.nets.spread in
    let new = c.set_period.new.self in
    let levels = ap (map levels_of) c.as_slice.ensures ∙ c.requires.ready.levels in
    let tanks = c.as_slice-2.ensures ∙ c.requires.ready.tanks in
    on-ok _ _ c.set_period.result (λ grids side.
    subst (λ (xs : List Interval). IsOutermostGrid project spread side 0 xs (standing_within project spread).tanks
    c.args.self.now.links.items (grid_of (net_on side new))) levels
    (subst (λ (ts : List TankState). IsOutermostGrid project spread side 0 (map levels_of c.as_slice.result.now) ts
    c.args.self.now.links.items (grid_of (net_on side new))) tanks
    (subst (λ (ls : List LinkState). IsOutermostGrid project spread side 0 (map levels_of c.as_slice.result.now)
    c.as_slice-2.result.now ls (grid_of (net_on side new))) c.deref.ensures.value (grids side))))
    c.set_period.ensures.grids
