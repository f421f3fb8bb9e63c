-- Nets that were put into a period with the ends of a side are the outermost grid of that side.
use Rattle.std.proofs.Common.{◌≡◌, ℕ, suc, ℤ, List, [], ◌∷◌, map, subst, ◌∙◌}
use Rattle.std.specs.List.{AllZip}
use Rattle.hyd_spec.specs.ProgramTypes.{Project, Junction, LinkState}
use Rattle.hyd_spec.specs.Lists.{map_from}
use Rattle.hyd_spec.specs.declared.TankState.{TankState}
use Rattle.hyd_spec_certificates.specs.declared.LevelSpan.{LevelSpan}
use Rattle.hyd_spec_certificates.specs.declared.Side.{Side}
use Rattle.hyd_spec_certificates.specs.SpansAsIntervals.{levels_of}
use Rattle.hyd_spec_certificates.specs.PeriodNetwork.{end_on}
use Rattle.hyd_spec_spread.specs.Spreads.{Spread}
use Rattle.hyd_spec_spread.specs.IntervalsOfData.{known_junction, known_junctions, known_heads}
use Rattle.hyd_spec_spread.specs.OutermostGrids.{IsOutermostJunction, IsOutermostGrid, outermost_demand}
use Rattle.hyd_law.specs.declared.demand_law_kinds.OutLaw.{OutLaw}
use Rattle.hyd_period_network.specs.declared.junctions_ends_and_settings.NetJunction.{NetJunction}
use Rattle.hyd_period_network.specs.NetView.{NetView}
use Rattle.hyd_period_network.specs.Demands.{IsOutLawOf}
use Rattle.hyd_period_network.specs.NetAsPeriodNetwork.{grid_of, junctions_of}
use Rattle.hyd_period_network.specs.GivenData.{HasElevation, IsNetButEmitters, IsPutWith}
use Rattle.hyd_spread_networks.specs.NetsOfSpreads.{HasOutermost, known_emitter, known_emitters}

outermost_junctions : (project : Project) (spread : Spread) (side : Side) (time from : ℕ) (js : List Junction)
    (here : List NetJunction) (laws : List OutLaw) → AllZip HasElevation js here
    → AllZip HasOutermost (map_from (known_emitter spread) from js) here
    → AllZip (IsOutLawOf project) (map (outermost_demand side) (map_from (known_junction project spread time) from js))
    laws
    → AllZip (IsOutermostJunction project side) (map_from (known_junction project spread time) from js)
    (junctions_of here laws)
outermost_junctions project spread side time from [] [] laws e o d = tt
outermost_junctions project spread side time from [] (h ∷ here) laws e o d = absurd e
outermost_junctions project spread side time from (j ∷ js) [] laws e o d = absurd e
outermost_junctions project spread side time from (j ∷ js) (h ∷ here) [] e o d = absurd d
outermost_junctions project spread side time from (j ∷ js) (h ∷ here) (law ∷ laws) e o d = (
  record { elevation = e.0.elevation; demand = d.0.is_law; emitter = o.0 },
  outermost_junctions project spread side time (suc from) js here laws e.1 o.1 d.1,
)

pub outermost_grid : (project : Project) (spread : Spread) (side : Side) (time : ℕ) (demands heads : List ℤ)
    (levels : List LevelSpan) (tanks : List TankState) (links : List LinkState) (net : NetView)
    → IsNetButEmitters project net → AllZip HasOutermost (known_emitters project spread) net.junctions
    → IsPutWith project demands heads levels tanks links net
    → demands ≡ map (outermost_demand side) (known_junctions project spread time)
    → heads ≡ map (end_on side) (known_heads project spread time)
    → IsOutermostGrid project spread side time (map levels_of levels) tanks links (grid_of net)
outermost_grid project spread side time demands heads levels tanks links net of emitters put ds hs = record {
  junctions = outermost_junctions project spread side time 0 project.junctions.list net.junctions net.demands
      of.junctions emitters
      (subst (λ (qs : List ℤ). AllZip (IsOutLawOf project) qs net.demands) ds put.demands);
  reservoirs = put.reservoirs ∙ hs;
  tank_heads = put.tank_heads;
  links_are = put.links_are;
}
