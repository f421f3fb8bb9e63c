-- Nets of both sides: what was opened and given its emitters, and what was put into a period.
use Rattle.std.proofs.Common.{◌≡◌, ℕ, ℤ, List, length, map, Option, sym, ap, subst, ◌∙◌}
use Rattle.std.specs.List.{AllZip}
use Rattle.std.proofs.lemmas.Slice.Zip.{AllZip-long}
use Rattle.hyd_spec.specs.ProgramTypes.{Project, Capacity, LinkState}
use Rattle.hyd_spec.specs.declared.TankState.{TankState}
use Rattle.hyd_spec.specs.Lists.{Each}
use Rattle.hyd_spec_certificates.specs.declared.Side.{Side}
use Rattle.hyd_spec_certificates.specs.declared.Side.TheVariants.{Upper, Lower}
use Rattle.hyd_spec_certificates.specs.declared.LevelSpan.{LevelSpan}
use Rattle.hyd_spec_certificates.specs.SpansAsIntervals.{levels_of}
use Rattle.hyd_spec_certificates.specs.Interval.{Interval}
use Rattle.hyd_spec_certificates.specs.PeriodNetwork.{end_on}
use Rattle.hyd_spec_certificates.specs.RecordAndStanding.{Standing}
use Rattle.hyd_spec_certificates.specs.Decided.{links_at}
use Rattle.hyd_spec_spread.specs.Spreads.{Spread}
use Rattle.hyd_spec_spread.specs.IntervalsOfData.{known_junctions, known_heads}
use Rattle.hyd_spec_spread.specs.OutermostGrids.{IsOutermostGrid, outermost_demand}
use Rattle.hyd_spec_spread_runs.specs.OutermostPairs.{grid_on}
use Rattle.hyd_spec_spread_runs.specs.RunsForSpreads.{ArePairAt}
use Rattle.hyd_period_network.specs.declared.junctions_ends_and_settings.NetJunction.{NetJunction}
use Rattle.hyd_period_network.specs.NetView.{NetView}
use Rattle.hyd_period_network.specs.Demands.{IsNetJunction}
use Rattle.hyd_period_network.specs.GivenData.{IsNetButEmitters, IsPutWith, with_emitters}
use Rattle.hyd_period_network.specs.NetAsPeriodNetwork.{grid_of}
use Rattle.hyd_period_network.specs.NetsSetToPeriods.{IsNetOf, IsFresh}
use Rattle.hyd_spread_networks.specs.HeadsBySpreads.{HeadsStay}
use Rattle.hyd_spread_networks.specs.NetsOfSpreads.{SpreadNetsView, IsOutermost, HasOutermost, known_emitter}
use Rattle.hyd_spread_networks.specs.NetsOfSpreads.{known_emitters, net_on, pair_of, AreNetsOf, IsStandingOf}
use Rattle.hyd_spread_networks.specs.RefusedSpreads.{IsEmitterFault, IsRefusedFor}
use Rattle.hyd_spread_networks.specs.declared.fault.SpreadNetsRefused.{SpreadNetsRefused}
use Rattle.hyd_spread_networks.specs.declared.fault.SpreadNetsRefused.TheVariants.{OutOfMemory, Emitter as OfEmitter}
use Rattle.hyd_spread_networks.specs.declared.fault.SpreadNetsRefused.TheVariants.{Head as OfHead}
use Rattle.hyd_spread_networks.proofs.ListsByNumber.{count_from}
use Rattle.hyd_spread_networks.proofs.EmitterLemmas.{given_outermost}
use Rattle.hyd_spread_networks.proofs.OutermostNets.{outermost_grid}

pub both : (P : Side → Type 0) → P Upper → P Lower → (side : Side) → P side
both P upper lower Upper = upper
both P upper lower Lower = lower

-- an emitter for each junction of a net
pub emitters_each : (project : Project) (spread : Spread) (net : NetView) (emitters : List (Option Capacity))
    → IsNetOf project net → AllZip IsOutermost (known_emitters project spread) emitters
    → length emitters ≡ length net.junctions
emitters_each project spread net emitters of zip =
    AllZip-long IsOutermost (known_emitters project spread) emitters zip
    ∙ count_from (known_emitter spread) 0 project.junctions.list
    ∙ sym (AllZip-long IsNetJunction project.junctions.list net.junctions of.junctions)

-- a net that was given the outermost emitters has them
pub has_outermost : (project : Project) (spread : Spread) (old net : NetView) (emitters : List (Option Capacity))
    → IsNetOf project old → AllZip IsOutermost (known_emitters project spread) emitters
    → net ≡ record old { junctions = with_emitters old.junctions emitters }
    → AllZip HasOutermost (known_emitters project spread) net.junctions
has_outermost project spread old net emitters of zip given =
    subst (λ (js : List NetJunction). AllZip HasOutermost (known_emitters project spread) js)
    (sym (ap (λ (n : NetView). n.junctions) given))
    (given_outermost (known_emitters project spread) old.junctions emitters
    (emitters_each project spread old emitters of zip) zip)

-- it is as fresh as it was
pub still_fresh : (old net : NetView) (emitters : List (Option Capacity)) → IsFresh old
    → net ≡ record old { junctions = with_emitters old.junctions emitters } → IsFresh net
still_fresh old net emitters fresh given = subst IsFresh (sym given) (record {
  links = fresh.links;
  demands = fresh.demands;
  reservoirs = fresh.reservoirs;
  tanks = fresh.tanks;
})

pub are_nets : (project : Project) (nets : SpreadNetsView) → IsNetButEmitters project nets.upper
    → IsNetButEmitters project nets.lower
    → AllZip HasOutermost (known_emitters project nets.spread) nets.upper.junctions
    → AllZip HasOutermost (known_emitters project nets.spread) nets.lower.junctions
    → Each project.reservoirs.list (HeadsStay project nets.spread) → AreNetsOf project nets
are_nets project nets upper lower first second heads = record {
  each = both (λ (side : Side). IsNetButEmitters project (net_on side nets)) upper lower;
  emitters = both (λ (side : Side). AllZip HasOutermost (known_emitters project nets.spread)
      (net_on side nets).junctions) first second;
  heads = heads;
}

-- a fault of emitters, where all heads of reservoirs stay in range
pub fault_of : (project : Project) (spread : Spread) (fault : SpreadNetsRefused)
    → Each project.reservoirs.list (HeadsStay project spread) → IsEmitterFault project spread fault
    → IsRefusedFor project spread fault
fault_of project spread OutOfMemory heads is = tt
fault_of project spread (OfEmitter junction) heads is = (heads, is)
fault_of project spread (OfHead reservoir) heads is = absurd is

-- ---- in a period

-- the nets stay those of their network
pub nets_stay : (project : Project) (old new : SpreadNetsView) → AreNetsOf project old → new.spread ≡ old.spread
    → IsNetButEmitters project new.upper → IsNetButEmitters project new.lower
    → new.upper.junctions ≡ old.upper.junctions → new.lower.junctions ≡ old.lower.junctions → AreNetsOf project new
nets_stay project old new of same upper lower first second = are_nets project new upper lower
    (rw (same, first) (of.emitters Upper)) (rw (same, second) (of.emitters Lower)) (rw same of.heads)

-- nets that were put into a period, each with the ends of its side, are the outermost grids of it
pub grids_put : (project : Project) (nets : SpreadNetsView) (time : ℕ) (least greatest lowest highest : List ℤ)
    (levels : List LevelSpan) (tanks : List TankState) (links : List LinkState) → AreNetsOf project nets
    → IsPutWith project least highest levels tanks links nets.upper
    → IsPutWith project greatest lowest levels tanks links nets.lower
    → least ≡ map (outermost_demand Upper) (known_junctions project nets.spread time)
    → greatest ≡ map (outermost_demand Lower) (known_junctions project nets.spread time)
    → lowest ≡ map (end_on Lower) (known_heads project nets.spread time)
    → highest ≡ map (end_on Upper) (known_heads project nets.spread time)
    → (side : Side) → IsOutermostGrid project nets.spread side time (map levels_of levels) tanks links
    (grid_of (net_on side nets))
grids_put project nets time least greatest lowest highest levels tanks links of up down ls gs ws hs =
    both (λ (side : Side). IsOutermostGrid project nets.spread side time (map levels_of levels) tanks links
    (grid_of (net_on side nets)))
    (outermost_grid project nets.spread Upper time least highest levels tanks links nets.upper (of.each Upper)
    (of.emitters Upper) up ls hs)
    (outermost_grid project nets.spread Lower time greatest lowest levels tanks links nets.lower (of.each Lower)
    (of.emitters Lower) down gs ws)

-- so they are the pair of each standing at which it begins
pub pair_at : (project : Project) (spread : Spread) (nets : SpreadNetsView) (time : ℕ) (levels : List Interval)
    (tanks : List TankState) (links : List LinkState)
    → ((side : Side) → IsOutermostGrid project spread side time levels tanks links (grid_of (net_on side nets)))
    → (standing : Standing) → IsStandingOf project time links levels tanks standing
    → ArePairAt project spread standing (pair_of nets)
pair_at project spread nets time levels tanks links grids standing is =
    both (λ (side : Side). IsOutermostGrid project spread side standing.time standing.levels standing.tanks
    (links_at project standing) (grid_on side (pair_of nets)))
    (rw (is.links_are, is.time_is, is.levels_are, is.tanks_are) (grids Upper))
    (rw (is.links_are, is.time_is, is.levels_are, is.tanks_are) (grids Lower))
