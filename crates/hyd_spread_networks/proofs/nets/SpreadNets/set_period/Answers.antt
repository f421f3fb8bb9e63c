use Rattle.std.proofs.Common.{◌≡◌, length, map, refl, subst, ap, sym, ◌∙◌, All}
use Rattle.std.proofs.lemmas.List.{with_items_is}
use Rattle.std.proofs.lemmas.Result.{err_from_is_err_and}
use Rattle.hyd_net.specs.NumberRanges.{IsHead}
use Rattle.hyd_demands_and_reservoir_heads.specs.DemandsAndHeadsByNumber.{IsInRange}
use Rattle.hyd_spec_certificates.specs.SpansAsIntervals.{levels_of}
use Rattle.hyd_spec_certificates.specs.declared.Side.{Side}
use Rattle.hyd_spec_certificates.specs.declared.Side.TheVariants.{Upper, Lower}
use Rattle.hyd_spec_spread.specs.Spreads.{Spread}
use Rattle.hyd_spec_spread.specs.OutermostGrids.{IsOutermostGrid}
use Rattle.hyd_spec_spread_runs.specs.RunsForSpreads.{AreDemandsInRange}
use Rattle.hyd_period_network.specs.NetAsPeriodNetwork.{grid_of, states_of, own_laws}
use Rattle.hyd_period_network.specs.NetsSetToPeriods.{AreShut, own_laws_of}
use Rattle.hyd_spread_rows.specs.SpreadsRead.{spread_of}
use Rattle.hyd_spread_networks.specs.NetsOfSpreads.{SpreadNetsView, AreNetsOf, net_on}
use Rattle.hyd_spec_spread_stops.specs.StopsOfSpreads.{IsFirstDemandOver}
use Rattle.hyd_spread_networks.specs.declared.fault.DemandOver.{DemandOver}
use Rattle.hyd_spread_networks.proofs.NetsOfBothSides.{both, nets_stay, grids_put}
use Rattle.hyd_spread_networks.proofs.nets.SpreadNets.set_period.Goals as goal

-- ---- the data of the period

pub put_demands-requires-clause-each_least : goal.put_demands-requires-clause-each_least
put_demands-requires-clause-each_least c =
    let of = subst (AreNetsOf c.args.project.now) (sym c.self.view_is) c.requires.of in
    ap length c.deref_mut.ensures.value ∙ c.self.invariant.least_demands ∙ (of.each Upper).each_demand

pub put_demands-requires-clause-each_greatest : goal.put_demands-requires-clause-each_greatest
put_demands-requires-clause-each_greatest c =
    let of = subst (AreNetsOf c.args.project.now) (sym c.self.view_is) c.requires.of in
    ap length c.deref_mut-2.ensures.value ∙ c.self.invariant.greatest_demands ∙ (of.each Upper).each_demand

pub put_heads-requires-clause-stay : goal.put_heads-requires-clause-stay
put_heads-requires-clause-stay c =
    let of = subst (AreNetsOf c.args.project.now) (sym c.self.view_is) c.requires.of in
    of.heads

pub put_heads-requires-clause-each_least : goal.put_heads-requires-clause-each_least
put_heads-requires-clause-each_least c =
    let of = subst (AreNetsOf c.args.project.now) (sym c.self.view_is) c.requires.of in
    ap length c.deref_mut-3.ensures.value ∙ c.self.invariant.least_heads ∙ (of.each Upper).each_reservoir

pub put_heads-requires-clause-each_greatest : goal.put_heads-requires-clause-each_greatest
put_heads-requires-clause-each_greatest c =
    let of = subst (AreNetsOf c.args.project.now) (sym c.self.view_is) c.requires.of in
    ap length c.deref_mut-4.ensures.value ∙ c.self.invariant.greatest_heads ∙ (of.each Upper).each_reservoir

-- ---- the net of each side

pub set_period_with-requires-clause-of : goal.set_period_with-requires-clause-of
set_period_with-requires-clause-of c =
    let of = subst (AreNetsOf c.args.project.now) (sym c.self.view_is) c.requires.of in
    of.each Upper

pub set_period_with-requires-clause-each_demand : goal.set_period_with-requires-clause-each_demand
set_period_with-requires-clause-each_demand c =
    let of = subst (AreNetsOf c.args.project.now) (sym c.self.view_is) c.requires.of in
    ap length (c.deref.ensures.value ∙ with_items_is c.self.inside.least_demands c.put_demands.new.least
    (c.put_demands.auto.least ∙ c.deref_mut.ensures.len))
    ∙ c.put_demands.auto.least ∙ ap length c.deref_mut.ensures.value ∙ c.self.invariant.least_demands
    ∙ (of.each Upper).each_demand

pub set_period_with-requires-clause-in_range : goal.set_period_with-requires-clause-in_range
set_period_with-requires-clause-in_range c =
    subst (All IsInRange)
    (sym (c.deref.ensures.value ∙ with_items_is c.self.inside.least_demands c.put_demands.new.least
    (c.put_demands.auto.least ∙ c.deref_mut.ensures.len)))
    c.in_ok-put_demands.ensures.least_range

pub set_period_with-requires-clause-each_head : goal.set_period_with-requires-clause-each_head
set_period_with-requires-clause-each_head c =
    let of = subst (AreNetsOf c.args.project.now) (sym c.self.view_is) c.requires.of in
    ap length (c.deref-2.ensures.value ∙ with_items_is c.self.inside.greatest_heads c.put_heads.new.greatest
    (c.put_heads.auto.greatest ∙ c.deref_mut-4.ensures.len))
    ∙ c.put_heads.auto.greatest ∙ ap length c.deref_mut-4.ensures.value ∙ c.self.invariant.greatest_heads
    ∙ (of.each Upper).each_reservoir

pub set_period_with-requires-clause-heads : goal.set_period_with-requires-clause-heads
set_period_with-requires-clause-heads c =
    subst (All IsHead)
    (sym (c.deref-2.ensures.value ∙ with_items_is c.self.inside.greatest_heads c.put_heads.new.greatest
    (c.put_heads.auto.greatest ∙ c.deref_mut-4.ensures.len)))
    c.put_heads.ensures.greatest_range

pub set_period_with-requires-2-clause-of : goal.set_period_with-requires-2-clause-of
set_period_with-requires-2-clause-of c =
    let of = subst (AreNetsOf c.args.project.now) (sym c.self.view_is) c.requires.of in
    of.each Lower

pub set_period_with-requires-2-clause-each_demand : goal.set_period_with-requires-2-clause-each_demand
set_period_with-requires-2-clause-each_demand c =
    let of = subst (AreNetsOf c.args.project.now) (sym c.self.view_is) c.requires.of in
    ap length (c.deref-3.ensures.value ∙ with_items_is c.self.inside.greatest_demands c.put_demands.new.greatest
    (c.put_demands.auto.greatest ∙ c.deref_mut-2.ensures.len))
    ∙ c.put_demands.auto.greatest ∙ ap length c.deref_mut-2.ensures.value ∙ c.self.invariant.greatest_demands
    ∙ (of.each Upper).each_demand

pub set_period_with-requires-2-clause-in_range : goal.set_period_with-requires-2-clause-in_range
set_period_with-requires-2-clause-in_range c =
    subst (All IsInRange)
    (sym (c.deref-3.ensures.value ∙ with_items_is c.self.inside.greatest_demands c.put_demands.new.greatest
    (c.put_demands.auto.greatest ∙ c.deref_mut-2.ensures.len)))
    c.in_ok-put_demands.ensures.greatest_range

pub set_period_with-requires-2-clause-each_head : goal.set_period_with-requires-2-clause-each_head
set_period_with-requires-2-clause-each_head c =
    let of = subst (AreNetsOf c.args.project.now) (sym c.self.view_is) c.requires.of in
    ap length (c.deref-4.ensures.value ∙ with_items_is c.self.inside.least_heads c.put_heads.new.least
    (c.put_heads.auto.least ∙ c.deref_mut-3.ensures.len))
    ∙ c.put_heads.auto.least ∙ ap length c.deref_mut-3.ensures.value ∙ c.self.invariant.least_heads
    ∙ (of.each Upper).each_reservoir

pub set_period_with-requires-2-clause-heads : goal.set_period_with-requires-2-clause-heads
set_period_with-requires-2-clause-heads c =
    subst (All IsHead)
    (sym (c.deref-4.ensures.value ∙ with_items_is c.self.inside.least_heads c.put_heads.new.least
    (c.put_heads.auto.least ∙ c.deref_mut-3.ensures.len)))
    c.put_heads.ensures.least_range

-- ---- both nets in the period

pub returns-clause-stays : goal.returns-clause-stays
returns-clause-stays c =
    let of = subst (AreNetsOf c.args.project.now) (sym c.self.view_is) c.requires.of in
    let new : SpreadNetsView = record {
      spread = spread_of c.self.inside.rows;
      upper = c.set_period_with.new.self;
      lower = c.set_period_with-2.new.self;
    } in
    nets_stay c.args.project.now _ new of refl c.set_period_with.ensures.stays c.set_period_with-2.ensures.stays
    c.set_period_with.ensures.junctions c.set_period_with-2.ensures.junctions

pub returns-clause-grids : goal.returns-clause-grids
returns-clause-grids c = λ side.
    let of = subst (AreNetsOf c.args.project.now) (sym c.self.view_is) c.requires.of in
    let new : SpreadNetsView = record {
      spread = spread_of c.self.inside.rows;
      upper = c.set_period_with.new.self;
      lower = c.set_period_with-2.new.self;
    } in
    let stays = nets_stay c.args.project.now _ new of refl c.set_period_with.ensures.stays
    c.set_period_with-2.ensures.stays c.set_period_with.ensures.junctions c.set_period_with-2.ensures.junctions in
    subst (λ (s : Spread). IsOutermostGrid c.args.project.now s side c.args.time (map levels_of c.args.levels.now)
    c.args.tanks.now c.args.links.now (grid_of (net_on side new)))
    (ap (λ (v : SpreadNetsView). v.spread) c.self.view_is)
    (grids_put c.args.project.now new c.args.time c.deref.result.now c.deref-3.result.now c.deref-4.result.now
    c.deref-2.result.now c.args.levels.now c.args.tanks.now c.args.links.now stays c.set_period_with.ensures.put
    c.set_period_with-2.ensures.put
    (c.deref.ensures.value ∙ with_items_is c.self.inside.least_demands c.put_demands.new.least
    (c.put_demands.auto.least ∙ c.deref_mut.ensures.len) ∙ c.in_ok-put_demands.ensures.least)
    (c.deref-3.ensures.value ∙ with_items_is c.self.inside.greatest_demands c.put_demands.new.greatest
    (c.put_demands.auto.greatest ∙ c.deref_mut-2.ensures.len) ∙ c.in_ok-put_demands.ensures.greatest)
    (c.deref-4.ensures.value ∙ with_items_is c.self.inside.least_heads c.put_heads.new.least
    (c.put_heads.auto.least ∙ c.deref_mut-3.ensures.len) ∙ c.put_heads.ensures.least)
    (c.deref-2.ensures.value ∙ with_items_is c.self.inside.greatest_heads c.put_heads.new.greatest
    (c.put_heads.auto.greatest ∙ c.deref_mut-4.ensures.len) ∙ c.put_heads.ensures.greatest)
    side)

pub returns-clause-states : goal.returns-clause-states
returns-clause-states c =
    let new : SpreadNetsView = record {
      spread = spread_of c.self.inside.rows;
      upper = c.set_period_with.new.self;
      lower = c.set_period_with-2.new.self;
    } in
    both (λ (side : Side). states_of (net_on side new) ≡ c.args.links.now) c.set_period_with.ensures.states
    c.set_period_with-2.ensures.states

pub returns-clause-own : goal.returns-clause-own
returns-clause-own c =
    let project = c.args.project.now in
    let new : SpreadNetsView = record {
      spread = spread_of c.self.inside.rows;
      upper = c.set_period_with.new.self;
      lower = c.set_period_with-2.new.self;
    } in
    both (λ (side : Side). own_laws (net_on side new) ≡ own_laws_of project project.links.list c.args.links.now)
    c.set_period_with.ensures.own c.set_period_with-2.ensures.own

pub returns-clause-shut : goal.returns-clause-shut
returns-clause-shut c =
    let new : SpreadNetsView = record {
      spread = spread_of c.self.inside.rows;
      upper = c.set_period_with.new.self;
      lower = c.set_period_with-2.new.self;
    } in
    both (λ (side : Side). AreShut c.args.project.now c.args.tanks.now (net_on side new).laws)
    c.set_period_with.ensures.shut c.set_period_with-2.ensures.shut

pub returns-clause-in_range : goal.returns-clause-in_range
returns-clause-in_range c =
    subst (λ (s : Spread). AreDemandsInRange c.args.project.now s c.args.time)
    (ap (λ (v : SpreadNetsView). v.spread) c.self.view_is) c.in_ok-put_demands.ensures.in_range

pub invariant_of-self-2 : goal.invariant_of-self-2
invariant_of-self-2 c =
    let of = subst (AreNetsOf c.args.project.now) (sym c.self.view_is) c.requires.of in
    let d = (of.each Upper).each_demand ∙ sym c.set_period_with.ensures.stays.each_demand in
    let h = (of.each Upper).each_reservoir ∙ sym c.set_period_with.ensures.stays.each_reservoir in
    record {
      range = c.self.invariant.range;
      least_demands = ap length (with_items_is c.self.inside.least_demands c.put_demands.new.least
          (c.put_demands.auto.least ∙ c.deref_mut.ensures.len))
          ∙ c.put_demands.auto.least ∙ ap length c.deref_mut.ensures.value ∙ c.self.invariant.least_demands ∙ d;
      greatest_demands = ap length (with_items_is c.self.inside.greatest_demands c.put_demands.new.greatest
          (c.put_demands.auto.greatest ∙ c.deref_mut-2.ensures.len))
          ∙ c.put_demands.auto.greatest ∙ ap length c.deref_mut-2.ensures.value ∙ c.self.invariant.greatest_demands ∙ d;
      least_heads = ap length (with_items_is c.self.inside.least_heads c.put_heads.new.least
          (c.put_heads.auto.least ∙ c.deref_mut-3.ensures.len))
          ∙ c.put_heads.auto.least ∙ ap length c.deref_mut-3.ensures.value ∙ c.self.invariant.least_heads ∙ h;
      greatest_heads = ap length (with_items_is c.self.inside.greatest_heads c.put_heads.new.greatest
          (c.put_heads.auto.greatest ∙ c.deref_mut-4.ensures.len))
          ∙ c.put_heads.auto.greatest ∙ ap length c.deref_mut-4.ensures.value ∙ c.self.invariant.greatest_heads ∙ h;
    }

-- ---- no period

pub returns-in_err-put_demands-clause-stays : goal.returns-in_err-put_demands-clause-stays
returns-in_err-put_demands-clause-stays c =
    subst (AreNetsOf c.args.project.now) (sym c.self.view_is) c.requires.of

pub returns-in_err-put_demands-clause-refused : goal.returns-in_err-put_demands-clause-refused
returns-in_err-put_demands-clause-refused c =
    let out = err_from_is_err_and c.from_residual.result c.from_residual.ensures.1 in
    rw out.1 (subst (λ (s : Spread). IsFirstDemandOver c.args.project.now s c.args.time out.0.junction out.0.value)
    (ap (λ (v : SpreadNetsView). v.spread) c.self.view_is)
    (subst (λ (fault : DemandOver). IsFirstDemandOver c.args.project.now (spread_of c.self.inside.rows) c.args.time
    fault.junction fault.value) (sym out.2) c.in_err-put_demands.ensures.refused))

pub returns-in_err-put_demands-clause-unchanged : goal.returns-in_err-put_demands-clause-unchanged
returns-in_err-put_demands-clause-unchanged c =
    let out = err_from_is_err_and c.from_residual.result c.from_residual.ensures.1 in
    rw out.1 c.self.view_is

pub invariant_of-self : goal.invariant_of-self
invariant_of-self c = record {
  range = c.self.invariant.range;
  least_demands = ap length (with_items_is c.self.inside.least_demands c.put_demands.new.least
      (c.put_demands.auto.least ∙ c.deref_mut.ensures.len))
      ∙ c.put_demands.auto.least ∙ ap length c.deref_mut.ensures.value ∙ c.self.invariant.least_demands;
  greatest_demands = ap length (with_items_is c.self.inside.greatest_demands c.put_demands.new.greatest
      (c.put_demands.auto.greatest ∙ c.deref_mut-2.ensures.len))
      ∙ c.put_demands.auto.greatest ∙ ap length c.deref_mut-2.ensures.value ∙ c.self.invariant.greatest_demands;
  least_heads = c.self.invariant.least_heads;
  greatest_heads = c.self.invariant.greatest_heads;
}
