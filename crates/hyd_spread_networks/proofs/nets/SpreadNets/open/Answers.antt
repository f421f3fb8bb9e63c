use Rattle.std.proofs.Common.{◌≡◌, List, length, Option, ap, subst, sym, ◌∙◌}
use Rattle.std.proofs.lemmas.Result.{err_from_is_err_and}
use Rattle.hyd_spec.specs.ProgramTypes.{Capacity}
use Rattle.hyd_spec_certificates.specs.declared.Side.{Side}
use Rattle.hyd_period_network.specs.NetView.{NetView}
use Rattle.hyd_period_network.specs.NetsSetToPeriods.{IsFresh}
use Rattle.hyd_period_network.specs.GivenData.{with_emitters}
use Rattle.hyd_spread_rows.specs.SpreadsRead.{spread_of}
use Rattle.hyd_spread_networks.specs.NetsOfSpreads.{SpreadNetsView, net_on}
use Rattle.hyd_spread_networks.specs.RefusedSpreads.{IsEmitterFault}
use Rattle.hyd_spread_networks.proofs.NetsOfBothSides.{both, emitters_each, has_outermost, are_nets, still_fresh}
use Rattle.hyd_spread_networks.proofs.NetsOfBothSides.{fault_of}
use Rattle.hyd_spread_networks.proofs.nets.SpreadNets.open.Goals as goal

given : (net new : NetView) (lent emitters : List (Option Capacity)) → lent ≡ emitters
    → new ≡ record net { junctions = with_emitters net.junctions lent }
    → new ≡ record net { junctions = with_emitters net.junctions emitters }
given net new lent emitters same e =
    e ∙ ap (λ (es : List (Option Capacity)). record net { junctions = with_emitters net.junctions es }) same

pub set_emitters-requires-clause-each : goal.set_emitters-requires-clause-each
set_emitters-requires-clause-each c =
    ap length c.deref.ensures.value
    ∙ emitters_each c.args.project.now (spread_of c.args.rows) c.in_ok-upper.upper c.in_ok-emitters.emitters.items
    c.in_ok-upper.ensures.of c.in_ok-emitters.ensures.outermost

pub set_emitters-requires-2-clause-each : goal.set_emitters-requires-2-clause-each
set_emitters-requires-2-clause-each c =
    ap length c.deref-2.ensures.value
    ∙ emitters_each c.args.project.now (spread_of c.args.rows) c.in_ok-lower.lower c.in_ok-emitters.emitters.items
    c.in_ok-lower.ensures.of c.in_ok-emitters.ensures.outermost

pub returns-clause-of : goal.returns-clause-of
returns-clause-of c =
    let project = c.args.project.now in
    let spread = spread_of c.args.rows in
    let emitters = c.in_ok-emitters.emitters.items in
    are_nets project _ (c.set_emitters.ensures.of project c.in_ok-upper.ensures.of)
    (c.set_emitters-2.ensures.of project c.in_ok-lower.ensures.of)
    (has_outermost project spread c.in_ok-upper.upper c.set_emitters.new.self emitters c.in_ok-upper.ensures.of
    c.in_ok-emitters.ensures.outermost
    (given c.in_ok-upper.upper c.set_emitters.new.self c.deref.result.now emitters c.deref.ensures.value
    c.set_emitters.ensures.given))
    (has_outermost project spread c.in_ok-lower.lower c.set_emitters-2.new.self emitters c.in_ok-lower.ensures.of
    c.in_ok-emitters.ensures.outermost
    (given c.in_ok-lower.lower c.set_emitters-2.new.self c.deref-2.result.now emitters c.deref-2.ensures.value
    c.set_emitters-2.ensures.given))
    c.in_ok-judge_heads.ensures.stay

pub returns-clause-fresh : goal.returns-clause-fresh
returns-clause-fresh c =
    let nets : SpreadNetsView = record {
      spread = spread_of c.args.rows;
      upper = c.set_emitters.new.self;
      lower = c.set_emitters-2.new.self;
    } in
    both (λ (side : Side). IsFresh (net_on side nets))
    (still_fresh c.in_ok-upper.upper c.set_emitters.new.self c.deref.result.now c.in_ok-upper.ensures.fresh
    c.set_emitters.ensures.given)
    (still_fresh c.in_ok-lower.lower c.set_emitters-2.new.self c.deref-2.result.now c.in_ok-lower.ensures.fresh
    c.set_emitters-2.ensures.given)

pub returns-in_err-emitters-clause-refused : goal.returns-in_err-emitters-clause-refused
returns-in_err-emitters-clause-refused c =
    let project = c.args.project.now in
    let spread = spread_of c.args.rows in
    let out = err_from_is_err_and c.from_residual-in_err-emitters.result c.from_residual-in_err-emitters.ensures.1 in
    rw out.1 (fault_of project spread out.0 c.in_ok-judge_heads.ensures.stay
    (subst (IsEmitterFault project spread) (sym out.2) c.in_err-emitters.ensures.refused))

pub invariant_of-result : goal.invariant_of-result
invariant_of-result c =
    let of = c.set_emitters.ensures.of c.args.project.now c.in_ok-upper.ensures.of in
    record {
      range = c.requires.range;
      least_demands = sym c.in_ok-least_demands.least_demands.ok.0 ∙ c.in_ok-least_demands.ensures ∙ c.len.ensures
          ∙ sym of.each_demand;
      greatest_demands = sym c.in_ok-greatest_demands.greatest_demands.ok.0 ∙ c.in_ok-greatest_demands.ensures
          ∙ c.len-2.ensures ∙ sym of.each_demand;
      least_heads = sym c.in_ok-least_heads.least_heads.ok.0 ∙ c.in_ok-least_heads.ensures ∙ c.len-3.ensures
          ∙ sym of.each_reservoir;
      greatest_heads = sym c.in_ok-greatest_heads.greatest_heads.ok.0 ∙ c.in_ok-greatest_heads.ensures ∙ c.len-4.ensures
          ∙ sym of.each_reservoir;
    }
