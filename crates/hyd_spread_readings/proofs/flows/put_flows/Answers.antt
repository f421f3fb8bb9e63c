use Rattle.std.proofs.Common.{◌∙◌, ap, sym, subst, length, List, arith}
use Rattle.std.specs.Prelude.{map}
use Rattle.std.specs.List.{All}
use Rattle.std.proofs.lemmas.List.{length_push}
use Rattle.std.proofs.lemmas.List.Elements.{All-push}
use Rattle.hyd_num.specs.declared.spans.Span.{Span}
use Rattle.hyd_spec_certificates.specs.SpansAsIntervals.{flows_of}
use Rattle.hyd_spec_spread_runs.specs.OutermostPairs.{spanned}
use Rattle.hyd_controls_and_rules.specs.RuleReadings.{IsBounded}
use Rattle.hyd_period_length.proofs.HeadsAndFlowsSoFar.{one_more, all_flows}
use Rattle.hyd_spread_bounds.specs.BothSides.{pair_of}
use Rattle.hyd_spread_readings.specs.FlowsOfLinks.{box_over}
use Rattle.hyd_spread_readings.proofs.flows.put_flows.Goals as goal

pub loop-link-preserved : goal.loop-link-preserved
loop-link-preserved c =
    let pair = pair_of c.args.upper.now c.args.lower.now in
    let i = c.loop-link.link in
    let flow : Span = c.flow_box.result in
    let listed = c.add_flow.ensures.list in
    let long = length_push c.loop-link.flows.list flow in
    let count = c.loop-link.invariant.count in
    let spare = c.add_flow.ensures.spare in
    let room = c.loop-link.invariant.room in
    let end = c.links-link-end.ensures.count in
    let each = c.links-link-end.ensures.each in
    let test = c.loop-link-test.true in
    record {
      count = omega (arith, ap length listed, long, count);
      flows = ap (map flows_of) listed ∙ one_more (box_over pair c.args.low.now c.args.high.now) (spanned pair).links
          c.loop-link.flows.list flow i (omega (arith, end, each, test)) c.loop-link.invariant.flows
          c.flow_box.ensures.flow;
      bounded = subst (λ (xs : List Span). All IsBounded xs) (sym listed)
          (All-push IsBounded c.loop-link.flows.list flow c.loop-link.invariant.bounded
          (record { lo = c.flow_box.ensures.small_lo; hi = c.flow_box.ensures.small_hi }));
      room = omega (arith, ap length listed, long, spare, room);
    }

pub returns-clause-flows : goal.returns-clause-flows
returns-clause-flows c =
    let pair = pair_of c.args.upper.now c.args.lower.now in
    let end = c.links-link-end.ensures.count in
    let each = c.links-link-end.ensures.each in
    let test = c.loop-link-test.false in
    all_flows (box_over pair c.args.low.now c.args.high.now) (spanned pair).links c.loop-link.flows.list
    c.loop-link.link (omega (arith, end, each, test)) c.loop-link.invariant.flows
