use Rattle.std.proofs.Common.{◌≡◌, length}
use Rattle.hyd_spec_witnesses.specs.WitnessText.{AreValues}
use Rattle.hyd_period_network.specs.NetAsPeriodNetwork.{grid_of, states_of}
use Rattle.hyd_witness_texts.specs.MomentView.{moment_of}
use Rattle.hyd_stocks_below.proofs.ValuesSoFar.{Have}
use Rattle.hyd_middle_flows.specs.HalfwayFlows.{LinkPasses, with_flows}
use Rattle.hyd_middle_flows.proofs.links.put_flows.Given as goal

-- the flows so far are halfway, and nothing else has changed
abbrev pub invariant-loop-link : goal.invariant-loop-link
invariant-loop-link l = record {
  rest : moment_of l.into ≡ with_flows (moment_of l.initial.into) l.into.flows.list;
  fit : AreValues (length l.project.links.list) l.into.flows.list;
  halfway : Have (λ k here q. LinkPasses l.project (moment_of l.initial.into) l.tanks (states_of l.net) here q)
      (grid_of l.net).links l.into.flows.list l.link;
}
