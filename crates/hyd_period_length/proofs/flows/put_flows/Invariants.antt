use Rattle.std.proofs.Common.{◌≡◌, ◌≤◌, ◌+◌, length, take}
use Rattle.std.specs.Prelude.{map}
use Rattle.std.specs.List.{All}
use Rattle.hyd_spec_certificates.specs.SpansAsIntervals.{flows_of}
use Rattle.hyd_period_network.specs.NetAsPeriodNetwork.{grid_of}
use Rattle.hyd_controls_and_rules.specs.RuleReadings.{IsBounded}
use Rattle.hyd_period_length.specs.FlowBoxes.{box_between}
use Rattle.hyd_period_length.proofs.flows.put_flows.Given as goal

abbrev pub invariant-loop-link : goal.invariant-loop-link
invariant-loop-link l = record {
  count : length l.flows.list ≡ l.link;
  flows : map flows_of l.flows.list ≡ map (box_between (grid_of l.net) l.low l.high)
      (take l.link (grid_of l.net).links);
  bounded : All IsBounded l.flows.list;
  room : length l.fn.flows.list + l.fn.flows.spare ≤ length l.flows.list + l.flows.spare;
}
