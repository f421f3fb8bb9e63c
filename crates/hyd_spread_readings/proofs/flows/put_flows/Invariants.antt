use Rattle.std.proofs.Common.{◌≡◌, ◌≤◌, ◌+◌, length, take}
use Rattle.std.specs.Prelude.{map}
use Rattle.std.specs.List.{All}
use Rattle.hyd_spec_certificates.specs.SpansAsIntervals.{flows_of}
use Rattle.hyd_spec_spread_runs.specs.OutermostPairs.{spanned}
use Rattle.hyd_controls_and_rules.specs.RuleReadings.{IsBounded}
use Rattle.hyd_spread_bounds.specs.BothSides.{pair_of}
use Rattle.hyd_spread_readings.specs.FlowsOfLinks.{box_over}
use Rattle.hyd_spread_readings.proofs.flows.put_flows.Given as goal

abbrev pub invariant-loop-link : goal.invariant-loop-link
invariant-loop-link l = record {
  count : length l.flows.list ≡ l.link;
  flows : map flows_of l.flows.list ≡ map (box_over (pair_of l.upper l.lower) l.low l.high)
      (take l.link (spanned (pair_of l.upper l.lower)).links);
  bounded : All IsBounded l.flows.list;
  room : length l.fn.flows.list + l.fn.flows.spare ≤ length l.flows.list + l.flows.spare;
}
