use Rattle.hyd_power_laws.proofs.FoundFlows.{found_down, none_down}
use Rattle.hyd_power_laws.proofs.power_flows.flow_down.Goals as goal

pub returns-then-head-eq0-clause-value : goal.returns-then-head-eq0-clause-value
returns-then-head-eq0-clause-value c = none_down c.args.low c.args.minor c.args.head
    c.if-head-eq0.true

pub returns-clause-value : goal.returns-clause-value
returns-clause-value c =
    found_down c.flow_test-test.result c.args.low c.args.minor c.args.head
    c.greatest_within.result
    (record {
      end_is = c.flow_test-test.ensures.end;
      constant = c.flow_test-test.ensures.constant;
      minor_is = c.flow_test-test.ensures.minor;
      head = c.flow_test-test.ensures.head;
    }) c.requires c.greatest_within.ensures
