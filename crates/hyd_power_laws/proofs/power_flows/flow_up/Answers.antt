use Rattle.std.proofs.Common.{arith}
use Rattle.hyd_power_laws.specs.declared.flow_tests.End.TheVariants.{High}
use Rattle.hyd_power_laws.proofs.FoundFlows.{IsTestOf, found_up, found_short}
use Rattle.hyd_power_laws.proofs.power_flows.flow_up.Goals as goal
use Rattle.hyd_power_laws.proofs.power_flows.flow_up.Goals.{After-greatest_within}

test_is : (c : After-greatest_within) → IsTestOf c.flow_test-test.result High c.args.high
    c.args.minor c.args.head
test_is c = record {
  end_is = c.flow_test-test.ensures.end;
  constant = c.flow_test-test.ensures.constant;
  minor_is = c.flow_test-test.ensures.minor;
  head = c.flow_test-test.ensures.head;
}

pub returns-clause-value : goal.returns-clause-value
returns-clause-value c =
    found_up c.flow_test-test.result c.args.high c.args.minor c.args.head
    c.greatest_within.result (test_is c) (omega (arith, c.if-head-eq0.false)) c.requires.head c.requires.covers
    c.greatest_within.ensures

pub returns-clause-small : goal.returns-clause-small
returns-clause-small c =
    found_short c.flow_test-test.result c.args.high c.args.minor c.args.head
    c.greatest_within.result (test_is c) (omega (arith, c.if-head-eq0.false)) c.requires.head c.requires.covers
    c.greatest_within.ensures
