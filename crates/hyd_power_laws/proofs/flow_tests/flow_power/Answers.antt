use Rattle.std.proofs.Common.{◌+◌, ◌*◌, ◌≤◌, arith}
use Rattle.hyd_power_laws.proofs.ExactFromTests.{exponent_of_flows}
use Rattle.hyd_power_laws.proofs.flow_tests.flow_power.Goals as goal

pub power-requires-clause-near : goal.power-requires-clause-near
power-requires-clause-near c = rw exponent_of_flows (omega (arith, c.in_63_digits.ensures.near))

pub returns-clause-near : goal.returns-clause-near
returns-clause-near c =
    let l : c.power.result.exp + 63 ≤ 1852 * (c.in_63_digits.result.exp + 63) =
    (rw exponent_of_flows at c.power.ensures.near) in
    omega (arith, l, c.in_63_digits.ensures.near)
