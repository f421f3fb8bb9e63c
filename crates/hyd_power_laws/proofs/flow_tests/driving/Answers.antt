use Rattle.std.proofs.Common.{◌+◌, ◌*◌, ◌≤◌, arith}
use Rattle.hyd_power_laws.proofs.ExactFromTests.{exponent_of_heads}
use Rattle.hyd_power_laws.proofs.flow_tests.driving.Goals as goal

pub power-requires-clause-near : goal.power-requires-clause-near
power-requires-clause-near c = rw exponent_of_heads (omega (arith, c.in_63_digits.ensures.near))

pub product-requires-clause-near : goal.product-requires-clause-near
product-requires-clause-near c =
    let l : c.power.result.exp + 63 ≤ 1000 * (c.in_63_digits.result.exp + 63) =
    (rw exponent_of_heads at c.power.ensures.near) in
    omega (arith, l, c.in_63_digits.ensures.near)

pub returns-clause-near : goal.returns-clause-near
returns-clause-near c =
    let l : c.power.result.exp + 63 ≤ 1000 * (c.in_63_digits.result.exp + 63) =
    (rw exponent_of_heads at c.power.ensures.near) in
    omega (arith, l, c.in_63_digits.ensures.near, c.product.ensures.near)
