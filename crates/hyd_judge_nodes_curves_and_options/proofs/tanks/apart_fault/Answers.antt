use Rattle.std.proofs.Common.{FitsSigned, ◌≡◌, ◌<◌, ◌^◌, ◌-ℤ◌, ap, sym, ◌∙◌, arith, unsigned_abs, to_z, of_z}
use Rattle.std.specs.Int.{w128}
use Rattle.std.proofs.lemmas.Int.{ints, to_z-of_z}
use Rattle.hyd_num.specs.FileQuantity.{head_ticks, is_us_unit}
use Rattle.hyd_capacities.proofs.HeadTicks.{ticks_short}
use Rattle.hyd_theorems_on_input.proofs.NodeRanges.{head_difference}
use Rattle.hyd_judge_nodes_curves_and_options.proofs.tanks.apart_fault.Goals as goal

pub returns : goal.returns
returns c =
    let most = c.args.row.now.maximum in
    let least = c.args.row.now.minimum in
    let high : unsigned_abs c.head_ticks.result < 2 ^ 100 =
    rw c.head_ticks.ensures (ticks_short c.is_us-us.result most.nano most.bounded) in
    let low : unsigned_abs c.head_ticks-2.result < 2 ^ 100 =
    rw c.head_ticks-2.ensures (ticks_short c.is_us-us.result least.nano least.bounded) in
    let fits : FitsSigned w128 (c.head_ticks.result -ℤ c.head_ticks-2.result) = omega (arith, ints, high, low) in
    let apart : (c.head_ticks.result -ℤ c.head_ticks-2.result)
    ≡ head_ticks (is_us_unit c.args.unit) (most.nano -ℤ least.nano) =
    rw (c.head_ticks.ensures, c.head_ticks-2.ensures) (sym (head_difference c.is_us-us.result most.nano least.nano))
    ∙ ap (λ us. head_ticks us (most.nano -ℤ least.nano)) c.is_us-us.ensures in
    let first : to_z w128 (of_z w128 c.head_ticks.result) ≡ c.head_ticks.result =
    to_z-of_z w128 c.head_ticks.result (record { sfits = c.head_ticks.type_inv }) in
    let second : to_z w128 (of_z w128 c.head_ticks-2.result) ≡ c.head_ticks-2.result =
    to_z-of_z w128 c.head_ticks-2.result (record { sfits = c.head_ticks-2.type_inv }) in
    let whole = to_z-of_z w128 (c.head_ticks.result -ℤ c.head_ticks-2.result) fits in
    rw (first, second, whole, apart) at c.near_fault.ensures
