use Rattle.std.proofs.Common.{◌≡◌, ◌≤◌, ◌+ℤ◌, ◌-ℤ◌, true, false, unsigned_abs, to_z, of_z, arith}
use Rattle.std.specs.Int.{w128}
use Rattle.std.proofs.lemmas.Int.{ints, to_z-of_z}
use Rattle.hyd_lemmas.proofs.BooleanTests.{le_z-yes}
use Rattle.hyd_spec_witnesses.specs.MetFlows.{IsNearBoth}
use Rattle.hyd_laws_at_scale.specs.Scales.{parts_of}
use Rattle.hyd_met_flows.specs.Periods.{flow_limit}
use Rattle.hyd_met_flows.proofs.Tests.{on_true, on_false, le_z-no}
use Rattle.hyd_met_flows.proofs.near_flows.is_near.Goals as goal
use lib.Signed.{le_z}

pub returns-then-window-tolerance-clause-yes : goal.returns-then-window-tolerance-clause-yes
returns-then-window-tolerance-clause-yes c =
    let own = to_z w128 (of_z w128 c.args.flow) in
    let most = to_z w128 (of_z w128
    (to_z w128 (of_z w128 c.args.window.low) +ℤ to_z w128 (of_z w128 c.tolerance-tolerance.result))) in
    let least = to_z w128 (of_z w128
    (to_z w128 (of_z w128 c.args.window.high) -ℤ to_z w128 (of_z w128 c.tolerance-tolerance.result))) in
    on_true (le_z own most) (IsNearBoth (parts_of c.args.scale) c.args.window.low c.args.window.high c.args.flow)
    (λ (e : le_z own most ≡ true).
    let h : to_z w128 (of_z w128 c.args.window.high) ≡ c.args.window.high = omega (arith, ints, c.args.window.high_small)
    in
    let l : to_z w128 (of_z w128 c.args.window.low) ≡ c.args.window.low = omega (arith, ints, c.args.window.low_small) in
    let k = to_z-of_z w128 c.tolerance-tolerance.result (record { sfits = c.tolerance-tolerance.type_inv }) in
    let f = to_z-of_z w128 c.args.flow c.ranges.flow in
    let a = le_z-yes least own c.if-window-tolerance.true in
    let b = le_z-yes own most e in
    let t = c.tolerance-tolerance.ensures.value in
    let s = c.tolerance-tolerance.ensures.small in
    record {
      from = omega (arith, ints, a, h, k, f, t, s, c.args.window.high_small);
      to = omega (arith, ints, b, l, k, f, t, s, c.args.window.low_small);
    })

pub returns-then-window-tolerance-clause-no : goal.returns-then-window-tolerance-clause-no
returns-then-window-tolerance-clause-no c =
    let own = to_z w128 (of_z w128 c.args.flow) in
    let most = to_z w128 (of_z w128
    (to_z w128 (of_z w128 c.args.window.low) +ℤ to_z w128 (of_z w128 c.tolerance-tolerance.result))) in
    on_false (le_z own most) (IsNearBoth (parts_of c.args.scale) c.args.window.low c.args.window.high c.args.flow → ⊥)
    (λ (e : le_z own most ≡ false)
    (near : IsNearBoth (parts_of c.args.scale) c.args.window.low c.args.window.high c.args.flow).
    let l : to_z w128 (of_z w128 c.args.window.low) ≡ c.args.window.low = omega (arith, ints, c.args.window.low_small) in
    let k = to_z-of_z w128 c.tolerance-tolerance.result (record { sfits = c.tolerance-tolerance.type_inv }) in
    let f = to_z-of_z w128 c.args.flow c.ranges.flow in
    let b = le_z-no own most e in
    let t = c.tolerance-tolerance.ensures.value in
    let s = c.tolerance-tolerance.ensures.small in
    let to = near.to in
    omega (arith, ints, b, l, k, f, t, s, to, c.args.window.low_small))

pub returns-then-window-tolerance-clause-small : goal.returns-then-window-tolerance-clause-small
returns-then-window-tolerance-clause-small c =
    let own = to_z w128 (of_z w128 c.args.flow) in
    let most = to_z w128 (of_z w128
    (to_z w128 (of_z w128 c.args.window.low) +ℤ to_z w128 (of_z w128 c.tolerance-tolerance.result))) in
    let least = to_z w128 (of_z w128
    (to_z w128 (of_z w128 c.args.window.high) -ℤ to_z w128 (of_z w128 c.tolerance-tolerance.result))) in
    on_true (le_z own most) (unsigned_abs c.args.flow ≤ flow_limit)
    (λ (e : le_z own most ≡ true).
    let h : to_z w128 (of_z w128 c.args.window.high) ≡ c.args.window.high = omega (arith, ints, c.args.window.high_small)
    in
    let l : to_z w128 (of_z w128 c.args.window.low) ≡ c.args.window.low = omega (arith, ints, c.args.window.low_small) in
    let k = to_z-of_z w128 c.tolerance-tolerance.result (record { sfits = c.tolerance-tolerance.type_inv }) in
    let f = to_z-of_z w128 c.args.flow c.ranges.flow in
    let a = le_z-yes least own c.if-window-tolerance.true in
    let b = le_z-yes own most e in
    let s = c.tolerance-tolerance.ensures.small in
    omega (arith, ints, a, b, h, l, k, f, s, c.args.window.high_small, c.args.window.low_small))
