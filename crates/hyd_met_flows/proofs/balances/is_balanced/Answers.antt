use Rattle.std.proofs.Common.{◌≡◌, ◌+ℤ◌, ◌-ℤ◌, pos, true, false, to_z, of_z, arith}
use Rattle.std.specs.Int.{w128}
use Rattle.std.proofs.lemmas.Int.{ints, to_z-of_z}
use Rattle.hyd_spec.specs.Assignment.{IsBalanced}
use Rattle.hyd_lemmas.proofs.BooleanTests.{le_z-yes}
use Rattle.hyd_laws_at_scale.specs.Scales.{parts_of}
use Rattle.hyd_met_flows.proofs.Tests.{on_true, on_false, le_z-no}
use Rattle.hyd_met_flows.proofs.balances.is_balanced.Goals as goal
use lib.Signed.{le_z}

pub returns-then-excess-tolerance-clause-yes : goal.returns-then-excess-tolerance-clause-yes
returns-then-excess-tolerance-clause-yes c =
    let outflow = to_z w128 (of_z w128 c.args.outflow) in
    let demand = to_z w128 (of_z w128 c.args.demand) in
    let emitter = to_z w128 (of_z w128 c.args.emitter) in
    let excess = to_z w128 (of_z w128 (to_z w128 (of_z w128 (outflow +ℤ demand)) +ℤ emitter)) in
    let opposite = to_z w128 (of_z w128 (pos 0 -ℤ excess)) in
    let tolerance = to_z w128 (of_z w128 c.tolerance-tolerance.result) in
    on_true (le_z opposite tolerance) (IsBalanced (parts_of c.args.scale) c.args.outflow c.args.demand c.args.emitter)
    (λ (e : le_z opposite tolerance ≡ true).
    let a = le_z-yes excess tolerance c.if-excess-tolerance.true in
    let b = le_z-yes opposite tolerance e in
    let k = to_z-of_z w128 c.tolerance-tolerance.result (record { sfits = c.tolerance-tolerance.type_inv }) in
    let t = c.tolerance-tolerance.ensures.value in
    let x = to_z-of_z w128 c.args.outflow c.ranges.outflow in
    let y = to_z-of_z w128 c.args.demand c.ranges.demand in
    let z = to_z-of_z w128 c.args.emitter c.ranges.emitter in
    let f = c.requires.outflow in
    let g = c.requires.demand in
    let h = c.requires.emitter in
    let p : to_z w128 (of_z w128 (outflow +ℤ demand)) ≡ c.args.outflow +ℤ c.args.demand = omega (arith, ints, x, y, f, g)
    in
    let q : excess ≡ (c.args.outflow +ℤ c.args.demand) +ℤ c.args.emitter = omega (arith, ints, p, z, f, g, h) in
    let n : opposite ≡ pos 0 -ℤ ((c.args.outflow +ℤ c.args.demand) +ℤ c.args.emitter) = omega (arith, ints, q, f, g, h) in
    record { low = omega (arith, ints, a, q, k, t); high = omega (arith, ints, b, n, k, t) })

pub returns-then-excess-tolerance-clause-no : goal.returns-then-excess-tolerance-clause-no
returns-then-excess-tolerance-clause-no c =
    let outflow = to_z w128 (of_z w128 c.args.outflow) in
    let demand = to_z w128 (of_z w128 c.args.demand) in
    let emitter = to_z w128 (of_z w128 c.args.emitter) in
    let excess = to_z w128 (of_z w128 (to_z w128 (of_z w128 (outflow +ℤ demand)) +ℤ emitter)) in
    let opposite = to_z w128 (of_z w128 (pos 0 -ℤ excess)) in
    let tolerance = to_z w128 (of_z w128 c.tolerance-tolerance.result) in
    on_false (le_z opposite tolerance) (IsBalanced (parts_of c.args.scale) c.args.outflow c.args.demand c.args.emitter → ⊥)
    (λ (e : le_z opposite tolerance ≡ false)
    (is : IsBalanced (parts_of c.args.scale) c.args.outflow c.args.demand c.args.emitter).
    let b = le_z-no opposite tolerance e in
    let k = to_z-of_z w128 c.tolerance-tolerance.result (record { sfits = c.tolerance-tolerance.type_inv }) in
    let t = c.tolerance-tolerance.ensures.value in
    let x = to_z-of_z w128 c.args.outflow c.ranges.outflow in
    let y = to_z-of_z w128 c.args.demand c.ranges.demand in
    let z = to_z-of_z w128 c.args.emitter c.ranges.emitter in
    let f = c.requires.outflow in
    let g = c.requires.demand in
    let h = c.requires.emitter in
    let p : to_z w128 (of_z w128 (outflow +ℤ demand)) ≡ c.args.outflow +ℤ c.args.demand = omega (arith, ints, x, y, f, g)
    in
    let q : excess ≡ (c.args.outflow +ℤ c.args.demand) +ℤ c.args.emitter = omega (arith, ints, p, z, f, g, h) in
    let n : opposite ≡ pos 0 -ℤ ((c.args.outflow +ℤ c.args.demand) +ℤ c.args.emitter) = omega (arith, ints, q, f, g, h) in
    let high = is.high in
    omega (arith, ints, b, n, k, t, high))

pub returns-else-excess-tolerance-clause-no : goal.returns-else-excess-tolerance-clause-no
returns-else-excess-tolerance-clause-no c =
    let outflow = to_z w128 (of_z w128 c.args.outflow) in
    let demand = to_z w128 (of_z w128 c.args.demand) in
    let emitter = to_z w128 (of_z w128 c.args.emitter) in
    let excess = to_z w128 (of_z w128 (to_z w128 (of_z w128 (outflow +ℤ demand)) +ℤ emitter)) in
    let tolerance = to_z w128 (of_z w128 c.tolerance-tolerance.result) in
    on_false (le_z excess tolerance) (IsBalanced (parts_of c.args.scale) c.args.outflow c.args.demand c.args.emitter → ⊥)
    (λ (e : le_z excess tolerance ≡ false)
    (is : IsBalanced (parts_of c.args.scale) c.args.outflow c.args.demand c.args.emitter).
    let b = le_z-no excess tolerance e in
    let k = to_z-of_z w128 c.tolerance-tolerance.result (record { sfits = c.tolerance-tolerance.type_inv }) in
    let t = c.tolerance-tolerance.ensures.value in
    let x = to_z-of_z w128 c.args.outflow c.ranges.outflow in
    let y = to_z-of_z w128 c.args.demand c.ranges.demand in
    let z = to_z-of_z w128 c.args.emitter c.ranges.emitter in
    let f = c.requires.outflow in
    let g = c.requires.demand in
    let h = c.requires.emitter in
    let p : to_z w128 (of_z w128 (outflow +ℤ demand)) ≡ c.args.outflow +ℤ c.args.demand = omega (arith, ints, x, y, f, g)
    in
    let q : excess ≡ (c.args.outflow +ℤ c.args.demand) +ℤ c.args.emitter = omega (arith, ints, p, z, f, g, h) in
    let low = is.low in
    omega (arith, ints, b, q, k, t, low))
