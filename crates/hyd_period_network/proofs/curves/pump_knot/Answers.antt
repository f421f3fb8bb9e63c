use Rattle.std.proofs.Common.{◌≡◌, ◌*◌, ◌^◌, ◌≤◌, ℕ, ℤ, pos, neg_ℤ, ◌-ℤ◌, ◌*ℤ◌, to_z, of_z, w64, unsigned_abs, refl, ap}
use Rattle.std.proofs.Common.{◌∙◌, arith}
use Rattle.std.specs.Int.{w128}
use Rattle.std.proofs.Math.Nat.{mul-le-mul}
use Rattle.std.proofs.lemmas.Int.{ints, to_z-of_z}
use Rattle.hyd_spec.specs.WholeNumbers.{cut}
use Rattle.hyd_period_network.proofs.KnotsOfCurves.{pump_knot_is, cut_head, cut_flow, fits_128, fits_64}
use Rattle.hyd_period_network.proofs.curves.pump_knot.Goals as goal

within_both : (n : ℕ) → n ≤ 10 ^ 16 → n ≤ 10 ^ 18
within_both n small = omega (arith, small)

-- the two products, and what is cut of them
head_small : (c : goal.After-product-flow) → unsigned_abs c.squared_times-head.result ≤ 10 ^ 36
head_small c = omega (
  arith,
  ints,
  c.squared_times-head.ensures.small,
  c.from.ensures,
  c.requires.head.at_least,
  c.requires.head.at_most,
)

abbrev raised : (c : goal.After-product-flow) → ℤ
raised c = to_z w128 (of_z w128 (pos 0 -ℤ to_z w128 (of_z w128 c.squared_times-head.result)))

raised_is : (c : goal.After-product-flow) → raised c ≡ neg_ℤ c.squared_times-head.result
raised_is c = let s = head_small c in omega (arith, ints, s)

head_cut : (c : goal.After-product-flow) → unsigned_abs (cut (raised c) (10 ^ 18)) ≤ 10 ^ 18
head_cut c = let s = head_small c in let e = raised_is c in cut_head (raised c) (omega (arith, ints, s, e))

head_whole : (c : goal.After-product-flow) → to_z w128 (of_z w128 (cut (raised c) (10 ^ 18))) ≡ cut (raised c) (10 ^ 18)
head_whole c = let l = head_cut c in to_z-of_z w128 (cut (raised c) (10 ^ 18)) (fits_128 (cut (raised c) (10 ^ 18)) l)

head_fits : (c : goal.After-product-flow) → to_z w64 (of_z w64 (cut (raised c) (10 ^ 18))) ≡ cut (raised c) (10 ^ 18)
head_fits c = let l = head_cut c in to_z-of_z w64 (cut (raised c) (10 ^ 18)) (fits_64 (cut (raised c) (10 ^ 18)) l)

flow_small : (c : goal.After-product-flow) → unsigned_abs c.product-flow.result ≤ 10 ^ 25
flow_small c =
    let a : unsigned_abs (to_z w128 (of_z w128 c.from-2.result))
    ≤ 10 ^ 10 = omega (arith, ints, c.from-2.ensures, c.requires.speed.at_least, c.requires.speed.at_most) in
    let b : unsigned_abs (to_z w128 (of_z w128 c.from-3.result))
    ≤ 10 ^ 15 = omega (arith, ints, c.from-3.ensures, c.requires.flow.at_least, c.requires.flow.at_most) in
    let l : unsigned_abs (to_z w128 (of_z w128 c.from-2.result))
    * unsigned_abs (to_z w128 (of_z w128 c.from-3.result)) ≤ 10 ^ 10 * 10 ^ 15 = mul-le-mul a b in
    omega (arith, l, c.product-flow.ensures.small)

abbrev carried : (c : goal.After-product-flow) → ℤ
carried c = to_z w128 (of_z w128 c.product-flow.result)

carried_is : (c : goal.After-product-flow) → carried c ≡ c.product-flow.result
carried_is c = let s = flow_small c in omega (arith, ints, s)

flow_cut : (c : goal.After-product-flow) → unsigned_abs (cut (carried c) (10 ^ 9)) ≤ 10 ^ 16
flow_cut c = let s = flow_small c in let e = carried_is c in cut_flow (carried c) (omega (arith, ints, s, e))

flow_whole : (c : goal.After-product-flow) → to_z w128 (of_z w128 (cut (carried c) (10 ^ 9))) ≡ cut (carried c) (10 ^ 9)
flow_whole c = let l : unsigned_abs (cut (carried c) (10 ^ 9)) ≤ 10 ^ 18 = within_both _ (flow_cut c) in
    to_z-of_z w128 (cut (carried c) (10 ^ 9)) (fits_128 (cut (carried c) (10 ^ 9)) l)

flow_fits : (c : goal.After-product-flow) → to_z w64 (of_z w64 (cut (carried c) (10 ^ 9))) ≡ cut (carried c) (10 ^ 9)
flow_fits c = let l : unsigned_abs (cut (carried c) (10 ^ 9)) ≤ 10 ^ 18 = within_both _ (flow_cut c) in
    to_z-of_z w64 (cut (carried c) (10 ^ 9)) (fits_64 (cut (carried c) (10 ^ 9)) l)

pub overflow_cast-result : goal.overflow_cast-result
overflow_cast-result c = let l = head_cut c in rw (head_whole c) (fits_64 (cut (raised c) (10 ^ 18)) l)

pub overflow_cast-result-2 : goal.overflow_cast-result-2
overflow_cast-result-2 c = let l : unsigned_abs (cut (carried c) (10 ^ 9)) ≤ 10 ^ 18 = within_both _ (flow_cut c) in
    rw (flow_whole c) (fits_64 (cut (carried c) (10 ^ 9)) l)

squared : (c : goal.After-product-flow) → c.squared_times-head.result ≡ (c.args.speed *ℤ c.args.speed)
    *ℤ c.args.point.head
squared c =
    let s : to_z w64 (of_z w64 c.args.speed) ≡ c.args.speed = to_z-of_z w64 c.args.speed c.ranges.speed in
    let h : to_z w128 (of_z w128 c.from.result) ≡ c.args.point.head =
    omega (arith, ints, c.from.ensures, c.requires.head.at_least, c.requires.head.at_most) in
    c.squared_times-head.ensures.value ∙ (rw (s, h) refl)

times_flow : (c : goal.After-product-flow) → c.product-flow.result ≡ c.args.speed *ℤ c.args.point.flow
times_flow c =
    let s : to_z w128 (of_z w128 c.from-2.result) ≡ c.args.speed =
    omega (arith, ints, c.from-2.ensures, c.requires.speed.at_least, c.requires.speed.at_most) in
    let q : to_z w128 (of_z w128 c.from-3.result) ≡ c.args.point.flow =
    omega (arith, ints, c.from-3.ensures, c.requires.flow.at_least, c.requires.flow.at_most) in
    c.product-flow.ensures.value ∙ (rw (s, q) refl)

pub returns-clause-knot : goal.returns-clause-knot
returns-clause-knot c = rw (head_whole c, head_fits c, flow_whole c, flow_fits c)
    (pump_knot_is c.args.point c.args.speed c.squared_times-head.result c.product-flow.result (record {
      head = cut (raised c) (10 ^ 18);
      flow = cut (carried c) (10 ^ 9);
    }) c.requires.speed (squared c) (times_flow c)
    (ap (λ (z : ℤ). cut z (10 ^ 18)) (raised_is c)) (ap (λ (z : ℤ). cut z (10 ^ 9)) (carried_is c)))

pub returns-clause-range : goal.returns-clause-range
returns-clause-range c = rw (head_whole c, head_fits c, flow_whole c, flow_fits c) (record {
  head_range = head_cut c;
  flow_range = flow_cut c;
})
