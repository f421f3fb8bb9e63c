use Rattle.std.proofs.Common.{◌+◌, ◌-◌, ◌*◌, true, false, ap, ◌∙◌, arith, drop, mul-le-mul_right, le_refl}
use Rattle.hyd_spec_power_laws.specs.CutPowers.{cut_product}
use Rattle.hyd_power_laws.proofs.CutPowers.{power-empty, power-once, power-twice, exponent-empty, exponent-once}
use Rattle.hyd_power_laws.proofs.CutPowers.{exponent-twice, exponent-dropped, dropped_before}
use Rattle.hyd_power_laws.proofs.cut_powers.power.Goals as goal

pub loop-place-init : goal.loop-place-init
loop-place-init c = record {
  within = le_refl _;
  value = power-empty c.args.x c.args.digits.now;
  normal = c.requires.normal;
  near = let e = exponent-empty c.args.digits.now in omega (arith, ap (λ n. n * (c.args.x.exp + 63)) e);
}

pub product-power-requires-clause-near : goal.product-power-requires-clause-near
product-power-requires-clause-near c =
    let l = mul-le-mul_right (c.args.x.exp + 63) (exponent-dropped c.args.digits.now c.loop-place.place) in
    omega (arith, l, c.loop-place.invariant.near, c.requires.near)

pub product-power-requires-then-digits-place-clause-near : goal.product-power-requires-then-digits-place-clause-near
product-power-requires-then-digits-place-clause-near c =
    let d = dropped_before c.args.digits.now c.loop-place.place _ true (omega (arith, c.loop-place-test.true))
    c.loop-place.invariant.within c.if-digits-place.true in
    let e = exponent-twice (drop c.loop-place.place c.args.digits.now) (drop (c.loop-place.place - 1) c.args.digits.now)
    d in
    let l = mul-le-mul_right (c.args.x.exp + 63) (exponent-dropped c.args.digits.now (c.loop-place.place - 1)) in
    omega (
      arith,
      l,
      ap (λ n. n * (c.args.x.exp + 63)) e,
      c.loop-place.invariant.near,
      c.product-power.ensures.near,
      c.requires.near,
    )

pub loop-place-preserved-then-digits-place : goal.loop-place-preserved-then-digits-place
loop-place-preserved-then-digits-place c =
    let d = dropped_before c.args.digits.now c.loop-place.place _ true (omega (arith, c.loop-place-test.true))
    c.loop-place.invariant.within c.if-digits-place.true in
    let e = exponent-twice (drop c.loop-place.place c.args.digits.now) (drop (c.loop-place.place - 1) c.args.digits.now)
    d in
    record {
      within = omega (arith, c.loop-place.invariant.within);
      value =
          c.product-power-then-digits-place.ensures.value
          ∙ ap (λ s. cut_product s c.args.x) (c.product-power.ensures.value
          ∙ ap (λ h. cut_product h h) c.loop-place.invariant.value)
          ∙ power-twice c.args.x (drop c.loop-place.place c.args.digits.now)
          (drop (c.loop-place.place - 1) c.args.digits.now) d;
      normal = c.product-power-then-digits-place.ensures.normal;
      near = omega (
        arith,
        ap (λ n. n * (c.args.x.exp + 63)) e,
        c.loop-place.invariant.near,
        c.product-power.ensures.near,
        c.product-power-then-digits-place.ensures.near,
      );
    }

pub loop-place-preserved : goal.loop-place-preserved
loop-place-preserved c =
    let d = dropped_before c.args.digits.now c.loop-place.place _ false (omega (arith, c.loop-place-test.true))
    c.loop-place.invariant.within c.if-digits-place.false in
    let e = exponent-once (drop c.loop-place.place c.args.digits.now) (drop (c.loop-place.place - 1) c.args.digits.now)
    d in
    record {
      within = omega (arith, c.loop-place.invariant.within);
      value =
          c.product-power.ensures.value ∙ ap (λ h. cut_product h h) c.loop-place.invariant.value
          ∙ power-once c.args.x (drop c.loop-place.place c.args.digits.now)
          (drop (c.loop-place.place - 1) c.args.digits.now) d;
      normal = c.product-power.ensures.normal;
      near = omega (
        arith,
        ap (λ n. n * (c.args.x.exp + 63)) e,
        c.loop-place.invariant.near,
        c.product-power.ensures.near,
      );
    }
