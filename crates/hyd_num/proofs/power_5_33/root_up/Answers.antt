use Rattle.std.proofs.Common.{◌≡◌, ◌+◌, ◌*◌, ◌^◌, ◌≤◌, pos, ◌+ℤ◌, FitsSigned, to_z, of_z, w32, refl, ap, sym, arith}
use Rattle.std.proofs.Common.{le_of_eq, le_refl, le_of_lt, lit≤}
use Rattle.std.proofs.lemmas.Int.{ints}
use borrow.Author.Differences.{up, down}
use Rattle.hyd_num.specs.BinaryNumbers.{numerator, denominator}
use Rattle.hyd_num.proofs.RootSearch.{two_above, bound_from, bound_to, none_below, none_up_to, least_found}
use Rattle.hyd_num.proofs.RootSearch.{power_behind, start_power, end_power}
use Rattle.hyd_num.proofs.power_5_33.root_up.Goals as goal

pub prove-unreachable-requires : goal.prove-unreachable-requires
prove-unreachable-requires c =
    let f : FitsSigned w32 c.root_exponent-exp.result = record { sfits = c.root_exponent-exp.type_inv } in
    let e : c.scaled-high.result.exp ≡ (to_z w32 (of_z w32 c.root_exponent-exp.result))
    +ℤ pos 1 = omega (arith, ints) in
    let v : numerator c.scaled-high.result * 2 ^ down (to_z w32 (of_z w32 c.root_exponent-exp.result)) ≡ 2 ^ 63
    * 2 ^ up (to_z w32 (of_z w32 c.root_exponent-exp.result)) * denominator c.scaled-high.result = power_behind
    c.scaled-high.result (to_z w32 (of_z w32 c.root_exponent-exp.result)) c.scaled-high.ensures.mantissa e in
    let w : 2 ^ (up (to_z w32 (of_z w32 c.root_exponent-exp.result)) + 63) * denominator c.scaled-high.result
    ≤ numerator c.scaled-high.result * 2 ^ down (to_z w32 (of_z w32 c.root_exponent-exp.result)) = rw end_power
    (le_of_eq (sym v)) in
    two_above c.scaled-high.result c.args.bound (up (to_z w32 (of_z w32 c.root_exponent-exp.result)) + 63)
    (down (to_z w32 (of_z w32 c.root_exponent-exp.result))) w
    (bound_to c.args.bound (100 * (up (to_z w32 (of_z w32 c.root_exponent-exp.result)) + 63))
    (100 * down (to_z w32 (of_z w32 c.root_exponent-exp.result))) (omega (arith, ints)))
    (c.is_root_above.ensures.below c.if-prove.true)

pub loop-low-init : goal.loop-low-init
loop-low-init c =
    let f : FitsSigned w32 c.root_exponent-exp.result = record { sfits = c.root_exponent-exp.type_inv } in
    let e : c.scaled-high.result.exp ≡ (to_z w32 (of_z w32 c.root_exponent-exp.result))
    +ℤ pos 1 = omega (arith, ints) in
    record {
      least = le_refl _;
      in_order = lit≤ tt;
      short = le_refl _;
      near = omega (arith, ints, e);
      far = omega (arith, ints, e);
      value = power_behind c.scaled-high.result (to_z w32 (of_z w32 c.root_exponent-exp.result))
          c.scaled-high.ensures.mantissa e;
      above = c.is_root_above.ensures.above c.if-prove.false;
      none = λ t b.
          let l : 2 ^ (up (to_z w32 (of_z w32 c.root_exponent-exp.result)) + 62) * denominator t ≤ numerator t
          * 2 ^ down (to_z w32 (of_z w32 c.root_exponent-exp.result)) =
          none_below c.args.bound t (up (to_z w32 (of_z w32 c.root_exponent-exp.result)) + 62)
          (down (to_z w32 (of_z w32 c.root_exponent-exp.result)))
          (bound_from c.args.bound (100 * (up (to_z w32 (of_z w32 c.root_exponent-exp.result)) + 62))
          (100 * down (to_z w32 (of_z w32 c.root_exponent-exp.result))) (omega (arith, ints))) b in
          rw start_power at l;
    }

pub loop-low-preserved-then-is_root_above : goal.loop-low-preserved-then-is_root_above
loop-low-preserved-then-is_root_above c = record {
  least = c.loop-low.invariant.least;
  in_order = rw c.scaled-middle.ensures.mantissa (omega arith);
  short = le_of_lt c.scaled-middle.result.short;
  near = omega (arith, ap up c.scaled-middle.ensures.exponent, ap down c.scaled-middle.ensures.exponent);
  far = omega (arith, ap up c.scaled-middle.ensures.exponent, ap down c.scaled-middle.ensures.exponent);
  value = rw c.scaled-middle.ensures.exponent refl;
  above = c.is_root_above-in-loop-low.ensures.above c.if-is_root_above.true;
  none = c.loop-low.invariant.none;
}

pub loop-low-preserved : goal.loop-low-preserved
loop-low-preserved c = record {
  least = rw c.scaled-middle.ensures.mantissa (omega (arith, c.loop-low.invariant.least));
  in_order = rw c.scaled-middle.ensures.mantissa (omega arith);
  short = c.loop-low.invariant.short;
  near = c.loop-low.invariant.near;
  far = c.loop-low.invariant.far;
  value = c.loop-low.invariant.value;
  above = c.loop-low.invariant.above;
  none = λ t b. none_up_to c.args.bound c.scaled-middle.result t (to_z w32 (of_z w32 c.root_exponent-exp.result))
      c.scaled-middle.ensures.exponent (c.is_root_above-in-loop-low.ensures.below c.if-is_root_above.false) b;
}

pub returns-clause-root : goal.returns-clause-root
returns-clause-root c = record {
  above = c.loop-low.invariant.above;
  least = λ t b. least_found c.loop-low.high t (to_z w32 (of_z w32 c.root_exponent-exp.result)) c.loop-low.low
      c.loop-low.end (omega arith) c.loop-low.invariant.value (c.loop-low.invariant.none t b);
}
