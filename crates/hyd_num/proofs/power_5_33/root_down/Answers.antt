use Rattle.std.proofs.Common.{◌+◌, ◌*◌, ◌^◌, ◌<◌, FitsSigned, to_z, of_z, w32, arith, le_of_eq, le_refl, le_of_lt, lit<}
use Rattle.std.proofs.lemmas.Int.{ints}
use borrow.Author.Differences.{up, down}
use Rattle.hyd_num.specs.BinaryNumbers.{numerator, denominator}
use Rattle.hyd_num.proofs.RootSearch.{two_below, bound_from, bound_to, none_above, none_from, greatest_found}
use Rattle.hyd_num.proofs.RootSearch.{first_power, end_power}
use Rattle.hyd_num.proofs.power_5_33.root_down.Goals as goal

pub prove-unreachable-requires : goal.prove-unreachable-requires
prove-unreachable-requires c =
    let f : FitsSigned w32 c.root_exponent-exp.result = record { sfits = c.root_exponent-exp.type_inv } in
    two_below c.scaled-low.result c.args.bound (up (to_z w32 (of_z w32 c.root_exponent-exp.result)) + 62)
    (down (to_z w32 (of_z w32 c.root_exponent-exp.result)))
    (le_of_eq (first_power c.scaled-low.result (to_z w32 (of_z w32 c.root_exponent-exp.result))
    c.scaled-low.ensures.mantissa c.scaled-low.ensures.exponent))
    (bound_from c.args.bound (100 * (up (to_z w32 (of_z w32 c.root_exponent-exp.result)) + 62))
    (100 * down (to_z w32 (of_z w32 c.root_exponent-exp.result))) (omega (arith, ints)))
    (c.is_root_below.ensures.above c.if-prove.true)

pub loop-high-init : goal.loop-high-init
loop-high-init c =
    let f : FitsSigned w32 c.root_exponent-exp.result = record { sfits = c.root_exponent-exp.type_inv } in
    record {
      exponent = c.scaled-low.ensures.exponent;
      in_order = rw c.scaled-low.ensures.mantissa (lit< tt);
      short = le_refl _;
      below = c.is_root_below.ensures.below c.if-prove.false;
      none = λ t b.
          let l : numerator t * 2 ^ down (to_z w32 (of_z w32 c.root_exponent-exp.result))
          < 2 ^ (up (to_z w32 (of_z w32 c.root_exponent-exp.result)) + 63) * denominator t =
          none_above c.args.bound t (up (to_z w32 (of_z w32 c.root_exponent-exp.result)) + 63)
          (down (to_z w32 (of_z w32 c.root_exponent-exp.result)))
          (bound_to c.args.bound (100 * (up (to_z w32 (of_z w32 c.root_exponent-exp.result)) + 63))
          (100 * down (to_z w32 (of_z w32 c.root_exponent-exp.result))) (omega (arith, ints))) b in
          rw end_power at l;
    }

pub loop-high-preserved-then-is_root_below : goal.loop-high-preserved-then-is_root_below
loop-high-preserved-then-is_root_below c = record {
  exponent = c.scaled-middle.ensures.exponent;
  in_order = rw c.scaled-middle.ensures.mantissa (omega arith);
  short = c.loop-high.invariant.short;
  below = c.is_root_below-in-loop-high.ensures.below c.if-is_root_below.true;
  none = c.loop-high.invariant.none;
}

pub loop-high-preserved : goal.loop-high-preserved
loop-high-preserved c = record {
  exponent = c.loop-high.invariant.exponent;
  in_order = rw c.scaled-middle.ensures.mantissa (omega arith);
  short = le_of_lt c.scaled-middle.result.short;
  below = c.loop-high.invariant.below;
  none = λ t b. none_from c.args.bound c.scaled-middle.result t (to_z w32 (of_z w32 c.root_exponent-exp.result))
      c.scaled-middle.ensures.exponent (c.is_root_below-in-loop-high.ensures.above c.if-is_root_below.false) b;
}

pub returns-clause-root : goal.returns-clause-root
returns-clause-root c = record {
  below = c.loop-high.invariant.below;
  greatest = λ t b. greatest_found c.args.bound c.loop-high.low t (to_z w32 (of_z w32 c.root_exponent-exp.result))
      c.loop-high.high c.loop-high.invariant.exponent (omega arith) (c.loop-high.invariant.none t b);
}
