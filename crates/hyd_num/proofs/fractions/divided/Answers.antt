use Rattle.std.proofs.Common.{◌*◌, ◌^◌, ◌≤◌, ap, arith}
use Rattle.std.proofs.lemmas.Nat.{pow-add}
use Rattle.hyd_num.proofs.LongDivision.{few_digits, nearer}
use Rattle.hyd_num.proofs.fractions.divided.Goals as goal

pub overflow_add-digits : goal.overflow_add-digits
overflow_add-digits c =
    let few : c.loop-mant.digits ≤ 163 = few_digits c.args.p c.args.divisor c.loop-mant.mant c.loop-mant.rest
    c.loop-mant.digits
    c.loop-mant.invariant.split c.loop-mant.invariant.small c.loop-mant.invariant.short c.requires.fits
    c.requires.p_positive in
    record { fits = omega arith }

pub loop-mant-smaller : goal.loop-mant-smaller
loop-mant-smaller c = nearer c.args.p c.args.divisor c.loop-mant.mant c.loop-mant.rest c.loop-mant.digits
    c.digits_at_once-more.result c.with_digits.result.0 c.with_digits.result.1
    c.loop-mant.invariant.split c.requires.p_positive c.loop-mant-test.true c.loop-mant.invariant.small
    c.digits_at_once-more.ensures.some c.with_digits.ensures.split

pub loop-mant-preserved : goal.loop-mant-preserved
loop-mant-preserved c = record {
  split = omega (
    arith,
    ap (λ x. c.args.p * x) (pow-add 2 c.loop-mant.digits c.digits_at_once-more.result),
    ap (λ x. 2 ^ c.digits_at_once-more.result * x) c.loop-mant.invariant.split,
    c.with_digits.ensures.split,
  );
  small = c.with_digits.ensures.rest;
  short = c.with_digits.ensures.short;
}

pub returns-clause-few : goal.returns-clause-few
returns-clause-few c = few_digits c.args.p c.args.divisor c.loop-mant.mant c.loop-mant.rest c.loop-mant.digits
    c.loop-mant.invariant.split c.loop-mant.invariant.small c.loop-mant.invariant.short c.requires.fits
    c.requires.p_positive
