use Rattle.std.proofs.Common.{◌≡◌, ◌+◌, ◌*◌, ◌^◌, ap, arith, min, ◌∙◌, unsigned_abs, ℤ, pos, ◌<ℤ◌, refl}
use Rattle.std.proofs.lemmas.Int.{ints}
use borrow.Author.Differences.{up, down}
use Rattle.hyd_num.proofs.CapacityRoots.{places_below}
use Rattle.hyd_power_laws.proofs.HeldQuotients.{lost_up, lost_up_exact, lost_down, lost_down_exact}
use Rattle.hyd_power_laws.proofs.left_heads.lost.Goals as goal

none_above : (z : ℤ) → z <ℤ pos 0 → up z ≡ 0
none_above z h = (places_below z (unsigned_abs z) h refl).1

pub returns-then-places-ge0-clause-whole : goal.returns-then-places-ge0-clause-whole
returns-then-places-ge0-clause-whole c =
    c.shifted_up.ensures.whole
    ∙ ap (λ x. min x (2 ^ 122)) (lost_up c.args.m.mant (c.args.flow * c.args.flow)
    (c.times_square-wide.result.high * 2 ^ 64 + c.times_square-wide.result.low) (up c.args.m.exp) (down c.args.m.exp)
    c.unsigned_abs.result c.times_square-wide.ensures.value (omega (arith, ints)))

pub returns-then-places-ge0-clause-exact : goal.returns-then-places-ge0-clause-exact
returns-then-places-ge0-clause-exact c = λ lt.
    c.shifted_up.ensures.exact
    ∙ lost_up_exact c.args.m.mant (c.args.flow * c.args.flow)
    (c.times_square-wide.result.high * 2 ^ 64 + c.times_square-wide.result.low) (up c.args.m.exp) (down c.args.m.exp)
    c.unsigned_abs.result c.times_square-wide.ensures.value (omega (arith, ints))

pub returns-clause-whole : goal.returns-clause-whole
returns-clause-whole c =
    c.shifted_down.ensures.whole
    ∙ ap (λ x. min x (2 ^ 122)) (lost_down c.args.m.mant (c.args.flow * c.args.flow)
    (c.times_square-wide.result.high * 2 ^ 64 + c.times_square-wide.result.low) (up c.args.m.exp) (down c.args.m.exp)
    c.unsigned_abs-2.result c.times_square-wide.ensures.value (none_above c.args.m.exp (omega (arith, ints)))
    (omega (arith, ints, none_above c.args.m.exp (omega (arith, ints)))))

pub returns-clause-exact : goal.returns-clause-exact
returns-clause-exact c = λ lt.
    c.shifted_down.ensures.exact lt
    ∙ lost_down_exact c.args.m.mant (c.args.flow * c.args.flow)
    (c.times_square-wide.result.high * 2 ^ 64 + c.times_square-wide.result.low) (up c.args.m.exp) (down c.args.m.exp)
    c.unsigned_abs-2.result c.times_square-wide.ensures.value (none_above c.args.m.exp (omega (arith, ints)))
    (omega (arith, ints, none_above c.args.m.exp (omega (arith, ints))))
