use Rattle.std.proofs.Common.{◌+◌, ◌*◌, ◌^◌, ◌<◌, ◌≤◌, inl, inr, arith}
use Rattle.hyd_power_laws.proofs.HeldQuotients.{times_held, times_reaches, times_short}
use Rattle.hyd_power_laws.proofs.left_heads.shifted_up.Goals as goal
use Rattle.hyd_power_laws.proofs.left_heads.shifted_up.Goals.{After-power_of_two-2}

pub returns-then-wide-ge-TWO_TO_58-clause-whole : goal.returns-then-wide-ge-TWO_TO_58-clause-whole
returns-then-wide-ge-TWO_TO_58-clause-whole c =
    let l : 2 ^ 122 ≤ (c.args.wide.high * 2 ^ 64 + c.args.wide.low) * 2 ^ c.args.places =
    times_held (c.args.wide.high * 2 ^ 64 + c.args.wide.low) c.args.places c.requires.least
    (elim c.then-wide-ge-TWO_TO_58.either [ inl h ↦ inl (omega (arith, h)) | inr h ↦ inr h.1 ]) in
    omega (arith, l, c.held.ensures.whole)

pub returns-then-number-power_of_two-clause-whole : goal.returns-then-number-power_of_two-clause-whole
returns-then-number-power_of_two-clause-whole c =
    let l : 2 ^ 122 ≤ (c.args.wide.high * 2 ^ 64 + c.args.wide.low) * 2 ^ c.args.places =
    times_reaches (c.args.wide.high * 2 ^ 64 + c.args.wide.low) c.args.places c.if-places-ge60.false
    (omega (arith, c.power_of_two.ensures, c.if-number-power_of_two.true)) in
    omega (arith, l, c.held-then-number-power_of_two.ensures.whole)

short : (c : After-power_of_two-2) → (c.args.wide.high * 2 ^ 64 + c.args.wide.low) * 2 ^ c.args.places < 2 ^ 122
short c = times_short (c.args.wide.high * 2 ^ 64 + c.args.wide.low) c.args.places c.if-places-ge60.false
    (omega (arith, c.power_of_two.ensures, c.if-number-power_of_two.false))

pub overflow_mul-result : goal.overflow_mul-result
overflow_mul-result c = rw c.power_of_two-2.ensures (let l = short c in record { fits = omega (arith, l) })

pub returns-clause-whole : goal.returns-clause-whole
returns-clause-whole c = rw c.power_of_two-2.ensures (let l = short c in omega (arith, l))
