use Rattle.std.proofs.Common.{◌≡◌, ◌∙◌, ap₂, to_z, of_z, arith, ℤ, ◌+ℤ◌}
use Rattle.std.specs.Int.{w128}
use Rattle.std.proofs.lemmas.Int.{ints}
use Rattle.hyd_num.specs.Rational.{floor, ceiling}
use Rattle.hyd_spec.specs.DemandsHeadsAndPumpLifts.{lift_of}
use Rattle.hyd_spec_certificates.specs.StatusesOfLinks.{by_drive}
use Rattle.hyd_bounds.proofs.status_words.lifted.Goals as goal

pub overflow_add-from : goal.overflow_add-from
overflow_add-from c =
    let from = c.from.ensures in
    let given = c.requires.least in
    omega (arith, ints, from, given)

pub overflow_add-from-2 : goal.overflow_add-from-2
overflow_add-from-2 c =
    let from = c.from-2.ensures in
    let given = c.requires.greatest in
    omega (arith, ints, from, given)

pub returns : goal.returns
returns c =
    let lift = lift_of c.args.pump.now.inner.us c.args.pump.now.inner.head c.args.pump.now.inner.speed in
    let from = c.from.ensures in
    let to = c.from-2.ensures in
    let below = c.requires.least in
    let above = c.requires.greatest in
    let floor_is = c.requires.lift.floor_is in
    let ceiling_is = c.requires.lift.ceiling_is in
    let lo : to_z w128 (of_z w128 (to_z w128 (of_z w128 c.from.result)
    +ℤ to_z w128 (of_z w128 c.args.pump.now.inner.lift.lo))) ≡ (c.args.least +ℤ floor lift) =
    omega (arith, ints, from, below, floor_is) in
    let hi : to_z w128 (of_z w128 (to_z w128 (of_z w128 c.from-2.result)
    +ℤ to_z w128 (of_z w128 c.args.pump.now.inner.lift.hi))) ≡ (c.args.greatest +ℤ ceiling lift) =
    omega (arith, ints, to, above, ceiling_is) in
    rw (c.if-not-pump.false) (c.by_drive.ensures ∙ ap₂ (λ (a b : ℤ). by_drive (record { lo = a; hi = b })) lo hi)
