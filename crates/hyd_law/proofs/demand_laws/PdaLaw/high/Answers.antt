use Rattle.std.proofs.Common.{◌≡◌, ◌-ℤ◌, to_z, of_z, w64, ap, ◌∙◌, arith}
use Rattle.std.specs.Int.{int_min}
use Rattle.std.proofs.lemmas.Int.{ints, clamps}
use Rattle.hyd_spec_certificates.specs.EnclosingFunctions.{quadratic_high}
use Rattle.hyd_law.specs.DemandLaws.{pda_high}
use Rattle.hyd_law.proofs.BetweenPressures.{between_is, all_is, lo_not_negative}
use Rattle.hyd_law.proofs.demand_laws.PdaLaw.high.Goals as goal

pub returns-clause-value : goal.returns-clause-value
returns-clause-value c =
    let s = c.args.self.now in
    let d : to_z w64 (of_z w64 c.above.result) ≡ c.args.d -ℤ c.args.self.now.p0.lo =
    omega (arith, ints, c.above.ensures) in
    let q : c.quadratic_high.result ≡ quadratic_high c.args.self.now.cap (c.args.d -ℤ c.args.self.now.p0.lo) =
    c.quadratic_high.ensures.value ∙ ap (quadratic_high c.args.self.now.cap) d in
    let v : c.lesser.result ≡ int_min c.args.self.now.demand
    (quadratic_high c.args.self.now.cap (c.args.d -ℤ c.args.self.now.p0.lo)) =
    omega (arith, ints, clamps, q, c.lesser.ensures.value, c.from-demand.ensures) in
    let r : c.lesser.result ≡ pda_high c.args.self.now c.args.d =
    between_is c.args.self.now.demand c.args.self.now.p0.lo c.args.self.now.pf.lo (quadratic_high c.args.self.now.cap)
    c.args.d c.lesser.result (omega (arith, ints, c.if-is_up_to.ensures.above))
    (omega (arith, ints, c.if-is_from.ensures.below)) v in
    omega (arith, ints, r)

pub returns-then-is_from-clause-value : goal.returns-then-is_from-clause-value
returns-then-is_from-clause-value c =
    let r : c.from-demand.result ≡ pda_high c.args.self.now c.args.d =
    all_is c.args.self.now.demand c.args.self.now.p0.lo c.args.self.now.pf.lo (quadratic_high c.args.self.now.cap)
    c.args.d c.from-demand.result (omega (arith, ints, c.if-is_up_to.ensures.above))
    (omega (arith, ints, c.if-is_from.ensures.at_least)) (omega (arith, ints, c.from-demand.ensures)) in
    omega (arith, ints, r)

pub returns-clause-small : goal.returns-clause-small
returns-clause-small c = omega (
  arith,
  ints,
  c.lesser.ensures.small,
  c.quadratic_high.ensures.small,
  c.from-demand.ensures,
)

pub above-requires : goal.above-requires
above-requires c =
    let l = c.args.self.now in
    let least = lo_not_negative l.us l.minimum l.p0 c.requires.sound.none c.requires.sound.not_negative in
    omega (arith, ints, least, c.requires.accepted, c.if-is_up_to.ensures.above)
