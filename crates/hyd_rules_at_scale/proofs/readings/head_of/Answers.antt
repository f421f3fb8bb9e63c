use Rattle.std.proofs.Common.{◌≡◌, ◌<◌, ℤ, List, length, slice_index_or, sym, ap, subst, ◌∙◌, arith, to_z, of_z}
use Rattle.std.specs.Int.{w128}
use Rattle.std.proofs.lemmas.Int.{ints, to_z-of_z}
use Rattle.hyd_num.specs.Rational.{Rational, whole, total_of}
use Rattle.hyd_spec.specs.ProgramTypes.{Tank}
use Rattle.hyd_spec.specs.Scale.{at_scale}
use Rattle.hyd_spec.specs.Rules.{level_of}
use Rattle.hyd_laws_at_scale.specs.Scales.{parts_of}
use Rattle.hyd_rules_at_scale.specs.Instants.{readings_at}
use Rattle.hyd_rules_at_scale.specs.Quantities.{IsExactly}
use Rattle.hyd_rules_at_scale.proofs.ReadingsOfInstants.{bottom_is, head_of_tank}
use Rattle.hyd_rules_at_scale.proofs.readings.head_of.Goals as goal

pub returns-in-Some-clause-value : goal.returns-in-Some-clause-value
returns-in-Some-clause-value c = λ levels are.
    let instant = c.args.instant.now in
    let project = instant.project.now in
    let S = parts_of instant.scale in
    let tank = c.in-Some.tank in
    let here = c.index-as_slice-tank.result in
    let level = level_of (readings_at instant levels) tank in
    let there : tank < length project.tanks.list = omega (arith, c.in-Some.ensures.tank, c.requires.there) in
    let copy = ap (λ (t : Tank). t.bottom) c.index-as_slice-tank.is in
    let listed = ap (λ (ts : List Tank). (slice_index_or ts tank here).bottom) c.as_slice.ensures in
    let range = (c.requires.instant.sound.quantities.tanks tank here there).bottom in
    let low = range.at_least in
    let high = range.at_most in
    let value : c.in_parts.result ≡ at_scale S here.bottom =
    c.in_parts.ensures.value ∙ ap (at_scale S) (omega (arith, ints, c.from.ensures, low, high, copy, listed)) in
    let by : to_z w128 (of_z w128 c.in_parts.result) ≡ at_scale S here.bottom =
    to_z-of_z w128 c.in_parts.result (record { sfits = c.in_parts.type_inv }) ∙ value in
    let own = bottom_is project tank c.as_slice.result.now here there c.as_slice.ensures c.index-as_slice-tank.is in
    subst (λ (x : Rational). IsExactly c.raised.result x)
    (ap (λ (z : ℤ). total_of level (whole z)) by
    ∙ sym (head_of_tank project S (readings_at instant levels) c.args.node tank here.bottom c.in-Some.ensures.tank own))
    (c.raised.ensures.value level (c.level_of-level.ensures.value levels are))
