use Rattle.std.proofs.Common.{◌≡◌, ℤ, List, pos, ◌-ℤ◌, slice_index_or, refl, ap, ◌∙◌, arith}
use Rattle.std.specs.Int.{w128}
use Rattle.std.proofs.lemmas.Int.{ints, to_z-of_z}
use Rattle.hyd_spec.specs.ProgramTypes.{Junction}
use Rattle.hyd_spec.specs.Scale.{at_scale}
use Rattle.hyd_spec.specs.Rules.{pressure_of}
use Rattle.hyd_laws_at_scale.specs.Scales.{parts_of}
use Rattle.hyd_rules_at_scale.specs.Instants.{readings_at}
use Rattle.hyd_rules_at_scale.proofs.ReadingsOfInstants.{junction_of, pressure_of_junction, whole_at}
use Rattle.hyd_rules_at_scale.proofs.readings.pressure_of.Goals as goal

pub returns-clause-value : goal.returns-clause-value
returns-clause-value c = λ levels are.
    let instant = c.args.instant.now in
    let project = instant.project.now in
    let S = parts_of instant.scale in
    let node = c.args.node in
    let readings = readings_at instant levels in
    let here = c.index-as_slice-node.result in
    let before = c.in_default.ensures.other in
    let there = junction_of project node c.requires.there before in
    let copy = ap (λ (j : Junction). j.elevation) c.index-as_slice-node.is in
    let listed = ap (λ (js : List Junction). (slice_index_or js node here).elevation) c.as_slice.ensures in
    let range = (c.requires.instant.sound.quantities.junctions node here there).elevation in
    let low = range.at_least in
    let high = range.at_most in
    let head : c.head_of-head.result ≡ slice_index_or readings.heads node (pos 0) = c.head_of-head.ensures.value in
    let value : c.in_parts.result ≡ at_scale S here.elevation =
    c.in_parts.ensures.value ∙ ap (at_scale S) (omega (arith, ints, c.from.ensures, low, high, copy, listed)) in
    let raised = to_z-of_z w128 c.in_parts.result (record { sfits = c.in_parts.type_inv }) in
    let own : ℤ = slice_index_or readings.heads node (pos 0) -ℤ at_scale S here.elevation in
    whole_at c.whole.result _ own (pressure_of project S readings node) c.whole.ensures.value
    (pressure_of_junction project S readings node c.as_slice.result.now here own before there c.as_slice.ensures
    c.index-as_slice-node.is refl)
    (omega (
      arith,
      ints,
      head,
      value,
      raised,
      c.head_of-head.ensures.small,
      c.in_parts.ensures.small,
      c.from.ensures,
      low,
      high,
      copy,
      listed,
    ))
