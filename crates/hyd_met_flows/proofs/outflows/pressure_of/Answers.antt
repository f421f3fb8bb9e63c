use Rattle.std.proofs.Common.{◌≡◌, List, ℤ, pos, sym, ap, subst, ◌∙◌, arith}
use Rattle.std.specs.Prelude.{slice_get, slice_index_or}
use Rattle.std.specs.List.{All}
use Rattle.std.specs.Int.{w128}
use Rattle.std.proofs.lemmas.Int.{ints, to_z-of_z}
use Rattle.hyd_spec.specs.Scale.{at_scale}
use Rattle.hyd_spec_certificates.specs.PeriodNetwork.{GridJunction}
use Rattle.hyd_spec_witnesses.specs.WitnessText.{IsValue}
use Rattle.hyd_period_network.specs.NetAsPeriodNetwork.{grid_of}
use Rattle.hyd_laws_at_scale.specs.Scales.{parts_of}
use Rattle.hyd_met_flows.proofs.NearFlows.{there}
use Rattle.hyd_met_flows.proofs.outflows.pressure_of.Goals as goal

pub value_at-head-requires-clause-small : goal.value_at-head-requires-clause-small
value_at-head-requires-clause-small c = subst (All IsValue) (sym c.as_slice.ensures) c.requires.heads.in_range

pub returns : goal.returns
returns c = λ tanks links here at.
    let S = parts_of c.args.scale in
    let h = c.value_at-head.result in
    let kept = to_z-of_z w128 h (record { sfits = c.value_at-head.type_inv }) in
    let head = c.value_at-head.ensures.value
    ∙ ap (λ (vs : List ℤ). slice_index_or vs c.args.junction (pos 0)) c.as_slice.ensures in
    let level = there (slice_get (grid_of c.args.net.now).junctions c.args.junction) here
    (λ (j : GridJunction). c.elevation.result ≡ j.elevation) at c.elevation.ensures.value in
    let value : c.in_parts.result ≡ at_scale (parts_of c.args.scale) c.elevation.result =
    c.in_parts.ensures.value ∙ ap (at_scale S) (omega (arith, ints, c.from.ensures)) in
    let own = ap (at_scale S) level in
    let p = to_z-of_z w128 c.in_parts.result (record { sfits = c.in_parts.type_inv }) in
    omega (
      arith,
      ints,
      kept,
      head,
      value,
      own,
      p,
      c.in_parts.ensures.small,
      c.value_at-head.ensures.small,
      c.from.ensures,
    )
