use Rattle.std.proofs.Common.{◌≡◌, ap, ◌∙◌, arith}
use Rattle.std.specs.Prelude.{slice_get}
use Rattle.std.specs.Int.{w128}
use Rattle.std.proofs.lemmas.Int.{ints, to_z-of_z}
use Rattle.hyd_spec.specs.ProgramTypes.{Tank}
use Rattle.hyd_spec.specs.Scale.{at_scale}
use Rattle.hyd_lemmas.proofs.ListsOptionsAndResults.{same_some}
use Rattle.hyd_laws_at_scale.specs.Scales.{parts_of}
use Rattle.hyd_met_flows.proofs.TanksRead.{tank_at, in_range}
use Rattle.hyd_met_flows.proofs.heads.head_of_tank.Goals as goal

pub returns-clause-value : goal.returns-clause-value
returns-clause-value c = λ each at.
    let S = parts_of c.args.scale in
    let project = c.args.project.now in
    let here = c.index-as_slice-tank.result in
    let found = tank_at project c.args.tank c.as_slice.result.now here c.requires.there c.as_slice.ensures
    c.index-as_slice-tank.is in
    let same = same_some (slice_get project.tanks.list c.args.tank) here each found at in
    let is = in_range project c.requires.sound c.args.tank here c.requires.there found in
    let low = is.bottom.at_least in
    let high = is.bottom.at_most in
    let copy = ap (λ (t : Tank). t.bottom) c.index-as_slice-tank.is in
    let value : c.in_parts.result ≡ at_scale (parts_of c.args.scale) here.bottom =
    c.in_parts.ensures.value ∙ ap (at_scale S) (omega (arith, ints, c.from.ensures, low, high, copy)) in
    let own = ap (λ (t : Tank). at_scale S t.bottom) same in
    let k = to_z-of_z w128 c.in_parts.result (record { sfits = c.in_parts.type_inv }) in
    let l = to_z-of_z w128 c.args.level c.ranges.level in
    omega (arith, ints, value, own, k, l, c.in_parts.ensures.small, c.requires.level, c.from.ensures, low, high, copy)
