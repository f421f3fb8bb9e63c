use Rattle.std.proofs.Common.{◌≡◌, ◌<◌, ◌≤◌, ◌-◌, ℕ, pos, List, ℤ, length, sym, ap, subst, ◌∙◌, arith}
use Rattle.std.specs.Prelude.{slice_get, slice_index_or}
use Rattle.std.specs.List.{All}
use Rattle.std.specs.Int.{w128}
use Rattle.std.proofs.lemmas.Int.{ints, to_z-of_z}
use Rattle.hyd_laws_at_scale.specs.Scales.{parts_of}
use Rattle.hyd_lemmas.proofs.ListsOptionsAndResults.{item_there}
use Rattle.hyd_spec_witnesses.specs.WitnessText.{IsValue}
use Rattle.hyd_met_flows.proofs.HeadsOfNodes.{of_junction, of_reservoir, of_tank}
use Rattle.hyd_met_flows.proofs.heads.head_of.Goals as goal

pub value_at-requires-clause-small : goal.value_at-requires-clause-small
value_at-requires-clause-small c = subst (All IsValue) (sym c.as_slice.ensures) c.requires.moment.heads.in_range

pub value_at-level-requires-clause-small : goal.value_at-level-requires-clause-small
value_at-level-requires-clause-small c =
    subst (All IsValue) (sym c.as_slice-2.ensures) c.requires.moment.levels.in_range

pub returns-then-node-junctions-clause-value : goal.returns-then-node-junctions-clause-value
returns-then-node-junctions-clause-value c =
    let project = c.args.project.now in
    let moment = c.args.moment.now in
    let heads = moment.heads.list in
    let node : ℕ = c.args.node in
    let each = c.requires.moment.heads.one_each in
    let lt : node < length heads = omega (arith, each, c.if-node-junctions.true, c.len-junctions.ensures) in
    to_z-of_z w128 c.value_at.result (record { sfits = c.value_at.type_inv })
    ∙ (c.value_at.ensures.value ∙ (ap (λ (vs : List ℤ). slice_index_or vs node (pos 0)) c.as_slice.ensures
    ∙ sym (of_junction project (parts_of c.args.scale) moment.time moment.levels.list heads node lt)))

pub returns-then-behind-reservoirs-clause-value : goal.returns-then-behind-reservoirs-clause-value
returns-then-behind-reservoirs-clause-value c =
    let project = c.args.project.now in
    let moment = c.args.moment.now in
    let heads = moment.heads.list in
    let node : ℕ = c.args.node in
    let nj : ℕ = length project.junctions.list in
    let each = c.requires.moment.heads.one_each in
    let le : nj ≤ node = omega (arith, c.if-node-junctions.false, c.len-junctions.ensures) in
    let lt : node - nj < length project.reservoirs.list =
    omega (arith, c.if-behind-reservoirs.true, c.len-reservoirs.ensures, c.len-junctions.ensures) in
    let at = item_there project.reservoirs.list (node - nj) lt in
    let here : slice_get project.reservoirs.list (node - c.len-junctions.result) ≡ slice_get project.reservoirs.list
    (node - nj) = ap (λ (n : ℕ). slice_get project.reservoirs.list (node - n)) c.len-junctions.ensures in
    to_z-of_z w128 c.head_of_reservoir.result (record { sfits = c.head_of_reservoir.type_inv })
    ∙ (c.head_of_reservoir.ensures.value at.0 (here ∙ at.1)
    ∙ sym (of_reservoir project (parts_of c.args.scale) moment.time moment.levels.list heads node nj at.0 each le lt
    at.1))

pub returns-clause-value : goal.returns-clause-value
returns-clause-value c =
    let project = c.args.project.now in
    let moment = c.args.moment.now in
    let heads = moment.heads.list in
    let levels = moment.levels.list in
    let node : ℕ = c.args.node in
    let nj : ℕ = c.len-junctions.result in
    let nr : ℕ = c.len-reservoirs.result in
    let each = c.requires.moment.heads.one_each in
    let each_level = c.requires.moment.levels.one_each in
    let k : ℕ = node - nj - nr in
    let le : nj ≤ node = omega (arith, c.if-node-junctions.false) in
    let past : nr ≤ node - nj = omega (arith, c.if-behind-reservoirs.false) in
    let inside : k < length project.tanks.list =
    omega (arith, c.requires.there, c.len-junctions.ensures, c.len-reservoirs.ensures, le, past) in
    let at = item_there project.tanks.list k inside in
    let l = c.value_at-level.result in
    let level = c.value_at-level.ensures.value
    ∙ ap (λ (vs : List ℤ). slice_index_or vs k (pos 0)) c.as_slice-2.ensures in
    let kept = to_z-of_z w128 l (record { sfits = c.value_at-level.type_inv }) in
    let own = to_z-of_z w128 c.head_of_tank.result (record { sfits = c.head_of_tank.type_inv }) in
    let head = c.head_of_tank.ensures.value at.0 at.1 in
    let found = of_tank project (parts_of c.args.scale) moment.time levels heads node nj nr at.0
    (let e = c.len-junctions.ensures in omega (arith, each, e)) (sym c.len-reservoirs.ensures) le past at.1
    (omega (arith, inside, each_level)) in
    omega (arith, ints, own, head, found, kept, level)
