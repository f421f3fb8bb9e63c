use Rattle.std.proofs.Common.{◌≡◌, ◌+◌, ◌<◌, List, length, sym, ap, subst, ◌∙◌, arith, pos}
use Rattle.std.specs.Prelude.{Some, slice_get}
use Rattle.std.proofs.lemmas.Option.{slice_get_within}
use Rattle.hyd_spec.specs.ProgramTypes.{Tank}
use Rattle.hyd_spec.specs.NodeNumbers.{junction_count, tank_node}
use Rattle.hyd_spec_input.specs.Columns.{units}
use Rattle.hyd_spec_spread_rows.specs.declared.Subject.TheVariants.{Demand, Emitter, Head, Level}
use Rattle.hyd_spec_spread_rows.specs.TextsOfSpreads.{at_both, ends_for}
use Rattle.hyd_spread_rows.specs.RowsSaid.{ends_at}
use Rattle.hyd_spread_rows.proofs.ResolvedLemmas.{at-node, item-by-item}
use Rattle.hyd_spread_rows.proofs.resolved.resolve.Goals as goal

pub returns-clause-demands : goal.returns-clause-demands
returns-clause-demands c = λ rows said.
    let project = c.args.project.now in
    let j = c.len-junctions.ensures in
    let r = c.len-reservoirs.ensures in
    let nodes = c.requires.sound.ids.each_node in
    let count = c.in_ok-demands.ensures.count in
    item-by-item (λ n x. ends_for project Demand rows (at_both (units 1)) n) 0 project.junctions.list
    c.in_ok-demands.demands.items c.at_both.result (omega (arith, count, j))
    (λ k x at.
    let inside = slice_get_within project.junctions.list k x at in
    let place : 0 + k ≡ 0 + k = omega (arith, j) in
    let there : 0 + k < length project.node_ids = omega (arith, inside, nodes) in
    c.in_ok-demands.ensures.each k (omega (arith, inside, j))
    ∙ (λ i. ends_at c.args.tables.now.demands (c.at_both.ensures i) (place i))
    ∙ at-node project Demand rows c.args.tables.now.demands (at_both (units 1)) (0 + k) said.demands there)

pub returns-clause-emitters : goal.returns-clause-emitters
returns-clause-emitters c = λ rows said.
    let project = c.args.project.now in
    let j = c.len-junctions.ensures in
    let r = c.len-reservoirs.ensures in
    let nodes = c.requires.sound.ids.each_node in
    let count = c.in_ok-emitters.ensures.count in
    item-by-item (λ n x. ends_for project Emitter rows (at_both (units 1)) n) 0 project.junctions.list
    c.in_ok-emitters.emitters.items c.at_both-2.result (omega (arith, count, j))
    (λ k x at.
    let inside = slice_get_within project.junctions.list k x at in
    let place : 0 + k ≡ 0 + k = omega (arith, j) in
    let there : 0 + k < length project.node_ids = omega (arith, inside, nodes) in
    c.in_ok-emitters.ensures.each k (omega (arith, inside, j))
    ∙ (λ i. ends_at c.args.tables.now.emitters (c.at_both-2.ensures i) (place i))
    ∙ at-node project Emitter rows c.args.tables.now.emitters (at_both (units 1)) (0 + k) said.emitters there)

pub returns-clause-heads : goal.returns-clause-heads
returns-clause-heads c = λ rows said.
    let project = c.args.project.now in
    let j = c.len-junctions.ensures in
    let r = c.len-reservoirs.ensures in
    let nodes = c.requires.sound.ids.each_node in
    let count = c.in_ok-heads.ensures.count in
    item-by-item (λ n x. ends_for project Head rows (at_both (pos 0)) (junction_count project + n)) 0
    project.reservoirs.list c.in_ok-heads.heads.items c.at_both-3.result (omega (arith, count, r))
    (λ k x at.
    let inside = slice_get_within project.reservoirs.list k x at in
    let place : c.len-junctions.result + k ≡ junction_count project + (0 + k) = omega (arith, j) in
    let there : junction_count project + (0 + k) < length project.node_ids = omega (arith, inside, nodes) in
    c.in_ok-heads.ensures.each k (omega (arith, inside, r))
    ∙ (λ i. ends_at c.args.tables.now.heads (c.at_both-3.ensures i) (place i))
    ∙ at-node project Head rows c.args.tables.now.heads (at_both (pos 0)) (junction_count project + (0 + k))
    said.heads there)

pub returns-clause-levels : goal.returns-clause-levels
returns-clause-levels c = λ rows said.
    let project = c.args.project.now in
    let j = c.len-junctions.ensures in
    let r = c.len-reservoirs.ensures in
    let nodes = c.requires.sound.ids.each_node in
    let tanks = c.as_slice-tanks.ensures in
    let count : length c.in_ok-levels.levels.items ≡ length project.tanks.list =
    (let n = c.in_ok-levels.ensures.count in let e = ap length tanks in omega (arith, n, e)) in
    item-by-item (λ n (tank : Tank). ends_for project Level rows (at_both tank.initial) (tank_node project n)) 0
    project.tanks.list c.in_ok-levels.levels.items (at_both (pos 0)) count
    (λ k tank at.
    let inside = slice_get_within project.tanks.list k tank at in
    let place : (c.len-junctions.result + c.len-reservoirs.result) + k ≡ tank_node project (0 + k) =
    omega (arith, j, r) in
    let there : tank_node project (0 + k) < length project.node_ids = omega (arith, inside, nodes) in
    c.in_ok-levels.ensures.each k tank (at_both (pos 0))
    (subst (λ (ts : List Tank). slice_get ts k ≡ Some tank) (sym tanks) at)
    ∙ ap (ends_at c.args.tables.now.levels (at_both tank.initial)) place
    ∙ at-node project Level rows c.args.tables.now.levels (at_both tank.initial) (tank_node project (0 + k))
    said.levels there)
