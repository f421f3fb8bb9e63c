use Rattle.std.proofs.Common.{ℕ, ap, length, subst}
use Rattle.hyd_rows_and_tables.specs.RowsOfLines.{rows_at}
use Rattle.hyd_rows_and_tables.specs.IdTables.{AreEmpty}
use Rattle.hyd_build_nodes_patterns_and_options.specs.DemandsAndEmitters.{each}
use Rattle.hyd_build_nodes_patterns_and_options.proofs.DemandLemmas.{before_rows, after_rows}
use Rattle.hyd_build_nodes_patterns_and_options.proofs.demands.gather_demands.Goals as goal

pub loop-place-init : goal.loop-place-init
loop-place-init c =
    let text = c.args.text.now.text in
    before_rows text (rows_at text c.args.lines.now) c.args.nodes.now.names c.args.nodes.now.firsts.items
    c.in_ok-lists.lists.items c.requires.nodes
    (let P : ℕ → Type 0 = λ n. AreEmpty c.in_ok-lists.lists.items n in
    subst P (ap length c.as_slice.ensures.value) c.in_ok-lists.ensures)

pub returns : goal.returns
returns c =
    after_rows c.args.text.now.text c.args.lines.now c.loop-place.place c.args.nodes.now.names
    (each c.loop-place.lists.items) c.loop-place.invariant c.loop-place-test.false
