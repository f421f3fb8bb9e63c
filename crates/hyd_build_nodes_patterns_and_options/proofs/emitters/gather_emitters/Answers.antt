use Rattle.std.proofs.Common.{ℕ, ap, length, subst}
use Rattle.hyd_rows_and_tables.specs.RowsOfLines.{rows_at}
use Rattle.hyd_rows_and_tables.specs.IdTables.{AreNone}
use Rattle.hyd_build_nodes_patterns_and_options.proofs.EmitterLemmas.{before_rows, after_rows}
use Rattle.hyd_build_nodes_patterns_and_options.proofs.emitters.gather_emitters.Goals as goal

pub loop-place-init : goal.loop-place-init
loop-place-init c =
    let text = c.args.text.now.text in
    before_rows text (rows_at text c.args.lines.now) c.args.nodes.now.names c.args.nodes.now.firsts.items
    c.in_ok-emitters.emitters.items c.requires.nodes
    (let P : ℕ → Type 0 = λ n. AreNone c.in_ok-emitters.emitters.items n in
    subst P (ap length c.as_slice.ensures.value) c.in_ok-emitters.ensures)

pub returns : goal.returns
returns c =
    after_rows c.args.text.now.text c.args.lines.now c.loop-place.place c.args.nodes.now.names
    c.loop-place.emitters.items c.loop-place.invariant c.loop-place-test.false
