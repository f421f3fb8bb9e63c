use Rattle.std.proofs.Common.{ℕ, ap, length, subst}
use Rattle.hyd_rows_and_tables.specs.RowsOfLines.{rows_at}
use Rattle.hyd_rows_and_tables.specs.IdTables.{AreNone}
use Rattle.hyd_judge_nodes_curves_and_options.proofs.ExtremeLemmas.{before_rows, after_rows}
use Rattle.hyd_judge_nodes_curves_and_options.proofs.pattern_extremes.gather_extremes.Goals as goal

pub loop-place-init : goal.loop-place-init
loop-place-init c =
    let text = c.args.text.now.text in
    before_rows text (rows_at text c.args.lines.now) c.args.patterns.now.names c.args.patterns.now.firsts.items
    c.in_ok-each.each.items c.requires.table
    (let P : ℕ → Type 0 = λ n. AreNone c.in_ok-each.each.items n in
    subst P (ap length c.as_slice.ensures.value) c.in_ok-each.ensures)

pub returns : goal.returns
returns c =
    after_rows c.args.text.now.text c.args.lines.now c.loop-place.place c.args.patterns.now.names
    c.loop-place.each.items c.loop-place.invariant c.loop-place-test.false
