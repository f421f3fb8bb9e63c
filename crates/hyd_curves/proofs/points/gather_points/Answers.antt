use Rattle.std.proofs.Common.{ap, ℕ, length, subst}
use Rattle.hyd_rows_and_tables.specs.RowsOfLines.{rows_at}
use Rattle.hyd_rows_and_tables.specs.IdTables.{AreEmpty}
use Rattle.hyd_curves.proofs.PointLemmas.{before_rows, after_rows}
use Rattle.hyd_curves.proofs.points.gather_points.Goals as goal

pub loop-place-init : goal.loop-place-init
loop-place-init c =
    let text = c.args.text.now.text in
    let rows = rows_at text c.args.lines.now in
    before_rows text rows c.args.curves.now.names c.args.curves.now.firsts.items c.in_ok-points.points c.requires.table
    (let P : ℕ → Type 0 = λ n. AreEmpty c.in_ok-points.points.lists.items n in
    subst P (ap length c.as_slice.ensures.value) c.in_ok-points.ensures)

pub returns : goal.returns
returns c =
    after_rows c.args.text.now.text c.args.lines.now c.loop-place.place c.args.curves.now.names c.loop-place.points
    c.loop-place.invariant c.loop-place-test.false
