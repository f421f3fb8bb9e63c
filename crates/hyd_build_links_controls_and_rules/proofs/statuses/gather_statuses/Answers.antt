use Rattle.std.proofs.Common.{ℕ, sym, ap, ◌∙◌, length, subst}
use Rattle.hyd_rows_and_tables.specs.RowsOfLines.{rows_at}
use Rattle.hyd_rows_and_tables.specs.IdTables.{AreNone}
use Rattle.hyd_build_links_controls_and_rules.proofs.StatusLemmas.{before_rows, after_rows}
use Rattle.hyd_build_links_controls_and_rules.proofs.statuses.gather_statuses.Goals as goal

pub loop-place-init : goal.loop-place-init
loop-place-init c =
    before_rows c.args.text.now.text (rows_at c.args.text.now.text c.args.lines.now) c.args.links.now.names
    c.in_ok-last.last.items
    (let P : ℕ → Type 0 = λ n. AreNone c.in_ok-last.last.items n in
    subst P (ap length c.as_slice.ensures.value ∙ sym c.requires.even) c.in_ok-last.ensures)

pub returns : goal.returns
returns c =
    after_rows c.args.text.now.text c.args.lines.now c.loop-place.place c.args.links.now.names
    c.loop-place.last.items c.loop-place.invariant c.loop-place-test.false
