use Rattle.hyd_rows_and_tables.specs.RowsOfLines.{rows_at}
use Rattle.hyd_curves.proofs.StraightLineCurveLemmas.{no_bends, all_pumps}
use Rattle.hyd_curves.proofs.straight_line_curves.pump_bends.Goals as goal

pub loop-place-init : goal.loop-place-init
loop-place-init c =
    no_bends (rows_at c.args.text.now.text c.args.lines.now) (record { names = c.new.result; lists = c.new-2.result })
    c.new.ensures.empty c.new-2.ensures.empty

pub returns : goal.returns
returns c =
    all_pumps c.args.text.now.text c.args.lines.now c.loop-place.place c.loop-place.bends c.loop-place.invariant
    c.loop-place-test.false c.loop-place.auto.place-end
