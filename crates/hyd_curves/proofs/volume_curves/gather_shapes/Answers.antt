use Rattle.hyd_rows_and_tables.specs.RowsOfLines.{rows_at}
use Rattle.hyd_curves.proofs.VolumeCurveLemmas.{no_shapes, all_shapes}
use Rattle.hyd_curves.proofs.volume_curves.gather_shapes.Goals as goal

pub loop-place-init : goal.loop-place-init
loop-place-init c =
    no_shapes (rows_at c.args.text.now.text c.args.lines.now) (record {
      names = c.new.result;
      lists = c.new-2.result;
    }) c.new.ensures.empty c.new-2.ensures.empty

pub returns : goal.returns
returns c =
    let all = all_shapes c.args.text.now.text c.args.lines.now c.loop-place.place c.loop-place.shapes
    c.loop-place.invariant c.loop-place-test.false in
    record { names = all.0; lists = all.1 }
