use Rattle.std.proofs.Common.{◌≡◌, ◌<◌, ℕ}
use Rattle.std.specs.Prelude.{Some, slice_get}
use Rattle.hyd_spec.specs.ProgramTypes.{Tank}
use Rattle.hyd_laws_at_scale.specs.Scales.{parts_of}
use Rattle.hyd_witness_texts.specs.MomentView.{moment_of}
use Rattle.hyd_course.specs.Stocks.{stock_in, initial_stock, IsSmall}
use Rattle.hyd_course.proofs.starts.are_initial.Given as goal

-- the tanks so far have the stocks of the file
abbrev pub invariant-loop-tank : goal.invariant-loop-tank
invariant-loop-tank l = record {
  met : (k : ℕ) (tank : Tank) → k < l.tank → slice_get l.project.tanks.list k ≡ Some tank
      → stock_in (moment_of l.moment) k ≡ initial_stock l.project (parts_of l.scale) tank;
  small : (k : ℕ) → k < l.tank → IsSmall (stock_in (moment_of l.moment) k);
}
