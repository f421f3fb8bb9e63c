use Rattle.std.proofs.Common.{◌≡◌, ◌<◌, ℕ}
use Rattle.std.specs.Prelude.{Some, slice_get}
use Rattle.hyd_spec.specs.ProgramTypes.{Tank}
use Rattle.hyd_spec.specs.PeriodLength.{Period}
use Rattle.hyd_laws_at_scale.specs.Scales.{parts_of}
use Rattle.hyd_witness_texts.specs.MomentView.{moment_of}
use Rattle.hyd_course.specs.Stocks.{stock_in, IsNext, IsSmall}
use Rattle.hyd_course.specs.Standings.{IsKept}
use Rattle.hyd_course.proofs.starts.are_next.Given as goal

-- the stocks of the tanks so far may follow
abbrev pub invariant-loop-tank : goal.invariant-loop-tank
invariant-loop-tank l = record {
  met : (before : Period) (k : ℕ) (tank : Tank) → IsKept l.project before l.standing → before.length ≡ l.seconds
      → k < l.tank → slice_get l.project.tanks.list k ≡ Some tank
      → IsNext l.project (parts_of l.standing.scale) before (moment_of l.moment) k tank;
  small : (k : ℕ) → k < l.tank → IsSmall (stock_in (moment_of l.moment) k);
}
