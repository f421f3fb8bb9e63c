use Rattle.std.proofs.Common.{◌≡◌, ℕ, ◌<◌, Some, slice_get}
use Rattle.hyd_spec.specs.ProgramTypes.{Reservoir}
use Rattle.hyd_spread_rows.specs.SpreadsRead.{spread_of}
use Rattle.hyd_spread_networks.specs.HeadsBySpreads.{HeadsStay}
use Rattle.hyd_spread_networks.proofs.heads.judge_heads.Given as goal

abbrev pub invariant-loop-place : goal.invariant-loop-place
invariant-loop-place l = (k : ℕ) (reservoir : Reservoir) → k < l.place
    → slice_get l.project.reservoirs.list k ≡ Some reservoir → HeadsStay l.project (spread_of l.rows) k reservoir
