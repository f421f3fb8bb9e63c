use Rattle.std.proofs.Common.{◌≡◌, ◌≤◌, take}
use Rattle.hyd_spec.specs.ProgramTypes.{Reservoir}
use Rattle.hyd_spec.specs.Lists.{map_from}
use Rattle.hyd_spec_spread.specs.Spreads.{head_offsets}
use Rattle.hyd_spec_spread_reports.specs.TextsOfSpreadReports.{how_many, is_wide}
use Rattle.hyd_spread_rows.specs.SpreadsRead.{spread_of}
use Rattle.hyd_spread_run_so_far.proofs.left_open.heads_left.Given as goal

-- those so far were counted
abbrev pub invariant-loop-r : goal.invariant-loop-r
invariant-loop-r l = record {
  counted : l.count ≡ how_many (map_from (λ r (reservoir : Reservoir). is_wide (head_offsets (spread_of l.rows) r)) 0
      (take l.r l.project.reservoirs.list));
  few : l.count ≤ l.r;
}
