use Rattle.std.proofs.Common.{◌≡◌, ◌≤◌, take}
use Rattle.hyd_spec.specs.ProgramTypes.{Tank}
use Rattle.hyd_spec.specs.Lists.{map_from}
use Rattle.hyd_spec_spread.specs.Spreads.{level_interval}
use Rattle.hyd_spec_spread_reports.specs.TextsOfSpreadReports.{how_many, is_wide}
use Rattle.hyd_spread_rows.specs.SpreadsRead.{spread_of}
use Rattle.hyd_spread_run_so_far.proofs.left_open.levels_left.Given as goal

-- those so far were counted
abbrev pub invariant-loop-k : goal.invariant-loop-k
invariant-loop-k l = record {
  counted : l.count ≡ how_many (map_from (λ k (tank : Tank). is_wide (level_interval (spread_of l.rows) k tank)) 0
      (take l.k l.project.tanks.list));
  few : l.count ≤ l.k;
}
