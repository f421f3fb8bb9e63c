use Rattle.std.proofs.Common.{◌≡◌, ◌≤◌, take}
use Rattle.hyd_spec.specs.ProgramTypes.{Junction}
use Rattle.hyd_spec.specs.Lists.{map_from}
use Rattle.hyd_spec_spread.specs.Spreads.{demand_factors}
use Rattle.hyd_spec_spread_reports.specs.TextsOfSpreadReports.{how_many, are_several}
use Rattle.hyd_spread_rows.specs.SpreadsRead.{spread_of}
use Rattle.hyd_spread_run_so_far.proofs.left_open.demands_left.Given as goal

-- those so far were counted
abbrev pub invariant-loop-j : goal.invariant-loop-j
invariant-loop-j l = record {
  counted : l.count ≡ how_many (map_from (λ j (junction : Junction). are_several (demand_factors (spread_of l.rows)
      j)) 0 (take l.j l.project.junctions.list));
  few : l.count ≤ l.j;
}
