use Rattle.std.proofs.Common.{◌≡◌, ◌+◌, ◌≤◌, length, take}
use Rattle.std.specs.Prelude.{map}
use Rattle.std.specs.List.{All}
use Rattle.hyd_spec.specs.Lists.{map_from}
use Rattle.hyd_spec_certificates.specs.SpansAsIntervals.{flows_of}
use Rattle.hyd_spec_certificates.specs.Decided.{inflow_of_tank}
use Rattle.hyd_spec_spread_runs.specs.OutermostPairs.{spanned, spanning}
use Rattle.hyd_cert.specs.RecordView.{row_of}
use Rattle.hyd_tank.specs.StockIntervals.{IsInflow}
use Rattle.hyd_spread_bounds.specs.BothSides.{pair_of}
use Rattle.hyd_spread_readings.proofs.inflows.put_inflows.Given as goal

abbrev pub invariant-loop-tank : goal.invariant-loop-tank
invariant-loop-tank l = record {
  count : length l.inflows.list ≡ l.tank;
  inflows : map flows_of l.inflows.list ≡ take l.tank (map_from (λ k tank. inflow_of_tank l.project
      (spanned (pair_of l.upper l.lower)) (spanning (pair_of l.upper l.lower) (row_of l.row)) k) 0
      l.project.tanks.list);
  small : All IsInflow l.inflows.list;
  room : length l.fn.inflows.list + l.fn.inflows.spare ≤ length l.inflows.list + l.inflows.spare;
}
