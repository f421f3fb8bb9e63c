use Rattle.std.proofs.Common.{◌≡◌}
use Rattle.std.specs.Prelude.{Some}
use Rattle.hyd_spec.specs.NodeNumbers.{tank_count}
use Rattle.hyd_spec.specs.PeriodLength.{Period}
use Rattle.hyd_spec_witnesses.specs.MiddleCandidate.{stock_at}
use Rattle.hyd_spec_witnesses.specs.WitnessText.{AreValues}
use Rattle.hyd_stocks_below.specs.KeptStocks.{AreKept}
use Rattle.hyd_stocks_below.proofs.ValuesSoFar.{Have}
use Rattle.hyd_stocks_below.proofs.moments.put_stocks_below.Given as goal

-- the stocks so far are those after the period
abbrev pub invariant-loop-tank : goal.invariant-loop-tank
invariant-loop-tank l = record {
  levels_fit : AreValues (tank_count l.project) l.levels;
  volumes_fit : AreValues (tank_count l.project) l.volumes;
  levels : (before : Period) → AreKept l.project before l.seconds l.stocks l.inflows
      → Have (λ k tank z. z ≡ (stock_at l.project (Some before) k tank).level) l.project.tanks.list l.levels l.tank;
  volumes : (before : Period) → AreKept l.project before l.seconds l.stocks l.inflows
      → Have (λ k tank z. z ≡ (stock_at l.project (Some before) k tank).volume) l.project.tanks.list l.volumes l.tank;
}
