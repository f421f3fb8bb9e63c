use Rattle.std.proofs.Common.{◌≡◌}
use Rattle.std.specs.Prelude.{None}
use Rattle.hyd_spec.specs.NodeNumbers.{tank_count}
use Rattle.hyd_spec_witnesses.specs.MiddleCandidate.{stock_at}
use Rattle.hyd_spec_witnesses.specs.WitnessText.{AreValues}
use Rattle.hyd_stocks_below.proofs.ValuesSoFar.{Have}
use Rattle.hyd_stocks_below.proofs.moments.put_stocks_of_file.Given as goal

-- the stocks so far are those of the file
abbrev pub invariant-loop-tank : goal.invariant-loop-tank
invariant-loop-tank l = record {
  levels_fit : AreValues (tank_count l.project) l.levels;
  volumes_fit : AreValues (tank_count l.project) l.volumes;
  levels : Have (λ k tank z. z ≡ (stock_at l.project None k tank).level) l.project.tanks.list l.levels l.tank;
  volumes : Have (λ k tank z. z ≡ (stock_at l.project None k tank).volume) l.project.tanks.list l.volumes l.tank;
}
