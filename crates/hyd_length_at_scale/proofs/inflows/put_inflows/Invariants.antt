use Rattle.std.proofs.Common.{◌≡◌, ℕ, ◌<◌, ◌≤◌, pos, get_or, unsigned_abs}
use Rattle.hyd_spec.specs.Tank.{tank_inflow}
use Rattle.hyd_stocks_at_scale.specs.Motions.{inflow_limit}
use Rattle.hyd_length_at_scale.proofs.inflows.put_inflows.Given as goal

abbrev pub invariant-loop-tank : goal.invariant-loop-tank
invariant-loop-tank l = record {
  value : (k : ℕ) → k < l.tank → get_or l.inflows k (pos 0) ≡ tank_inflow l.project k l.moment.flows.list;
  small : (k : ℕ) → k < l.tank → unsigned_abs (get_or l.inflows k (pos 0)) ≤ inflow_limit;
}
