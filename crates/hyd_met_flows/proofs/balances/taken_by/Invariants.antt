use Rattle.std.proofs.Common.{◌≡◌, ◌*◌, ◌^◌, ◌≤◌, take, unsigned_abs}
use Rattle.hyd_met_flows.specs.TieFlows.{ties_flow}
use Rattle.hyd_met_flows.proofs.balances.taken_by.Given as goal

abbrev pub invariant-loop-i : goal.invariant-loop-i
invariant-loop-i l = record {
  sum : l.sum ≡ ties_flow l.flows (take l.i l.ties);
  small : unsigned_abs l.sum ≤ l.i * 10 ^ 24;
}
