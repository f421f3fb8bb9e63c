-- The enclosing functions of a pipe with Hazen-Williams losses: at a head difference of whole head ticks, a whole
-- number of flow ticks at most the exact flow, and one at least it. A flow has the sign of the difference.
use Rattle.std.specs.Prelude.{suc, ℤ, pos, negsuc, neg_ℤ}
use Rattle.hyd_spec_power_laws.specs.declared.power_capacities.PowerCapacity.{PowerCapacity}
use Rattle.hyd_spec_power_laws.specs.WholeFlows.{flow_down, flow_up}

-- At most the exact flow.
abbrev pub power_low : PowerCapacity → ℤ → ℤ
power_low capacity (pos d) = pos (flow_down capacity.low capacity.minor d)
power_low capacity (negsuc d) = neg_ℤ (pos (flow_up capacity.high capacity.minor (suc d)))

-- At least it.
abbrev pub power_high : PowerCapacity → ℤ → ℤ
power_high capacity (pos d) = pos (flow_up capacity.high capacity.minor d)
power_high capacity (negsuc d) = neg_ℤ (pos (flow_down capacity.low capacity.minor (suc d)))
