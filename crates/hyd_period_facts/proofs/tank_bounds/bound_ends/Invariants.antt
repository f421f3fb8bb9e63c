use Rattle.std.proofs.Common.{take}
use Rattle.hyd_spec_certificates.specs.Decided.{tank_watches}
use Rattle.hyd_period_facts.specs.Watched.{AreEnds}
use Rattle.hyd_period_facts.proofs.tank_bounds.bound_ends.Given as goal

abbrev pub invariant-loop-tank : goal.invariant-loop-tank
invariant-loop-tank l =
    AreEnds l.project l.facts l.cap (tank_watches 0 (take l.tank l.project.tanks.list)
    (take l.tank l.facts.tanks.list)) l.ends
