use Rattle.std.proofs.Common.{take}
use Rattle.hyd_spec_certificates.specs.Decided.{tank_watches}
use Rattle.hyd_open_watches.specs.Candidates.{AreNearest}
use Rattle.hyd_open_watches.proofs.tank_bounds.among_bounds.Given as goal

abbrev pub invariant-loop-tank : goal.invariant-loop-tank
invariant-loop-tank l =
    AreNearest l.project l.facts l.latest (tank_watches 0 (take l.tank l.project.tanks.list)
    (take l.tank l.facts.tanks.list)) l.all
