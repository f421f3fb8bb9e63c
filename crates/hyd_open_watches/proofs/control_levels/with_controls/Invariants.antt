use Rattle.std.proofs.Common.{List, ◌++◌, take}
use Rattle.std.specs.Prelude.{map}
use Rattle.hyd_spec_certificates.specs.SpansAsIntervals.{levels_of}
use Rattle.hyd_spec_certificates.specs.Decided.{Watch}
use Rattle.hyd_open_watches.specs.Candidates.{AreNearest}
use Rattle.hyd_open_watches.proofs.NearestSoFar.{control_watches}
use Rattle.hyd_open_watches.proofs.control_levels.with_controls.Given as goal

abbrev pub invariant-loop-control : goal.invariant-loop-control
invariant-loop-control l = (watched : List Watch) → AreNearest l.project l.facts l.latest watched l.fn.bounds
    → AreNearest l.project l.facts l.latest (watched ++ control_watches (map levels_of l.facts.levels.list)
    (take l.control-index l.control-items)) l.all
