use Rattle.std.proofs.Common.{List, ◌++◌, take}
use Rattle.std.specs.Prelude.{map}
use Rattle.hyd_spec_certificates.specs.SpansAsIntervals.{levels_of}
use Rattle.hyd_spec_certificates.specs.Decided.{Watch}
use Rattle.hyd_period_facts.specs.Watched.{AreEnds}
use Rattle.hyd_period_facts.proofs.WatchedLevelsSoFar.{control_watches}
use Rattle.hyd_period_facts.proofs.controls.with_controls.Given as goal

abbrev pub invariant-loop-control : goal.invariant-loop-control
invariant-loop-control l = (watched : List Watch) → AreEnds l.project l.facts l.cap watched l.fn.ends
    → AreEnds l.project l.facts l.cap (watched ++ control_watches (map levels_of l.facts.levels.list)
    (take l.control-index l.control-items)) l.all
