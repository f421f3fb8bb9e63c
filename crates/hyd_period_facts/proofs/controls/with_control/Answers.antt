use Rattle.std.specs.Prelude.{Some, map}
use Rattle.hyd_spec_certificates.specs.SpansAsIntervals.{levels_of}
use Rattle.hyd_spec_certificates.specs.Decided.{watch_of}
use Rattle.hyd_period_facts.specs.Watched.{watch_for}
use Rattle.hyd_period_facts.proofs.WatchedLevelsSoFar.{watched_so}
use Rattle.hyd_period_facts.proofs.controls.with_control.Goals as goal

pub returns-in-Some : goal.returns-in-Some
returns-in-Some c = λ watched are.
    watched_so c.args.project.now c.args.facts.now c.args.cap watched (Some (watch_for c.in-Some.watch))
    (watch_of (map levels_of c.args.facts.now.levels.list) c.args.control.now) c.with_watch.result
    c.in-Some.ensures.value
    (c.with_watch.ensures watched are)
