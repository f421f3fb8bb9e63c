use Rattle.std.specs.Prelude.{Some, None, map}
use Rattle.std.proofs.Common.{List}
use Rattle.hyd_spec_certificates.specs.SpansAsIntervals.{levels_of}
use Rattle.hyd_spec_certificates.specs.Decided.{Watch, watch_of}
use Rattle.hyd_open_watches.specs.Candidates.{watch_for, AreNearest}
use Rattle.hyd_open_watches.proofs.NearestSoFar.{watched_so, no_more}
use Rattle.hyd_open_watches.proofs.control_levels.with_control.Goals as goal

pub returns-in-Some : goal.returns-in-Some
returns-in-Some c = λ watched are.
    watched_so (λ (ws : List Watch). AreNearest c.args.project.now c.args.facts.now c.args.latest ws
    c.with_watch.result)
    watched (Some (watch_for c.in-Some.watch))
    (watch_of (map levels_of c.args.facts.now.levels.list) c.args.control.now)
    c.in-Some.ensures.value (c.with_watch.ensures watched are)

pub returns-in-None : goal.returns-in-None
returns-in-None c = λ watched are.
    let P = λ (ws : List Watch). AreNearest c.args.project.now c.args.facts.now c.args.latest ws c.args.all in
    watched_so P watched None
    (watch_of (map levels_of c.args.facts.now.levels.list) c.args.control.now)
    c.in-None.ensures.value (no_more P watched are)
