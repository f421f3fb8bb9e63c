use Rattle.std.proofs.Common.{arith}
use Rattle.hyd_period_facts.specs.Watched.{watch_for}
use Rattle.hyd_period_facts.proofs.WatchedLevelsSoFar.{one_more}
use Rattle.hyd_period_facts.proofs.watch.with_watch.Goals as goal

pub returns : goal.returns
returns c = λ watched are.
    let a = c.min.ensures in
    let b = c.min-2.ensures in
    one_more c.args.project.now c.args.facts.now c.args.cap
    (watch_for c.args.watch) watched c.first_of-own.result c.args.ends
    (record { earliest = c.min.result; latest = c.min-2.result }) c.first_of-own.ensures.earliest
    c.first_of-own.ensures.latest
    c.first_of-own.ensures.some (omega (arith, a)) (omega (arith, b)) are
