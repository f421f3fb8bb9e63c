use Rattle.hyd_open_watches.specs.Candidates.{watch_for}
use Rattle.hyd_open_watches.proofs.NearestSoFar.{still}
use Rattle.hyd_open_watches.proofs.nearest.with_watch.Goals as goal

pub returns-then-comes_by : goal.returns-then-comes_by
returns-then-comes_by c = λ watched are.
    c.with_candidate.ensures c.args.project.now c.args.facts.now c.args.latest watched
    (c.comes_by.ensures.0 c.if-comes_by.true) c.requires.short c.requires.watch are

pub returns-else-comes_by : goal.returns-else-comes_by
returns-else-comes_by c = λ watched are.
    let lacks = c.if-comes_by.false in
    still c.args.project.now c.args.facts.now c.args.latest watched (watch_for c.args.watch)
    (λ comes. let yes = c.comes_by.ensures.1 comes in absurd (cc)) c.args.all are
