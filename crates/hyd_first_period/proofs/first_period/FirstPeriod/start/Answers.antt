use Rattle.std.proofs.Common.{length, sym, ap, ◌∙◌}
use Rattle.hyd_first_period.proofs.LinksAtFirst.{states-at-first, long-at-first, still-ready}
use Rattle.hyd_first_period.proofs.first_period.FirstPeriod.start.Goals as goal

pub restore-requires : goal.restore-requires
restore-requires c =
    c.requires.ready.each ∙ sym (ap length c.requires.ready.started
    ∙ long-at-first c.args.project.now c.requires.sound)

pub set-requires-clause-ready : goal.set-requires-clause-ready
set-requires-clause-ready c =
    still-ready c.args.project.now c.args.self.now c.restore.new.self c.requires.ready c.restore.ensures.net
    c.restore.ensures.stocks c.restore.ensures.started
    (ap length (c.restore.ensures.links ∙ c.requires.ready.started)
    ∙ long-at-first c.args.project.now c.requires.sound)

pub set-requires-clause-states : goal.set-requires-clause-states
set-requires-clause-states c =
    states-at-first c.args.project.now c.requires.sound _
    (c.restore.ensures.links ∙ c.requires.ready.started)
