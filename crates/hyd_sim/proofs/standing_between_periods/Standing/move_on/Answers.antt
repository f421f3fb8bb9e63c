use Rattle.std.proofs.Common.{sym, subst, ◌∙◌, arith}
use Rattle.hyd_sim.specs.RunView.{IsStanding}
use Rattle.hyd_sim.proofs.StandingAfter.{small-number, finished-standing, in-time, same-later, standing-later}
use Rattle.hyd_sim.proofs.StandingAfter.{room-later}
use Rattle.hyd_sim.proofs.StandingAfter.{at-later}
use Rattle.hyd_sim.proofs.standing_between_periods.Standing.move_on.Goals as goal

pub finish-requires : goal.finish-requires
finish-requires c =
    let small = small-number c.args.project.now c.args.self.now c.requires.sound c.requires.standing
    c.requires.unfinished in
    omega (arith, small)

pub follow-requires-clause-number : goal.follow-requires-clause-number
follow-requires-clause-number c =
    let small = small-number c.args.project.now c.args.self.now c.requires.sound c.requires.standing
    c.requires.unfinished in
    omega (arith, small)

pub follow-requires-clause-time : goal.follow-requires-clause-time
follow-requires-clause-time c =
    let within = in-time c.args.project.now c.requires.sound c.args.self.now c.requires.standing c.requires.unfinished
    c.args.net.now c.args.row.now c.args.facts.now c.args.close.now c.requires.made c.if-self-project.false in
    let short = c.requires.sound.times.duration in
    omega (arith, within, short)

pub returns-clause-standing : goal.returns-clause-standing
returns-clause-standing c =
    same-later c.args.project.now c.requires.sound c.args.self.now c.requires.standing c.requires.unfinished
    c.args.net.now c.args.row.now c.args.facts.now c.args.close.now c.requires.made c.if-self-project.false
    c.follow.new.self c.requires.room c.follow.ensures.number c.follow.ensures.time c.follow.ensures.stocks
    c.follow.ensures.commanded c.follow.ensures.finished
    ∙ sym (at-later c.args.project.now c.args.self.now c.args.row.now.length c.args.close.now
    c.if-self-project.false)

pub returns-clause-is : goal.returns-clause-is
returns-clause-is c =
    standing-later c.args.project.now c.requires.sound c.args.self.now c.requires.standing c.requires.unfinished
    c.args.net.now c.args.row.now c.args.facts.now c.args.close.now c.requires.made c.if-self-project.false
    c.follow.new.self c.requires.room c.follow.ensures.number c.follow.ensures.time c.follow.ensures.stocks
    c.follow.ensures.commanded c.follow.ensures.finished

pub returns-clause-close : goal.returns-clause-close
returns-clause-close c =
    room-later c.args.project.now c.args.self.now c.args.close.now c.follow.new.close c.requires.standing
    c.requires.room c.follow.ensures.close

pub returns-then-self-project-clause-is : goal.returns-then-self-project-clause-is
returns-then-self-project-clause-is c =
    subst (IsStanding c.args.project.now) (sym c.finish.ensures)
    (finished-standing c.args.project.now c.args.self.now c.requires.standing c.requires.unfinished)
