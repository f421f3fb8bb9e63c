use Rattle.std.proofs.Common.{◌≡◌, length, sym, subst, ◌∙◌, arith}
use Rattle.hyd_open_sim_start.proofs.StandingsAtStarts.{small-number}
use Rattle.hyd_period_facts.specs.RoomForStocks.{HasRoom as HasNextRoom}
use Rattle.hyd_sim.proofs.LinkStatesAtStart.{zip-length}
use Rattle.hyd_open_sim.proofs.StandingsBehindPeriods.{in-time, same-last, same-later, standing-last, standing-later}
use Rattle.hyd_open_sim.proofs.moving_on.move_on.Goals as goal

pub finish-requires : goal.finish-requires
finish-requires c =
    let small = small-number c.args.project.now c.args.standing.now c.requires.sound c.requires.standing
    c.requires.unfinished in
    omega (arith, small)

pub follow-requires-clause-number : goal.follow-requires-clause-number
follow-requires-clause-number c =
    let small = small-number c.args.project.now c.args.standing.now c.requires.sound c.requires.standing
    c.requires.unfinished in
    omega (arith, small)

pub follow-requires-clause-time : goal.follow-requires-clause-time
follow-requires-clause-time c =
    let within = in-time c.args.project.now c.args.standing.now c.requires.standing c.requires.unfinished
    c.args.close.now c.requires.goes_on c.if-standing-project.false in
    let short = c.requires.sound.times.duration in
    omega (arith, within, short)

pub returns-clause-standing : goal.returns-clause-standing
returns-clause-standing c =
    same-later c.args.project.now c.args.standing.now c.requires.standing c.requires.unfinished
    c.args.close.now c.requires.goes_on c.follow.new.self
    c.if-standing-project.false c.follow.ensures.moved

pub returns-clause-is : goal.returns-clause-is
returns-clause-is c =
    standing-later c.args.project.now c.args.standing.now c.requires.standing c.requires.unfinished
    c.args.close.now c.requires.goes_on c.follow.new.self
    c.if-standing-project.false c.follow.ensures.moved c.requires.room

pub returns-then-standing-project-clause-standing : goal.returns-then-standing-project-clause-standing
returns-then-standing-project-clause-standing c =
    same-last c.args.project.now c.args.standing.now c.requires.standing c.requires.unfinished
    c.args.close.now c.requires.goes_on c.finish.new.self
    c.if-standing-project.true c.finish.ensures

pub returns-then-standing-project-clause-is : goal.returns-then-standing-project-clause-is
returns-then-standing-project-clause-is c =
    standing-last c.args.project.now c.args.standing.now c.requires.standing c.requires.unfinished
    c.args.close.now c.requires.goes_on c.finish.new.self
    c.if-standing-project.true c.finish.ensures

pub returns-clause-close : goal.returns-clause-close
returns-clause-close c =
    let room = c.requires.room in
    let here = c.args.standing.now in
    let long : length c.follow.new.commanded.items ≡ length here.commanded.items =
    λ i. length ((c.follow.ensures.commanded i).items) in
    record {
      readings = room.readings;
      carried = room.carried;
      values = room.values;
      commanded = long ∙ zip-length c.args.project.now c.args.project.now.links.list here.commanded.items
          c.requires.standing.firm.kept.states;
      next = subst (HasNextRoom c.args.project.now) (sym c.follow.ensures.stocks) c.requires.standing.room;
      opened = room.opened;
    }
