use Rattle.std.proofs.Common.{◌∙◌, ◌∷◌, [], arith}
use Rattle.hyd_spec.specs.Lists.{present}
use Rattle.hyd_period_end.proofs.EventsSoFar.{tank_further, all_tanks}
use Rattle.hyd_period_end.proofs.tanks.add_tanks.Goals as goal

pub loop-tank-preserved : goal.loop-tank-preserved
loop-tank-preserved c =
    let project = c.args.project.now in
    let i = c.loop-tank.tank in
    let end = c.len-tank-end.ensures in
    let test = c.loop-tank-test.true in
    let states = c.requires.each_state in
    let levels = c.requires.each_level in
    let listed = c.add_event.ensures.list in
    let spare = c.add_event.ensures.spare in
    let kept = c.add_event.ensures.room in
    let before = c.loop-tank.invariant.spare in
    let room = c.loop-tank.invariant.room in
    record {
      events = listed ∙ tank_further project.tanks.list c.args.states.now c.args.carried.now c.args.events.now.list
          c.loop-tank.events.list (present (c.event_at.result ∷ [])) i (omega (arith, end, test))
          (omega (arith, end, test, states)) (omega (arith, end, test, levels)) c.loop-tank.invariant.events
          c.event_at.ensures;
      spare = omega (arith, spare, before);
      room = omega (arith, kept, room);
    }

pub returns-clause-events : goal.returns-clause-events
returns-clause-events c =
    let end = c.len-tank-end.ensures in
    let test = c.loop-tank-test.false in
    let states = c.requires.each_state in
    let levels = c.requires.each_level in
    all_tanks c.args.project.now.tanks.list c.args.states.now c.args.carried.now c.args.events.now.list
    c.loop-tank.events.list c.loop-tank.tank (omega (arith, end, test)) (omega (arith, end, test, states))
    (omega (arith, end, test, levels)) c.loop-tank.invariant.events
