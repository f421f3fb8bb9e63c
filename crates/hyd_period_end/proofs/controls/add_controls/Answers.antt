use Rattle.std.proofs.Common.{◌∙◌, arith}
use Rattle.std.specs.Prelude.{map}
use Rattle.hyd_spec_certificates.specs.SpansAsIntervals.{levels_of}
use Rattle.hyd_spec_certificates.specs.EndsOfPeriods.{control_event}
use Rattle.hyd_period_end.proofs.EventsSoFar.{control_further, all_controls}
use Rattle.hyd_period_end.proofs.controls.add_controls.Goals as goal

pub loop-number-preserved : goal.loop-number-preserved
loop-number-preserved c =
    let project = c.args.project.now in
    let i = c.loop-number.number in
    let end = c.len-number-end.ensures in
    let test = c.loop-number-test.true in
    let listed = c.add_event.ensures.list in
    let spare = c.add_event.ensures.spare in
    let kept = c.add_event.ensures.room in
    let before = c.loop-number.invariant.spare in
    let room = c.loop-number.invariant.room in
    record {
      events = listed ∙ control_further (control_event (map levels_of c.args.before.now)
          (map levels_of c.args.carried.now)) project.controls.list c.args.events.now.list
          c.loop-number.events.list c.event_at.result i (omega (arith, end, test)) c.loop-number.invariant.events
          c.event_at.ensures;
      spare = omega (arith, spare, before);
      room = omega (arith, kept, room);
    }

pub returns-clause-events : goal.returns-clause-events
returns-clause-events c =
    let end = c.len-number-end.ensures in
    let test = c.loop-number-test.false in
    all_controls (control_event (map levels_of c.args.before.now) (map levels_of c.args.carried.now))
    c.args.project.now.controls.list c.args.events.now.list c.loop-number.events.list c.loop-number.number
    (omega (arith, end, test)) c.loop-number.invariant.events
