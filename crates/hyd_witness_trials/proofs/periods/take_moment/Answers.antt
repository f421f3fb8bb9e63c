-- What the reader tells of the text, and the trial of the period.
use Rattle.std.proofs.Common.{sym, subst}
use Rattle.hyd_witness_texts.specs.MomentView.{moment_of}
use Rattle.hyd_witness_trials.specs.Findings.{IsFound}
use Rattle.hyd_witness_trials.proofs.Findings.{turned, ended, faulty}
use Rattle.hyd_witness_trials.proofs.periods.take_moment.Goals as goal

pub returns-in-Ok-Moment-clause-gives : goal.returns-in-Ok-Moment-clause-gives
returns-in-Ok-Moment-clause-gives g c text so =
    let at = c.args.reader.now.stand in
    let is = c.requires.going in
    let reached = c.in-Ok-Moment.reached in
    turned c.args.project.now c.requires.sound at text (moment_of c.next.new.into) reached c.args.reader.now
    c.next.new.self _ _ c.args.course.now c.try_moment.new.course c.try_moment.result so (record {
      coming = rw (c.in-Ok-Moment.field-0-is, c.requires.counts) at (c.in-Ok-Moment.ensures.moment is);
      is_moment = rw (c.in-Ok-Moment.field-0-is, c.requires.counts) at (c.in-Ok-Moment.ensures.is_moment is);
      more = rw c.in-Ok-Moment.field-0-is at (c.in-Ok-Moment.ensures.one_more is);
      line = rw (c.in-Ok-Moment.field-0-is, c.requires.counts) at (c.in-Ok-Moment.ensures.line is);
      is_scale = rw c.in-Ok-Moment.field-0-is at (c.in-Ok-Moment.ensures.scale is);
      stand = rw c.in-Ok-Moment.field-0-is at (c.in-Ok-Moment.ensures.stand is);
      fits = c.try_moment.ensures.few;
    }) c.try_moment.ensures.gives

pub returns-in-Ok-End-clause-gives : goal.returns-in-Ok-End-clause-gives
returns-in-Ok-End-clause-gives g c text so =
    let at = c.args.reader.now.stand in
    let is = c.requires.going in
    let reached = c.in-Ok-End.reached in
    subst (IsFound c.args.project.now text) (sym c.all_met.ensures.meets)
    (ended c.args.project.now c.requires.sound text c.args.reader.now _ c.args.course.now at reached so
    (rw (c.in-Ok-End.field-0-is, c.requires.counts) at (c.in-Ok-End.ensures.end is))
    (rw c.in-Ok-End.field-0-is at (c.in-Ok-End.ensures.all is))
    (rw c.in-Ok-End.field-0-is at (c.in-Ok-End.ensures.scale is)) c.all_met.ensures.few)

pub returns-in-Err-Grammar-clause-gives : goal.returns-in-Err-Grammar-clause-gives
returns-in-Err-Grammar-clause-gives g c text so =
    let at = c.args.reader.now.stand in
    let is = c.requires.going in
    faulty c.args.project.now c.requires.sound text c.args.reader.now _ c.args.course.now at c.in-Err-Grammar.line _ _ so
    (rw (c.in-Err-Grammar.field-0-is, c.requires.counts) at (c.in-Err-Grammar.ensures.fault is))
    (rw (c.in-Err-Grammar.field-0-is, c.requires.counts) at (c.in-Err-Grammar.ensures.no_moment is))
