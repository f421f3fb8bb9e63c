-- What was read, and what was found of it.
use Rattle.std.proofs.Common.{◌∙◌, refl}
use Rattle.hyd_sim.specs.RunView.{header_for}
use Rattle.hyd_run.specs.Pens.{told}
use Rattle.hyd_cert_check.specs.ReaderAndPen.{moment}
use Rattle.hyd_cert_check.specs.RecordByRecord.{in_reading, in_report}
use Rattle.hyd_cert_check.specs.declared.outcome.CheckFault.TheVariants.{Read}
use Rattle.hyd_cert_check.specs.declared.outcome.Conclusion.TheVariants.{Grammar, Counts}
use Rattle.hyd_cert_check.proofs.PenLemmas.{read-puts, read-cut-off}
use Rattle.hyd_cert_check.proofs.RecordLemmas.{is-read, named-there, over-there, end-is, grammar-is, steady-fault}
use Rattle.hyd_cert_check.proofs.RecordLemmas.{counts-is, steady-counts, read-rose}
use Rattle.hyd_cert_check.proofs.RecordByRecordLemmas.{turn-of}
use Rattle.hyd_cert_check.proofs.records.take_record.Goals as goal

pub try_record-requires : goal.try_record-requires
try_record-requires g c =
    let r = c.in-Ok-Record in
    record {
      running = c.requires.running;
      header = c.next_with.ensures.header ∙ c.requires.header;
      named = named-there _ _ _ (rw r.field-0-is at (r.ensures.part c.requires.going.going));
      unbroken = c.requires.going.pen;
    }

pub returns-in-Ok-End-clause-gives : goal.returns-in-Ok-End-clause-gives
returns-in-Ok-End-clause-gives g c =
    let e = c.next_with.ensures in
    let going = c.requires.going.going in
    let same = e.header ∙ c.requires.header in
    let text = rw c.in-Ok-End.field-0-is at (c.in-Ok-End.ensures.end going) in
    let line = rw c.in-Ok-End.field-0-is at (c.in-Ok-End.ensures.end_line going) in
    let fits = rw c.in-Ok-End.field-0-is at (c.in-Ok-End.ensures.end_fits going) in
    over-there _ _ _ _ (c.judge_end.ensures _ _ (end-is _ c.next_with.new.into _ _ _ _ same text line fits e.same_flows)
    c.line.ensures)
    (read-puts _ _ c.requires.going.pen refl e.stays.printed_stays c.in-Ok-End.ensures.steady (record {
      files_stay = e.stays.files_stay;
      written_stays = e.stays.written_stays;
      target_stays = e.stays.target_stays;
      ready_stays = e.stays.ready_stays;
      openings_stay = e.stays.openings_stay;
    }))

pub returns-in-Err-Read-clause-gives : goal.returns-in-Err-Read-clause-gives
returns-in-Err-Read-clause-gives g c =
    let e = c.next_with.ensures in
    let fault = rw c.in-Err-Read.field-0-is at (c.in-Err-Read.ensures.fault c.requires.going.going) in
    in_reading (read-cut-off Read _ _ e.stays.printed_stays (read-rose _ _ _ _ _ _ _ fault) (record {
      files_stay = e.stays.files_stay;
      written_stays = e.stays.written_stays;
      target_stays = e.stays.target_stays;
      ready_stays = e.stays.ready_stays;
      openings_stay = e.stays.openings_stay;
    }))

pub returns-in-Err-Grammar-clause-gives : goal.returns-in-Err-Grammar-clause-gives
returns-in-Err-Grammar-clause-gives g c =
    let e = c.next_with.ensures in
    let fault = rw c.in-Err-Grammar.field-0-is at (c.in-Err-Grammar.ensures.fault c.requires.going.going) in
    let lacks = rw c.in-Err-Grammar.field-0-is at (c.in-Err-Grammar.ensures.no_record c.requires.going.going) in
    over-there (Grammar c.in-Err-Grammar.line) _ _ _
    (grammar-is _ c.args.row.now c.in-Err-Grammar.line _ _ _ _ c.requires.header fault lacks
    (λ first has_none. rw c.in-Err-Grammar.field-0-is at (c.in-Err-Grammar.ensures.no_flows first has_none))
    e.same_flows)
    (read-puts _ _ c.requires.going.pen refl e.stays.printed_stays (steady-fault _ _ _ _ _ _ _ _ fault) (record {
      files_stay = e.stays.files_stay;
      written_stays = e.stays.written_stays;
      target_stays = e.stays.target_stays;
      ready_stays = e.stays.ready_stays;
      openings_stay = e.stays.openings_stay;
    }))

pub returns-in-Err-Count-clause-gives : goal.returns-in-Err-Count-clause-gives
returns-in-Err-Count-clause-gives g c =
    let e = c.next_with.ensures in
    let going = c.requires.going.going in
    let fault = rw c.in-Err-Count.field-0-is at (c.in-Err-Count.ensures.fault going) in
    over-there (Counts c.in-Err-Count.line) _ _ _
    (counts-is _ c.args.row.now c.in-Err-Count.line _ _ _ _ c.requires.header going fault)
    (read-puts _ _ c.requires.going.pen refl e.stays.printed_stays (steady-counts _ _ _ _ _ _ _ _ going fault)
    (record {
      files_stay = e.stays.files_stay;
      written_stays = e.stays.written_stays;
      target_stays = e.stays.target_stays;
      ready_stays = e.stays.ready_stays;
      openings_stay = e.stays.openings_stay;
    }))

pub returns-in-Ok-clause-gives : goal.returns-in-Ok-clause-gives
returns-in-Ok-clause-gives g c =
    let D = g.D.Desk in
    let before = moment c.args.reader.now c.args.pen.now
    (told D.files D.rest D.written D.printed D.target D.ready D.counts D.openings c.args.desk.now) in
    let read = moment c.next_with.new.self c.args.pen.now
    (told D.files D.rest D.written D.printed D.target D.ready D.counts D.openings c.next_with.new.desk) in
    let e = c.next_with.ensures in
    let r = c.in-Ok-Record in
    let going = c.requires.going.going in
    let is = is-read (header_for c.args.sim.now.project) c.next_with.new.into c.next_with.new.part before read
    (e.header ∙ c.requires.header)
    (rw r.field-0-is at (r.ensures.record going)) (rw r.field-0-is at (r.ensures.row going))
    (rw r.field-0-is at (r.ensures.part going))
    (rw r.field-0-is at (r.ensures.line going)) (rw r.field-0-is at (r.ensures.stand going)) e.same_flows in
    let none = read-puts before read c.requires.going.pen refl e.stays.printed_stays r.ensures.steady (record {
      files_stay = e.stays.files_stay;
      written_stays = e.stays.written_stays;
      target_stays = e.stays.target_stays;
      ready_stays = e.stays.ready_stays;
      openings_stay = e.stays.openings_stay;
    }) in
    turn-of c.in-Ok.answer _ _ _ _ (c.in-Ok.ensures.tries before c.next_with.new.self is none)

pub returns-in-Err-clause-gives : goal.returns-in-Err-clause-gives
returns-in-Err-clause-gives g c =
    let D = g.D.Desk in
    let before = moment c.args.reader.now c.args.pen.now
    (told D.files D.rest D.written D.printed D.target D.ready D.counts D.openings c.args.desk.now) in
    let read = moment c.next_with.new.self c.args.pen.now
    (told D.files D.rest D.written D.printed D.target D.ready D.counts D.openings c.next_with.new.desk) in
    let e = c.next_with.ensures in
    let r = c.in-Ok-Record in
    let going = c.requires.going.going in
    let is = is-read (header_for c.args.sim.now.project) c.next_with.new.into c.next_with.new.part before read
    (e.header ∙ c.requires.header)
    (rw r.field-0-is at (r.ensures.record going)) (rw r.field-0-is at (r.ensures.row going))
    (rw r.field-0-is at (r.ensures.part going))
    (rw r.field-0-is at (r.ensures.line going)) (rw r.field-0-is at (r.ensures.stand going)) e.same_flows in
    let none = read-puts before read c.requires.going.pen refl e.stays.printed_stays r.ensures.steady (record {
      files_stay = e.stays.files_stay;
      written_stays = e.stays.written_stays;
      target_stays = e.stays.target_stays;
      ready_stays = e.stays.ready_stays;
      openings_stay = e.stays.openings_stay;
    }) in
    in_report (c.in-Err.ensures.tries before c.next_with.new.self is none)
