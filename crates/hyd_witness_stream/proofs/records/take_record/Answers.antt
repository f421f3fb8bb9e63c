-- What was read, and what is found for it.
use Rattle.std.proofs.Common.{◌<◌, ◌^◌, ◌∙◌, arith, subst, sym}
use Rattle.hyd_cert.specs.ReaderView.{IsGoing}
use Rattle.hyd_cert.specs.declared.answers_of_reader.Stand.{Stand}
use Rattle.hyd_run.specs.Pens.{told}
use Rattle.hyd_sim.specs.RunView.{header_for, standing_of}
use Rattle.hyd_cert_check.specs.ReaderAndPen.{moment}
use Rattle.hyd_cert_check.proofs.RecordLemmas.{is-read, named-there, end-is, grammar-is, steady-fault, counts-is}
use Rattle.hyd_cert_check.proofs.RecordLemmas.{steady-counts, read-rose}
use Rattle.hyd_witness_stream.specs.SearchSoFar.{checking, checks_at}
use Rattle.hyd_witness_stream.specs.declared.ending.Halt.TheVariants.{Counts, Grammar}
use Rattle.hyd_witness_stream.specs.declared.ending.SearchFault.TheVariants.{Read}
use Rattle.hyd_witness_stream.proofs.FoundLemmas.{entry-kept, so-broken, so-halted}
use Rattle.hyd_witness_stream.proofs.PenLemmas.{read-cut, read-writes}
use Rattle.hyd_witness_stream.proofs.records.take_record.Goals as goal

pub try_record-requires-clause-entry : goal.try_record-requires-clause-entry
try_record-requires-clause-entry g c =
    entry-kept _ _ _ _ _ c.requires.entry c.next_with.ensures.header c.next_with.ensures.junctions

pub try_record-requires-clause-named : goal.try_record-requires-clause-named
try_record-requires-clause-named g c =
    let r = c.in-Ok-Record in
    named-there _ _ _ (rw r.field-0-is at (r.ensures.part c.requires.going))

pub returns-in-Ok-End-clause-gives : goal.returns-in-Ok-End-clause-gives
returns-in-Ok-End-clause-gives g c = λ S start so.
    let D = g.D.Desk in
    let e = c.next_with.ensures in
    let r = c.in-Ok-End in
    let going = c.requires.going in
    let project = c.args.sim.now.project in
    let left = standing_of c.args.sim.now in
    let course = c.args.moments.now.course in
    let before = moment c.args.reader.now c.args.pen.now
    (told D.files D.rest D.written D.printed D.target D.ready D.counts D.openings c.args.desk.now) in
    let now = moment c.next_with.new.self c.args.pen.now
    (told D.files D.rest D.written D.printed D.target D.ready D.counts D.openings c.next_with.new.desk) in
    let at = checks_at before so.held in
    let read = checking c.next_with.new.self (D.rest c.next_with.new.desk) so.held in
    let end = end-is project c.next_with.new.into _ _ at read (e.header ∙ c.requires.entry.header)
    (rw r.field-0-is at (r.ensures.end going)) (rw r.field-0-is at (r.ensures.end_line going))
    (rw r.field-0-is at (r.ensures.end_fits going)) e.same_flows in
    so-halted project S left course start before so c.judge_end-halt.result c.number-periods.result read now
    c.number-periods.ensures
    (c.judge_end-halt.ensures at read end c.line.ensures so.moments S)
    (read-writes D.rest _ _ _ _ _ c.requires.writing e.stays r.ensures.steady)

pub returns-in-Err-Read-clause-gives : goal.returns-in-Err-Read-clause-gives
returns-in-Err-Read-clause-gives g c = λ S start so.
    let D = g.D.Desk in
    let e = c.next_with.ensures in
    let r = c.in-Err-Read in
    let going = c.requires.going in
    let project = c.args.sim.now.project in
    let left = standing_of c.args.sim.now in
    let course = c.args.moments.now.course in
    let before = moment c.args.reader.now c.args.pen.now
    (told D.files D.rest D.written D.printed D.target D.ready D.counts D.openings c.args.desk.now) in
    let now = moment c.next_with.new.self c.args.pen.now
    (told D.files D.rest D.written D.printed D.target D.ready D.counts D.openings c.next_with.new.desk) in
    let at = checks_at before so.held in
    let read = checking c.next_with.new.self (D.rest c.next_with.new.desk) so.held in
    let few : left.number < 2 ^ 32 = (let n = c.number-periods.ensures in omega arith) in
    so-broken project S left course start before so Read now few
    (read-cut D.rest Read _ _ _ _ _ e.stays (read-rose _ _ _ _ _ _ _ (rw r.field-0-is at (r.ensures.fault going))))

pub returns-in-Err-Grammar-clause-gives : goal.returns-in-Err-Grammar-clause-gives
returns-in-Err-Grammar-clause-gives g c = λ S start so.
    let D = g.D.Desk in
    let e = c.next_with.ensures in
    let r = c.in-Err-Grammar in
    let going = c.requires.going in
    let project = c.args.sim.now.project in
    let left = standing_of c.args.sim.now in
    let course = c.args.moments.now.course in
    let before = moment c.args.reader.now c.args.pen.now
    (told D.files D.rest D.written D.printed D.target D.ready D.counts D.openings c.args.desk.now) in
    let now = moment c.next_with.new.self c.args.pen.now
    (told D.files D.rest D.written D.printed D.target D.ready D.counts D.openings c.next_with.new.desk) in
    let at = checks_at before so.held in
    let read = checking c.next_with.new.self (D.rest c.next_with.new.desk) so.held in
    let fault = rw r.field-0-is at (r.ensures.fault going) in
    so-halted project S left course start before so (Grammar r.line) c.number-periods.result read now
    c.number-periods.ensures
    (grammar-is project c.args.entry.now.row r.line at read _ _ c.requires.entry.header fault
    (rw r.field-0-is at (r.ensures.no_record going))
    (λ first has_none. rw r.field-0-is at (r.ensures.no_flows first has_none)) e.same_flows)
    (read-writes D.rest _ _ _ _ _ c.requires.writing e.stays (steady-fault _ _ _ _ _ _ _ _ fault))

pub returns-in-Err-Count-clause-gives : goal.returns-in-Err-Count-clause-gives
returns-in-Err-Count-clause-gives g c = λ S start so.
    let D = g.D.Desk in
    let e = c.next_with.ensures in
    let r = c.in-Err-Count in
    let going = c.requires.going in
    let project = c.args.sim.now.project in
    let left = standing_of c.args.sim.now in
    let course = c.args.moments.now.course in
    let before = moment c.args.reader.now c.args.pen.now
    (told D.files D.rest D.written D.printed D.target D.ready D.counts D.openings c.args.desk.now) in
    let now = moment c.next_with.new.self c.args.pen.now
    (told D.files D.rest D.written D.printed D.target D.ready D.counts D.openings c.next_with.new.desk) in
    let at = checks_at before so.held in
    let read = checking c.next_with.new.self (D.rest c.next_with.new.desk) so.held in
    let fault = rw r.field-0-is at (r.ensures.fault going) in
    so-halted project S left course start before so (Counts r.line) c.number-periods.result read now
    c.number-periods.ensures
    (counts-is project c.args.entry.now.row r.line at read _ _ c.requires.entry.header going fault)
    (read-writes D.rest _ _ _ _ _ c.requires.writing e.stays (steady-counts _ _ _ _ _ _ _ _ going fault))

pub returns-in-Ok-None-clause-gives : goal.returns-in-Ok-None-clause-gives
returns-in-Ok-None-clause-gives g c = λ S start so.
    let D = g.D.Desk in
    let e = c.next_with.ensures in
    let r = c.in-Ok-Record in
    let going = c.requires.going in
    let project = c.args.sim.now.project in
    let left = standing_of c.args.sim.now in
    let course = c.args.moments.now.course in
    let before = moment c.args.reader.now c.args.pen.now
    (told D.files D.rest D.written D.printed D.target D.ready D.counts D.openings c.args.desk.now) in
    let now = moment c.next_with.new.self c.args.pen.now
    (told D.files D.rest D.written D.printed D.target D.ready D.counts D.openings c.next_with.new.desk) in
    let at = checks_at before so.held in
    let read = checking c.next_with.new.self (D.rest c.next_with.new.desk) so.held in
    let is = is-read (header_for project) c.next_with.new.into c.next_with.new.part at read
    (e.header ∙ c.requires.entry.header) (rw r.field-0-is at (r.ensures.record going))
    (rw r.field-0-is at (r.ensures.row going)) (rw r.field-0-is at (r.ensures.part going))
    (rw r.field-0-is at (r.ensures.line going)) (rw r.field-0-is at (r.ensures.stand going)) e.same_flows in
    let none = read-writes D.rest _ _ _ _ _ c.requires.writing e.stays r.ensures.steady in
    rw c.in-Ok-None.field-0-is at (c.in-Ok-None.ensures.tries S start before c.next_with.new.self so is none)

pub returns-in-Ok-Some-clause-gives : goal.returns-in-Ok-Some-clause-gives
returns-in-Ok-Some-clause-gives g c = λ S start so.
    let D = g.D.Desk in
    let e = c.next_with.ensures in
    let r = c.in-Ok-Record in
    let going = c.requires.going in
    let project = c.args.sim.now.project in
    let left = standing_of c.args.sim.now in
    let course = c.args.moments.now.course in
    let before = moment c.args.reader.now c.args.pen.now
    (told D.files D.rest D.written D.printed D.target D.ready D.counts D.openings c.args.desk.now) in
    let now = moment c.next_with.new.self c.args.pen.now
    (told D.files D.rest D.written D.printed D.target D.ready D.counts D.openings c.next_with.new.desk) in
    let at = checks_at before so.held in
    let read = checking c.next_with.new.self (D.rest c.next_with.new.desk) so.held in
    let is = is-read (header_for project) c.next_with.new.into c.next_with.new.part at read
    (e.header ∙ c.requires.entry.header) (rw r.field-0-is at (r.ensures.record going))
    (rw r.field-0-is at (r.ensures.row going)) (rw r.field-0-is at (r.ensures.part going))
    (rw r.field-0-is at (r.ensures.line going)) (rw r.field-0-is at (r.ensures.stand going)) e.same_flows in
    let none = read-writes D.rest _ _ _ _ _ c.requires.writing e.stays r.ensures.steady in
    (rw c.in-Ok-Some.field-0-is at (c.in-Ok-Some.ensures.tries S start before c.next_with.new.self so is none))
    c.number-periods.result c.number-periods.ensures

pub returns-in-Err-clause-gives : goal.returns-in-Err-clause-gives
returns-in-Err-clause-gives g c = λ S start so.
    let D = g.D.Desk in
    let e = c.next_with.ensures in
    let r = c.in-Ok-Record in
    let going = c.requires.going in
    let project = c.args.sim.now.project in
    let left = standing_of c.args.sim.now in
    let course = c.args.moments.now.course in
    let before = moment c.args.reader.now c.args.pen.now
    (told D.files D.rest D.written D.printed D.target D.ready D.counts D.openings c.args.desk.now) in
    let now = moment c.next_with.new.self c.args.pen.now
    (told D.files D.rest D.written D.printed D.target D.ready D.counts D.openings c.next_with.new.desk) in
    let at = checks_at before so.held in
    let read = checking c.next_with.new.self (D.rest c.next_with.new.desk) so.held in
    let is = is-read (header_for project) c.next_with.new.into c.next_with.new.part at read
    (e.header ∙ c.requires.entry.header) (rw r.field-0-is at (r.ensures.record going))
    (rw r.field-0-is at (r.ensures.row going)) (rw r.field-0-is at (r.ensures.part going))
    (rw r.field-0-is at (r.ensures.line going)) (rw r.field-0-is at (r.ensures.stand going)) e.same_flows in
    let none = read-writes D.rest _ _ _ _ _ c.requires.writing e.stays r.ensures.steady in
    c.in-Err.ensures.tries S start before c.next_with.new.self so is none

pub returns-in-Ok-None-clause-going : goal.returns-in-Ok-None-clause-going
returns-in-Ok-None-clause-going g c =
    let r = c.in-Ok-Record in
    subst (λ (s : Stand). IsGoing s) (sym (rw r.field-0-is at (r.ensures.stand c.requires.going))) tt

pub returns-in-Ok-End-clause-entry : goal.returns-in-Ok-End-clause-entry
returns-in-Ok-End-clause-entry g c =
    entry-kept _ _ _ _ _ c.requires.entry c.next_with.ensures.header c.next_with.ensures.junctions

pub returns-in-Err-Read-clause-entry : goal.returns-in-Err-Read-clause-entry
returns-in-Err-Read-clause-entry g c =
    entry-kept _ _ _ _ _ c.requires.entry c.next_with.ensures.header c.next_with.ensures.junctions

pub returns-in-Err-Grammar-clause-entry : goal.returns-in-Err-Grammar-clause-entry
returns-in-Err-Grammar-clause-entry g c =
    entry-kept _ _ _ _ _ c.requires.entry c.next_with.ensures.header c.next_with.ensures.junctions

pub returns-in-Err-Count-clause-entry : goal.returns-in-Err-Count-clause-entry
returns-in-Err-Count-clause-entry g c =
    entry-kept _ _ _ _ _ c.requires.entry c.next_with.ensures.header c.next_with.ensures.junctions

pub returns-in-Ok-None-clause-entry : goal.returns-in-Ok-None-clause-entry
returns-in-Ok-None-clause-entry g c =
    entry-kept _ _ _ _ _ c.requires.entry c.next_with.ensures.header c.next_with.ensures.junctions

pub returns-in-Ok-Some-clause-entry : goal.returns-in-Ok-Some-clause-entry
returns-in-Ok-Some-clause-entry g c =
    entry-kept _ _ _ _ _ c.requires.entry c.next_with.ensures.header c.next_with.ensures.junctions

pub returns-in-Err-clause-entry : goal.returns-in-Err-clause-entry
returns-in-Err-clause-entry g c =
    entry-kept _ _ _ _ _ c.requires.entry c.next_with.ensures.header c.next_with.ensures.junctions
