-- What was read, and what was found of it.
use Rattle.std.proofs.lemmas.Result.{err_from_is_err_and}
use Rattle.std.proofs.Common.{refl, sym, ◌∙◌}
use Rattle.hyd_open_run.specs.PeriodsOfOpenRuns.{standing_of}
use Rattle.hyd_run.specs.Pens.{told}
use Rattle.hyd_cert_check.specs.ReaderAndPen.{moment}
use Rattle.hyd_open_check_so_far.specs.OpenCheckSoFar.{in_reading}
use Rattle.hyd_open_check.proofs.records.take_record.Goals as goal

pub read_record-requires : goal.read_record-requires
read_record-requires g c = c.requires.going.going

pub try_record-requires-clause-header : goal.try_record-requires-clause-header
try_record-requires-clause-header g c = c.read_record.ensures.header ∙ c.requires.header

pub try_record-requires-clause-unbroken : goal.try_record-requires-clause-unbroken
try_record-requires-clause-unbroken g c = c.requires.going.pen

pub returns-in-Some-clause-gives : goal.returns-in-Some-clause-gives
returns-in-Some-clause-gives g c =
    let found = rw c.in-Some.is at (c.in_ok-conclusion.ensures.gives c.args.sim.now.project
    (standing_of c.args.sim.now) c.args.pen.now c.requires.header (sym c.number.ensures) (sym c.is_finished.ensures)
    c.requires.going.pen) in
    record { is_so = found.0; stays = refl; put = found.1 }

pub returns-in_err-conclusion-clause-gives : goal.returns-in_err-conclusion-clause-gives
returns-in_err-conclusion-clause-gives g c =
    let p = err_from_is_err_and c.from_residual.result c.from_residual.ensures.1 in
    rw (p.1, p.2) (in_reading (c.in_err-conclusion.ensures.gives c.args.sim.now.project (standing_of c.args.sim.now) c.args.pen.now
    c.requires.header (sym c.number.ensures) (sym c.is_finished.ensures) c.requires.going.pen))

pub returns-clause-gives : goal.returns-clause-gives
returns-clause-gives g c =
    let D = g.D.Desk in
    let before = moment c.args.reader.now c.args.pen.now
    (told D.files D.rest D.written D.printed D.target D.ready D.counts D.openings c.args.desk.now) in
    let found = rw c.in_default.is at (c.in_ok-conclusion.ensures.gives c.args.sim.now.project
    (standing_of c.args.sim.now) c.args.pen.now c.requires.header (sym c.number.ensures) (sym c.is_finished.ensures)
    c.requires.going.pen) in
    c.try_record.ensures.tries before c.read_record.new.reader found.0 found.1
