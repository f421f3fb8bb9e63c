-- What was put in went out.
use Rattle.std.specs.Prelude.{Err}
use Rattle.hyd_cert_check.proofs.PenLemmas.{new-open}
use Rattle.hyd_cert_check.proofs.WholeCheckLemmas.{prints-whole, prints-front, says-printed, says-rose, says-steady}
use Rattle.hyd_cert_check.proofs.WholeCheckLemmas.{says-leaves}
use Rattle.hyd_cert_check.proofs.whole_check.check.Goals as goal

pub put_check-requires-clause-unbroken : goal.put_check-requires-clause-unbroken
put_check-requires-clause-unbroken g c = new-open _ c.requires.report

pub finish-requires : goal.finish-requires
finish-requires g c = c.in-Ok.ensures.puts.put.open_still

pub returns-in-Ok-clause-whole : goal.returns-in-Ok-clause-whole
returns-in-Ok-clause-whole g c = λ text told.
    prints-whole c.args.sim.now.project _ _ text told c.requires.report c.finish.result
    (c.finish.ensures.puts _ _ c.put_check.new.reader c.in-Ok.ensures.puts) c.finish.ensures.report

pub returns-in-Ok-clause-broken_off : goal.returns-in-Ok-clause-broken_off
returns-in-Ok-clause-broken_off g c = λ text told.
    prints-front c.args.sim.now.project _ _ text told c.requires.report c.finish.result
    (c.finish.ensures.puts _ _ c.put_check.new.reader c.in-Ok.ensures.puts)

pub returns-in-Ok-clause-prints : goal.returns-in-Ok-clause-prints
returns-in-Ok-clause-prints g c =
    says-printed c.args.sim.now.project _ _ c.finish.result c.requires.report (c.finish.ensures.puts _ _
    c.put_check.new.reader c.in-Ok.ensures.puts) c.finish.ensures.report

pub returns-in-Ok-clause-cause : goal.returns-in-Ok-clause-cause
returns-in-Ok-clause-cause g c =
    says-rose c.args.sim.now.project _ _ c.finish.result (c.finish.ensures.puts _ _ c.put_check.new.reader
    c.in-Ok.ensures.puts)

pub returns-in-Ok-clause-steady : goal.returns-in-Ok-clause-steady
returns-in-Ok-clause-steady g c =
    says-steady c.args.sim.now.project _ _ c.finish.result (c.finish.ensures.puts _ _ c.put_check.new.reader
    c.in-Ok.ensures.puts)

pub returns-in-Ok-clause-files_stay : goal.returns-in-Ok-clause-files_stay
returns-in-Ok-clause-files_stay g c =
    (says-leaves c.args.sim.now.project _ _ c.finish.result (c.finish.ensures.puts _ _ c.put_check.new.reader
    c.in-Ok.ensures.puts)).files_stay

pub returns-in-Ok-clause-written_stays : goal.returns-in-Ok-clause-written_stays
returns-in-Ok-clause-written_stays g c =
    (says-leaves c.args.sim.now.project _ _ c.finish.result (c.finish.ensures.puts _ _ c.put_check.new.reader
    c.in-Ok.ensures.puts)).written_stays

pub returns-in-Ok-clause-target_stays : goal.returns-in-Ok-clause-target_stays
returns-in-Ok-clause-target_stays g c =
    (says-leaves c.args.sim.now.project _ _ c.finish.result (c.finish.ensures.puts _ _ c.put_check.new.reader
    c.in-Ok.ensures.puts)).target_stays

pub returns-in-Ok-clause-ready_stays : goal.returns-in-Ok-clause-ready_stays
returns-in-Ok-clause-ready_stays g c =
    (says-leaves c.args.sim.now.project _ _ c.finish.result (c.finish.ensures.puts _ _ c.put_check.new.reader
    c.in-Ok.ensures.puts)).ready_stays

pub returns-in-Ok-clause-openings_stay : goal.returns-in-Ok-clause-openings_stay
returns-in-Ok-clause-openings_stay g c =
    (says-leaves c.args.sim.now.project _ _ c.finish.result (c.finish.ensures.puts _ _ c.put_check.new.reader
    c.in-Ok.ensures.puts)).openings_stay

pub returns-in-Err-clause-broken_off : goal.returns-in-Err-clause-broken_off
returns-in-Err-clause-broken_off g c = λ text told.
    prints-front c.args.sim.now.project _ _ text told c.requires.report (Err c.in-Err.fault) c.in-Err.ensures.puts

pub returns-in-Err-clause-prints : goal.returns-in-Err-clause-prints
returns-in-Err-clause-prints g c =
    says-printed c.args.sim.now.project _ _ (Err c.in-Err.fault) c.requires.report c.in-Err.ensures.puts tt

pub returns-in-Err-clause-cause : goal.returns-in-Err-clause-cause
returns-in-Err-clause-cause g c =
    says-rose c.args.sim.now.project _ _ (Err c.in-Err.fault) c.in-Err.ensures.puts

pub returns-in-Err-clause-files_stay : goal.returns-in-Err-clause-files_stay
returns-in-Err-clause-files_stay g c =
    (says-leaves c.args.sim.now.project _ _ (Err c.in-Err.fault) c.in-Err.ensures.puts).files_stay

pub returns-in-Err-clause-written_stays : goal.returns-in-Err-clause-written_stays
returns-in-Err-clause-written_stays g c =
    (says-leaves c.args.sim.now.project _ _ (Err c.in-Err.fault) c.in-Err.ensures.puts).written_stays

pub returns-in-Err-clause-target_stays : goal.returns-in-Err-clause-target_stays
returns-in-Err-clause-target_stays g c =
    (says-leaves c.args.sim.now.project _ _ (Err c.in-Err.fault) c.in-Err.ensures.puts).target_stays

pub returns-in-Err-clause-ready_stays : goal.returns-in-Err-clause-ready_stays
returns-in-Err-clause-ready_stays g c =
    (says-leaves c.args.sim.now.project _ _ (Err c.in-Err.fault) c.in-Err.ensures.puts).ready_stays

pub returns-in-Err-clause-openings_stay : goal.returns-in-Err-clause-openings_stay
returns-in-Err-clause-openings_stay g c =
    (says-leaves c.args.sim.now.project _ _ (Err c.in-Err.fault) c.in-Err.ensures.puts).openings_stay
