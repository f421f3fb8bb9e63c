-- What was put in went out.
use Rattle.std.specs.Prelude.{Err}
use Rattle.hyd_cert_check.proofs.PenLemmas.{new-open}
use Rattle.hyd_spread_check_so_far.proofs.WholeSpreadCheckLemmas.{prints-whole, prints-front, says-printed, says-rose}
use Rattle.hyd_spread_check_so_far.proofs.WholeSpreadCheckLemmas.{says-steady, says-leaves}
use Rattle.hyd_spread_check.proofs.whole_check.check_over.Goals as goal

pub put_check-requires-clause-unbroken : goal.put_check-requires-clause-unbroken
put_check-requires-clause-unbroken g c = new-open _ c.requires.report

pub finish_check-requires : goal.finish_check-requires
finish_check-requires g c = c.in-Ok.ensures.puts.put.open_still

pub returns-in-Ok-clause-whole : goal.returns-in-Ok-clause-whole
returns-in-Ok-clause-whole g c = λ text told.
    let sim = c.args.sim.now in
    prints-whole sim.project sim.nets.spread _ _ text told c.requires.report c.finish_check.result
    (c.finish_check.ensures.puts _ _ _ c.put_check.new.reader c.in-Ok.ensures.puts) c.finish_check.ensures.report

pub returns-in-Ok-clause-broken_off : goal.returns-in-Ok-clause-broken_off
returns-in-Ok-clause-broken_off g c = λ text told.
    let sim = c.args.sim.now in
    prints-front sim.project sim.nets.spread _ _ text told c.requires.report c.finish_check.result
    (c.finish_check.ensures.puts _ _ _ c.put_check.new.reader c.in-Ok.ensures.puts)

pub returns-in-Ok-clause-prints : goal.returns-in-Ok-clause-prints
returns-in-Ok-clause-prints g c =
    let sim = c.args.sim.now in
    says-printed sim.project sim.nets.spread _ _ c.finish_check.result c.requires.report
    (c.finish_check.ensures.puts _ _ _ c.put_check.new.reader c.in-Ok.ensures.puts) c.finish_check.ensures.report

pub returns-in-Ok-clause-cause : goal.returns-in-Ok-clause-cause
returns-in-Ok-clause-cause g c =
    let sim = c.args.sim.now in
    says-rose sim.project sim.nets.spread _ _ c.finish_check.result
    (c.finish_check.ensures.puts _ _ _ c.put_check.new.reader c.in-Ok.ensures.puts)

pub returns-in-Ok-clause-steady : goal.returns-in-Ok-clause-steady
returns-in-Ok-clause-steady g c =
    let sim = c.args.sim.now in
    says-steady sim.project sim.nets.spread _ _ c.finish_check.result
    (c.finish_check.ensures.puts _ _ _ c.put_check.new.reader c.in-Ok.ensures.puts)

pub returns-in-Ok-clause-files_stay : goal.returns-in-Ok-clause-files_stay
returns-in-Ok-clause-files_stay g c =
    let sim = c.args.sim.now in
    (says-leaves sim.project sim.nets.spread _ _ c.finish_check.result
    (c.finish_check.ensures.puts _ _ _ c.put_check.new.reader c.in-Ok.ensures.puts)).files_stay

pub returns-in-Ok-clause-written_stays : goal.returns-in-Ok-clause-written_stays
returns-in-Ok-clause-written_stays g c =
    let sim = c.args.sim.now in
    (says-leaves sim.project sim.nets.spread _ _ c.finish_check.result
    (c.finish_check.ensures.puts _ _ _ c.put_check.new.reader c.in-Ok.ensures.puts)).written_stays

pub returns-in-Ok-clause-target_stays : goal.returns-in-Ok-clause-target_stays
returns-in-Ok-clause-target_stays g c =
    let sim = c.args.sim.now in
    (says-leaves sim.project sim.nets.spread _ _ c.finish_check.result
    (c.finish_check.ensures.puts _ _ _ c.put_check.new.reader c.in-Ok.ensures.puts)).target_stays

pub returns-in-Ok-clause-ready_stays : goal.returns-in-Ok-clause-ready_stays
returns-in-Ok-clause-ready_stays g c =
    let sim = c.args.sim.now in
    (says-leaves sim.project sim.nets.spread _ _ c.finish_check.result
    (c.finish_check.ensures.puts _ _ _ c.put_check.new.reader c.in-Ok.ensures.puts)).ready_stays

pub returns-in-Ok-clause-openings_stay : goal.returns-in-Ok-clause-openings_stay
returns-in-Ok-clause-openings_stay g c =
    let sim = c.args.sim.now in
    (says-leaves sim.project sim.nets.spread _ _ c.finish_check.result
    (c.finish_check.ensures.puts _ _ _ c.put_check.new.reader c.in-Ok.ensures.puts)).openings_stay

pub returns-in-Err-clause-broken_off : goal.returns-in-Err-clause-broken_off
returns-in-Err-clause-broken_off g c = λ text told.
    let sim = c.args.sim.now in
    prints-front sim.project sim.nets.spread _ _ text told c.requires.report (Err c.in-Err.fault) c.in-Err.ensures.puts

pub returns-in-Err-clause-prints : goal.returns-in-Err-clause-prints
returns-in-Err-clause-prints g c =
    let sim = c.args.sim.now in
    says-printed sim.project sim.nets.spread _ _ (Err c.in-Err.fault) c.requires.report c.in-Err.ensures.puts tt

pub returns-in-Err-clause-cause : goal.returns-in-Err-clause-cause
returns-in-Err-clause-cause g c =
    let sim = c.args.sim.now in
    says-rose sim.project sim.nets.spread _ _ (Err c.in-Err.fault) c.in-Err.ensures.puts

pub returns-in-Err-clause-files_stay : goal.returns-in-Err-clause-files_stay
returns-in-Err-clause-files_stay g c =
    let sim = c.args.sim.now in
    (says-leaves sim.project sim.nets.spread _ _ (Err c.in-Err.fault) c.in-Err.ensures.puts).files_stay

pub returns-in-Err-clause-written_stays : goal.returns-in-Err-clause-written_stays
returns-in-Err-clause-written_stays g c =
    let sim = c.args.sim.now in
    (says-leaves sim.project sim.nets.spread _ _ (Err c.in-Err.fault) c.in-Err.ensures.puts).written_stays

pub returns-in-Err-clause-target_stays : goal.returns-in-Err-clause-target_stays
returns-in-Err-clause-target_stays g c =
    let sim = c.args.sim.now in
    (says-leaves sim.project sim.nets.spread _ _ (Err c.in-Err.fault) c.in-Err.ensures.puts).target_stays

pub returns-in-Err-clause-ready_stays : goal.returns-in-Err-clause-ready_stays
returns-in-Err-clause-ready_stays g c =
    let sim = c.args.sim.now in
    (says-leaves sim.project sim.nets.spread _ _ (Err c.in-Err.fault) c.in-Err.ensures.puts).ready_stays

pub returns-in-Err-clause-openings_stay : goal.returns-in-Err-clause-openings_stay
returns-in-Err-clause-openings_stay g c =
    let sim = c.args.sim.now in
    (says-leaves sim.project sim.nets.spread _ _ (Err c.in-Err.fault) c.in-Err.ensures.puts).openings_stay
