-- What was put in went out.
use Rattle.std.specs.Prelude.{Err}
use Rattle.hyd_run.proofs.WholeRunLemmas.{fresh-open}
use Rattle.hyd_spread_run_so_far.proofs.WholeSpreadRunLemmas.{gives-whole, gives-broken, gives-rose, gives-rest}
use Rattle.hyd_spread_run_so_far.proofs.WholeSpreadRunLemmas.{gives-steady}
use Rattle.hyd_spread_run.proofs.whole_run.run_over.Goals as goal

pub put_run-requires-clause-unbroken : goal.put_run-requires-clause-unbroken
put_run-requires-clause-unbroken g c = fresh-open _ _ _ c.requires.certificate c.requires.report c.requires.ready

pub finish_run-requires : goal.finish_run-requires
finish_run-requires g c = c.in-Ok.ensures.puts.put.unbroken

pub returns-in-Ok-clause-whole : goal.returns-in-Ok-clause-whole
returns-in-Ok-clause-whole g c =
    gives-whole _ _ _ _ c.in-Ok.ensures.sound c.in-Ok.ensures.is_spread c.requires.certificate c.requires.report
    c.finish_run.result (c.finish_run.ensures.puts _ _ _ c.in-Ok.ensures.puts)
    c.finish_run.ensures.certificate c.finish_run.ensures.report

pub returns-in-Ok-clause-broken_off : goal.returns-in-Ok-clause-broken_off
returns-in-Ok-clause-broken_off g c =
    gives-broken _ _ _ _ c.in-Ok.ensures.sound c.in-Ok.ensures.is_spread c.requires.certificate c.requires.report
    c.finish_run.result (c.finish_run.ensures.puts _ _ _ c.in-Ok.ensures.puts)

pub returns-in-Ok-clause-cause : goal.returns-in-Ok-clause-cause
returns-in-Ok-clause-cause g c =
    gives-rose _ _ _ _ c.in-Ok.ensures.sound c.in-Ok.ensures.is_spread c.requires.certificate c.requires.report
    c.finish_run.result (c.finish_run.ensures.puts _ _ _ c.in-Ok.ensures.puts)

pub returns-in-Ok-clause-steady : goal.returns-in-Ok-clause-steady
returns-in-Ok-clause-steady g c =
    gives-steady _ _ _ _ c.in-Ok.ensures.sound c.in-Ok.ensures.is_spread c.requires.certificate c.requires.report
    c.finish_run.result (c.finish_run.ensures.puts _ _ _ c.in-Ok.ensures.puts)

pub returns-in-Ok-clause-leaves : goal.returns-in-Ok-clause-leaves
returns-in-Ok-clause-leaves g c =
    gives-rest _ _ _ _ c.in-Ok.ensures.sound c.in-Ok.ensures.is_spread c.requires.certificate c.requires.report
    c.finish_run.result (c.finish_run.ensures.puts _ _ _ c.in-Ok.ensures.puts)

pub returns-in-Err-clause-broken_off : goal.returns-in-Err-clause-broken_off
returns-in-Err-clause-broken_off g c =
    gives-broken _ _ _ _ c.put_run.ensures.sound c.put_run.ensures.is_spread c.requires.certificate c.requires.report
    (Err c.in-Err.fault) c.in-Err.ensures.puts

pub returns-in-Err-clause-cause : goal.returns-in-Err-clause-cause
returns-in-Err-clause-cause g c =
    gives-rose _ _ _ _ c.put_run.ensures.sound c.put_run.ensures.is_spread c.requires.certificate c.requires.report
    (Err c.in-Err.fault) c.in-Err.ensures.puts

pub returns-in-Err-clause-leaves : goal.returns-in-Err-clause-leaves
returns-in-Err-clause-leaves g c =
    gives-rest _ _ _ _ c.put_run.ensures.sound c.put_run.ensures.is_spread c.requires.certificate c.requires.report
    (Err c.in-Err.fault) c.in-Err.ensures.puts
