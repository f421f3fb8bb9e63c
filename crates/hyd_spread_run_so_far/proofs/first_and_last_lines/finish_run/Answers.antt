-- Both pens are emptied.
use Rattle.hyd_run.specs.Runs.{outcome_of}
use Rattle.hyd_run.proofs.WholeRunLemmas.{pen-fresh}
use Rattle.hyd_spread_run_so_far.proofs.SpreadRunLemmas.{whole-emptied, whole-cut-off}
use Rattle.hyd_spread_run_so_far.proofs.first_and_last_lines.finish_run.Goals as goal

pub returns-in-Ok-clause-puts : goal.returns-in-Ok-clause-puts
returns-in-Ok-clause-puts g c = λ project asked start whole.
    whole-emptied project asked (outcome_of c.args.end) start _ _ whole c.in-Ok.ensures.puts
    c.in-Ok.ensures.certificate

pub returns-in-Ok-clause-certificate : goal.returns-in-Ok-clause-certificate
returns-in-Ok-clause-certificate g c =
    let unbroken = c.in-Ok.ensures.puts.unbroken in
    pen-fresh _ _ unbroken.certificate_to unbroken.certificate_fault c.in-Ok.ensures.certificate

pub returns-in-Ok-clause-report : goal.returns-in-Ok-clause-report
returns-in-Ok-clause-report g c =
    let unbroken = c.in-Ok.ensures.puts.unbroken in
    pen-fresh _ _ unbroken.report_to unbroken.report_fault c.in-Ok.ensures.report

pub returns-in-Err-clause-puts : goal.returns-in-Err-clause-puts
returns-in-Err-clause-puts g c = λ project asked start whole.
    whole-cut-off project asked c.in-Err.fault (outcome_of c.args.end) start _ _ whole c.in-Err.ensures.puts
