use Rattle.hyd_theorems_on_open_refusals.proofs.RecordsOfRuns.{no_record_refused, no_end_refused, tells_accepted}
use Rattle.hyd_theorems_on_open_refusals.proofs.RecordsOfRuns.{writes_accepted}
use Rattle.hyd_theorems_on_open_refusals.proofs.checks.Goals as goal

pub returns-clause-accepted : goal.returns-clause-accepted
returns-clause-accepted c = no_record_refused

pub returns-clause-written : goal.returns-clause-written
returns-clause-written c = λ project slack rounds stop text printed cause run.
    no_record_refused project text printed cause (writes_accepted project slack rounds stop text run)

pub returns-clause-told : goal.returns-clause-told
returns-clause-told c = λ project slack rounds sharpness outcome text report printed cause run.
    no_record_refused project text printed cause
    (tells_accepted project slack rounds sharpness outcome text report run)

pub returns-clause-accepted_end : goal.returns-clause-accepted_end
returns-clause-accepted_end c = no_end_refused

pub returns-clause-written_end : goal.returns-clause-written_end
returns-clause-written_end c = λ project slack rounds stop text printed run.
    no_end_refused project text printed (writes_accepted project slack rounds stop text run)

pub returns-clause-told_end : goal.returns-clause-told_end
returns-clause-told_end c = λ project slack rounds sharpness outcome text report printed run.
    no_end_refused project text printed (tells_accepted project slack rounds sharpness outcome text report run)
