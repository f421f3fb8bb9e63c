-- The period that was due, or the end of the run.
use Rattle.hyd_run.proofs.StepLemmas.{over-finished, over-stopped}
use Rattle.hyd_run.proofs.PenLemmas.{on_any}
use Rattle.hyd_summarised_run.proofs.PenLemmas.{cert-put}
use Rattle.hyd_summarised_run.proofs.StepLemmas.{did-there, lost-there}
use Rattle.hyd_summarised_run.proofs.steps.put_step.Goals as goal

pub returns-in-Finished-clause-puts : goal.returns-in-Finished-clause-puts
returns-in-Finished-clause-puts g c = over-finished _ _ _ c.in-Finished.ensures.gives.0 c.in-Finished.ensures.gives.1

pub returns-in-Stop-clause-puts : goal.returns-in-Stop-clause-puts
returns-in-Stop-clause-puts g c =
    over-stopped _ _ c.in-Stop.cause _ c.project-project-in-Stop.ensures.is_sim c.in-Stop.ensures.gives.0
    c.in-Stop.ensures.gives.1.0

pub put_record-requires : goal.put_record-requires
put_record-requires g c = on_any _ _ c.requires.ready

pub returns-in-Err-clause-puts : goal.returns-in-Err-clause-puts
returns-in-Err-clause-puts g c =
    let s = c.has_small_numbers.ensures in
    lost-there _ _ c.project-project-2.ensures.is_sim c.in-Period.ensures.gives c.in-Err.fault _ _ _ c.row-row.ensures
    s.number s.time s.length (cert-put _ _ _ _ _ _ _ c.requires c.in-Err.ensures)

pub returns-in-Ok-clause-puts : goal.returns-in-Ok-clause-puts
returns-in-Ok-clause-puts g c =
    let s = c.has_small_numbers.ensures in
    rw c.len-events.ensures (did-there _ _ c.project-project-2.ensures.is_sim c.in-Period.ensures.gives _ _ _ _
    c.row-row.ensures c.facts.ensures s.number s.time s.length (cert-put _ _ _ _ _ _ _ c.requires c.in-Ok.ensures))
