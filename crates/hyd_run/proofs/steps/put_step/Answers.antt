-- The period that was due, or the end of the run.
use Rattle.hyd_run.proofs.StepLemmas.{over-finished, over-stopped, sound-there, net-there, states-there}
use Rattle.hyd_run.proofs.StepLemmas.{certificates-there, order-there, tanks-there, links-there, did-there}
use Rattle.hyd_run.proofs.StepLemmas.{lost-there}
use Rattle.hyd_run.proofs.steps.put_step.Goals as goal

pub returns-in-Finished-clause-puts : goal.returns-in-Finished-clause-puts
returns-in-Finished-clause-puts g c = over-finished _ _ _ c.in-Finished.ensures.gives.0 c.in-Finished.ensures.gives.1

pub returns-in-Stop-clause-puts : goal.returns-in-Stop-clause-puts
returns-in-Stop-clause-puts g c =
    over-stopped _ _ c.in-Stop.cause _ c.project-project-in-Stop.ensures.is_sim c.in-Stop.ensures.gives.0
    c.in-Stop.ensures.gives.1.0

pub put_period-requires : goal.put_period-requires
put_period-requires g c =
    let is = c.project-project-2.ensures.is_sim in
    let period = c.in-Period.ensures.gives in
    let p = c.project-project-2.ensures.project in
    record {
      sound = sound-there _ _ is period _ _ _ _ p c.net.ensures c.row-row.ensures c.facts.ensures;
      of = net-there _ _ is period _ _ _ _ p c.net.ensures c.row-row.ensures c.facts.ensures;
      states = states-there _ _ is period _ _ _ _ p c.net.ensures c.row-row.ensures c.facts.ensures;
      certificates = certificates-there _ _ is period _ _ _ _ p c.net.ensures c.row-row.ensures c.facts.ensures;
      order = order-there _ _ is period _ _ _ _ p c.net.ensures c.row-row.ensures c.facts.ensures;
      tanks = tanks-there _ _ is period _ _ _ _ p c.net.ensures c.row-row.ensures c.facts.ensures;
      links = links-there _ _ is period _ _ _ _ p c.net.ensures c.row-row.ensures c.facts.ensures;
      unbroken = c.requires;
    }

pub returns-in-Err-clause-puts : goal.returns-in-Err-clause-puts
returns-in-Err-clause-puts g c =
    let s = c.has_small_numbers.ensures in
    lost-there _ _ c.project-project-2.ensures.is_sim c.in-Period.ensures.gives _ _ _ _
    c.project-project-2.ensures.project c.net.ensures
    c.row-row.ensures c.facts.ensures c.in-Err.fault _ _ s.number s.time s.length c.in-Err.ensures

pub returns-in-Ok-clause-puts : goal.returns-in-Ok-clause-puts
returns-in-Ok-clause-puts g c =
    let s = c.has_small_numbers.ensures in
    did-there _ _ c.project-project-2.ensures.is_sim c.in-Period.ensures.gives _ _ _ _
    c.project-project-2.ensures.project c.net.ensures
    c.row-row.ensures c.facts.ensures _ _ s.number s.time s.length c.in-Ok.ensures
