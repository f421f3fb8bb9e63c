-- The period that was due, with the vectors of the named links, or the end of the run.
use Rattle.std.proofs.Common.{refl, sym}
use Rattle.hyd_run.proofs.StepLemmas.{over-finished, over-stopped}
use Rattle.hyd_sim.specs.RunView.{standing_of}
use Rattle.hyd_run_naming_flows.proofs.StepLemmas.{may-still, did-naming, lost-naming}
use Rattle.hyd_run_naming_flows.proofs.steps.put_step.Goals as goal

pub returns-in-Finished-clause-puts : goal.returns-in-Finished-clause-puts
returns-in-Finished-clause-puts g c = over-finished _ _ _ c.in-Finished.ensures.gives.0 c.in-Finished.ensures.gives.1

pub returns-in-Stop-clause-puts : goal.returns-in-Stop-clause-puts
returns-in-Stop-clause-puts g c =
    over-stopped _ _ c.in-Stop.cause _ c.project-project-in-Stop.ensures.is_sim c.in-Stop.ensures.gives.0
    c.in-Stop.ensures.gives.1.0

pub find_vectors-requires : goal.find_vectors-requires
find_vectors-requires g c =
    let project = c.step.ensures.project in
    record {
      period = (c.args.sim.now, c.in-Period.ensures.gives);
      named = may-still _ _ _ _ project refl c.requires.named;
      junctions = rw project c.requires.junctions;
      room = rw project c.requires.room;
    }

pub put_period-requires : goal.put_period-requires
put_period-requires g c = record {
  period = (c.args.sim.now, c.in-Period.ensures.gives);
  part = c.find_vectors.ensures.part;
  unbroken = c.requires.unbroken;
}

pub returns-in-Ok-clause-puts : goal.returns-in-Ok-clause-puts
returns-in-Ok-clause-puts g c =
    let period = c.in-Period.ensures.gives in
    let found = c.find_vectors.ensures in
    let s = c.has_small_numbers.ensures in
    let r = c.row.ensures in
    let put = c.in-Ok.ensures (standing_of c.args.sim.now) (sym period.valid.time) in
    did-naming _ _ c.project-project-2.ensures.is_sim period (rw r at s.number) (rw r at s.time) (rw r at s.length) _ _
    (may-still _ _ _ _ c.step.ensures.project refl c.requires.named) found.names found.part found.near put.0 put.1.0 _ _
    put.1.1

pub returns-in-Err-clause-puts : goal.returns-in-Err-clause-puts
returns-in-Err-clause-puts g c =
    let period = c.in-Period.ensures.gives in
    let found = c.find_vectors.ensures in
    let s = c.has_small_numbers.ensures in
    let r = c.row.ensures in
    let put = c.in-Err.ensures (standing_of c.args.sim.now) (sym period.valid.time) in
    lost-naming _ _ c.project-project-2.ensures.is_sim period (rw r at s.number) (rw r at s.time) (rw r at s.length) _ _
    (may-still _ _ _ _ c.step.ensures.project refl c.requires.named) found.names found.part found.near put.0 put.1.0
    c.in-Err.fault _ _ put.1.1
