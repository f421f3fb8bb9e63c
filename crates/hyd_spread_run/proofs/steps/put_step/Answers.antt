-- The period that was due, or the end of the run.
use Rattle.std.proofs.Common.{refl, subst, sym}
use Rattle.hyd_net.specs.Sound.{IsSound}
use Rattle.hyd_spread_run.proofs.SpreadPeriodLemmas.{of-leads}
use Rattle.hyd_spread_run.proofs.SpreadStepLemmas.{over-finished, over-stopped, did-there, lost-there, AreSmall}
use Rattle.hyd_spread_run.proofs.steps.put_step.Goals as goal

pub say_low-requires : goal.say_low-requires
say_low-requires g c = subst IsSound (sym c.project.ensures.project) c.project.ensures.is_sim.sound

pub returns-in-Finished-clause-puts : goal.returns-in-Finished-clause-puts
returns-in-Finished-clause-puts g c =
    let e = c.in-Finished.ensures in
    over-finished c.args.sim.now _ e.project e.settings e.spread _ e.gives.0 e.gives.1

pub returns-in-Stop-clause-puts : goal.returns-in-Stop-clause-puts
returns-in-Stop-clause-puts g c =
    let e = c.in-Stop.ensures in
    over-stopped c.args.sim.now _ e.project e.settings e.spread _ c.in-Stop.cause c.project-project.ensures.is_sim
    e.gives.0 e.gives.1.0

pub put_period-requires : goal.put_period-requires
put_period-requires g c = record {
  period = of-leads _ c.project-project-2.ensures.is_sim _ c.in-Period.ensures.gives.leads;
  unbroken = c.requires.unbroken;
}

pub returns-in-Err-clause-puts : goal.returns-in-Err-clause-puts
returns-in-Err-clause-puts g c =
    let e = c.in-Period.ensures in
    let s = c.has_small_numbers.ensures in
    let small = subst AreSmall c.found-2.ensures (record {
      number = s.number;
      time = s.time;
      length = s.length;
      late = s.late;
      shortest = s.shortest;
    }) in
    lost-there _ c.args.sim.now _ c.project-project-2.ensures.is_sim e.gives small e.project e.settings e.spread
    (e.sharp refl) _ _ c.in-Err.fault c.in-Err.ensures

pub returns-in-Ok-clause-puts : goal.returns-in-Ok-clause-puts
returns-in-Ok-clause-puts g c =
    let e = c.in-Period.ensures in
    let s = c.has_small_numbers.ensures in
    let small = subst AreSmall c.found-2.ensures (record {
      number = s.number;
      time = s.time;
      length = s.length;
      late = s.late;
      shortest = s.shortest;
    }) in
    did-there _ c.args.sim.now _ c.project-project-2.ensures.is_sim e.gives small e.project e.settings e.spread
    (e.sharp refl) _ _ c.in-Ok.ensures
