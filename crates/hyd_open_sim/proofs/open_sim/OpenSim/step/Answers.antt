use Rattle.hyd_open_sim.proofs.open_sim.OpenSim.step.Goals as goal

pub returns-in-Ok-clause-sought : goal.returns-in-Ok-clause-sought
returns-in-Ok-clause-sought g c = λ is. c.in-Ok.ensures.sought
