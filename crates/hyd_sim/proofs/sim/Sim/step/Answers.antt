use Rattle.std.proofs.Common.{refl}
use Rattle.std.proofs.lemmas.Bool.{false≢true}
use Rattle.hyd_sim.proofs.sim.Sim.step.Goals as goal

pub returns-in-Ok-clause-proposal : goal.returns-in-Ok-clause-proposal
returns-in-Ok-clause-proposal g c = λ w running unfinished e p.
    (refl, (c.in-Ok.ensures.proposal w e p).1)

pub returns-in-Err-clause-proposal : goal.returns-in-Err-clause-proposal
returns-in-Err-clause-proposal g c = λ w running unfinished e p.
    absurd (false≢true (c.in-Err.ensures.proposal w e p).0)

pub returns-in-Ok-clause-sought : goal.returns-in-Ok-clause-sought
returns-in-Ok-clause-sought g c = λ is. c.in-Ok.ensures.sought
