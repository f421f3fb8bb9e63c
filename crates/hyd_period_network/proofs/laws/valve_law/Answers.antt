use Rattle.hyd_period_network.proofs.LawsStandForExactLaws.{quad_represents, linear_represents}
use Rattle.hyd_period_network.proofs.laws.valve_law.Goals as goal

pub returns-in-Quadratic : goal.returns-in-Quadratic
returns-in-Quadratic c = rw c.in-Quadratic.is (quad_represents c.in-Quadratic.cap (rw c.in-Quadratic.is at c.requires))

pub returns-in-Linear : goal.returns-in-Linear
returns-in-Linear c = rw c.in-Linear.is (linear_represents (record {}))
