use Rattle.hyd_period_network.proofs.LawsStandForExactLaws.{check_represents, power_check_represents}
use Rattle.hyd_period_network.proofs.laws.check_law.Goals as goal

pub returns-in-Manning : goal.returns-in-Manning
returns-in-Manning c = rw c.in-Manning.is (check_represents c.in-Manning.cap (rw c.in-Manning.is at c.requires))

pub returns-in-HazenWilliams : goal.returns-in-HazenWilliams
returns-in-HazenWilliams c = rw c.in-HazenWilliams.is (power_check_represents c.in-HazenWilliams.cap
    (rw c.in-HazenWilliams.is at c.requires))
