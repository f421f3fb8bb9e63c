use Rattle.std.proofs.Common.{w64}
use Rattle.std.proofs.lemmas.Int.{to_z-of_z}
use Rattle.hyd_period_network.proofs.LawsStandForExactLaws.{limit_represents, linear_limit_represents}
use Rattle.hyd_period_network.proofs.laws.limited.Goals as goal

pub returns-in-Quadratic : goal.returns-in-Quadratic
returns-in-Quadratic c = rw (to_z-of_z w64 c.args.ticks c.ranges.ticks, c.in-Quadratic.is)
    (limit_represents c.args.ticks c.in-Quadratic.cap (rw c.in-Quadratic.is at c.requires))

pub returns-in-Linear : goal.returns-in-Linear
returns-in-Linear c = rw (to_z-of_z w64 c.args.ticks c.ranges.ticks, c.in-Linear.is)
    (linear_limit_represents c.args.ticks (record {}))
