use Rattle.hyd_spread_sim.proofs.WithoutSpread.{alike}
use Rattle.hyd_spread_sim.proofs.without_spread.alike_without_spread.Goals as goal

pub returns : goal.returns
returns c = λ project sound spread none standing pair are. alike project sound spread none standing pair are
