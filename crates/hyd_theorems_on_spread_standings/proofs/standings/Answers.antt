use Rattle.hyd_theorems_on_spread_standings.proofs.FirmOverSpreads.{firm-over}
use Rattle.hyd_theorems_on_spread_standings.proofs.standings.Goals as goal

pub returns : goal.returns
returns c = firm-over
