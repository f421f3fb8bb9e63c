use Rattle.hyd_spread_stops.proofs.StuckAlone.{stuck-alone}
use Rattle.hyd_spread_stops.proofs.without_spread.stuck_without_spread.Goals as goal

pub returns : goal.returns
returns c = stuck-alone
