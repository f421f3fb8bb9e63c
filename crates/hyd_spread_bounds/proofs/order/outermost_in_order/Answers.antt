use Rattle.hyd_spread_bounds.proofs.OrderedPairs.{ordered-pair}
use Rattle.hyd_spread_bounds.proofs.order.outermost_in_order.Goals as goal

pub returns : goal.returns
returns c = ordered-pair
