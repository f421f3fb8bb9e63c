use Rattle.hyd_spread_bounds.proofs.HeadsOfBothSides.{main-order, pinned-order}
use Rattle.hyd_spread_bounds.proofs.order.heads_in_order.Goals as goal

pub returns-clause-main : goal.returns-clause-main
returns-clause-main c = main-order

pub returns-clause-pinned : goal.returns-clause-pinned
returns-clause-pinned c = pinned-order
