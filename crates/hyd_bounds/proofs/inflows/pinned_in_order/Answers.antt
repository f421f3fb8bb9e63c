use Rattle.hyd_bounds.proofs.PinnedInOrder.{pinned-fixed, pinned-order}
use Rattle.hyd_bounds.proofs.inflows.pinned_in_order.Goals as goal

pub returns-clause-fixed : goal.returns-clause-fixed
returns-clause-fixed c = pinned-fixed

pub returns-clause-heads : goal.returns-clause-heads
returns-clause-heads c = pinned-order
