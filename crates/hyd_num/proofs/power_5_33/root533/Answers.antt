use Rattle.hyd_num.proofs.RootSearch.{roots_in_order}
use Rattle.hyd_num.proofs.power_5_33.root533.Goals as goal

pub between-requires : goal.between-requires
between-requires c = roots_in_order c.root_down-low.result c.root_up.result c.pow-raised.result.lo
    c.pow-raised.result.hi c.pow-raised.result.ordered c.root_down-low.ensures.root.below c.root_up.ensures.root.above

pub returns-clause-root : goal.returns-clause-root
returns-clause-root c = record {
  raised = c.pow-raised.result;
  made = c.pow-raised.ensures.power;
  low = rw c.between.ensures.low c.root_down-low.ensures.root;
  high = rw c.between.ensures.high c.root_up.ensures.root;
}
