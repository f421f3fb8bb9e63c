use Rattle.hyd_net.proofs.EqualValues.{bare_list-by_items}
use Rattle.hyd_net.proofs.comparison.same_reservoirs.Goals as goal

pub returns : goal.returns
returns c =
    bare_list-by_items c.args.a.now c.args.b.now _ _ _ c.as_slice.ensures c.as_slice-2.ensures c.same_items.ensures
