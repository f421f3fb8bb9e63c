use Rattle.hyd_net.proofs.EqualValues.{ids-decide}
use Rattle.hyd_net.proofs.names.Names.same.Goals as goal

pub returns : goal.returns
returns c =
    rw (← c.self.view_is, ← c.other.view_is) (ids-decide _ _ _ _ _ _ c.as_slice.ensures.value c.as_slice-2.ensures.value
    c.eq.ensures)
