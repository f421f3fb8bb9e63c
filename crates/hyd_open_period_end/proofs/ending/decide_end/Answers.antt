use Rattle.std.proofs.Common.{◌≡◌, ◌++◌, length, take, drop, ◌∙◌}
use Rattle.hyd_period_network.proofs.OverwrittenLists.{refilled}
use Rattle.hyd_open_period_end.proofs.ending.decide_end.Goals as goal

pub returns-clause-links : goal.returns-clause-links
returns-clause-links c =
    let links : take c.copy_from_slice.new.self.len (c.find_way.new.links
    ++ drop (length c.find_way.new.links) c.copy_from_slice.new.self.items) ≡ c.find_way.new.links =
    refilled c.copy_from_slice.new.self.len c.find_way.new.links _
    (c.find_way.auto.links ∙ c.deref_mut-2.ensures.len) in
    rw links c.find_way.ensures.links
