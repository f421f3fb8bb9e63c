use Rattle.std.proofs.Common.{◌≡◌, length, subst}
use Rattle.hyd_period_network.specs.NetView.{NetView}
use Rattle.hyd_period_network.specs.NetAsPeriodNetwork.{grid_of}
use Rattle.hyd_period_network.proofs.GridJunctionsAndLinks.{links_count}
use Rattle.hyd_period_network.proofs.net.Net.links.Goals as goal

pub returns-clause-each : goal.returns-clause-each
returns-clause-each c =
    subst (λ (n : NetView). length (grid_of n).links ≡ length n.ends) c.self.view_is
    (links_count _ _ _ c.self.invariant.0.each_setting c.self.invariant.0.each_own)
