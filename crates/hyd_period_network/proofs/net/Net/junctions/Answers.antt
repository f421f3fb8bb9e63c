use Rattle.std.proofs.Common.{◌≡◌, length, subst}
use Rattle.hyd_theorems_on_definitions.specs.SoundLawsAndGrids.{IsSteady}
use Rattle.hyd_period_network.specs.NetView.{NetView}
use Rattle.hyd_period_network.specs.NetAsPeriodNetwork.{grid_of}
use Rattle.hyd_period_network.proofs.GridJunctionsAndLinks.{junctions_count}
use Rattle.hyd_period_network.proofs.SoundLawsOfGrid.{steady}
use Rattle.hyd_period_network.proofs.net.Net.junctions.Goals as goal

pub returns-clause-each : goal.returns-clause-each
returns-clause-each c =
    subst (λ (n : NetView). length (grid_of n).junctions ≡ length n.junctions) c.self.view_is
    (junctions_count _ _ c.self.invariant.0.each_demand)

pub returns-clause-steady : goal.returns-clause-steady
returns-clause-steady c = subst (λ (n : NetView). IsSteady (grid_of n)) c.self.view_is (steady _ c.self.invariant.0)
