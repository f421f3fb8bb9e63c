-- The room that readings have, and readings of no period.
use Rattle.std.specs.Prelude.{◌≡◌, [], length}
use Rattle.hyd_spec.specs.ProgramTypes.{Project}
use Rattle.hyd_spec.specs.NodeNumbers.{nodes_before_tanks}
use Rattle.hyd_period_facts.specs.ReservedMemory.{Takes}
use Rattle.hyd_period_length.specs.declared.readings.Readings.{Readings}

-- Nothing is read.
pub record AreNone (readings : Readings) : Type 0 where
  pub low : readings.low.list ≡ []
  pub high : readings.high.list ≡ []
  pub flows : readings.flows.list ≡ []

-- There is room for what is read in each period of a network: a head from either side for each junction and each
-- reservoir, and a flow for each link.
pub record HasRoom (project : Project) (readings : Readings) : Type 0 where
  pub low : Takes readings.low (nodes_before_tanks project)
  pub high : Takes readings.high (nodes_before_tanks project)
  pub flows : Takes readings.flows (length project.links.list)
