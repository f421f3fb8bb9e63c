-- The net of a network, set to the period of a moment.
-- Source: this program's.
use Rattle.std.specs.Prelude.{◌≡◌, ℕ, ℤ, List, length}
use Rattle.std.specs.List.{AllZip}
use Rattle.hyd_spec.specs.ProgramTypes.{Project, LinkState}
use Rattle.hyd_spec.specs.NodeNumbers.{tank_count}
use Rattle.hyd_spec.specs.PumpPatternsAndSimpleControls.{started, acts_at}
use Rattle.hyd_spec.specs.History.{tank_states}
use Rattle.hyd_spec_certificates.specs.PeriodNetwork.{IsJunctionOf}
use Rattle.hyd_spec_certificates.specs.Valid.{DemandsAreInRange}
use Rattle.hyd_period_network.specs.NetAsPeriodNetwork.{grid_of, states_of}
use Rattle.hyd_period_network.specs.NetsSetToPeriods.{IsNetOf, AreLevels}
use Rattle.hyd_met_flows.specs.Periods.{IsSet}
use Rattle.hyd_course.specs.declared.set_net.SetNet.{SetNet}

-- the net is of a network, and there is a state for each tank and each link
pub record IsSetNet (project : Project) (set : SetNet) : Type 0 where
  pub of : IsNetOf project set.net
  pub levels : AreLevels project set.levels.items
  pub tank_each : length set.tanks.items ≡ tank_count project
  pub link_each : length set.links.items ≡ length project.links.list

-- it is set to a period that begins at a time with levels of tanks, after links were commanded so
pub record IsSetAt (project : Project) (S time : ℕ) (levels : List ℤ) (commanded : List LinkState)
    (set : SetNet) : Type 0 where
  pub tanks : set.tanks.items ≡ tank_states S project.tanks.list levels
  pub links : set.links.items ≡ started project time (acts_at S levels) commanded
  pub is_set : IsSet project set.net set.tanks.items
  pub states : states_of set.net ≡ set.links.items
  pub junctions : AllZip (IsJunctionOf project time) project.junctions.list (grid_of set.net).junctions
  pub in_range : DemandsAreInRange project time
