-- Periods that have started, before their vectors are known.
-- Source: this program's.
use Rattle.std.specs.Prelude.{◌≡◌}
use Rattle.hyd_spec.specs.ProgramTypes.{Project}
use Rattle.hyd_spec_certificates.specs.Valid.{DemandsAreInRange, IsGridAt}
use Rattle.hyd_spec_open_ends.specs.OpenStandings.{OpenStanding}
use Rattle.hyd_period_facts.specs.declared.facts.Facts.{Facts}
use Rattle.hyd_period_network.specs.NetAsPeriodNetwork.{grid_of, states_of}
use Rattle.hyd_period_network.specs.NetView.{NetView}
use Rattle.hyd_period_network.specs.LawsInSettings.{AreStates}
use Rattle.hyd_period_end.specs.FactsBeforeVectors.{AreBegun, AreReady}
use Rattle.hyd_open_certificates.specs.declared.open_row.OpenRow.{OpenRow}
use Rattle.hyd_theorems_on_definitions.specs.SoundLawsAndGrids.{TanksInOrder}

-- A period that begins at a standing was started: the net and the facts are those of its start, and its record has its
-- number, its first start, and by how many seconds that is open.
pub record IsStarted (project : Project) (standing : OpenStanding) (net : NetView) (found : OpenRow) (facts : Facts)
    : Type 0 where
  pub in_range : DemandsAreInRange project standing.known.time
  pub is_grid : IsGridAt project standing.known (grid_of net)
  pub states : AreStates project (states_of net)
  pub links : states_of net ≡ facts.links.list
  pub begun : AreBegun project standing.known facts
  pub ready : AreReady project facts
  pub number : found.row.number ≡ standing.known.number
  pub time : found.row.time ≡ standing.known.time
  pub late : found.late ≡ standing.late
  pub order : TanksInOrder (grid_of net)
