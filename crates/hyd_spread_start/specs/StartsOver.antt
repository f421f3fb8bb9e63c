-- Starts of periods of runs for spreads.
-- Source: this program's.
use Rattle.std.specs.Prelude.{◌≡◌, ℕ, ℤ, Bool, Some, slice_get, ⊤}
use Rattle.hyd_spec.specs.ProgramTypes.{Project, Control, When, AtLevel}
use Rattle.hyd_spec_certificates.specs.declared.Side.{Side}
use Rattle.hyd_spec_open_ends.specs.OpenStandings.{OpenStanding}
use Rattle.hyd_spec_spread.specs.Spreads.{Spread}
use Rattle.hyd_spec_spread_runs.specs.OutermostPairs.{grid_on}
use Rattle.hyd_spec_spread_runs.specs.RunsForSpreads.{ArePairAt, AreDemandsInRange}
use Rattle.hyd_theorems_on_definitions.specs.SoundLawsAndGrids.{TanksInOrder}
use Rattle.hyd_period_network.specs.LawsInSettings.{AreStates}
use Rattle.hyd_period_network.specs.NetAsPeriodNetwork.{states_of}
use Rattle.hyd_period_facts.specs.declared.facts.Facts.{Facts}
use Rattle.hyd_period_end.specs.FactsBeforeVectors.{AreBegun, AreReady}
use Rattle.hyd_open_certificates.specs.declared.open_row.OpenRow.{OpenRow}
use Rattle.hyd_spread_networks.specs.NetsOfSpreads.{SpreadNetsView, pair_of, net_on}

-- what a control waits for is a level
abbrev pub IsOfLevel : When → Type 0
IsOfLevel (AtLevel tank above ticks) = ⊤
IsOfLevel when = ⊥

-- a control is one of a tank's level
pub record IsTankOf (project : Project) (number tank : ℕ) : Type 0 where
  pub control : Control
  pub is_control : slice_get project.controls.list number ≡ Some control
  pub above : Bool
  pub ticks : ℤ
  pub is_level : control.when ≡ AtLevel tank above ticks

-- A period that begins at a standing was started for a spread: the nets of both sides and the facts are those of its
-- start, and its record has its number, its first start, and by how many seconds that is open.
pub record IsStartedOver (project : Project) (spread : Spread) (standing : OpenStanding) (nets : SpreadNetsView)
    (found : OpenRow) (facts : Facts) : Type 0 where
  pub in_range : AreDemandsInRange project spread standing.known.time
  pub are_pair : ArePairAt project spread standing.known (pair_of nets)
  pub states : (side : Side) → AreStates project (states_of (net_on side nets))
  pub links : (side : Side) → states_of (net_on side nets) ≡ facts.links.list
  pub begun : AreBegun project standing.known facts
  pub ready : AreReady project facts
  pub number : found.row.number ≡ standing.known.number
  pub time : found.row.time ≡ standing.known.time
  pub late : found.late ≡ standing.late
  pub order : (side : Side) → TanksInOrder (grid_on side (pair_of nets))
