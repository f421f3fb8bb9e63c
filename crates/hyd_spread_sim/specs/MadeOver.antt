-- Periods of runs for spreads that are over by certificates on both grids.
-- Source: this program's.
use Rattle.std.specs.Prelude.{◌≡◌, ℕ}
use Rattle.hyd_spec.specs.ProgramTypes.{Project}
use Rattle.hyd_spec_certificates.specs.declared.Side.{Side}
use Rattle.hyd_spec_spread_runs.specs.OutermostPairs.{grid_on}
use Rattle.hyd_spec_open_spreads.specs.OpenRunsForSpreads.{IsValidOpenlyOver}
use Rattle.hyd_theorems_on_definitions.specs.SoundLawsAndGrids.{TanksInOrder}
use Rattle.hyd_period_network.specs.LawsInSettings.{AreStates}
use Rattle.hyd_period_network.specs.NetAsPeriodNetwork.{states_of}
use Rattle.hyd_period_facts.specs.declared.facts.Facts.{Facts}
use Rattle.hyd_open_certificates.specs.OpenRowView.{open_record_of}
use Rattle.hyd_open_certificates.specs.declared.open_row.OpenRow.{OpenRow}
use Rattle.hyd_open_period_end.specs.declared.open_period_end.OpenPeriodEnd.{OpenPeriodEnd}
use Rattle.hyd_open_sim_start.specs.StandingsOfOpenRuns.{standing_for}
use Rattle.hyd_open_sim_start.specs.declared.standing.Standing.{Standing as Here}
use Rattle.hyd_open_sim.specs.EndedPeriods.{next_standing}
use Rattle.hyd_spread_networks.specs.NetsOfSpreads.{SpreadNetsView, pair_of, net_on}
use Rattle.hyd_spread_period_end.specs.EndedOverSpreads.{IsOverOnBoth}

-- A period is over, and this is what it leaves: its record is valid for the spread of the nets, these are those of the
-- period, with links in the states of the facts, and its end is open by at most the slack.
pub record IsMadeOver (project : Project) (slack : ℕ) (here : Here) (nets : SpreadNetsView) (found : OpenRow)
    (facts : Facts) (close : OpenPeriodEnd) : Type 0 where
  pub valid : IsValidOpenlyOver project nets.spread (standing_for here) (pair_of nets) (open_record_of found)
      (next_standing project here close)
  pub over : IsOverOnBoth project slack here (pair_of nets) found facts close
  pub order : (side : Side) → TanksInOrder (grid_on side (pair_of nets))
  pub states : (side : Side) → AreStates project (states_of (net_on side nets))
  pub links : (side : Side) → states_of (net_on side nets) ≡ facts.links.list
