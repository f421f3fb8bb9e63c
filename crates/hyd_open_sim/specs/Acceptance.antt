-- What it brings where a record that is handed in is accepted as that of the period that is due, whose start or end may
-- be open by some seconds.
-- Source: this program's.
use Rattle.std.specs.Prelude.{◌≡◌, ℕ, List, None}
use Rattle.hyd_spec.specs.ProgramTypes.{Project}
use Rattle.hyd_spec_certificates.specs.declared.Event.{Event}
use Rattle.hyd_spec_open_ends.specs.OpenStandings.{OpenStanding}
use Rattle.hyd_spec_open_ends.specs.OpenRecords.{IsValidOpenly}
use Rattle.hyd_period_facts.specs.FactsBeforeEnd.{HaveTanks}
use Rattle.hyd_period_facts.specs.declared.facts.Facts.{Facts}
use Rattle.hyd_period_network.specs.NetAsPeriodNetwork.{grid_of, states_of}
use Rattle.hyd_period_network.specs.NetView.{NetView}
use Rattle.hyd_period_network.specs.LawsInSettings.{AreStates}
use Rattle.hyd_open_certificates.specs.OpenRowView.{open_record_of}
use Rattle.hyd_open_certificates.specs.declared.open_row.OpenRow.{OpenRow}
use Rattle.hyd_open_facts.specs.FactsOfOpenPeriod.{AreOpenFacts}
use Rattle.hyd_theorems_on_definitions.specs.SoundLawsAndGrids.{TanksInOrder}
use Rattle.hyd_open_sim.specs.RunView.{OpenSimView, standing_of}

-- from one standing to another a record was accepted: it is valid and leads on, the net is that of its period, with
-- links in the states of the facts, and the facts are its own
pub record IsTaken (project : Project) (before : OpenStanding) (net : NetView) (found : OpenRow) (facts : Facts)
    (first late : ℕ) (opened : List Event) (now : OpenStanding) : Type 0 where
  pub valid : IsValidOpenly project before (grid_of net) (open_record_of found) now
  pub facts_are : AreOpenFacts project (grid_of net) before (open_record_of found) first late opened facts
  pub have : HaveTanks project facts
  pub order : TanksInOrder (grid_of net)
  pub states : AreStates project (states_of net)
  pub links : states_of net ≡ facts.links.list

-- a record was accepted as that of the period that was due, and the run stands behind it
pub record IsAccepted (before now : OpenSimView) : Type 0 where
  pub valid : IsValidOpenly now.project (standing_of before) (grid_of now.net) (open_record_of now.found)
      (standing_of now)
  pub facts : AreOpenFacts now.project (grid_of now.net) (standing_of before) (open_record_of now.found)
      now.close.first now.close.late now.close.opened.list now.facts
  pub have : HaveTanks now.project now.facts
  pub order : TanksInOrder (grid_of now.net)
  pub states : AreStates now.project (states_of now.net)
  pub links : states_of now.net ≡ now.facts.links.list
  pub stopped : now.stopped ≡ None
