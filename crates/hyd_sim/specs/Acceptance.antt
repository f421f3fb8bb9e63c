-- What it brings where a record that is handed in is accepted as that of the period that is due, and why one is
-- refused.
-- Source: this program's.
use Rattle.std.specs.Prelude.{◌≡◌, ℕ, None}
use Rattle.hyd_spec.specs.ProgramTypes.{Project}
use Rattle.hyd_spec_certificates.specs.PeriodNetwork.{Grid}
use Rattle.hyd_spec_certificates.specs.Certificate.{IsCertificate, FailsFirst}
use Rattle.hyd_spec_certificates.specs.RecordAndStanding.{Record, Standing, vector_of}
use Rattle.hyd_spec_certificates.specs.Valid.{IsValid}
use Rattle.hyd_spec_certificates.specs.TurnsOfProblems.{turn}
use Rattle.hyd_cert.specs.RecordView.{row_of, IsProblemOf}
use Rattle.hyd_cert.specs.declared.record.Record.{Record as Row}
use Rattle.hyd_period_facts.specs.FactsOfPeriod.{AreFacts}
use Rattle.hyd_period_facts.specs.declared.facts.Facts.{Facts}
use Rattle.hyd_period_network.specs.NetAsPeriodNetwork.{grid_of, states_of}
use Rattle.hyd_period_network.specs.NetView.{NetView}
use Rattle.hyd_period_network.specs.LawsInSettings.{AreStates}
use Rattle.hyd_period_facts.specs.FactsBeforeEnd.{HaveTanks}
use Rattle.hyd_period_vectors.specs.SoughtVectors.{EachBefore}
use Rattle.hyd_sim.specs.RunView.{SimView, standing_of}
use Rattle.hyd_sim.specs.declared.given_vectors.Failing.{Failing}
use Rattle.hyd_theorems_on_definitions.specs.SoundLawsAndGrids.{TanksInOrder}

-- the first vector of a record, in the order of problems and sides, that isn't a certificate, and the junction at which
-- it fails first
pub record FailsAt (grid : Grid) (tanks : ℕ) (row : Record) (failing : Failing) : Type 0 where
  pub is_problem : IsProblemOf tanks failing.problem
  pub earlier : EachBefore (IsCertificate grid) tanks (turn failing.problem failing.side) row
  pub fails : FailsFirst None grid failing.problem failing.side (vector_of row failing.problem failing.side)
      failing.junction

-- from one standing to another a record was accepted: it is valid and leads on, the net is that of its period, with
-- links in the states of the facts, and the facts are its own
pub record IsTaken (project : Project) (before : Standing) (net : NetView) (row : Row) (facts : Facts) (now : Standing)
    : Type 0 where
  pub valid : IsValid project before (grid_of net) (row_of row) now
  pub facts_are : AreFacts project (grid_of net) before (row_of row) facts
  pub have : HaveTanks project facts
  pub order : TanksInOrder (grid_of net)
  pub states : AreStates project (states_of net)
  pub links : states_of net ≡ facts.links.list

-- a record was accepted as that of the period that was due, and the run stands behind it
pub record IsAccepted (before now : SimView) : Type 0 where
  pub valid : IsValid now.project (standing_of before) (grid_of now.net) (row_of now.row) (standing_of now)
  pub facts : AreFacts now.project (grid_of now.net) (standing_of before) (row_of now.row) now.facts
  pub have : HaveTanks now.project now.facts
  pub order : TanksInOrder (grid_of now.net)
  pub states : AreStates now.project (states_of now.net)
  pub links : states_of now.net ≡ now.facts.links.list
  pub stopped : now.stopped ≡ None
