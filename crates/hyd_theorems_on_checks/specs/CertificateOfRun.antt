-- The certificates that hold: those of runs.
-- Source: this program's.
use Rattle.std.specs.Prelude.{◌≡◌, ℕ, ◌⊎◌, List, length}
use Rattle.std.specs.List.{AllByRecursion}
use Rattle.hyd_spec.specs.ProgramTypes.{Project}
use Rattle.hyd_spec.specs.NodeNumbers.{junction_count, tank_count}
use Rattle.hyd_spec_certificates.specs.RecordAndStanding.{Record, Standing}
use Rattle.hyd_spec_certificates.specs.CertificateText.{IsCertificateText, version_of}
use Rattle.hyd_spec_reports.specs.PromisesOfRunsAndChecks.{Found, IsRun, rows_of}
use Rattle.hyd_spec_flows.specs.FlowTexts.{IsTextWithFlows}
use Rattle.hyd_spec_reports_with_flows.specs.PromisesWithFlows.{FoundNaming, IsFoundNaming, founds_in, entries_of}

-- The text is the certificate of a run of the network, whole or as far as it went, with an END line that says what is
-- so: how many records stand before it, and whether the run is finished.
pub record IsCertificateOfRun (project : Project) (text : List ℕ) : Type 0 where
  pub founds : List Found
  pub left : Standing
  pub is_run : IsRun project founds left
  pub certificate : IsCertificateText text (version_of project) (junction_count project) (tank_count project)
      (rows_of founds) (length founds) left.finished

-- The same with the flows of named links: behind each record stands a part that has its vectors.
pub record IsCertificateOfRunNaming (project : Project) (text : List ℕ) : Type 0 where
  pub namings : List FoundNaming
  pub left : Standing
  pub is_run : IsRun project (founds_in namings) left
  pub parts : AllByRecursion (IsFoundNaming project) namings
  pub certificate : IsTextWithFlows text (junction_count project) (tank_count project) (entries_of namings)
      (length namings) left.finished

-- The certificate of a run, without flows or with them.
abbrev pub IsCertificateOfSomeRun : Project → List ℕ → Type 0
IsCertificateOfSomeRun project text = IsCertificateOfRun project text ⊎ IsCertificateOfRunNaming project text

-- A run of the network with these records, each with a report, that leaves this standing.
pub record IsRunOf (project : Project) (rows : List Record) (last : Standing) : Type 0 where
  pub founds : List Found
  pub is_run : IsRun project founds last
  pub records : rows_of founds ≡ rows
