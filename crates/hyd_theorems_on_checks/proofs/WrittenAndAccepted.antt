-- What a run writes, and what a check accepts, is the certificate of a run.
use Rattle.std.proofs.Common.{◌≡◌, ℕ, Bool, List, length, refl, sym, subst}
use Rattle.hyd_spec.specs.ProgramTypes.{Project}
use Rattle.hyd_spec.specs.NodeNumbers.{junction_count, tank_count}
use Rattle.hyd_spec_certificates.specs.RecordAndStanding.{Standing}
use Rattle.hyd_spec_reports.specs.PromisesOfRunsAndChecks.{Sharpness, Outcome, Finished, Stopped, EndsSo, is_finished}
use Rattle.hyd_spec_reports.specs.PromisesOfRunsAndChecks.{accepted_line, RunWrites, CheckAccepts}
use Rattle.hyd_spec_flows.specs.FlowTexts.{IsTextWithFlows}
use Rattle.hyd_spec_reports_with_flows.specs.PromisesWithFlows.{entries_of, report_with_flows, RunWritesNaming}
use Rattle.hyd_spec_reports_with_flows.specs.PromisesWithFlows.{CheckAcceptsNaming}
use Rattle.hyd_theorems_on_runs.proofs.RunRecords.{accepts}
use Rattle.hyd_theorems_on_checks.specs.CertificateOfRun.{IsCertificateOfRun, IsCertificateOfRunNaming}

pub accepted_is : (project : Project) (text printed : List ℕ) → CheckAccepts project text printed
    → IsCertificateOfRun project text
accepted_is project text printed is = record {
  founds = is.founds;
  left = is.left;
  is_run = is.is_run;
  certificate = is.certificate;
}

pub written_is : (project : Project) (rounds : ℕ) (sharpness : Sharpness) (outcome : Outcome) (text printed : List ℕ)
    → RunWrites project rounds sharpness outcome text printed → IsCertificateOfRun project text
written_is project rounds sharpness outcome text printed run =
    accepted_is project text _ (accepts project rounds sharpness outcome text printed run)

-- ---- with flows

pub accepted_naming_is : (project : Project) (text printed : List ℕ) → CheckAcceptsNaming project text printed
    → IsCertificateOfRunNaming project text
accepted_naming_is project text printed is = record {
  namings = is.namings;
  left = is.left;
  is_run = is.is_run;
  parts = is.parts;
  certificate = is.certificate;
}

-- the last word of a certificate is that of the standing that the run leaves
last_word : (project : Project) (left : Standing) (rounds : ℕ) (outcome : Outcome)
    → EndsSo project left rounds outcome → is_finished outcome ≡ left.finished
last_word project left rounds Finished ends = sym ends
last_word project left rounds (Stopped cause) ends = sym ends.0

pub accepts_naming : (project : Project) (named : List ℕ) (rounds : ℕ) (sharpness : Sharpness) (outcome : Outcome)
    (text printed : List ℕ) (run : RunWritesNaming project named rounds sharpness outcome text printed)
    → CheckAcceptsNaming project text (report_with_flows project run.namings
    (accepted_line (length run.namings) run.left.finished))
accepts_naming project named rounds sharpness outcome text printed run = record {
  namings = run.namings;
  left = run.left;
  is_run = run.is_run;
  parts = run.parts;
  certificate = subst (λ (finished : Bool). IsTextWithFlows text (junction_count project) (tank_count project)
      (entries_of run.namings) (length run.namings) finished)
      (last_word project run.left rounds outcome run.ends_so) run.certificate;
  report = refl;
  every_history = run.every_history;
}

pub written_naming_is : (project : Project) (named : List ℕ) (rounds : ℕ) (sharpness : Sharpness) (outcome : Outcome)
    (text printed : List ℕ) → RunWritesNaming project named rounds sharpness outcome text printed
    → IsCertificateOfRunNaming project text
written_naming_is project named rounds sharpness outcome text printed run =
    accepted_naming_is project text _ (accepts_naming project named rounds sharpness outcome text printed run)
