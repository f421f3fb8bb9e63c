-- What a run with a slack leaves that a fault of the outside broke off.
-- Source: this program's.
use Rattle.std.specs.Prelude.{◌≡◌, ℕ, List, [], ◌++◌, length, map, ⊤, Option, MatchOption}
use Rattle.std.specs.Option.{option_map_or}
use Rattle.std.specs.List.{AllByRecursion}
use Rattle.hyd_spec.specs.ProgramTypes.{Project}
use Rattle.hyd_spec.specs.Lists.{joined}
use Rattle.hyd_spec.specs.NodeNumbers.{junction_count, tank_count}
use Rattle.hyd_spec_certificates.specs.CertificateText.{header_line, end_line}
use Rattle.hyd_spec_reports.specs.PromisesOfRunsAndChecks.{Sharpness, Outcome, is_finished, last_line}
use Rattle.hyd_spec_open_ends.specs.OpenStandings.{OpenStanding}
use Rattle.hyd_spec_open_ends.specs.OpenRuns.{IsOpenRun, EveryKeepingHistoryAgrees}
use Rattle.hyd_spec_open_ends.specs.OpenCertificateText.{open_version, open_record_text}
use Rattle.hyd_spec_open_ends.specs.PromisesOfOpenRuns.{EndsOpenlySo, open_rows_of}
use Rattle.hyd_spec_open_reports.specs.OpenReportLine.{open_report_text}
use Rattle.hyd_spec_open_reports.specs.PromisesOfOpenReports.{Reported, AreReports, periods_of, open_lines_of}
use Rattle.hyd_spec_open_reports.specs.PromisesOfOpenReports.{EveryLineHolds, IsSharpOpenly, cause_of}

-- The certificate as far as some records go, with its end line where the run's end is known.
abbrev pub open_certificate_so_far : Project → List Reported → Option Outcome → List ℕ
open_certificate_so_far project reports last =
    header_line open_version (junction_count project) (tank_count project)
    ++ (joined (map open_record_text (open_rows_of (periods_of reports)))
    ++ option_map_or (λ outcome. end_line (length reports) (is_finished outcome)) last [])

-- The report as far as some records go, with its last line where the run's end is known.
abbrev pub open_report_so_far : Project → OpenStanding → List Reported → Option Outcome → List ℕ
open_report_so_far project left reports last =
    open_report_text project (open_lines_of reports)
    (option_map_or (last_line project left.known (length reports)) last [])

-- What is known of the end of a run is so at the standing that the run leaves.
abbrev pub EndIsSo : Project → OpenStanding → (slack rounds : ℕ) → Option Outcome → Type 0
EndIsSo project left slack rounds last =
    MatchOption last ⊤ (λ outcome. EndsOpenlySo project left slack rounds (cause_of outcome))

-- A fault of the outside ended the work: what was written and printed are fronts of the certificate and of the report
-- of a run with the slack, as far as it went, every history that keeps what it reaches agrees with it and has what each
-- line claims.
pub record RunBreaksOffOpenly (project : Project) (slack rounds : ℕ) (sharpness : Sharpness) (written printed : List ℕ)
    : Type 0 where
  pub reports : List Reported
  pub left : OpenStanding
  pub is_run : IsOpenRun project slack (periods_of reports) left
  pub are_reports : AreReports project reports
  pub sharp : AllByRecursion (λ (each : Reported). IsSharpOpenly project sharpness each.here) reports
  pub last : Option Outcome
  pub ends_so : EndIsSo project left slack rounds last
  pub unwritten : List ℕ
  pub front_of_certificate : written ++ unwritten ≡ open_certificate_so_far project reports last
  pub unprinted : List ℕ
  pub front_of_report : printed ++ unprinted ≡ open_report_so_far project left reports last
  pub every_history : EveryKeepingHistoryAgrees project (periods_of reports)
  pub every_line : EveryLineHolds project reports
