-- What a run for a spread with a slack promises, whether it ends or a fault of the outside breaks it off.
-- Source: this program's.
use Rattle.std.specs.Prelude.{◌≡◌, ℕ, List, [], ◌++◌, length, map, ⊤, Option, MatchOption}
use Rattle.std.specs.Option.{option_map_or}
use Rattle.std.specs.List.{AllByRecursion}
use Rattle.hyd_spec.specs.ProgramTypes.{Project}
use Rattle.hyd_spec.specs.Lists.{joined}
use Rattle.hyd_spec.specs.NodeNumbers.{junction_count, tank_count}
use Rattle.hyd_spec_certificates.specs.CertificateText.{header_line, end_line}
use Rattle.hyd_spec_reports.specs.PromisesOfRunsAndChecks.{Sharpness, Outcome, is_finished, last_line}
use Rattle.hyd_spec_open_ends.specs.OpenStandings.{OpenStanding, OpenRecord}
use Rattle.hyd_spec_open_ends.specs.OpenCertificateText.{open_version, open_record_text, IsOpenCertificateText}
use Rattle.hyd_spec_open_reports.specs.PromisesOfOpenReports.{cause_of}
use Rattle.hyd_spec_spread.specs.Spreads.{Spread}
use Rattle.hyd_spec_open_spreads.specs.OpenRunsForSpreads.{OpenFoundOver, IsOpenRunOver}
use Rattle.hyd_spec_open_spreads.specs.OpenAgreementWithin.{EveryKeepingHistoryWithinAgrees}
use Rattle.hyd_spec_spread_stops.specs.StopsOfSpreads.{EndsOverSo}
use Rattle.hyd_spec_spread_reports.specs.ClaimsWithinSpreads.{ReportedOver, AreReportsOver, periods_over, lines_over}
use Rattle.hyd_spec_spread_reports.specs.ClaimsWithinSpreads.{EveryLineHoldsWithin}
use Rattle.hyd_spec_spread_reports.specs.TextsOfSpreadReports.{spread_report_text}
use Rattle.hyd_spec_spread_promises.specs.SharpOverSpreads.{IsSharpWithin}

-- ---- texts so far

-- The records of what was found.
abbrev pub rows_over : List OpenFoundOver → List OpenRecord
rows_over founds = map (λ here. here.found) founds

-- The certificate as far as some records go, with its end line where the run's end is known.
abbrev pub certificate_over : Project → List ReportedOver → Option Outcome → List ℕ
certificate_over project reports last =
    header_line open_version (junction_count project) (tank_count project)
    ++ (joined (map open_record_text (rows_over (periods_over reports)))
    ++ option_map_or (λ outcome. end_line (length reports) (is_finished outcome)) last [])

-- The report as far as some records go, with its last line where the run's end is known.
abbrev pub report_over : Project → Spread → OpenStanding → List ReportedOver → Option Outcome → List ℕ
report_over project spread left reports last =
    spread_report_text project spread (lines_over reports)
    (option_map_or (last_line project left.known (length reports)) last [])

-- ---- promises

-- What was written is the certificate of a run for the spread with the slack, what was printed its report, and every
-- history within the spread that keeps what it reaches agrees with it and has what each line claims. (A stop is told
-- with the first second of its period.)
pub record RunTellsOver (project : Project) (spread : Spread) (slack rounds : ℕ) (sharpness : Sharpness)
    (outcome : Outcome) (written printed : List ℕ) : Type 0 where
  pub reports : List ReportedOver
  pub left : OpenStanding
  pub is_run : IsOpenRunOver project spread slack (periods_over reports) left
  pub are_reports : AreReportsOver project reports
  pub sharp : AllByRecursion (λ (each : ReportedOver). IsSharpWithin project spread sharpness each.here) reports
  pub ends_so : EndsOverSo project spread left slack rounds (cause_of outcome)
  pub certificate : IsOpenCertificateText written (junction_count project) (tank_count project)
      (rows_over (periods_over reports)) (length reports) (is_finished outcome)
  pub report : printed ≡ spread_report_text project spread (lines_over reports)
      (last_line project left.known (length reports) outcome)
  pub every_history : EveryKeepingHistoryWithinAgrees project spread (periods_over reports)
  pub every_line : EveryLineHoldsWithin project spread reports

-- What is known of the end of a run is so at the standing that the run leaves.
abbrev pub EndIsOver : Project → Spread → OpenStanding → (slack rounds : ℕ) → Option Outcome → Type 0
EndIsOver project spread left slack rounds last =
    MatchOption last ⊤ (λ outcome. EndsOverSo project spread left slack rounds (cause_of outcome))

-- A fault of the outside ended the work: what was written and printed are fronts of the certificate and of the report
-- of a run for the spread with the slack, as far as it went, and every history within the spread that keeps what it
-- reaches agrees with it and has what each line claims.
pub record RunBreaksOffOver (project : Project) (spread : Spread) (slack rounds : ℕ) (sharpness : Sharpness)
    (written printed : List ℕ) : Type 0 where
  pub reports : List ReportedOver
  pub left : OpenStanding
  pub is_run : IsOpenRunOver project spread slack (periods_over reports) left
  pub are_reports : AreReportsOver project reports
  pub sharp : AllByRecursion (λ (each : ReportedOver). IsSharpWithin project spread sharpness each.here) reports
  pub last : Option Outcome
  pub ends_so : EndIsOver project spread left slack rounds last
  pub unwritten : List ℕ
  pub front_of_certificate : written ++ unwritten ≡ certificate_over project reports last
  pub unprinted : List ℕ
  pub front_of_report : printed ++ unprinted ≡ report_over project spread left reports last
  pub every_history : EveryKeepingHistoryWithinAgrees project spread (periods_over reports)
  pub every_line : EveryLineHoldsWithin project spread reports
