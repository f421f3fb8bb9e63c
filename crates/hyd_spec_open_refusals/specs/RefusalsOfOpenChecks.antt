-- What a check answers that refuses a record of a certificate of version 4, or its end line.
-- Source: this program's.
use Rattle.std.specs.Prelude.{◌≡◌, ℕ, Bool, List, [], ◌∷◌, ◌++◌, length, map, All}
use Rattle.hyd_spec.specs.ProgramTypes.{Project}
use Rattle.hyd_spec.specs.Lists.{joined}
use Rattle.hyd_spec.specs.NodeNumbers.{junction_count, tank_count}
use Rattle.hyd_spec_certificates.specs.CertificateText.{header_line, line_feeds}
use Rattle.hyd_spec_certificates.specs.declared.CertRefused.{CertRefused}
use Rattle.hyd_spec_reports.specs.ReportLine.{refused_line, refused_end_line}
use Rattle.hyd_spec_open_ends.specs.OpenStandings.{OpenStanding, OpenRecord}
use Rattle.hyd_spec_open_ends.specs.OpenRuns.{IsOpenRun, EveryKeepingHistoryAgrees}
use Rattle.hyd_spec_open_ends.specs.OpenCertificateText.{open_version, open_record_text, IsOpenRow}
use Rattle.hyd_spec_open_ends.specs.OpenCertificateText.{IsOpenCertificateText}
use Rattle.hyd_spec_open_ends.specs.PromisesOfOpenRuns.{open_rows_of}
use Rattle.hyd_spec_open_reports.specs.OpenReportLine.{open_report_text}
use Rattle.hyd_spec_open_reports.specs.PromisesOfOpenReports.{Reported, AreReports, periods_of, open_lines_of}
use Rattle.hyd_spec_open_reports.specs.PromisesOfOpenReports.{EveryLineHolds}
use Rattle.hyd_spec_open_refusals.specs.RefusedOpenRecords.{IsRefusedOpenly}

-- What was read begins as a certificate of a run with some slack, with one more record that is refused, whatever comes
-- after it; what was printed is the report of the records before it, with the refusal as its last line.
pub record CheckRefusesOpenly (project : Project) (text printed : List ℕ) (cause : CertRefused) : Type 0 where
  pub slack : ℕ
  pub reports : List Reported
  pub left : OpenStanding
  pub is_run : IsOpenRun project slack (periods_of reports) left
  pub are_reports : AreReports project reports
  pub found : OpenRecord
  pub refused : IsRefusedOpenly project left found cause
  pub rows_fit : All (IsOpenRow (junction_count project) (tank_count project))
      (open_rows_of (periods_of reports) ++ (found ∷ []))
  pub unread : List ℕ
  pub is_text : text ≡ header_line open_version (junction_count project) (tank_count project)
      ++ (joined (map open_record_text (open_rows_of (periods_of reports) ++ (found ∷ []))) ++ unread)
  pub report : printed ≡ open_report_text project (open_lines_of reports) (refused_line project cause)
  pub every_history : EveryKeepingHistoryAgrees project (periods_of reports)
  pub every_line : EveryLineHolds project reports

-- What was read is the certificate text of a run with some slack but for its end line, which doesn't have the number of
-- its records or doesn't say whether it is finished; what was printed is the report of all its records, with that
-- refusal as its last line.
pub record CheckRefusesOpenEnd (project : Project) (text printed : List ℕ) : Type 0 where
  pub slack : ℕ
  pub reports : List Reported
  pub left : OpenStanding
  pub is_run : IsOpenRun project slack (periods_of reports) left
  pub are_reports : AreReports project reports
  pub periods : ℕ
  pub finished : Bool
  pub certificate : IsOpenCertificateText text (junction_count project) (tank_count project)
      (open_rows_of (periods_of reports)) periods finished
  pub other_end : ((periods ≡ length reports) × (finished ≡ left.known.finished)) → ⊥
  pub report : printed ≡ open_report_text project (open_lines_of reports) (refused_end_line (line_feeds text))
  pub every_history : EveryKeepingHistoryAgrees project (periods_of reports)
  pub every_line : EveryLineHolds project reports
