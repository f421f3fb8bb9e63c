-- What a check of a certificate of version 4 gives: it accepts it, or refuses it and says why, or is broken off.
-- Source: this program's.
use Rattle.std.specs.Prelude.{◌≡◌, ◌≢◌, ℕ, ◌⊎◌, List, [], ◌∷◌, ◌++◌, map, All, Some}
use Rattle.hyd_spec.specs.ProgramTypes.{Project}
use Rattle.hyd_spec.specs.Lists.{joined}
use Rattle.hyd_spec.specs.NodeNumbers.{junction_count, tank_count}
use Rattle.hyd_spec_certificates.specs.CertificateText.{header_line}
use Rattle.hyd_spec_certificates.specs.declared.CertRefused.{CertRefused}
use Rattle.hyd_spec_open_ends.specs.OpenStandings.{OpenStanding, OpenRecord}
use Rattle.hyd_spec_open_ends.specs.OpenRuns.{IsOpenRun, EveryKeepingHistoryAgrees}
use Rattle.hyd_spec_open_ends.specs.OpenCertificateText.{open_version, open_record_text, IsOpenRow}
use Rattle.hyd_spec_open_ends.specs.PromisesOfOpenRuns.{open_rows_of}
use Rattle.hyd_spec_open_reports.specs.OpenReportLine.{open_report_text}
use Rattle.hyd_spec_open_reports.specs.PromisesOfOpenReports.{Reported, AreReports, periods_of, open_lines_of}
use Rattle.hyd_spec_open_reports.specs.PromisesOfOpenReports.{EveryLineHolds, CheckTellsOpenly}
use Rattle.hyd_spec_open_refusals.specs.RefusalsOfOpenChecks.{CheckRefusesOpenly, CheckRefusesOpenEnd}
use Rattle.hyd_cert.specs.Lines.{Header}
use Rattle.hyd_cert.specs.declared.answers_of_reader.Stand.TheVariants as stand
use Rattle.hyd_open_certificates.specs.OpenLines.{open_header}
use Rattle.hyd_open_certificates.specs.OpenFaults.{IsOpenFault, HasOtherOpenHeader}
use Rattle.hyd_spec_check_ends.specs.LinesOfRefusals.{refused_grammar_line, refused_counts_line, printed_number}
use Rattle.hyd_spec_check_ends.specs.declared.CheckEnd.{CheckEnd}
use Rattle.hyd_spec_check_ends.specs.declared.CheckEnd.TheVariants.{Accepted, Refused}

-- The header of the texts of version 4 with the network's counts.
abbrev pub open_header_for : Project → Header
open_header_for project = open_header (junction_count project) (tank_count project)

-- ---- what a check refuses by its lines

-- The text begins with the header line of version 4 with the network's counts and these records, whatever follows.
pub record BeginsWithOpenRecords (project : Project) (rows : List OpenRecord) (text : List ℕ) : Type 0 where
  pub unread : List ℕ
  pub is_text : text ≡ header_line open_version (junction_count project) (tank_count project)
      ++ (joined (map open_record_text rows) ++ unread)

-- It begins so with the records of what was reported; where nothing was, it may be any text.
abbrev pub BeginsWithReported : Project → List Reported → List ℕ → Type 0
BeginsWithReported project reports text =
    (reports ≡ []) ⊎ BeginsWithOpenRecords project (open_rows_of (periods_of reports)) text

-- Behind them the text doesn't go on with a whole record.
abbrev pub HasNoMoreOpenRecords : Project → List Reported → List ℕ → Type 0
HasNoMoreOpenRecords project reports text = (found : OpenRecord)
    → IsOpenRow (junction_count project) (tank_count project) found
    → BeginsWithOpenRecords project (open_rows_of (periods_of reports) ++ (found ∷ [])) text → ⊥

-- What was read begins as a certificate of a run with some slack, up to a line with which, the end of the text counted
-- in, it begins no certificate of version 4; what was printed is the report of all records before it, with that line's
-- number in its last line.
pub record CheckRefusesOpenGrammar (project : Project) (text printed : List ℕ) : Type 0 where
  pub slack : ℕ
  pub reports : List Reported
  pub left : OpenStanding
  pub is_run : IsOpenRun project slack (periods_of reports) left
  pub are_reports : AreReports project reports
  pub rows_fit : All (IsOpenRow (junction_count project) (tank_count project)) (open_rows_of (periods_of reports))
  pub begins : BeginsWithReported project reports text
  pub all_records : HasNoMoreOpenRecords project reports text
  pub number : ℕ
  pub is_fault : IsOpenFault (open_header_for project) stand.First text number
  pub report : printed ≡ open_report_text project (open_lines_of reports)
      (refused_grammar_line (printed_number number))
  pub every_history : EveryKeepingHistoryAgrees project (periods_of reports)
  pub every_line : EveryLineHolds project reports

-- What was read begins with the header line of version 4 of other counts than the network's; what was printed is a
-- report without records, with that as its last line.
pub record CheckRefusesOpenCounts (project : Project) (text printed : List ℕ) : Type 0 where
  pub other_header : HasOtherOpenHeader (open_header_for project) (Some text)
  pub report : printed ≡ open_report_text project [] (refused_counts_line 1)

-- ---- what a check gives

-- A certificate of version 4 is refused by its lines, by a record, or by its END line.
pub data OpenCheckRefusal (project : Project) (text printed : List ℕ) : Type 0 where
  grammar : CheckRefusesOpenGrammar project text printed → OpenCheckRefusal project text printed
  counts : CheckRefusesOpenCounts project text printed → OpenCheckRefusal project text printed
  record_refused : (cause : CertRefused) → CheckRefusesOpenly project text printed cause
      → OpenCheckRefusal project text printed
  other_end : CheckRefusesOpenEnd project text printed → OpenCheckRefusal project text printed

-- What was printed of such a text that was checked to its end.
abbrev pub CheckEndsOpenly : Project → List ℕ → List ℕ → CheckEnd → Type 0
CheckEndsOpenly project text printed Accepted = CheckTellsOpenly project text printed
CheckEndsOpenly project text printed Refused = OpenCheckRefusal project text printed

-- What was found of such a text so far: it begins as the certificate of a run with some slack, and what is printed of it
-- begins so. Every history that keeps what it reaches agrees with it and has what each line claims.
pub record CheckFindsOpenly (project : Project) (text report : List ℕ) : Type 0 where
  pub slack : ℕ
  pub reports : List Reported
  pub left : OpenStanding
  pub is_run : IsOpenRun project slack (periods_of reports) left
  pub are_reports : AreReports project reports
  pub rows_fit : All (IsOpenRow (junction_count project) (tank_count project)) (open_rows_of (periods_of reports))
  pub begins : BeginsWithReported project reports text
  pub report_so_far : report ≡ open_report_text project (open_lines_of reports) []
  pub every_history : EveryKeepingHistoryAgrees project (periods_of reports)
  pub every_line : EveryLineHolds project reports

-- A fault of the outside broke a check off: what was printed is a front of the whole report of the text, or of that on
-- the records so far, without a last line.
pub data CheckBreaksOffOpenly (project : Project) (text printed : List ℕ) : Type 0 where
  in_last_line : (end : CheckEnd) (unprinted : List ℕ) → CheckEndsOpenly project text (printed ++ unprinted) end
      → CheckBreaksOffOpenly project text printed
  in_records : (unprinted : List ℕ) → CheckFindsOpenly project text (printed ++ unprinted)
      → CheckBreaksOffOpenly project text printed
