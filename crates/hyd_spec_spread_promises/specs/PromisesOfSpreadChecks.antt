-- What a check for a spread promises: it accepts a certificate of version 4 as one of a run for the spread, or refuses
-- it and says why, or is broken off.
-- Source: this program's.
use Rattle.std.specs.Prelude.{◌≡◌, ℕ, Bool, ◌⊎◌, List, [], ◌∷◌, ◌++◌, length, map, All, Some}
use Rattle.hyd_spec.specs.ProgramTypes.{Project}
use Rattle.hyd_spec.specs.NodeNumbers.{junction_count, tank_count}
use Rattle.hyd_spec_certificates.specs.CertificateText.{line_feeds}
use Rattle.hyd_spec_certificates.specs.declared.CertRefused.{CertRefused}
use Rattle.hyd_spec_reports.specs.PromisesOfRunsAndChecks.{accepted_line}
use Rattle.hyd_spec_reports.specs.ReportLine.{refused_line, refused_end_line}
use Rattle.hyd_spec_open_ends.specs.OpenStandings.{OpenStanding, OpenRecord}
use Rattle.hyd_spec_open_ends.specs.OpenCertificateText.{IsOpenRow, IsOpenCertificateText}
use Rattle.hyd_spec_open_checks.specs.OpenChecks.{open_header_for, BeginsWithOpenRecords}
use Rattle.hyd_cert.specs.declared.answers_of_reader.Stand.TheVariants as stand
use Rattle.hyd_open_certificates.specs.OpenFaults.{IsOpenFault, HasOtherOpenHeader}
use Rattle.hyd_spec_check_ends.specs.LinesOfRefusals.{refused_grammar_line, refused_counts_line, printed_number}
use Rattle.hyd_spec_check_ends.specs.declared.CheckEnd.{CheckEnd}
use Rattle.hyd_spec_check_ends.specs.declared.CheckEnd.TheVariants.{Accepted, Refused}
use Rattle.hyd_spec_spread.specs.Spreads.{Spread}
use Rattle.hyd_spec_open_spreads.specs.OpenRunsForSpreads.{IsOpenRunOver}
use Rattle.hyd_spec_open_spreads.specs.OpenAgreementWithin.{EveryKeepingHistoryWithinAgrees}
use Rattle.hyd_spec_spread_refusals.specs.RefusedSpreadRecords.{IsRefusedOver}
use Rattle.hyd_spec_spread_reports.specs.ClaimsWithinSpreads.{ReportedOver, AreReportsOver, periods_over, lines_over}
use Rattle.hyd_spec_spread_reports.specs.ClaimsWithinSpreads.{EveryLineHoldsWithin}
use Rattle.hyd_spec_spread_reports.specs.TextsOfSpreadReports.{spread_report_text}
use Rattle.hyd_spec_spread_promises.specs.PromisesOfSpreadRuns.{rows_over}

-- ---- what is checked so far

-- Reports are those of a run for the spread with some slack, whose records a certificate of version 4 can hold; every
-- history within the spread that keeps what it reaches agrees with it and has what each line claims.
pub record AreOfRunOver (project : Project) (spread : Spread) (reports : List ReportedOver) (left : OpenStanding)
    : Type 0 where
  pub slack : ℕ
  pub is_run : IsOpenRunOver project spread slack (periods_over reports) left
  pub are_reports : AreReportsOver project reports
  pub rows_fit : All (IsOpenRow (junction_count project) (tank_count project)) (rows_over (periods_over reports))
  pub every_history : EveryKeepingHistoryWithinAgrees project spread (periods_over reports)
  pub every_line : EveryLineHoldsWithin project spread reports

-- The text begins with the header line and the records of what was reported; where nothing was, it may be any text.
abbrev pub BeginsWithReportedOver : Project → List ReportedOver → List ℕ → Type 0
BeginsWithReportedOver project reports text =
    (reports ≡ []) ⊎ BeginsWithOpenRecords project (rows_over (periods_over reports)) text

-- Behind them the text doesn't go on with a whole record.
abbrev pub HasNoMoreRecordsOver : Project → List ReportedOver → List ℕ → Type 0
HasNoMoreRecordsOver project reports text = (found : OpenRecord)
    → IsOpenRow (junction_count project) (tank_count project) found
    → BeginsWithOpenRecords project (rows_over (periods_over reports) ++ (found ∷ [])) text → ⊥

-- ---- accepted

-- What was read was accepted as the certificate of a run for the spread with some slack, and what was printed is its
-- report.
pub record CheckTellsOver (project : Project) (spread : Spread) (text printed : List ℕ) : Type 0 where
  pub reports : List ReportedOver
  pub left : OpenStanding
  pub of_run : AreOfRunOver project spread reports left
  pub certificate : IsOpenCertificateText text (junction_count project) (tank_count project)
      (rows_over (periods_over reports)) (length reports) left.known.finished
  pub report : printed ≡ spread_report_text project spread (lines_over reports)
      (accepted_line (length reports) left.known.finished)

-- ---- refused

-- What was read begins as a certificate of such a run, with one more record that is refused, whatever comes after it;
-- what was printed is the report of the records before it, with the refusal as its last line.
pub record CheckRefusesOver (project : Project) (spread : Spread) (text printed : List ℕ) (cause : CertRefused)
    : Type 0 where
  pub reports : List ReportedOver
  pub left : OpenStanding
  pub of_run : AreOfRunOver project spread reports left
  pub found : OpenRecord
  pub refused : IsRefusedOver project spread left found cause
  pub fits : IsOpenRow (junction_count project) (tank_count project) found
  pub is_text : BeginsWithOpenRecords project (rows_over (periods_over reports) ++ (found ∷ [])) text
  pub report : printed ≡ spread_report_text project spread (lines_over reports) (refused_line project cause)

-- What was read is the certificate text of such a run but for its end line, which doesn't have the number of its
-- records or doesn't say whether it is finished; what was printed is the report of all its records, with that refusal
-- as its last line.
pub record CheckRefusesEndOver (project : Project) (spread : Spread) (text printed : List ℕ) : Type 0 where
  pub reports : List ReportedOver
  pub left : OpenStanding
  pub of_run : AreOfRunOver project spread reports left
  pub periods : ℕ
  pub finished : Bool
  pub certificate : IsOpenCertificateText text (junction_count project) (tank_count project)
      (rows_over (periods_over reports)) periods finished
  pub other_end : ((periods ≡ length reports) × (finished ≡ left.known.finished)) → ⊥
  pub report : printed ≡ spread_report_text project spread (lines_over reports) (refused_end_line (line_feeds text))

-- What was read begins as a certificate of such a run, up to a line with which, the end of the text counted in, it
-- begins no certificate of version 4; what was printed is the report of all records before it, with that line's number
-- in its last line.
pub record CheckRefusesGrammarOver (project : Project) (spread : Spread) (text printed : List ℕ) : Type 0 where
  pub reports : List ReportedOver
  pub left : OpenStanding
  pub of_run : AreOfRunOver project spread reports left
  pub begins : BeginsWithReportedOver project reports text
  pub all_records : HasNoMoreRecordsOver project reports text
  pub number : ℕ
  pub is_fault : IsOpenFault (open_header_for project) stand.First text number
  pub report : printed ≡ spread_report_text project spread (lines_over reports)
      (refused_grammar_line (printed_number number))

-- What was read begins with the header line of version 4 of other counts than the network's; what was printed is a
-- report without records, with that as its last line.
pub record CheckRefusesCountsOver (project : Project) (spread : Spread) (text printed : List ℕ) : Type 0 where
  pub other_header : HasOtherOpenHeader (open_header_for project) (Some text)
  pub report : printed ≡ spread_report_text project spread [] (refused_counts_line 1)

-- A certificate of version 4 is refused by its lines, by a record, or by its END line.
pub data CheckRefusalOver (project : Project) (spread : Spread) (text printed : List ℕ) : Type 0 where
  grammar : CheckRefusesGrammarOver project spread text printed → CheckRefusalOver project spread text printed
  counts : CheckRefusesCountsOver project spread text printed → CheckRefusalOver project spread text printed
  record_refused : (cause : CertRefused) → CheckRefusesOver project spread text printed cause
      → CheckRefusalOver project spread text printed
  other_end : CheckRefusesEndOver project spread text printed → CheckRefusalOver project spread text printed

-- ---- what a check gives

-- What was printed of such a text that was checked to its end.
abbrev pub CheckEndsOver : Project → Spread → List ℕ → List ℕ → CheckEnd → Type 0
CheckEndsOver project spread text printed Accepted = CheckTellsOver project spread text printed
CheckEndsOver project spread text printed Refused = CheckRefusalOver project spread text printed

-- What was found of such a text so far: it begins as the certificate of a run for the spread with some slack, and what
-- is printed of it begins so.
pub record CheckFindsOver (project : Project) (spread : Spread) (text report : List ℕ) : Type 0 where
  pub reports : List ReportedOver
  pub left : OpenStanding
  pub of_run : AreOfRunOver project spread reports left
  pub begins : BeginsWithReportedOver project reports text
  pub report_so_far : report ≡ spread_report_text project spread (lines_over reports) []

-- A fault of the outside broke a check off: what was printed is a front of the whole report of the text, or of that on
-- the records so far, without a last line.
pub data CheckBreaksOffOver (project : Project) (spread : Spread) (text printed : List ℕ) : Type 0 where
  in_last_line : (end : CheckEnd) (unprinted : List ℕ)
      → CheckEndsOver project spread text (printed ++ unprinted) end
      → CheckBreaksOffOver project spread text printed
  in_records : (unprinted : List ℕ) → CheckFindsOver project spread text (printed ++ unprinted)
      → CheckBreaksOffOver project spread text printed
