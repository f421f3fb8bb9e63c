-- What a check of a certificate gives: it accepts it, or refuses it and says why, or is broken off.
-- Source: this program's.
use Rattle.std.specs.Prelude.{◌≡◌, ◌≢◌, ℕ, ◌⊎◌, MatchBool, List, [], ◌∷◌, ◌++◌, map, All, Some}
use Rattle.hyd_spec.specs.ProgramTypes.{Project}
use Rattle.hyd_spec.specs.Lists.{joined}
use Rattle.hyd_spec.specs.NodeNumbers.{junction_count, tank_count}
use Rattle.hyd_spec_certificates.specs.RecordAndStanding.{Record, Standing}
use Rattle.hyd_spec_certificates.specs.CertificateText.{IsRow, version_of, header_line, record_text}
use Rattle.hyd_spec_reports.specs.ReportLine.{report_text}
use Rattle.hyd_spec_certificates.specs.declared.CertRefused.{CertRefused}
use Rattle.hyd_spec_reports.specs.PromisesOfRunsAndChecks.{Found, IsRun, rows_of, lines_of, EveryHistoryAgrees}
use Rattle.hyd_spec_reports.specs.PromisesOfRunsAndChecks.{CheckAccepts}
use Rattle.hyd_spec_reports.specs.PromisesOfRunsAndChecks.{CheckRefuses, CheckRefusesEnd}
use Rattle.hyd_spec_flows.specs.FlowTexts.{is_with_flows}
use Rattle.hyd_cert.specs.Faults.{HasOtherHeader}
use Rattle.hyd_cert.specs.FaultyLine.{IsFirstFault}
use Rattle.hyd_sim.specs.RunView.{header_for}
use Rattle.hyd_cert_check.specs.ChecksWithFlows.{CheckEndsNaming, CheckFindsNaming}
use Rattle.hyd_spec_check_ends.specs.LinesOfRefusals.{refused_grammar_line, refused_counts_line, printed_number}
use Rattle.hyd_spec_check_ends.specs.declared.CheckEnd.{CheckEnd}
use Rattle.hyd_spec_check_ends.specs.declared.CheckEnd.TheVariants.{Accepted, Refused}

-- ---- what a check refuses by its lines

-- The text begins with the header line of the network and the records of what was found; where nothing was found, it
-- may be any text.
abbrev pub BeginsWithFound : Project → List Found → List ℕ → Type 0
BeginsWithFound project founds text =
    (founds ≡ []) ⊎ ((unread : List ℕ) × (text ≡ header_line (version_of project) (junction_count project) (tank_count
    project) ++ (joined (map record_text (rows_of founds)) ++ unread)))

-- Behind the header line of the network and the records of what was found, the text doesn't go on with a whole record.
abbrev pub HasNoMoreRecords : Project → List Found → List ℕ → Type 0
HasNoMoreRecords project founds text = (row : Record) (unread : List ℕ)
    → IsRow (junction_count project) (tank_count project) row
    → text ≢ header_line (version_of project) (junction_count project) (tank_count project)
    ++ (joined (map record_text (rows_of founds ++ (row ∷ []))) ++ unread)

-- What was read begins as a certificate of a run, up to a line with which, the end of the text counted in, it begins no
-- certificate; what was printed is the report of all records before it, with that line's number in its last line.
pub record CheckRefusesGrammar (project : Project) (text printed : List ℕ) : Type 0 where
  pub founds : List Found
  pub left : Standing
  pub is_run : IsRun project founds left
  pub rows_fit : All (IsRow (junction_count project) (tank_count project)) (rows_of founds)
  pub begins : BeginsWithFound project founds text
  pub all_records : HasNoMoreRecords project founds text
  pub number : ℕ
  pub is_fault : IsFirstFault (header_for project) text number
  pub report : printed ≡ report_text project (lines_of founds) (refused_grammar_line (printed_number number))
  pub every_history : EveryHistoryAgrees project founds

-- What was read begins with the header line of another version or of other counts than the network's; what was printed
-- is a report without records, with that as its last line.
pub record CheckRefusesCounts (project : Project) (text printed : List ℕ) : Type 0 where
  pub other_header : HasOtherHeader (header_for project) (Some text)
  pub report : printed ≡ report_text project [] (refused_counts_line 1)

-- ---- what a check gives

-- A certificate is refused by its lines, by a record, or by its END line.
pub data CheckRefusal (project : Project) (text printed : List ℕ) : Type 0 where
  grammar : CheckRefusesGrammar project text printed → CheckRefusal project text printed
  counts : CheckRefusesCounts project text printed → CheckRefusal project text printed
  record_refused : (cause : CertRefused) → CheckRefuses project text printed cause → CheckRefusal project text printed
  other_end : CheckRefusesEnd project text printed → CheckRefusal project text printed

-- What was printed of a text without flows that was checked to its end.
abbrev pub CheckEndsPlainly : Project → List ℕ → List ℕ → CheckEnd → Type 0
CheckEndsPlainly project text printed Accepted = CheckAccepts project text printed
CheckEndsPlainly project text printed Refused = CheckRefusal project text printed

-- What was printed of a text that was checked to its end, by whether it begins as a certificate with flows.
abbrev pub CheckEnds : Project → List ℕ → List ℕ → CheckEnd → Type 0
CheckEnds project text printed end =
    MatchBool (is_with_flows text) (CheckEndsNaming project text printed end)
    (CheckEndsPlainly project text printed end)

-- What was found of a text without flows so far: it begins as the certificate of a run, and what is printed of it
-- begins so. Every history agrees with it.
pub record CheckFindsPlainly (project : Project) (text report : List ℕ) : Type 0 where
  pub founds : List Found
  pub left : Standing
  pub is_run : IsRun project founds left
  pub rows_fit : All (IsRow (junction_count project) (tank_count project)) (rows_of founds)
  pub begins : BeginsWithFound project founds text
  pub report_so_far : report ≡ report_text project (lines_of founds) []
  pub every_history : EveryHistoryAgrees project founds

-- What was found of a text so far, by whether it begins as a certificate with flows.
abbrev pub CheckFinds : Project → List ℕ → List ℕ → Type 0
CheckFinds project text report =
    MatchBool (is_with_flows text) (CheckFindsNaming project text report) (CheckFindsPlainly project text report)

-- A fault of the outside broke a check off: what was printed is a front of the whole report of the text, or of that on
-- the records so far, without a last line.
pub data CheckBreaksOff (project : Project) (text printed : List ℕ) : Type 0 where
  in_last_line : (end : CheckEnd) (unprinted : List ℕ) → CheckEnds project text (printed ++ unprinted) end
      → CheckBreaksOff project text printed
  in_records : (unprinted : List ℕ) → CheckFinds project text (printed ++ unprinted)
      → CheckBreaksOff project text printed
