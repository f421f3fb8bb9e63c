-- What a check of a text that begins as a certificate with flows gives: it accepts it, or refuses it and says why, or
-- is broken off.
-- Source: this program's.
use Rattle.std.specs.Prelude.{◌≡◌, ℕ, ◌⊎◌, List, [], ◌∷◌, ◌++◌, Some}
use Rattle.std.specs.List.{AllByRecursion}
use Rattle.hyd_spec.specs.ProgramTypes.{Project}
use Rattle.hyd_spec.specs.NodeNumbers.{junction_count, tank_count}
use Rattle.hyd_spec_certificates.specs.RecordAndStanding.{Standing}
use Rattle.hyd_spec_certificates.specs.declared.CertRefused.{CertRefused}
use Rattle.hyd_spec_reports.specs.PromisesOfRunsAndChecks.{IsRun}
use Rattle.hyd_spec_flows.specs.FlowTexts.{Entry}
use Rattle.hyd_spec_reports_with_flows.specs.PromisesWithFlows.{FoundNaming, IsFoundNaming, founds_in, entries_of}
use Rattle.hyd_spec_reports_with_flows.specs.PromisesWithFlows.{report_with_flows}
use Rattle.hyd_spec_reports_with_flows.specs.PromisesWithFlows.{EveryHistoryAgreesNaming, BeginsWithEntries}
use Rattle.hyd_spec_reports_with_flows.specs.PromisesWithFlows.{CheckAcceptsNaming}
use Rattle.hyd_spec_reports_with_flows.specs.PromisesWithFlows.{CheckRefusesNaming, CheckRefusesPart}
use Rattle.hyd_spec_reports_with_flows.specs.PromisesWithFlows.{CheckRefusesEndNaming}
use Rattle.hyd_spec_flows.specs.declared.FlowFails.{FlowFails}
use Rattle.hyd_cert.specs.ReaderWithFlows.{HasOtherCounts}
use Rattle.hyd_sim.specs.RunView.{header_for}
use Rattle.hyd_theorems_on_flow_texts.specs.FaultyLineWithFlows.{IsFirstFaultWithFlows}
use Rattle.hyd_spec_check_ends.specs.LinesOfRefusals.{refused_grammar_line, refused_counts_line, printed_number}
use Rattle.hyd_spec_check_ends.specs.declared.CheckEnd.{CheckEnd}
use Rattle.hyd_spec_check_ends.specs.declared.CheckEnd.TheVariants.{Accepted, Refused}

-- ---- what a check refuses by its lines

-- The text begins with the header line of version 3 with the network's counts and the records of what was found, each
-- with its part; where nothing was found, it may be any text.
abbrev pub BeginsWithNamings : Project → List FoundNaming → List ℕ → Type 0
BeginsWithNamings project namings text = (namings ≡ []) ⊎ BeginsWithEntries project text (entries_of namings)

-- Behind these the text doesn't go on with a whole record and a whole part.
abbrev pub HasNoMoreEntries : Project → List FoundNaming → List ℕ → Type 0
HasNoMoreEntries project namings text =
    (entry : Entry) → BeginsWithEntries project text (entries_of namings ++ (entry ∷ [])) → ⊥

-- What was read begins as a certificate of a run with flows, up to a line with which, the end of the text counted in,
-- it begins no certificate; what was printed is the report of all records before it whose parts are whole too, with
-- that line's number in its last line.
pub record CheckRefusesGrammarNaming (project : Project) (text printed : List ℕ) : Type 0 where
  pub namings : List FoundNaming
  pub left : Standing
  pub is_run : IsRun project (founds_in namings) left
  pub parts : AllByRecursion (IsFoundNaming project) namings
  pub begins : BeginsWithNamings project namings text
  pub all_entries : HasNoMoreEntries project namings text
  pub number : ℕ
  pub is_fault : IsFirstFaultWithFlows (junction_count project) (tank_count project) text number
  pub report : printed ≡ report_with_flows project namings (refused_grammar_line (printed_number number))
  pub every_history : EveryHistoryAgreesNaming project namings

-- What was read begins with the header line of version 3, of other counts than the network's; what was printed is a
-- report without records, with that as its last line.
pub record CheckRefusesCountsNaming (project : Project) (text printed : List ℕ) : Type 0 where
  pub other_counts : HasOtherCounts (header_for project) (Some text)
  pub report : printed ≡ report_with_flows project [] (refused_counts_line 1)

-- ---- what a check gives

-- A certificate with flows is refused by its lines, by a record, by the part behind one, or by its END line.
pub data CheckRefusalNaming (project : Project) (text printed : List ℕ) : Type 0 where
  grammar : CheckRefusesGrammarNaming project text printed → CheckRefusalNaming project text printed
  counts : CheckRefusesCountsNaming project text printed → CheckRefusalNaming project text printed
  record_refused : (cause : CertRefused) → CheckRefusesNaming project text printed cause
      → CheckRefusalNaming project text printed
  part_refused : (cause : FlowFails) → CheckRefusesPart project text printed cause
      → CheckRefusalNaming project text printed
  other_end : CheckRefusesEndNaming project text printed → CheckRefusalNaming project text printed

-- What was printed of such a text that was checked to its end.
abbrev pub CheckEndsNaming : Project → List ℕ → List ℕ → CheckEnd → Type 0
CheckEndsNaming project text printed Accepted = CheckAcceptsNaming project text printed
CheckEndsNaming project text printed Refused = CheckRefusalNaming project text printed

-- What was found of such a text so far: it begins as the certificate of a run with flows, and what is printed of it
-- begins so. Every history agrees with it.
pub record CheckFindsNaming (project : Project) (text report : List ℕ) : Type 0 where
  pub namings : List FoundNaming
  pub left : Standing
  pub is_run : IsRun project (founds_in namings) left
  pub parts : AllByRecursion (IsFoundNaming project) namings
  pub begins : BeginsWithNamings project namings text
  pub report_so_far : report ≡ report_with_flows project namings []
  pub every_history : EveryHistoryAgreesNaming project namings
