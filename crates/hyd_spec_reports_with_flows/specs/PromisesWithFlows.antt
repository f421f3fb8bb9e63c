-- The headline with flows of named links: what a run that names links writes and prints, and what a check of a
-- certificate with flows accepts and refuses.
-- Source: this program's.
use Rattle.std.specs.Prelude.{◌≡◌, ℕ, ◌≤◌, Bool, List, [], ◌∷◌, ◌++◌, length, map, All, ⊤, Option, MatchOption, codes}
use Rattle.std.specs.Prelude.{decimal}
use Rattle.std.specs.List.{AllByRecursion}
use Rattle.std.specs.Option.{option_map_or}
use Rattle.hyd_spec.specs.ProgramTypes.{Project}
use Rattle.hyd_spec.specs.Lists.{joined}
use Rattle.hyd_spec.specs.NodeNumbers.{junction_count, tank_count}
use Rattle.hyd_spec.specs.PeriodLength.{Period}
use Rattle.hyd_spec.specs.History.{IsHistory}
use Rattle.hyd_spec_certificates.specs.RecordAndStanding.{Standing}
use Rattle.hyd_spec_certificates.specs.CertificateText.{line, header_line, end_line, line_feeds}
use Rattle.hyd_spec_certificates.specs.declared.CertRefused.{CertRefused}
use Rattle.hyd_spec_certificates.specs.RefusedRecords.{IsRefused}
use Rattle.hyd_spec_reports.specs.ReportLine.{line_text, refused_line, refused_end_line}
use Rattle.hyd_spec_reports.specs.PromisesOfRunsAndChecks.{Found, IsFound, IsRun, Sharpness, IsSharpFound, Outcome}
use Rattle.hyd_spec_reports.specs.PromisesOfRunsAndChecks.{EndsSo, EveryHistoryAgrees, is_finished, last_line}
use Rattle.hyd_spec_reports.specs.PromisesOfRunsAndChecks.{accepted_line}
use Rattle.hyd_spec_flows.specs.FlowParts.{FlowPart, IsFlowPart, IsSharpPart, IsRefusedPart, names_of}
use Rattle.hyd_spec_flows.specs.FlowTexts.{Entry, IsEntry, IsTextWithFlows, flows_version, entry_text}
use Rattle.hyd_spec_reports_with_flows.specs.FlowLines.{FlowLine, AreFlowLines, FlowHolds, flow_line_text}
use Rattle.hyd_spec_reports_with_flows.specs.FlowLines.{refused_flow_line}
use Rattle.hyd_spec_flows.specs.declared.FlowFails.{FlowFails}

-- ---- a run that names links

-- A period of a run, the part behind its record, and the FLOW lines behind its report lines.
pub record FoundNaming : Type 0 where
  pub found : Found
  pub part : FlowPart
  pub flows : List FlowLine

-- The part has its vectors on the grid of the period, and the FLOW lines are those of the part.
pub record IsFoundNaming (project : Project) (naming : FoundNaming) : Type 0 where
  pub held : IsFlowPart naming.found.grid naming.found.row naming.part
  pub lines : AreFlowLines project naming.found.grid naming.found.standing naming.part naming.flows

-- The part names these links, in order, and its vectors are near for so many rounds.
pub record NamesSharply (rounds : ℕ) (named : List ℕ) (naming : FoundNaming) : Type 0 where
  pub names : names_of naming.part ≡ named
  pub near : IsSharpPart rounds naming.found.grid naming.found.row naming.part

-- What was found, the parts aside.
abbrev pub founds_in : List FoundNaming → List Found
founds_in namings = map (λ naming. naming.found) namings

-- The records with their parts.
abbrev pub entry_of : FoundNaming → Entry
entry_of naming = record { row = naming.found.row; part = naming.part }

abbrev pub entries_of : List FoundNaming → List Entry
entries_of namings = map entry_of namings

-- ---- the report

-- The lines of a period, then its FLOW lines.
abbrev pub period_text : Project → FoundNaming → List ℕ
period_text project naming =
    joined (map (line_text project) naming.found.lines) ++ joined (map (flow_line_text project) naming.flows)

-- The report of some periods and a last line: it begins with the line `HYD 1`.
abbrev pub report_with_flows : Project → List FoundNaming → List ℕ → List ℕ
report_with_flows project namings last =
    line (codes "HYD" ∷ (decimal 1 ∷ [])) ++ (joined (map (period_text project) namings) ++ last)

-- ---- every history

-- Each FLOW line of a period holds of that period of a history, as far as both go.
abbrev pub AllFlowsHold : Project → ℕ → List Period → List FoundNaming → Type 0
AllFlowsHold project S [] namings = ⊤
AllFlowsHold project S (period ∷ periods) [] = ⊤
AllFlowsHold project S (period ∷ periods) (naming ∷ namings) =
    AllByRecursion (FlowHolds project S period) naming.flows × AllFlowsHold project S periods namings

-- Every history of the network, at every scale, agrees with what was found, and its flows lie in the intervals of the
-- FLOW lines.
pub record EveryHistoryAgreesNaming (project : Project) (namings : List FoundNaming) : Type 0 where
  pub agrees : EveryHistoryAgrees project (founds_in namings)
  pub flows_hold : (S : ℕ) → 1 ≤ S → (history : List Period) → IsHistory project S history
      → AllFlowsHold project S history namings

-- ---- what a run writes and prints

-- What was written is the certificate of a run with the flows of these links, what was printed its report with them,
-- and every history agrees with it.
pub record RunWritesNaming (project : Project) (named : List ℕ) (rounds : ℕ) (sharpness : Sharpness)
    (outcome : Outcome) (written printed : List ℕ) : Type 0 where
  pub namings : List FoundNaming
  pub left : Standing
  pub is_run : IsRun project (founds_in namings) left
  pub parts : AllByRecursion (IsFoundNaming project) namings
  pub names : AllByRecursion (NamesSharply rounds named) namings
  pub sharp : AllByRecursion (IsSharpFound project sharpness) (founds_in namings)
  pub ends_so : EndsSo project left rounds outcome
  pub certificate : IsTextWithFlows written (junction_count project) (tank_count project) (entries_of namings)
      (length namings) (is_finished outcome)
  pub report : printed ≡ report_with_flows project namings (last_line project left (length namings) outcome)
  pub every_history : EveryHistoryAgreesNaming project namings

-- ---- what was put out before a fault

-- The certificate as far as some entries go, with its end line where the run's end is known.
abbrev pub certificate_so_far_naming : Project → List FoundNaming → Option Outcome → List ℕ
certificate_so_far_naming project namings last =
    header_line flows_version (junction_count project) (tank_count project)
    ++ (joined (map entry_text (entries_of namings))
    ++ option_map_or (λ outcome. end_line (length namings) (is_finished outcome)) last [])

-- The report as far as they go, with its last line where the run's end is known.
abbrev pub report_so_far_naming : Project → Standing → List FoundNaming → Option Outcome → List ℕ
report_so_far_naming project left namings last =
    report_with_flows project namings (option_map_or (last_line project left (length namings)) last [])

-- A fault of the outside ended the work: what was written and printed are fronts of the certificate and of the report
-- of a run with the flows of these links, as far as it went, and every history agrees with it.
pub record RunNamingBreaksOff (project : Project) (named : List ℕ) (rounds : ℕ) (sharpness : Sharpness)
    (written printed : List ℕ) : Type 0 where
  pub namings : List FoundNaming
  pub left : Standing
  pub is_run : IsRun project (founds_in namings) left
  pub parts : AllByRecursion (IsFoundNaming project) namings
  pub names : AllByRecursion (NamesSharply rounds named) namings
  pub sharp : AllByRecursion (IsSharpFound project sharpness) (founds_in namings)
  pub last : Option Outcome
  pub ends_so : MatchOption last ⊤ (EndsSo project left rounds)
  pub unwritten : List ℕ
  pub front_of_certificate : written ++ unwritten ≡ certificate_so_far_naming project namings last
  pub unprinted : List ℕ
  pub front_of_report : printed ++ unprinted ≡ report_so_far_naming project left namings last
  pub every_history : EveryHistoryAgreesNaming project namings

-- ---- what a check accepts

-- What was read was accepted as the certificate of a run with flows, and what was printed is its report with them.
pub record CheckAcceptsNaming (project : Project) (text printed : List ℕ) : Type 0 where
  pub namings : List FoundNaming
  pub left : Standing
  pub is_run : IsRun project (founds_in namings) left
  pub parts : AllByRecursion (IsFoundNaming project) namings
  pub certificate : IsTextWithFlows text (junction_count project) (tank_count project) (entries_of namings)
      (length namings) left.finished
  pub report : printed ≡ report_with_flows project namings (accepted_line (length namings) left.finished)
  pub every_history : EveryHistoryAgreesNaming project namings

-- ---- what a check refuses

-- The text begins as a certificate with flows, with these entries, whatever comes after them.
pub record BeginsWithEntries (project : Project) (text : List ℕ) (entries : List Entry) : Type 0 where
  pub entries_fit : All (IsEntry (junction_count project) (tank_count project)) entries
  pub unread : List ℕ
  pub is_text : text ≡ header_line flows_version (junction_count project) (tank_count project)
      ++ (joined (map entry_text entries) ++ unread)

-- What was read begins as a certificate of a run with flows, with one more record that is refused, whatever its part
-- and what comes after it are; what was printed is the report of the entries before it, with the refusal as its last
-- line.
pub record CheckRefusesNaming (project : Project) (text printed : List ℕ) (cause : CertRefused) : Type 0 where
  pub namings : List FoundNaming
  pub left : Standing
  pub is_run : IsRun project (founds_in namings) left
  pub parts : AllByRecursion (IsFoundNaming project) namings
  pub entry : Entry
  pub refused : IsRefused project left entry.row cause
  pub is_text : BeginsWithEntries project text (entries_of namings ++ (entry ∷ []))
  pub report : printed ≡ report_with_flows project namings (refused_line project cause)
  pub every_history : EveryHistoryAgreesNaming project namings

-- What was read begins as a certificate of a run with flows, with one more record that is valid and whose part is
-- refused, whatever comes after it; what was printed is the report of the entries before it, with the refusal, which
-- names the number of that record, as its last line.
pub record CheckRefusesPart (project : Project) (text printed : List ℕ) (cause : FlowFails) : Type 0 where
  pub namings : List FoundNaming
  pub found : Found
  pub part : FlowPart
  pub is_run : IsRun project (founds_in namings) found.standing
  pub parts : AllByRecursion (IsFoundNaming project) namings
  pub is_found : IsFound project found
  pub refused : IsRefusedPart found.grid found.row part cause
  pub is_text : BeginsWithEntries project text (entries_of namings ++ (record { row = found.row; part = part } ∷ []))
  pub report : printed ≡ report_with_flows project namings (refused_flow_line project found.row.number cause)
  pub every_history : EveryHistoryAgreesNaming project namings

-- What was read is the certificate text of a run with flows but for its end line, which doesn't have the number of its
-- records or doesn't say whether it is finished; what was printed is the report of all its entries, with that refusal
-- as its last line.
pub record CheckRefusesEndNaming (project : Project) (text printed : List ℕ) : Type 0 where
  pub namings : List FoundNaming
  pub left : Standing
  pub is_run : IsRun project (founds_in namings) left
  pub parts : AllByRecursion (IsFoundNaming project) namings
  pub periods : ℕ
  pub finished : Bool
  pub certificate : IsTextWithFlows text (junction_count project) (tank_count project) (entries_of namings) periods
      finished
  pub other_end : ((periods ≡ length namings) × (finished ≡ left.finished)) → ⊥
  pub report : printed ≡ report_with_flows project namings (refused_end_line (line_feeds text))
  pub every_history : EveryHistoryAgreesNaming project namings
