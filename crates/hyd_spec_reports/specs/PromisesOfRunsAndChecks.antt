-- The headline: what a run's certificate and report promise of every history.
-- Source: this program's.
use Rattle.std.specs.Prelude.{◌≡◌, ℕ, ◌≤◌, ℤ, ◌<ℤ◌, ◌⊎◌, Bool, true, false, MatchBool, List, [], ◌∷◌, ◌++◌, length, map}
use Rattle.std.specs.Prelude.{All, ⊤, Option, MatchOption}
use Rattle.std.specs.Option.{option_map_or}
use Rattle.std.specs.List.{AllByRecursion}
use Rattle.hyd_spec.specs.ProgramTypes.{Project, LinkState}
use Rattle.hyd_spec_certificates.specs.declared.Problem.{Problem}
use Rattle.hyd_spec_certificates.specs.declared.Side.{Side}
use Rattle.hyd_spec.specs.Lists.{Each, joined}
use Rattle.hyd_spec.specs.Scale.{at_scale}
use Rattle.hyd_spec.specs.NodeNumbers.{junction_count, tank_count}
use Rattle.hyd_spec.specs.Assignment.{head_at}
use Rattle.hyd_spec.specs.PeriodLength.{Period}
use Rattle.hyd_spec.specs.History.{IsHistory, initial_links, commanded_after}
use Rattle.hyd_spec_certificates.specs.PeriodNetwork.{Grid}
use Rattle.hyd_spec_certificates.specs.Certificate.{IsTight}
use Rattle.hyd_spec_certificates.specs.RecordAndStanding.{Record, Standing, initial_standing, vector_of}
use Rattle.hyd_spec_certificates.specs.Decided.{links_at}
use Rattle.hyd_spec_certificates.specs.Valid.{IsValid, IsProblem}
use Rattle.hyd_spec_certificates.specs.Narrow.{IsNarrow}
use Rattle.hyd_spec_certificates.specs.CertificateText.{IsCertificateText, IsRow, version_of, header_line, record_text}
use Rattle.hyd_spec_certificates.specs.CertificateText.{end_line, line_feeds}
use Rattle.hyd_spec_certificates.specs.declared.StopCause.{StopCause}
use Rattle.hyd_spec_certificates.specs.declared.StopCause.TheVariants.{Demand as DemandOutOfRange, RoundsSpent}
use Rattle.hyd_spec_certificates.specs.declared.CertRefused.{CertRefused}
use Rattle.hyd_spec_certificates.specs.Stops.{Stops}
use Rattle.hyd_spec_certificates.specs.RefusedRecords.{IsRefused}
use Rattle.hyd_spec_reports.specs.Report.{IsReport}
use Rattle.hyd_spec_reports.specs.ReportLine.{ReportLine, report_text, stop_line, done_line, partial_line, refused_line}
use Rattle.hyd_spec_reports.specs.ReportLine.{refused_end_line}
use Rattle.hyd_spec_reports.specs.Claims.{LineHolds}

-- ---- a run

-- A period of a run, and what is known of it: the standing at its start, its grid and its record, the lines of its
-- report, and the standing that it leaves.
pub record Found : Type 0 where
  pub standing : Standing
  pub grid : Grid
  pub row : Record
  pub lines : List ReportLine
  pub next : Standing

-- The record is valid at its standing and leads on to the next one, and the lines are its report.
pub record IsFound (project : Project) (found : Found) : Type 0 where
  pub valid : IsValid project found.standing found.grid found.row found.next
  pub report : IsReport project found.grid found.standing found.row found.lines

-- One period after another, from one standing to another.
pub data IsRunFrom (project : Project) : Standing → List Found → Standing → Type 0 where
  none : {standing : Standing} → IsRunFrom project standing [] standing
  more : {last : Standing} {found : Found} {rest : List Found} → IsFound project found
      → IsRunFrom project found.next rest last → IsRunFrom project found.standing (found ∷ rest) last

-- A run of the network from its start on, that leaves a standing.
abbrev pub IsRun : Project → List Found → Standing → Type 0
IsRun project founds last = IsRunFrom project (initial_standing project) founds last

-- The records of what was found.
abbrev pub rows_of : List Found → List Record
rows_of founds = map (λ found. found.row) founds

-- Its report lines, period by period.
abbrev pub lines_of : List Found → List ReportLine
lines_of founds = joined (map (λ found. found.lines) founds)

-- How sharp a run was asked to be: a width in head ticks, and whether every vector is to be tight.
pub record Sharpness : Type 0 where
  pub width : ℤ
  pub tight : Bool

-- Every vector of the record is the tight one.
abbrev pub IsTightThroughout : Project → Found → Type 0
IsTightThroughout project found =
    (problem : Problem) (side : Side) → IsProblem project problem
    → IsTight found.grid problem side (vector_of found.row problem side)

-- The record is narrow or its vectors are tight; the latter where that was asked for.
abbrev pub IsSharpFound : Project → Sharpness → Found → Type 0
IsSharpFound project sharpness found =
    MatchBool sharpness.tight (IsTightThroughout project found)
    (IsTightThroughout project found ⊎ IsNarrow sharpness.width found.standing found.row found.next)

-- ---- every history

-- A period of a history agrees with what was found: it begins at the record's time, has its length and its states,
-- has its heads strictly between the record's vectors, and each line of its report holds.
pub record Agrees (project : Project) (S : ℕ) (commanded : List LinkState) (period : Period) (found : Found) : Type 0
  where
    pub time : period.time ≡ found.row.time
    pub length_is : period.length ≡ found.row.length
    pub tanks : period.tanks ≡ found.standing.tanks
    pub links : period.links ≡ links_at project found.standing
    pub above_lower : Each period.assignment.heads (λ j h. at_scale S (head_at found.row.main.lower j) <ℤ h)
    pub below_upper : Each period.assignment.heads (λ j h. h <ℤ at_scale S (head_at found.row.main.upper j))
    pub lines_hold : AllByRecursion (LineHolds project S commanded period) found.lines

-- The periods agree with what was found, one after another, as far as both go.
abbrev pub AllAgree : Project → ℕ → List LinkState → List Period → List Found → Type 0
AllAgree project S commanded [] founds = ⊤
AllAgree project S commanded (period ∷ periods) [] = ⊤
AllAgree project S commanded (period ∷ periods) (found ∷ founds) =
    Agrees project S commanded period found
    × AllAgree project S (commanded_after project S period) periods founds

-- Every history of the network, at every scale, agrees with what was found.
abbrev pub EveryHistoryAgrees : Project → List Found → Type 0
EveryHistoryAgrees project founds =
    (S : ℕ) → 1 ≤ S → (history : List Period) → IsHistory project S history
    → AllAgree project S (initial_links project) history founds

-- ---- what a run writes and prints

-- How a run ends: finished, or stopped by a cause.
pub data Outcome : Type 0 where
  Finished : Outcome
  Stopped : StopCause → Outcome

-- The last line of a run's report, after n records.
abbrev pub last_line : Project → Standing → ℕ → Outcome → List ℕ
last_line project standing n Finished = done_line n
last_line project standing n (Stopped cause) = stop_line project standing.time cause

-- The run has finished.
abbrev pub is_finished : Outcome → Bool
is_finished Finished = true
is_finished (Stopped cause) = false

-- A finished run has done the period at the end of the run; at the standing that a stopped one leaves, its cause
-- holds for the number of rounds.
abbrev pub EndsSo : Project → Standing → ℕ → Outcome → Type 0
EndsSo project standing rounds Finished = standing.finished ≡ true
EndsSo project standing rounds (Stopped cause) = (standing.finished ≡ false) × Stops project standing rounds cause

-- What was written is the certificate of a run, what was printed its report, and every history agrees with it.
pub record RunWrites (project : Project) (rounds : ℕ) (sharpness : Sharpness) (outcome : Outcome)
    (written printed : List ℕ) : Type 0 where
  pub founds : List Found
  pub left : Standing
  pub is_run : IsRun project founds left
  pub sharp : AllByRecursion (IsSharpFound project sharpness) founds
  pub ends_so : EndsSo project left rounds outcome
  pub certificate : IsCertificateText written (version_of project) (junction_count project) (tank_count project)
      (rows_of founds) (length founds) (is_finished outcome)
  pub report : printed ≡ report_text project (lines_of founds) (last_line project left (length founds) outcome)
  pub every_history : EveryHistoryAgrees project founds

-- The exit status of a run that ends so: 0 where it finished, 7 where rounds were spent, 8 where a demand is out of
-- range, 6 for every other cause.
abbrev pub outcome_number : Outcome → ℕ
outcome_number Finished = 0
outcome_number (Stopped (RoundsSpent period problem side spent)) = 7
outcome_number (Stopped (DemandOutOfRange period junction demand)) = 8
outcome_number (Stopped cause) = 6

-- ---- what was put out before a fault

-- The certificate as far as some records go, with its end line where the run's end is known.
abbrev pub certificate_so_far : Project → List Found → Option Outcome → List ℕ
certificate_so_far project founds last =
    header_line (version_of project) (junction_count project) (tank_count project)
    ++ (joined (map record_text (rows_of founds))
    ++ option_map_or (λ outcome. end_line (length founds) (is_finished outcome)) last [])

-- The report as far as some records go, with its last line where the run's end is known.
abbrev pub report_so_far : Project → Standing → List Found → Option Outcome → List ℕ
report_so_far project left founds last =
    report_text project (lines_of founds) (option_map_or (last_line project left (length founds)) last [])

-- A fault of the outside ended the work: what was written and printed are fronts of the certificate and of the report
-- of a run, as far as it went, and every history agrees with it.
pub record RunBreaksOff (project : Project) (rounds : ℕ) (sharpness : Sharpness) (written printed : List ℕ) : Type 0
  where
    pub founds : List Found
    pub left : Standing
    pub is_run : IsRun project founds left
    pub sharp : AllByRecursion (IsSharpFound project sharpness) founds
    pub last : Option Outcome
    pub ends_so : MatchOption last ⊤ (EndsSo project left rounds)
    pub unwritten : List ℕ
    pub front_of_certificate : written ++ unwritten ≡ certificate_so_far project founds last
    pub unprinted : List ℕ
    pub front_of_report : printed ++ unprinted ≡ report_so_far project left founds last
    pub every_history : EveryHistoryAgrees project founds

-- ---- what a check accepts

-- The last line of the report on a certificate of n records: of a finished run, or of one that was stopped.
abbrev pub accepted_line : ℕ → Bool → List ℕ
accepted_line n true = done_line n
accepted_line n false = partial_line n

-- What was read was accepted as the certificate of a run, and what was printed is its report.
pub record CheckAccepts (project : Project) (text printed : List ℕ) : Type 0 where
  pub founds : List Found
  pub left : Standing
  pub is_run : IsRun project founds left
  pub certificate : IsCertificateText text (version_of project) (junction_count project) (tank_count project)
      (rows_of founds) (length founds) left.finished
  pub report : printed ≡ report_text project (lines_of founds) (accepted_line (length founds) left.finished)
  pub every_history : EveryHistoryAgrees project founds

-- ---- what a check refuses

-- What was read begins as a certificate of a run, with one more record that is refused, whatever comes after it; what
-- was printed is the report of the records before it, with the refusal as its last line.
pub record CheckRefuses (project : Project) (text printed : List ℕ) (cause : CertRefused) : Type 0 where
  pub founds : List Found
  pub left : Standing
  pub is_run : IsRun project founds left
  pub row : Record
  pub refused : IsRefused project left row cause
  pub rows_fit : All (IsRow (junction_count project) (tank_count project)) (rows_of founds ++ (row ∷ []))
  pub unread : List ℕ
  pub is_text : text ≡ header_line (version_of project) (junction_count project) (tank_count project)
      ++ (joined (map record_text (rows_of founds ++ (row ∷ []))) ++ unread)
  pub report : printed ≡ report_text project (lines_of founds) (refused_line project cause)
  pub every_history : EveryHistoryAgrees project founds

-- What was read is the certificate text of a run but for its end line, which doesn't have the number of its records or
-- doesn't say whether it is finished; what was printed is the report of all its records, with that refusal as its last
-- line.
pub record CheckRefusesEnd (project : Project) (text printed : List ℕ) : Type 0 where
  pub founds : List Found
  pub left : Standing
  pub is_run : IsRun project founds left
  pub periods : ℕ
  pub finished : Bool
  pub certificate : IsCertificateText text (version_of project) (junction_count project) (tank_count project)
      (rows_of founds) periods finished
  pub other_end : ((periods ≡ length founds) × (finished ≡ left.finished)) → ⊥
  pub report : printed ≡ report_text project (lines_of founds) (refused_end_line (line_feeds text))
  pub every_history : EveryHistoryAgrees project founds
