-- The summary of a run, which is printed in place of its report: what the network has, how many periods were done,
-- how many events there were, and how the run ended.
-- Source: this program's format.
use Rattle.std.specs.Prelude.{◌≡◌, ◌≢◌, ℕ, Bool, true, false, List, [], ◌∷◌, ◌++◌, length, filter, codes}
use Rattle.std.specs.Prelude.{⊤, Option, MatchOption}
use Rattle.std.specs.Fmt.{decimal}
use Rattle.std.specs.List.{AllByRecursion}
use Rattle.std.specs.Option.{option_map_or}
use Rattle.hyd_spec.specs.ProgramTypes.{Project}
use Rattle.hyd_spec.specs.NodeNumbers.{junction_count}
use Rattle.hyd_spec_certificates.specs.RecordAndStanding.{Standing}
use Rattle.hyd_spec_certificates.specs.CertificateText.{line}
use Rattle.hyd_spec_reports.specs.ReportLine.{ReportLine, FilledLine, EmptiedLine, ReachedLine}
use Rattle.hyd_spec_reports.specs.PromisesOfRunsAndChecks.{Found, IsRun, Sharpness, IsSharpFound, Outcome, EndsSo}
use Rattle.hyd_spec_reports.specs.PromisesOfRunsAndChecks.{RunWrites}
use Rattle.hyd_spec_reports.specs.PromisesOfRunsAndChecks.{EveryHistoryAgrees, lines_of, last_line, certificate_so_far}

-- ---- what is counted

-- The line tells of an event: a tank became full or empty, or reached the level of a control.
abbrev pub is_event : ReportLine → Bool
is_event (FilledLine time tank) = true
is_event (EmptiedLine time tank) = true
is_event (ReachedLine time tank control) = true
is_event other = false

-- How many events a report tells of.
abbrev pub event_count : List ReportLine → ℕ
event_count lines = length (filter is_event lines)

-- ---- its text

-- The line of the four counts.
abbrev pub summary_line : (junctions links periods events : ℕ) → List ℕ
summary_line junctions links periods events =
    line (codes "SUMMARY" ∷ (codes "junctions" ∷ (decimal junctions ∷ (codes "links" ∷ (decimal links
    ∷ (codes "periods" ∷ (decimal periods ∷ (codes "events" ∷ (decimal events ∷ [])))))))))

-- The summary of what was found: its counts, and the last line of the run's report.
abbrev pub summary_text : Project → Standing → List Found → Outcome → List ℕ
summary_text project left founds outcome =
    summary_line (junction_count project) (length project.links.list) (length founds) (event_count (lines_of founds))
    ++ last_line project left (length founds) outcome

-- ---- what a run with a summary promises

-- What was written is the certificate of a run with some report, every history agrees with it, and what was printed
-- is the summary of the run.
pub record RunSums (project : Project) (rounds : ℕ) (sharpness : Sharpness) (outcome : Outcome)
    (written printed : List ℕ) : Type 0 where
  pub report : List ℕ
  pub run : RunWrites project rounds sharpness outcome written report
  pub summary : printed ≡ summary_text project run.left run.founds outcome

-- A fault of the outside ended the work: what was written is a front of the certificate of a run, as far as it went,
-- what was printed is a front of its summary where the run's end is known, and nothing else; where something was
-- printed, nothing of the certificate is unwritten; every history agrees with it.
pub record SumsBreakOff (project : Project) (rounds : ℕ) (sharpness : Sharpness)
    (written printed : List ℕ) : Type 0 where
  pub founds : List Found
  pub left : Standing
  pub is_run : IsRun project founds left
  pub sharp : AllByRecursion (IsSharpFound project sharpness) founds
  pub last : Option Outcome
  pub ends_so : MatchOption last ⊤ (EndsSo project left rounds)
  pub unwritten : List ℕ
  pub front_of_certificate : written ++ unwritten ≡ certificate_so_far project founds last
  pub unprinted : List ℕ
  pub front_of_summary : printed ++ unprinted ≡ option_map_or (summary_text project left founds) last []
  pub in_order : printed ≢ [] → unwritten ≡ []
  pub every_history : EveryHistoryAgrees project founds
