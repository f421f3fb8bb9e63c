-- The headline of runs whose ends of periods may be open by some seconds: what their certificates and reports promise
-- of every history that keeps what it reaches.
-- Source: this program's.
use Rattle.std.specs.Prelude.{◌≡◌, ℕ, ◌≤◌, ℤ, ◌+ℤ◌, ◌-ℤ◌, ◌*ℤ◌, ◌≤ℤ◌, pos, ◌⊎◌, MatchBool, List, [], ◌∷◌, length, map}
use Rattle.std.specs.Prelude.{⊤}
use Rattle.std.specs.Prelude.{Option, Some, None}
use Rattle.std.specs.List.{AllByRecursion}
use Rattle.hyd_spec.specs.ProgramTypes.{Project, LinkState}
use Rattle.hyd_spec.specs.Lists.{Each, joined}
use Rattle.hyd_spec.specs.NodeNumbers.{junction_count, tank_count}
use Rattle.hyd_spec.specs.Assignment.{head_at}
use Rattle.hyd_spec.specs.PeriodLength.{Period}
use Rattle.hyd_spec.specs.History.{IsHistory, initial_links, commanded_after}
use Rattle.hyd_spec_certificates.specs.declared.Problem.{Problem}
use Rattle.hyd_spec_certificates.specs.declared.Side.{Side}
use Rattle.hyd_spec_certificates.specs.declared.StopCause.{StopCause}
use Rattle.hyd_spec_certificates.specs.Interval.{width}
use Rattle.hyd_spec_certificates.specs.Certificate.{IsTight}
use Rattle.hyd_spec_certificates.specs.RecordAndStanding.{vector_of}
use Rattle.hyd_spec_certificates.specs.Decided.{level_of_tank}
use Rattle.hyd_spec_certificates.specs.Valid.{IsProblem}
use Rattle.hyd_spec_certificates.specs.Narrow.{widest}
use Rattle.hyd_spec_reports.specs.PromisesOfRunsAndChecks.{Sharpness, Outcome, Finished, Stopped, is_finished}
use Rattle.hyd_spec_reports.specs.PromisesOfRunsAndChecks.{last_line}
use Rattle.hyd_spec_reports.specs.PromisesOfRunsAndChecks.{accepted_line}
use Rattle.hyd_spec_open_ends.specs.KeptLevels.{KeepsWhatItReaches}
use Rattle.hyd_spec_open_ends.specs.OpenStandings.{OpenStanding, OpenRecord}
use Rattle.hyd_spec_open_ends.specs.OpenRuns.{OpenFound, IsOpenRun, EveryKeepingHistoryAgrees}
use Rattle.hyd_spec_open_ends.specs.OpenCertificateText.{IsOpenCertificateText}
use Rattle.hyd_spec_open_ends.specs.PromisesOfOpenRuns.{EndsOpenlySo, open_rows_of}
use Rattle.hyd_spec_open_reports.specs.OpenReportLine.{OpenLine, open_report_text}
use Rattle.hyd_spec_open_reports.specs.OpenReport.{IsOpenReport}
use Rattle.hyd_spec_open_reports.specs.ClaimsOfOpenLines.{OpenLineHolds}

-- ---- a run and its report

-- A period of a run, and the lines of its report.
pub record Reported : Type 0 where
  pub here : OpenFound
  pub lines : List OpenLine

-- The lines of each period are its report.
abbrev pub AreReports : Project → List Reported → Type 0
AreReports project reports =
    AllByRecursion (λ (each : Reported). IsOpenReport project each.here.grid each.here.standing each.here.found
    each.lines) reports

-- The periods, without their reports.
abbrev pub periods_of : List Reported → List OpenFound
periods_of reports = map (λ each. each.here) reports

-- The lines, period by period.
abbrev pub open_lines_of : List Reported → List OpenLine
open_lines_of reports = joined (map (λ each. each.lines) reports)

-- ---- every history

-- Each line holds of the period that it was told of, period by period as far as both go, before which the links were
-- commanded so.
abbrev pub AllLinesHold : Project → ℕ → List LinkState → List Period → List Reported → Type 0
AllLinesHold project S commanded [] reports = ⊤
AllLinesHold project S commanded (period ∷ periods) [] = ⊤
AllLinesHold project S commanded (period ∷ periods) (each ∷ reports) =
    AllByRecursion (OpenLineHolds project S commanded period) each.lines
    × AllLinesHold project S (commanded_after project S period) periods reports

-- Every line holds of every history of the network that keeps what it reaches, at every scale.
abbrev pub EveryLineHolds : Project → List Reported → Type 0
EveryLineHolds project reports =
    (S : ℕ) → 1 ≤ S → (history : List Period) → IsHistory project S history → KeepsWhatItReaches project S history
    → AllLinesHold project S (initial_links project) history reports

-- ---- sharp runs

-- For a width W in head ticks: every head interval is at most W wider than the widest level interval at the start, and
-- where both the start and the end are known to the second, every level interval at the end is at most twice as wide as
-- at the start, plus a hundredth of W. (Where one is open, the width of a level is that of the seconds, and not of the
-- vectors.)
pub record IsNarrowOpenly (W : ℤ) (standing : OpenStanding) (found : OpenRecord) (next : OpenStanding) : Type 0 where
  pub heads : Each found.row.main.upper (λ j upper. (upper -ℤ head_at found.row.main.lower j)
      ≤ℤ (W +ℤ widest standing.known.levels))
  pub levels : standing.late ≡ 0 → next.late ≡ 0 → Each next.known.levels (λ k level.
      (pos 100 *ℤ width level) ≤ℤ ((pos 200 *ℤ width (level_of_tank standing.known k)) +ℤ W))

-- Every vector of the record is the tight one.
abbrev pub IsTightOpenly : Project → OpenFound → Type 0
IsTightOpenly project here =
    (problem : Problem) (side : Side) → IsProblem project problem
    → IsTight here.grid problem side (vector_of here.found.row problem side)

-- The record is narrow or its vectors are tight; the latter where that was asked for.
abbrev pub IsSharpOpenly : Project → Sharpness → OpenFound → Type 0
IsSharpOpenly project sharpness here =
    MatchBool sharpness.tight (IsTightOpenly project here)
    (IsTightOpenly project here ⊎ IsNarrowOpenly sharpness.width here.standing here.found here.next)

-- ---- promises

-- The cause that stopped a run, if one did.
abbrev pub cause_of : Outcome → Option StopCause
cause_of Finished = None
cause_of (Stopped cause) = Some cause

-- What was written is the certificate of a run with the slack, what was printed its report, and every history that
-- keeps what it reaches agrees with it and has what each line claims. (A stop is told with the first second of its
-- period.)
pub record RunTellsOpenly (project : Project) (slack rounds : ℕ) (sharpness : Sharpness) (outcome : Outcome)
    (written printed : List ℕ) : Type 0 where
  pub reports : List Reported
  pub left : OpenStanding
  pub is_run : IsOpenRun project slack (periods_of reports) left
  pub are_reports : AreReports project reports
  pub sharp : AllByRecursion (λ (each : Reported). IsSharpOpenly project sharpness each.here) reports
  pub ends_so : EndsOpenlySo project left slack rounds (cause_of outcome)
  pub certificate : IsOpenCertificateText written (junction_count project) (tank_count project)
      (open_rows_of (periods_of reports)) (length reports) (is_finished outcome)
  pub report : printed ≡ open_report_text project (open_lines_of reports)
      (last_line project left.known (length reports) outcome)
  pub every_history : EveryKeepingHistoryAgrees project (periods_of reports)
  pub every_line : EveryLineHolds project reports

-- What was read was accepted as the certificate of a run with some slack, what was printed is its report, and every
-- history that keeps what it reaches agrees with it and has what each line claims.
pub record CheckTellsOpenly (project : Project) (text printed : List ℕ) : Type 0 where
  pub slack : ℕ
  pub reports : List Reported
  pub left : OpenStanding
  pub is_run : IsOpenRun project slack (periods_of reports) left
  pub are_reports : AreReports project reports
  pub certificate : IsOpenCertificateText text (junction_count project) (tank_count project)
      (open_rows_of (periods_of reports)) (length reports) left.known.finished
  pub report : printed ≡ open_report_text project (open_lines_of reports)
      (accepted_line (length reports) left.known.finished)
  pub every_history : EveryKeepingHistoryAgrees project (periods_of reports)
  pub every_line : EveryLineHolds project reports
