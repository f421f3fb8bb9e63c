-- Every line of the reports of a run whose ends may be open holds of every history that keeps what it reaches.
use Rattle.std.proofs.Common.{◌≡◌, ℕ, ◌+◌, ◌<◌, ℤ, refl, sym, subst, arith, List}
use Rattle.std.proofs.Common.{[], ◌∷◌, inl, inr, length}
use Rattle.std.specs.Prelude.{⊤}
use Rattle.std.specs.List.{AllByRecursion}
use Rattle.hyd_net.specs.Sound.{IsSound}
use Rattle.hyd_spec.specs.ProgramTypes.{Project, LinkState}
use Rattle.hyd_spec.specs.NodeNumbers.{junction_count, tank_count}
use Rattle.hyd_spec.specs.PeriodLength.{Period}
use Rattle.hyd_spec.specs.History.{Begins, IsPeriod, GoesOn, IsHistory, initial_levels, initial_volumes, initial_links}
use Rattle.hyd_spec.specs.History.{commanded_after}
use Rattle.hyd_spec_reports.specs.PromisesOfRunsAndChecks.{Sharpness, Outcome, Finished, Stopped, is_finished}
use Rattle.hyd_spec_reports.specs.PromisesOfRunsAndChecks.{accepted_line}
use Rattle.hyd_spec_open_ends.specs.InstantsOfClock.{duration as is_duration}
use Rattle.hyd_spec_open_ends.specs.KeptLevels.{GoesOnKeeping, KeepsWhatItReaches}
use Rattle.hyd_spec_open_ends.specs.OpenStandings.{OpenStanding, initial_open_standing}
use Rattle.hyd_spec_open_ends.specs.OpenRecords.{IsValidOpenly, LeadsOnOpenly, continues, finishes}
use Rattle.hyd_spec_open_ends.specs.OpenRuns.{OpenFound, IsOpenRunFrom, IsOpenRun, more as one_more}
use Rattle.hyd_spec_open_ends.specs.OpenCertificateText.{IsOpenCertificateText}
use Rattle.hyd_spec_open_ends.specs.PromisesOfOpenRuns.{EndsOpenlySo, open_rows_of}
use Rattle.hyd_spec_open_reports.specs.OpenReportLine.{open_report_text}
use Rattle.hyd_spec_open_reports.specs.OpenReport.{IsOpenReport}
use Rattle.hyd_spec_open_reports.specs.ClaimsOfOpenLines.{OpenLineHolds}
use Rattle.hyd_spec_open_reports.specs.PromisesOfOpenReports.{Reported, AreReports, periods_of, open_lines_of}
use Rattle.hyd_spec_open_reports.specs.PromisesOfOpenReports.{AllLinesHold, EveryLineHolds, RunTellsOpenly, cause_of}
use Rattle.hyd_spec_open_reports.specs.PromisesOfOpenReports.{CheckTellsOpenly}
use Rattle.hyd_theorems_on_open_ends.specs.AgreementOverStarts.{AgreesFrom, IsUnderOpenly, IsKeptOpenly}
use Rattle.hyd_theorems_on_open_ends.proofs.AgreementOverEnds.{agrees_from_start, is_under_openly, agrees_on}
use Rattle.hyd_theorems_on_open_standings.specs.FirmStandings.{IsFirm}
use Rattle.hyd_theorems_on_open_standings.proofs.StandingsAreFirm.{firm_at_start, firm_next, kept_openly}
use Rattle.hyd_theorems_on_open_reports.proofs.StartAndEndLinesHold.{way_lengths}
use Rattle.hyd_theorems_on_open_reports.proofs.OpenLinesHold.{lines_hold}

-- the periods of a history from one on, each of which keeps what was reached before it
abbrev StartsAt : Project → ℕ → ℕ → List ℤ → List ℤ → List LinkState → List Period → Type 0
StartsAt project S time levels volumes commanded [] = ⊤
StartsAt project S time levels volumes commanded (period ∷ rest) =
    Begins project S time levels volumes commanded period × (IsPeriod project S period
    × (GoesOn project S period rest × GoesOnKeeping project S period rest))

from-start : (project : Project) (S : ℕ) (history : List Period) → IsHistory project S history
    → KeepsWhatItReaches project S history
    → StartsAt project S 0 (initial_levels project S) (initial_volumes project S) (initial_links project) history
from-start project S [] is keeps = tt
from-start project S (period ∷ rest) is keeps = (is.0, (is.1.0, (is.1.1, keeps)))

-- the first period of a run and the rest of it
record IsRunOfMore (project : Project) (slack : ℕ) (standing : OpenStanding) (here : OpenFound) (rest : List OpenFound)
    (last : OpenStanding) : Type 0 where
  same : here.standing ≡ standing
  valid : IsValidOpenly project here.standing here.grid here.found here.next
  go : IsOpenRunFrom project slack here.next rest last

run-of-more : (project : Project) (slack : ℕ) (standing : OpenStanding) (here : OpenFound) (rest : List OpenFound)
    (last : OpenStanding) → IsOpenRunFrom project slack standing (here ∷ rest) last
    → IsRunOfMore project slack standing here rest last
run-of-more project slack _ here rest last (one_more valid within go) =
    record { same = refl; valid = valid; go = go }

module _ (project : Project) (sound : IsSound project) (S : ℕ) (some : 0 < S) where
  module _ (each : Reported)
      (valid : IsValidOpenly project each.here.standing each.here.grid each.here.found each.here.next)
      (firm : IsFirm project each.here.standing)
      (time : ℕ) (levels volumes : List ℤ) (commanded : List LinkState)
      (agrees : AgreesFrom project S each.here.standing time levels volumes commanded)
      (period : Period) (begins : Begins project S time levels volumes commanded period)
      (is : IsPeriod project S period) where
    kept : IsKeptOpenly project each.here.standing
    kept = kept_openly project sound each.here.grid each.here.standing each.here.found each.here.next firm valid

    under : IsUnderOpenly project S period each.here.grid each.here.standing each.here.found.row
    under = is_under_openly project sound S some each.here.grid each.here.standing each.here.found each.here.next kept
        valid time levels volumes commanded agrees period begins is

    its-lines : IsOpenReport project each.here.grid each.here.standing each.here.found each.lines
        → AllByRecursion (OpenLineHolds project S commanded period) each.lines
    its-lines report =
        lines_hold project sound S commanded period each.here.grid each.here.standing each.here.found firm under
        is.lasts agrees.commanded_are
        (way_lengths project each.here.grid each.here.standing each.here.found each.here.next valid.leads_on) each.lines
        report

    -- a period at the end of the run begins there in each history
    at-the-end : each.here.standing.known.time ≡ project.times.duration → period.time ≡ project.times.duration
    at-the-end last = elim kept.quiet [
      | inl exact ↦ (let a = under.after in let b = under.by in omega (arith, exact, a, b, last))
      | inr quiet ↦ absurd (quiet.1 each.here.standing.known.time (omega arith) (omega arith) (is_duration last))
    ]

    -- what comes after it has the lines that come after, where a history does that agrees with the next standing
    after-it : (rest : List Reported)
        → (IsFirm project each.here.next → (now : ℕ) (at with_volumes : List ℤ) (left : List LinkState)
        (periods : List Period) → AgreesFrom project S each.here.next now at with_volumes left
        → StartsAt project S now at with_volumes left periods → AllLinesHold project S left periods rest)
        → (periods : List Period) → GoesOn project S period periods → GoesOnKeeping project S period periods
        → AllLinesHold project S (commanded_after project S period) periods rest
    after-it rest go [] goes keeps = tt
    after-it rest go (p ∷ ps) goes keeps = by-case valid.leads_on
      where
        by-case : LeadsOnOpenly project each.here.grid each.here.standing each.here.found each.here.next
            → AllLinesHold project S (commanded_after project S period) (p ∷ ps) rest
        by-case (continues c) =
            go (firm_next project sound each.here.grid each.here.standing each.here.found each.here.next firm valid)
            (period.time + period.length) p.levels p.volumes (commanded_after project S period) (p ∷ ps)
            (agrees_on project sound S some each.here.grid each.here.standing each.here.found each.here.next kept valid
            time levels volumes commanded agrees period begins is c c.not_last p.levels p.volumes goes.0.stocks
            keeps.0)
            (goes.0.begins, (goes.1.0, (goes.1.1, keeps.1)))
        by-case (finishes f) = absurd (goes.0.not_last (at-the-end f.is_last))

  lines-along : (slack : ℕ) (standing : OpenStanding) (reports : List Reported) (last : OpenStanding)
      → IsOpenRunFrom project slack standing (periods_of reports) last → AreReports project reports
      → IsFirm project standing
      → (time : ℕ) (levels volumes : List ℤ) (commanded : List LinkState) (periods : List Period)
      → AgreesFrom project S standing time levels volumes commanded
      → StartsAt project S time levels volumes commanded periods → AllLinesHold project S commanded periods reports
  lines-along slack standing reports last run are firm time levels volumes commanded [] agrees starts = tt
  lines-along slack standing [] last run are firm time levels volumes commanded (period ∷ periods) agrees starts = tt
  lines-along slack standing (each ∷ reports) last run are firm time levels volumes commanded (period ∷ periods) agrees
      starts =
      let more = run-of-more project slack standing each.here (periods_of reports) last run in
      let firm-here = subst (IsFirm project) (sym more.same) firm in
      let agrees-here = subst (λ s. AgreesFrom project S s time levels volumes commanded) (sym more.same) agrees in (
        its-lines each more.valid firm-here time levels volumes commanded agrees-here period starts.0 starts.1.0 are.0,
        after-it each more.valid firm-here time levels volumes commanded agrees-here period starts.0 starts.1.0 reports
            (λ next now at with_volumes left others. lines-along slack each.here.next reports last more.go are.1 next
            now at with_volumes left others) periods starts.1.1.0 starts.1.1.1,
      )

pub every_line : (project : Project) → IsSound project → (slack : ℕ) (reports : List Reported) (last : OpenStanding)
    → IsOpenRun project slack (periods_of reports) last → AreReports project reports → EveryLineHolds project reports
every_line project sound slack reports last run are S some history is keeps =
    lines-along project sound S (omega (arith, some)) slack (initial_open_standing project) reports last run are
    (firm_at_start project sound)
    0 (initial_levels project S) (initial_volumes project S) (initial_links project) history
    (agrees_from_start project S (omega (arith, some))) (from-start project S history is keeps)

-- ---- what a check accepts

-- whether a run has finished is what its last standing says
finished-so : (project : Project) (left : OpenStanding) (slack rounds : ℕ) (outcome : Outcome)
    → EndsOpenlySo project left slack rounds (cause_of outcome) → is_finished outcome ≡ left.known.finished
finished-so project left slack rounds Finished ends = sym ends
finished-so project left slack rounds (Stopped cause) ends = sym ends.0

pub told_again : (project : Project) (slack rounds : ℕ) (sharpness : Sharpness) (outcome : Outcome)
    (written printed : List ℕ) (run : RunTellsOpenly project slack rounds sharpness outcome written printed)
    → CheckTellsOpenly project written (open_report_text project (open_lines_of run.reports)
    (accepted_line (length run.reports) run.left.known.finished))
told_again project slack rounds sharpness outcome written printed run = record {
  slack = slack;
  reports = run.reports;
  left = run.left;
  is_run = run.is_run;
  are_reports = run.are_reports;
  certificate = subst (λ finished. IsOpenCertificateText written (junction_count project) (tank_count project)
      (open_rows_of (periods_of run.reports)) (length run.reports) finished)
      (finished-so project run.left slack rounds outcome run.ends_so) run.certificate;
  report = refl;
  every_history = run.every_history;
  every_line = run.every_line;
}
