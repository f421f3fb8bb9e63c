-- Every history agrees with every record of a valid list, and each line of its report holds.
use Rattle.std.proofs.Common.{◌≡◌, ℕ, ◌+◌, ◌<◌, ℤ, sym, subst, ◌∙◌, arith, Bool, true, false, MatchBool, List, [], ◌∷◌}
use Rattle.std.specs.Prelude.{⊤}
use Rattle.std.specs.List.{AllByRecursion}
use Rattle.hyd_net.specs.Sound.{IsSound}
use Rattle.hyd_spec.specs.ProgramTypes.{Project, LinkState}
use Rattle.hyd_spec_certificates.specs.declared.Problem.TheVariants.{Main}
use Rattle.hyd_spec_certificates.specs.declared.Side.TheVariants.{Upper, Lower}
use Rattle.hyd_spec.specs.PumpPatternsAndSimpleControls.{acts_at, patterned}
use Rattle.hyd_spec.specs.PeriodLength.{Period, HasItsLength, at_end, before_end}
use Rattle.hyd_spec.specs.History.{Begins, IsPeriod, GoesOn, IsHistory, initial_levels, initial_volumes, initial_links}
use Rattle.hyd_spec.specs.History.{commanded_after}
use Rattle.hyd_spec_certificates.specs.RecordAndStanding.{Standing, initial_standing}
use Rattle.hyd_spec_certificates.specs.Decided.{acts_on}
use Rattle.hyd_spec_certificates.specs.Valid.{LeadsOn, continues, finishes}
use Rattle.hyd_spec_reports.specs.ReportLine.{ReportLine}
use Rattle.hyd_spec_reports.specs.Report.{IsReport, AreStateLines}
use Rattle.hyd_spec_certificates.specs.PrintedIntervals.{is_report_time}
use Rattle.hyd_spec_certificates.specs.ChangesAtStart.{start_changes}
use Rattle.hyd_spec_reports.specs.Claims.{LineHolds}
use Rattle.hyd_spec_reports.specs.PromisesOfRunsAndChecks.{Found, IsFound, IsRunFrom, none, more, IsRun, Agrees}
use Rattle.hyd_spec_reports.specs.PromisesOfRunsAndChecks.{AllAgree}
use Rattle.hyd_spec_reports.specs.PromisesOfRunsAndChecks.{EveryHistoryAgrees}
use Rattle.hyd_theorems_on_definitions.proofs.ComparisonPrinciple.{below_main, above_main}
use Rattle.hyd_theorems_on_histories.specs.Agreement.{IsUnder, AgreesWith, IsKept}
use Rattle.hyd_theorems_on_histories.proofs.AgreementAtStart.{same_acts, agrees_at_start}
use Rattle.hyd_theorems_on_histories.proofs.AgreementAfterPeriod.{kept_at_start, kept_next, its_states, is_under}
use Rattle.hyd_theorems_on_histories.proofs.AgreementAfterPeriod.{lasts_so}
use Rattle.hyd_theorems_on_histories.proofs.AgreementAfterPeriod.{agrees_next}
use Rattle.hyd_theorems_on_histories.proofs.ListsByPlace.{all_after}
use Rattle.hyd_theorems_on_runs.proofs.ReportTimeLinesHold.{state_lines_hold}
use Rattle.hyd_theorems_on_runs.proofs.ReportLinesHold.{same-changes, covered, tank_holds, link_holds}
use Rattle.hyd_theorems_on_runs.proofs.ReportLinesHold.{control_lines_hold}
use Rattle.hyd_theorems_on_runs.proofs.ReportLinesHold.{end_lines_hold}

-- the periods of a history from one on
abbrev StartsAt : Project → ℕ → ℕ → List ℤ → List ℤ → List LinkState → List Period → Type 0
StartsAt project S time levels volumes commanded [] = ⊤
StartsAt project S time levels volumes commanded (period ∷ rest) =
    Begins project S time levels volumes commanded period × (IsPeriod project S period × GoesOn project S period rest)

from-start : (project : Project) (S : ℕ) (history : List Period) → IsHistory project S history
    → StartsAt project S 0 (initial_levels project S) (initial_volumes project S) (initial_links project) history
from-start project S [] is = tt
from-start project S (period ∷ rest) is = is

nothing-found : (project : Project) (S : ℕ) (commanded : List LinkState) (periods : List Period)
    → AllAgree project S commanded periods []
nothing-found project S commanded [] = tt
nothing-found project S commanded (period ∷ periods) = tt

no-length : (project : Project) (S : ℕ) (period : Period) → period.time ≡ project.times.duration
    → HasItsLength project S period → period.length ≡ 0
no-length project S period last (at_end is zero_long) = zero_long
no-length project S period last (before_end other least) = absurd (other last)

module _ (project : Project) (sound : IsSound project) (S : ℕ) (some : 0 < S) where
  module _ (found : Found) (is_found : IsFound project found) (kept : IsKept project found.standing)
      (time : ℕ) (levels volumes : List ℤ) (commanded : List LinkState)
      (agrees : AgreesWith project S found.standing time levels volumes commanded)
      (period : Period) (begins : Begins project S time levels volumes commanded period)
      (is : IsPeriod project S period) where
    under : IsUnder project S period found.grid found.standing found.row
    under = is_under project sound S some found.grid found.standing found.row found.next kept is_found.valid time levels
        volumes commanded agrees period begins is

    length-is : LeadsOn project found.grid found.standing found.row found.next → period.length ≡ found.row.length
    length-is (continues c) =
        (lasts_so project sound S some found.grid found.standing found.row found.next kept is_found.valid time levels
        volumes commanded agrees period begins is c).0
    length-is (finishes f) = no-length project S period (under.time ∙ f.is_last) is.lasts ∙ sym f.no_length

    its-length : period.length ≡ found.row.length
    its-length = length-is is_found.valid.leads_on

    changes : start_changes project found.standing.time (acts_on found.standing.levels) found.standing.commanded
        ≡ start_changes project period.time (acts_at S period.levels) commanded
    changes =
        let e : start_changes project time (acts_at S levels) commanded ≡ start_changes project time
        (acts_on found.standing.levels) commanded =
        same-changes project time (acts_at S levels) (acts_on found.standing.levels) 0 project.controls.list
        (same_acts project S time found.standing.levels levels some agrees.levels_lie kept.controls)
        (patterned project time commanded) in
        (λ i. start_changes project (sym agrees.time_is i) (acts_on found.standing.levels) (sym agrees.commanded_are i))
        ∙ sym e
        ∙ (λ i. start_changes project (sym begins.at_time i) (acts_at S (sym begins.at_levels i)) commanded)

    state-lines : (lines : List ReportLine) (b : Bool)
        → MatchBool b (AreStateLines project found.grid found.standing found.row lines) (lines ≡ [])
        → AllByRecursion (LineHolds project S commanded period) lines
    state-lines lines true are =
        let its-own = its_states project sound S some found.grid found.standing found.row found.next kept is_found.valid
        time levels volumes commanded agrees period begins is in
        state_lines_hold project S commanded period found.grid found.standing found.row
        (covered project sound S commanded period found.grid found.standing found.row under kept its-own
        agrees.commanded_are its-length) lines are under.time
        (tank_holds project sound S commanded period found.grid found.standing found.row under kept its-own
        agrees.commanded_are its-length)
        (link_holds project sound S commanded period found.grid found.standing found.row under kept its-own
        agrees.commanded_are its-length)
    state-lines lines false e = subst (AllByRecursion (LineHolds project S commanded period)) (sym e) tt

    lines-hold : IsReport project found.grid found.standing found.row found.lines
        → AllByRecursion (LineHolds project S commanded period) found.lines
    lines-hold report =
        let own = its_states project sound S some found.grid found.standing found.row found.next kept is_found.valid
        time levels volumes commanded agrees period begins is in
        subst (AllByRecursion (LineHolds project S commanded period)) (sym report.lines_are)
        (all_after ReportLine (LineHolds project S commanded period) _ _
        (control_lines_hold project sound S commanded period found.grid found.standing found.row under kept own
        agrees.commanded_are its-length changes)
        (all_after ReportLine (LineHolds project S commanded period) _ _
        (state-lines report.state (is_report_time project found.standing.time) report.state_are)
        (end_lines_hold project sound S commanded period found.grid found.standing found.row under kept own
        agrees.commanded_are its-length report.at_end report.at_end_are)))

    period-agrees : Agrees project S commanded period found
    period-agrees = record {
      time = under.time ∙ sym is_found.valid.time;
      length_is = its-length;
      tanks = under.tanks;
      links = under.links;
      above_lower = above_main project S period.time found.standing.levels period.levels period.tanks period.links
          period.assignment found.grid found.row.main.lower under.compared (under.certificates.each Main Lower tt);
      below_upper = below_main project S period.time found.standing.levels period.levels period.tanks period.links
          period.assignment found.grid found.row.main.upper under.compared (under.certificates.each Main Upper tt);
      lines_hold = lines-hold is_found.report;
    }

    -- what comes after it agrees with what was found after, where a history does that agrees with the next standing
    after-it : (rest : List Found)
        → (IsKept project found.next → (now : ℕ) (at with_volumes : List ℤ) (left : List LinkState)
        (periods : List Period) → AgreesWith project S found.next now at with_volumes left
        → StartsAt project S now at with_volumes left periods → AllAgree project S left periods rest)
        → (periods : List Period) → GoesOn project S period periods
        → AllAgree project S (commanded_after project S period) periods rest
    after-it rest go [] goes = tt
    after-it rest go (p ∷ ps) goes = by-case is_found.valid.leads_on
      where
        by-case : LeadsOn project found.grid found.standing found.row found.next
            → AllAgree project S (commanded_after project S period) (p ∷ ps) rest
        by-case (continues c) =
            go (kept_next project sound found.grid found.standing found.row found.next kept c)
            (period.time + period.length) p.levels p.volumes (commanded_after project S period) (p ∷ ps)
            (agrees_next project sound S some found.grid found.standing found.row found.next kept is_found.valid time
            levels volumes commanded agrees period begins is c p.levels p.volumes goes.0.stocks)
            (goes.0.begins, (goes.1.0, goes.1.1))
        by-case (finishes f) = absurd (goes.0.not_last (begins.at_time ∙ agrees.time_is ∙ f.is_last))

  pub run_agrees : (standing : Standing) (founds : List Found) (last : Standing)
      → IsRunFrom project standing founds last → IsKept project standing
      → (time : ℕ) (levels volumes : List ℤ) (commanded : List LinkState) (periods : List Period)
      → AgreesWith project S standing time levels volumes commanded
      → StartsAt project S time levels volumes commanded periods → AllAgree project S commanded periods founds
  run_agrees _ _ last none kept time levels volumes commanded periods agrees starts =
      nothing-found project S commanded periods
  run_agrees _ _ last (more {found = found} {rest = rest} is go) kept time levels volumes commanded [] agrees starts =
      tt
  run_agrees _ _ last (more {found = found} {rest = rest} is go) kept time levels volumes commanded (period ∷ periods)
      agrees starts = (
        period-agrees found is kept time levels volumes commanded agrees period starts.0 starts.1.0,
        after-it found is kept time levels volumes commanded agrees period starts.0 starts.1.0 rest
            (λ next now at with_volumes left others. run_agrees found.next rest last go next now at with_volumes left
            others) periods starts.1.1,
      )

pub every_history : (project : Project) → IsSound project → (founds : List Found) (last : Standing)
    → IsRun project founds last → EveryHistoryAgrees project founds
every_history project sound founds last run S some history is =
    run_agrees project sound S (omega (arith, some)) (initial_standing project) founds last run
    (kept_at_start project sound)
    0 (initial_levels project S) (initial_volumes project S) (initial_links project) history
    (agrees_at_start project S (omega (arith, some))) (from-start project S history is)
