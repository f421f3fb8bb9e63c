-- Every history's flows lie in the intervals of the FLOW lines.
use Rattle.std.proofs.Common.{◌≡◌, ℕ, zero, suc, ◌+◌, ◌<◌, ℤ, sym, subst, ◌∙◌, arith, Bool, true, false, MatchBool}
use Rattle.std.proofs.Common.{List, [], ◌∷◌, length, All, refl}
use Rattle.std.specs.Prelude.{⊤, Some, slice_get}
use Rattle.std.specs.List.{AllByRecursion, AllZip}
use Rattle.std.proofs.lemmas.List.Elements.{All-head, All-tail}
use Rattle.hyd_num.specs.PrintedDecimals.{flow_quantity}
use Rattle.hyd_net.specs.Sound.{IsSound}
use Rattle.hyd_spec.specs.ProgramTypes.{Project, Link, LinkState}
use Rattle.hyd_spec.specs.declared.TankState.{TankState}
use Rattle.hyd_spec.specs.Assignment.{flow_at}
use Rattle.hyd_spec.specs.PeriodLength.{Period}
use Rattle.hyd_spec.specs.History.{Begins, IsPeriod, GoesOn, IsHistory, initial_levels, initial_volumes, initial_links}
use Rattle.hyd_spec.specs.History.{commanded_after}
use Rattle.hyd_spec_certificates.specs.declared.Problem.TheVariants.{Main}
use Rattle.hyd_spec_certificates.specs.declared.Side.{Side}
use Rattle.hyd_spec_certificates.specs.declared.Side.TheVariants.{Upper, Lower}
use Rattle.hyd_spec_certificates.specs.PeriodNetwork.{Grid, GridLink, grid_links}
use Rattle.hyd_spec_certificates.specs.RecordAndStanding.{Record, Standing, initial_standing}
use Rattle.hyd_spec_certificates.specs.Valid.{LeadsOn, continues, finishes}
use Rattle.hyd_spec_certificates.specs.PrintedIntervals.{is_report_time}
use Rattle.hyd_spec_reports.specs.PromisesOfRunsAndChecks.{Found, IsFound, IsRunFrom, none, more, IsRun}
use Rattle.hyd_spec_flows.specs.FlowParts.{NamedLink, FlowPart, HasItsVector, IsFlowPart, JoinsJunctions, flow_interval}
use Rattle.hyd_spec_reports_with_flows.specs.FlowLines.{FlowLine, IsFlowLine, AreFlowLines, FlowHolds}
use Rattle.hyd_spec_reports_with_flows.specs.PromisesWithFlows.{FoundNaming, IsFoundNaming, founds_in, AllFlowsHold}
use Rattle.hyd_spec_reports_with_flows.specs.PromisesWithFlows.{EveryHistoryAgreesNaming}
use Rattle.hyd_lemmas.proofs.ListsOptionsAndResults.{same_item}
use Rattle.hyd_theorems_on_definitions.specs.LyingInIntervals.{LiesIn}
use Rattle.hyd_theorems_on_definitions.proofs.HeldFlows.{held_flow}
use Rattle.hyd_theorems_on_histories.specs.Agreement.{IsUnder, AgreesWith, IsKept}
use Rattle.hyd_theorems_on_histories.proofs.AgreementAtStart.{agrees_at_start}
use Rattle.hyd_theorems_on_histories.proofs.AgreementAfterPeriod.{kept_at_start, kept_next, is_under, agrees_next}
use Rattle.hyd_theorems_on_runs.proofs.HistoriesAlongRuns.{every_history}
use Rattle.hyd_theorems_on_histories.proofs.PrintedValues.{prints_hold, flow_proportional}
use Rattle.hyd_theorems_on_flows.proofs.IntervalsInOrder.{same_vector}

-- ---- one line

-- a link of the grid is one of the network
link_there : (project : Project) (tanks : List TankState) (links : List Link) (states : List LinkState) (l : ℕ)
    (place : GridLink) → slice_get (grid_links project tanks links states) l ≡ Some place
    → (link : Link) × (slice_get links l ≡ Some link)
link_there project tanks [] states l place at = absurd (cc)
link_there project tanks (link ∷ links) [] l place at = absurd (cc)
link_there project tanks (link ∷ links) (state ∷ states) zero place at = (link, refl)
link_there project tanks (link ∷ links) (state ∷ states) (suc l) place at =
    link_there project tanks links states l place at

module _ (project : Project) (S : ℕ) (period : Period) (grid : Grid) (standing : Standing) (row : Record)
    (under : IsUnder project S period grid standing row) where
  -- the flow of a named link lies in its interval
  interval_holds : (named : NamedLink) (link : GridLink) → slice_get grid.links named.link ≡ Some link
      → JoinsJunctions grid named.link → ((side : Side) → HasItsVector grid row named side)
      → LiesIn S (flow_interval link named) (flow_at period.assignment.flows named.link)
  interval_holds named link at joins has =
      let same = same_item GridLink joins.0 link (sym joins.1.0 ∙ at) in
      held_flow project S period.time standing.levels period.levels period.tanks period.links period.assignment grid
      row.main.lower row.main.upper named.held.lower named.held.upper named.link link under.compared
      (under.certificates.each Main Lower tt) (under.certificates.each Main Upper tt) at
      (subst (λ (l : GridLink). l.from < length grid.junctions) same joins.1.1.0)
      (subst (λ (l : GridLink). l.to < length grid.junctions) same joins.1.1.1)
      (same_vector grid row named link Lower at (has Lower)) (same_vector grid row named link Upper at (has Upper))

  line_holds : (named : NamedLink) (each : FlowLine) → JoinsJunctions grid named.link
      → ((side : Side) → HasItsVector grid row named side) → IsFlowLine project grid standing.time named each
      → FlowHolds project S period each
  line_holds named each joins has line =
      let in_grid = subst (λ (ls : List GridLink). slice_get ls named.link ≡ Some line.link)
      under.compared.is_grid.links_are line.is_link in
      let there = link_there project period.tanks project.links.list period.links named.link line.link in_grid in
      subst (FlowHolds project S period) (sym line.is_line) (record {
        begins = under.time;
        link = there.0;
        is_link = there.1;
        flow_lies = prints_hold S (flow_quantity project.options.unit) (flow_proportional project.options.unit)
            (flow_interval line.link named) line.ends (flow_at period.assignment.flows named.link) line.prints
            (interval_holds named line.link line.is_link joins has);
      })

  -- ---- the lines of a period

  each_holds : (part : FlowPart) (lines : List FlowLine) → All (λ named. JoinsJunctions grid named.link) part
      → All (λ named. (side : Side) → HasItsVector grid row named side) part
      → AllZip (IsFlowLine project grid standing.time) part lines
      → AllByRecursion (FlowHolds project S period) lines
  each_holds [] [] joins has are = tt
  each_holds [] (each ∷ lines) joins has are = absurd are
  each_holds (named ∷ part) [] joins has are = absurd are
  each_holds (named ∷ part) (each ∷ lines) joins has are =
      let P : NamedLink → Type 0 = λ named. JoinsJunctions grid named.link in
      let Q : NamedLink → Type 0 = λ named. (side : Side) → HasItsVector grid row named side in (
        line_holds named each (All-head P named part joins) (All-head Q named part has) are.0,
        each_holds part lines (All-tail P named part joins) (All-tail Q named part has) are.1,
      )

  lines_hold : (part : FlowPart) (lines : List FlowLine) (b : Bool) → IsFlowPart grid row part
      → MatchBool b (AllZip (IsFlowLine project grid standing.time) part lines) (lines ≡ [])
      → AllByRecursion (FlowHolds project S period) lines
  lines_hold part lines true is are = each_holds part lines is.joins is.vectors are
  lines_hold part lines false is empty = subst (AllByRecursion (FlowHolds project S period)) (sym empty) tt

  pub period_holds : (part : FlowPart) (lines : List FlowLine) → IsFlowPart grid row part
      → AreFlowLines project grid standing part lines → AllByRecursion (FlowHolds project S period) lines
  period_holds part lines is are = lines_hold part lines (is_report_time project standing.time) is are

-- ---- along a run

-- the periods of a history from one on
abbrev StartsAt : Project → ℕ → ℕ → List ℤ → List ℤ → List LinkState → List Period → Type 0
StartsAt project S time levels volumes commanded [] = ⊤
StartsAt project S time levels volumes commanded (period ∷ rest) =
    Begins project S time levels volumes commanded period × (IsPeriod project S period × GoesOn project S period rest)

from_start : (project : Project) (S : ℕ) (history : List Period) → IsHistory project S history
    → StartsAt project S 0 (initial_levels project S) (initial_volumes project S) (initial_links project) history
from_start project S [] is = tt
from_start project S (period ∷ rest) is = is

-- the first period of a run, and the rest of it
record RunStep (project : Project) (standing : Standing) (found : Found) (rest : List Found) (last : Standing) : Type 0
  where
    pub at : standing ≡ found.standing
    pub is : IsFound project found
    pub goes : IsRunFrom project found.next rest last

run_step : (project : Project) (standing last : Standing) (founds : List Found) (found : Found) (rest : List Found)
    → IsRunFrom project standing founds last → founds ≡ found ∷ rest → RunStep project standing found rest last
run_step project _ last _ found rest none e = absurd (cc)
run_step project _ last _ found rest (more {found = first} {rest = others} is goes) e =
    let same : first ≡ found = cc in
    let after : others ≡ rest = cc in
    record {
      at = (λ i. (same i).standing);
      is = subst (IsFound project) same is;
      goes = subst (λ (fs : List Found). IsRunFrom project found.next fs last) after
          (subst (λ (f : Found). IsRunFrom project f.next others last) same goes);
    }

nothing_named : (project : Project) (S : ℕ) (periods : List Period) → AllFlowsHold project S periods []
nothing_named project S [] = tt
nothing_named project S (period ∷ periods) = tt

module _ (project : Project) (sound : IsSound project) (S : ℕ) (some : 0 < S) where
  -- what comes after a period holds, where it does of a history that agrees with the next standing
  flows_after : (found : Found) → IsFound project found → IsKept project found.standing
      → (time : ℕ) (levels volumes : List ℤ) (commanded : List LinkState)
      → AgreesWith project S found.standing time levels volumes commanded
      → (period : Period) → Begins project S time levels volumes commanded period → IsPeriod project S period
      → (rest : List FoundNaming)
      → (IsKept project found.next → (now : ℕ) (at with_volumes : List ℤ) (left : List LinkState)
      (periods : List Period) → AgreesWith project S found.next now at with_volumes left
      → StartsAt project S now at with_volumes left periods → AllFlowsHold project S periods rest)
      → (periods : List Period) → GoesOn project S period periods → AllFlowsHold project S periods rest
  flows_after found is_found kept time levels volumes commanded agrees period begins is rest go [] goes = tt
  flows_after found is_found kept time levels volumes commanded agrees period begins is rest go (p ∷ ps) goes =
      by_case is_found.valid.leads_on
    where
      by_case : LeadsOn project found.grid found.standing found.row found.next → AllFlowsHold project S (p ∷ ps) rest
      by_case (continues c) =
          go (kept_next project sound found.grid found.standing found.row found.next kept c)
          (period.time + period.length) p.levels p.volumes (commanded_after project S period) (p ∷ ps)
          (agrees_next project sound S some found.grid found.standing found.row found.next kept is_found.valid time
          levels volumes commanded agrees period begins is c p.levels p.volumes goes.0.stocks)
          (goes.0.begins, (goes.1.0, goes.1.1))
      by_case (finishes f) = absurd (goes.0.not_last (begins.at_time ∙ agrees.time_is ∙ f.is_last))

  flows_along : (namings : List FoundNaming) (standing last : Standing)
      → IsRunFrom project standing (founds_in namings) last → AllByRecursion (IsFoundNaming project) namings
      → IsKept project standing
      → (time : ℕ) (levels volumes : List ℤ) (commanded : List LinkState) (periods : List Period)
      → AgreesWith project S standing time levels volumes commanded
      → StartsAt project S time levels volumes commanded periods → AllFlowsHold project S periods namings
  flows_along [] standing last run parts kept time levels volumes commanded periods agrees starts =
      nothing_named project S periods
  flows_along (naming ∷ namings) standing last run parts kept time levels volumes commanded [] agrees starts = tt
  flows_along (naming ∷ namings) standing last run parts kept time levels volumes commanded (period ∷ periods) agrees
      starts =
      let found = naming.found in
      let step = run_step project standing last (founds_in (naming ∷ namings)) found (founds_in namings) run refl in
      let kept_here = subst (IsKept project) step.at kept in
      let agrees_here = subst (λ (s : Standing). AgreesWith project S s time levels volumes commanded) step.at agrees in
      let under = is_under project sound S some found.grid found.standing found.row found.next kept_here step.is.valid
      time levels volumes commanded agrees_here period starts.0 starts.1.0 in (
        period_holds project S period found.grid found.standing found.row under naming.part naming.flows parts.0.held
            parts.0.lines,
        flows_after found step.is kept_here time levels volumes commanded agrees_here period starts.0 starts.1.0 namings
            (λ next now at with_volumes left others. flows_along namings found.next last step.goes parts.1 next now at
            with_volumes left others) periods starts.1.1,
      )

pub every_flow : (project : Project) → IsSound project → (namings : List FoundNaming) (last : Standing)
    → IsRun project (founds_in namings) last → AllByRecursion (IsFoundNaming project) namings
    → EveryHistoryAgreesNaming project namings
every_flow project sound namings last run parts = record {
  agrees = every_history project sound (founds_in namings) last run;
  flows_hold = λ S some history is. flows_along project sound S (omega (arith, some)) namings (initial_standing project)
      last run parts (kept_at_start project sound) 0 (initial_levels project S) (initial_volumes project S)
      (initial_links project) history (agrees_at_start project S (omega (arith, some)))
      (from_start project S history is);
}
