-- A run without a spread, with its reports, is a run of the network with its grid on both sides, and its reports.
use Rattle.std.proofs.Common.{◌≡◌, ℕ, suc, List, [], ◌∷◌, refl, ap, subst, ◌∙◌, length, map}
use Rattle.std.specs.List.{AllByRecursion}
use Rattle.hyd_net.specs.Sound.{IsSound}
use Rattle.hyd_spec.specs.ProgramTypes.{Project}
use Rattle.hyd_spec_open_ends.specs.OpenRuns.{OpenFound, IsOpenRun, EveryKeepingHistoryAgrees}
use Rattle.hyd_spec_open_ends.specs.OpenStandings.{OpenStanding, OpenRecord}
use Rattle.hyd_spec_open_ends.specs.PromisesOfOpenRuns.{open_rows_of}
use Rattle.hyd_spec_open_reports.specs.OpenReportLine.{OpenLine}
use Rattle.hyd_spec_open_reports.specs.PromisesOfOpenReports.{Reported, AreReports, periods_of, open_lines_of}
use Rattle.hyd_spec_open_reports.specs.PromisesOfOpenReports.{EveryLineHolds, IsSharpOpenly}
use Rattle.hyd_spec_open_spreads.specs.OpenRunsForSpreads.{OpenFoundOver, IsOpenRunOverFrom, none, more}
use Rattle.hyd_spec_open_spreads.specs.OpenRunsForSpreads.{open_standing_within, IsOpenRunOver}
use Rattle.hyd_spec_reports.specs.PromisesOfRunsAndChecks.{Sharpness}
use Rattle.hyd_spec.specs.Lists.{joined}
use Rattle.hyd_spec_spread.specs.Spreads.{no_spread}
use Rattle.hyd_spec_spread_promises.specs.PromisesOfSpreadRuns.{rows_over}
use Rattle.hyd_spec_spread_promises.specs.SharpOverSpreads.{IsSharpWithin}
use Rattle.hyd_spec_spread_reports.specs.ClaimsWithinSpreads.{ReportedOver, AreReportsOver, periods_over, lines_over}
use Rattle.hyd_spec_spread_runs.specs.RunsForSpreads.{ArePairAt}
use Rattle.hyd_theorems_on_open_ends.proofs.HistoriesOverOpenEnds.{every_keeping_history}
use Rattle.hyd_theorems_on_open_reports.proofs.EveryLineHolds.{every_line}
use Rattle.hyd_theorems_on_open_spreads.specs.RunsAsOthers.{on_both_sides}
use Rattle.hyd_theorems_on_open_spreads.proofs.OpenRunsAlone.{run-alone}
use Rattle.hyd_theorems_on_spread_promises.specs.ReportsOnBothSides.{reported_on_both_sides}
use Rattle.hyd_theorems_on_spread_promises.proofs.OneNetwork.{one_twice}
use Rattle.hyd_theorems_on_spread_promises.proofs.SharpAlone.{sharp_alone}
use Rattle.hyd_theorems_on_spread_reports.proofs.ReportsAlone.{report_alone}

-- ---- one grid twice

-- what was found, and what was reported, on the grid of the upper side
abbrev above : OpenFoundOver → OpenFound
above here = record { standing = here.standing; grid = here.pair.upper; found = here.found; next = here.next }

abbrev reported-above : ReportedOver → Reported
reported-above each = record { here = above each.here; lines = each.lines }

module _ (project : Project) (sound : IsSound project) (slack : ℕ) where
  one-both : (here : OpenFoundOver) → ArePairAt project no_spread here.standing.known here.pair
      → here ≡ on_both_sides (above here)
  one-both here are = λ i. record {
    standing = here.standing;
    pair = one_twice project sound here.standing.known here.pair are i;
    found = here.found;
    next = here.next;
  }

  founds-both : (standing : OpenStanding) (founds : List OpenFoundOver) (last : OpenStanding)
      → IsOpenRunOverFrom project no_spread slack standing founds last
      → founds ≡ map on_both_sides (map above founds)
  founds-both _ _ last none = refl
  founds-both _ _ last (more {here = here} {rest = rest} valid within go) =
      let first = one-both here valid.are_pair in
      let others = founds-both here.next rest last go in
      λ i. first i ∷ others i

  reports-both : (standing : OpenStanding) (reports : List ReportedOver) (last : OpenStanding)
      → IsOpenRunOverFrom project no_spread slack standing (periods_over reports) last
      → reports ≡ map reported_on_both_sides (map reported-above reports)
  reports-both _ [] last run = refl
  reports-both _ (each ∷ reports) last (more valid within go) =
      let first : each ≡ reported_on_both_sides (reported-above each) =
      λ i. record { here = one-both each.here valid.are_pair i; lines = each.lines } in
      let others = reports-both each.here.next reports last go in
      λ i. first i ∷ others i

  pub founds_on_both_sides : (founds : List OpenFoundOver) (last : OpenStanding)
      → IsOpenRunOver project no_spread slack founds last
      → (opens : List OpenFound) × (founds ≡ map on_both_sides opens)
  founds_on_both_sides founds last run =
      (map above founds, founds-both (open_standing_within project no_spread) founds last run.run)

  pub reports_on_both_sides : (reports : List ReportedOver) (last : OpenStanding)
      → IsOpenRunOver project no_spread slack (periods_over reports) last
      → (opens : List Reported) × (reports ≡ map reported_on_both_sides opens)
  reports_on_both_sides reports last run =
      (map reported-above reports, reports-both (open_standing_within project no_spread) reports last run.run)

-- ---- reports on both sides

periods-same : (opens : List Reported)
    → periods_over (map reported_on_both_sides opens) ≡ map on_both_sides (periods_of opens)
periods-same [] = refl
periods-same (each ∷ opens) = ap (λ (fs : List OpenFoundOver). on_both_sides each.here ∷ fs) (periods-same opens)

rows-same : (opens : List Reported)
    → rows_over (periods_over (map reported_on_both_sides opens)) ≡ open_rows_of (periods_of opens)
rows-same [] = refl
rows-same (each ∷ opens) = ap (λ (rs : List OpenRecord). each.here.found ∷ rs) (rows-same opens)

lines-same : (opens : List Reported)
    → map (λ (each : ReportedOver). each.lines) (map reported_on_both_sides opens)
    ≡ map (λ (each : Reported). each.lines) opens
lines-same [] = refl
lines-same (each ∷ opens) = ap (λ (ls : List (List OpenLine)). each.lines ∷ ls) (lines-same opens)

count-same : (opens : List Reported) → length (map reported_on_both_sides opens) ≡ length opens
count-same [] = refl
count-same (each ∷ opens) = ap suc (count-same opens)

module _ (project : Project) where
  reports-alone : (opens : List Reported) → AreReportsOver project (map reported_on_both_sides opens)
      → AreReports project opens
  reports-alone [] all = tt
  reports-alone (each ∷ opens) all = (
    report_alone project each.here.grid each.here.standing each.here.found each.lines all.0,
    reports-alone opens all.1,
  )

  all-sharp : (sharpness : Sharpness) (opens : List Reported)
      → AllByRecursion (λ (each : ReportedOver). IsSharpWithin project no_spread sharpness each.here)
      (map reported_on_both_sides opens)
      → AllByRecursion (λ (each : Reported). IsSharpOpenly project sharpness each.here) opens
  all-sharp sharpness [] all = tt
  all-sharp sharpness (each ∷ opens) all = (
    sharp_alone project sharpness each.here all.0,
    all-sharp sharpness opens all.1,
  )

-- ---- the run of the network

-- Reports of a run of the network, from which these are told as well, and what every history has of them.
pub record AreToldOf (project : Project) (slack : ℕ) (told : List ReportedOver) (left : OpenStanding) : Type 0 where
  pub reports : List Reported
  pub is_run : IsOpenRun project slack (periods_of reports) left
  pub are_reports : AreReports project reports
  pub on_both : told ≡ map reported_on_both_sides reports
  pub rows : rows_over (periods_over told) ≡ open_rows_of (periods_of reports)
  pub lines : lines_over told ≡ open_lines_of reports
  pub count : length told ≡ length reports
  pub every_history : EveryKeepingHistoryAgrees project (periods_of reports)
  pub every_line : EveryLineHolds project reports

module _ (project : Project) (sound : IsSound project) (slack : ℕ) (told : List ReportedOver) (left : OpenStanding)
    (run : IsOpenRunOver project no_spread slack (periods_over told) left) (are : AreReportsOver project told) where
  abbrev opens : List Reported
  opens = (reports_on_both_sides project sound slack told left run).0

  both-sides : told ≡ map reported_on_both_sides opens
  both-sides = (reports_on_both_sides project sound slack told left run).1

  run-of-network : IsOpenRun project slack (periods_of opens) left
  run-of-network = run-alone project sound slack (periods_of opens) left
      (subst (λ (fs : List OpenFoundOver). IsOpenRunOver project no_spread slack fs left)
      (ap periods_over both-sides ∙ periods-same opens) run)

  its-reports : AreReports project opens
  its-reports = reports-alone project opens (subst (AreReportsOver project) both-sides are)

  pub told_alone : AreToldOf project slack told left
  told_alone = record {
    reports = opens;
    is_run = run-of-network;
    are_reports = its-reports;
    on_both = both-sides;
    rows = ap (λ (rs : List ReportedOver). rows_over (periods_over rs)) both-sides ∙ rows-same opens;
    lines = ap lines_over both-sides ∙ ap joined (lines-same opens);
    count = ap (λ (rs : List ReportedOver). length rs) both-sides ∙ count-same opens;
    every_history = every_keeping_history project sound slack (periods_of opens) left run-of-network;
    every_line = every_line project sound slack opens left run-of-network its-reports;
  }

-- its periods are as sharp
pub sharp_told : (project : Project) (slack : ℕ) (told : List ReportedOver) (left : OpenStanding)
    (sharpness : Sharpness) (alone : AreToldOf project slack told left)
    → AllByRecursion (λ (each : ReportedOver). IsSharpWithin project no_spread sharpness each.here) told
    → AllByRecursion (λ (each : Reported). IsSharpOpenly project sharpness each.here) alone.reports
sharp_told project slack told left sharpness alone sharp = all-sharp project sharpness alone.reports
    (subst (λ (rs : List ReportedOver).
    AllByRecursion (λ (each : ReportedOver). IsSharpWithin project no_spread sharpness each.here) rs) alone.on_both
    sharp)
