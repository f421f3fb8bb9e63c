-- What the steps of a run for a spread find and put in.
use Rattle.std.proofs.Common.{◌≡◌, ℕ, ◌<◌, ◌^◌, ◌⊎◌, inl, inr, Bool, true, false, Option, Some, refl, sym, ap, subst}
use Rattle.std.proofs.Common.{◌∙◌, ℤ, MatchBool}
use Rattle.std.specs.Prelude.{IfSome, Result}
use Rattle.hyd_io.specs.declared.output.OutFault.{OutFault}
use Rattle.hyd_spec.specs.ProgramTypes.{Project}
use Rattle.hyd_spec.specs.NodeNumbers.{tank_count}
use Rattle.hyd_spec_certificates.specs.declared.Side.TheVariants.{Upper}
use Rattle.hyd_spec_certificates.specs.declared.StopCause.{StopCause}
use Rattle.hyd_spec_reports.specs.PromisesOfRunsAndChecks.{Outcome, Finished, Stopped}
use Rattle.hyd_spec_open_checks.specs.OpenChecks.{open_header_for}
use Rattle.hyd_spec_open_ends.specs.OpenStandings.{OpenStanding}
use Rattle.hyd_spec_open_ends.specs.OpenCertificateText.{open_record_text}
use Rattle.hyd_spec_spread.specs.Spreads.{Spread}
use Rattle.hyd_spec_spread_runs.specs.OutermostPairs.{Pair}
use Rattle.hyd_spec_spread_runs.specs.RunsForSpreads.{StartIsDecided}
use Rattle.hyd_spec_spread_reports.specs.ClaimsWithinSpreads.{ReportedOver}
use Rattle.hyd_spec_spread_promises.specs.SharpOverSpreads.{AreTightOver, IsNarrowWithin}
use Rattle.hyd_spec_spread_stops.specs.StopsOfSpreads.{EndsOverSo}
use Rattle.hyd_cert.specs.RecordView.{row_of}
use Rattle.hyd_cert.specs.declared.record.Record.{Record as Row}
use Rattle.hyd_open_certificates.specs.OpenRowView.{open_record_of, open_header_of}
use Rattle.hyd_open_certificates.specs.declared.open_row.OpenRow.{OpenRow}
use Rattle.hyd_open_report.specs.OpenPeriodLines.{open_texts}
use Rattle.hyd_open_sim.specs.declared.open_settings.OpenSettings.{OpenSettings}
use Rattle.hyd_run.specs.Pens.{RunMoment, PutIn, IsCutInOrder}
use Rattle.hyd_run.specs.Runs.{periods_left}
use Rattle.hyd_run.specs.declared.outcome.RunEnd.{RunEnd}
use Rattle.hyd_run.proofs.PeriodLemmas.{tank-facts-of}
use Rattle.hyd_spread_networks.specs.NetsOfSpreads.{pair_of}
use Rattle.hyd_spread_report.proofs.SpreadReports.{is_report}
use Rattle.hyd_spread_run_so_far.specs.SpreadRunSoFar.{Asked, IsEnd, IsSoFar, IsSpreadStep, DidPeriod, LostPeriod}
use Rattle.hyd_spread_run_so_far.specs.SpreadRunSoFar.{IsOver, StepPuts, RunBegins, RunPuts}
use Rattle.hyd_spread_sim.specs.DuePeriods.{IsSharpOver}
use Rattle.hyd_spread_sim.specs.PeriodAttempt.{AreSoughtOver}
use Rattle.hyd_spread_sim.specs.SpreadRunView.{SpreadSimView, IsSpreadSim, standing_of}
use Rattle.hyd_spread_sim.specs.SpreadSteps.{IsPeriodOver}
use Rattle.hyd_spread_stops.specs.StuckOverSpreads.{NamesStuckOver}
use Rattle.hyd_spread_vectors.specs.VectorsOfBothNetworks.{Told}
use Rattle.hyd_spread_vectors.proofs.CertificatesOver.{are-tight}
use Rattle.hyd_spread_run.specs.PeriodsOfSpreadRuns.{asked_of, lines_left}
use Rattle.hyd_spread_run.proofs.SpreadPeriodLemmas.{of-leads, grid-counts, row-fits, number-next, fewer-left}

-- what holds of a network and what is asked, by the network, the settings and the spread of the run's start
asked-as : (P : Project → Asked → Type 0) (p project : Project) (s settings : OpenSettings) (r spread : Spread)
    → p ≡ project → s ≡ settings → r ≡ spread → P p (asked_of s r) → P project (asked_of settings spread)
asked-as P p project s settings r spread e f g holds =
    subst (λ (q : Project). P q (asked_of settings spread)) e
    (subst (λ (t : OpenSettings). P p (asked_of t spread)) f (subst (λ (x : Spread). P p (asked_of s x)) g holds))

-- ---- how sharp a period is

-- what was sought where tight vectors were asked for are the tight ones
sharp-by : (tight : Bool) (told : Told) (project : Project) (rounds : ℕ) (width : ℤ) (spread : Spread)
    (standing : OpenStanding) (pair : Pair) (row : Row) (next : OpenStanding)
    → MatchBool tight (AreSoughtOver true told pair (tank_count project) rounds (row_of row))
    (AreSoughtOver true told pair (tank_count project) rounds (row_of row)
    ⊎ (IsNarrowWithin width spread standing pair (row_of row) next
    × AreSoughtOver false told pair (tank_count project) rounds (row_of row)))
    → MatchBool tight (AreTightOver project pair (row_of row))
    (AreTightOver project pair (row_of row) ⊎ IsNarrowWithin width spread standing pair (row_of row) next)
sharp-by true told project rounds width spread standing pair row next sought =
    are-tight project told pair (tank_count project) row refl sought.each
sharp-by false told project rounds width spread standing pair row next (inl sought) =
    inl (are-tight project told pair (tank_count project) row refl sought.each)
sharp-by false told project rounds width spread standing pair row next (inr narrow) = inr narrow.0

-- ---- a period that was done

-- the numbers of its record
pub record AreSmall (found : OpenRow) : Type 0 where
  pub number : found.row.number < 2 ^ 32
  pub time : found.row.time < 2 ^ 32
  pub length : found.row.length < 2 ^ 32
  pub late : found.late < 2 ^ 32
  pub shortest : found.shortest < 2 ^ 32

-- what it found
abbrev pub reported : SpreadSimView → SpreadSimView → ReportedOver
reported before now = record {
  here = record {
    standing = standing_of before;
    pair = pair_of now.nets;
    found = open_record_of now.found;
    next = standing_of now;
  };
  lines = lines_left now;
}

-- its sharpness, as the step says it
abbrev pub IsSharpStep : Told → SpreadSimView → SpreadSimView → Type 0
IsSharpStep told before now =
    IsSharpOver told before.project before.settings before.nets.spread (standing_of before) (pair_of now.nets)
    (row_of now.found.row) (standing_of now)

module _ (told : Told) (before now : SpreadSimView) (is : IsSpreadSim now) (period : IsPeriodOver before now)
    (small : AreSmall now.found) (p : now.project ≡ before.project) (s : now.settings ≡ before.settings)
    (r : now.nets.spread ≡ before.nets.spread) (sharp : IsSharpStep told before now) where
  -- with the network, the settings and the spread of the run behind it
  sharp-now : IsSharpOver told now.project now.settings now.nets.spread (standing_of before) (pair_of now.nets)
      (row_of now.found.row) (standing_of now)
  sharp-now =
      subst (λ (q : Project). IsSharpOver told q now.settings now.nets.spread (standing_of before) (pair_of now.nets)
      (row_of now.found.row) (standing_of now)) (sym p)
      (subst (λ (t : OpenSettings). IsSharpOver told before.project t now.nets.spread (standing_of before)
      (pair_of now.nets) (row_of now.found.row) (standing_of now)) (sym s)
      (subst (λ (x : Spread). IsSharpOver told before.project before.settings x (standing_of before)
      (pair_of now.nets) (row_of now.found.row) (standing_of now)) (sym r) sharp))

  step-of : IsSpreadStep now.project (asked_of now.settings now.nets.spread) (standing_of before) (standing_of now)
      (reported before now)
  step-of = record {
    begins = refl;
    leaves = refl;
    valid = period.leads.valid;
    within = period.within;
    report = is_report now.project now.nets.upper now.nets.lower (row_of now.found.row) now.facts
        (record { start = now.found.late; end = now.close.late }) now.close.opened.list (is.nets.each Upper)
        (of-leads now is (standing_of before) period.leads).pair
        (tank-facts-of now.project now.facts period.leads.have) (period.leads.links Upper) (standing_of before)
        (open_record_of now.found) now.close.first period.leads.valid.late refl period.leads.facts_are;
    sharp = sharp-by now.settings.search.tight told now.project now.settings.search.rounds now.settings.search.width
        now.nets.spread (standing_of before) (pair_of now.nets) now.found.row (standing_of now) sharp-now;
    fits = record {
      row = row-fits now.project (pair_of now.nets) (row_of now.found.row)
          (grid-counts now.project now.nets is.nets) period.leads.valid.certificates small.number small.time
          small.length;
      late_fits = small.late;
      shortest_fits = small.shortest;
    };
    number = number-next now.project now.nets.spread (standing_of before) (pair_of now.nets)
        (open_record_of now.found) (standing_of now) period.leads.valid;
  }

  module _ (m o : RunMoment) where
    -- it was put in
    pub did-there : PutIn (open_record_text (open_record_of now.found)) (open_texts now.project (lines_left now)) m o
        → DidPeriod before.project (asked_of before.settings before.nets.spread) (standing_of before)
        (standing_of now) m o
        × (periods_left before.project (standing_of now).known
        < periods_left before.project (standing_of before).known)
    did-there put = (
      asked-as (λ (q : Project) (asked : Asked). DidPeriod q asked (standing_of before) (standing_of now) m o)
          now.project before.project now.settings before.settings now.nets.spread before.nets.spread p s r (record {
            each = reported before now;
            step = step-of;
            put = put;
          }),
      subst (λ (q : Project). periods_left q (standing_of now).known < periods_left q (standing_of before).known) p
          (fewer-left before now is step-of.number),
    )

    -- a fault cut it off
    pub lost-there : (fault : OutFault) → IsCutInOrder fault (open_record_text (open_record_of now.found))
        (open_texts now.project (lines_left now)) m o
        → LostPeriod fault before.project (asked_of before.settings before.nets.spread) (standing_of before)
        (standing_of now) m o
    lost-there fault cut =
        asked-as (λ (q : Project) (asked : Asked). LostPeriod fault q asked (standing_of before) (standing_of now) m o)
        now.project before.project now.settings before.settings now.nets.spread before.nets.spread p s r (record {
          each = reported before now;
          step = step-of;
          cut_off = cut;
        })

-- ---- a run that is over

module _ (before now : SpreadSimView) (p : now.project ≡ before.project) (s : now.settings ≡ before.settings)
    (r : now.nets.spread ≡ before.nets.spread) (moment : RunMoment) where
  -- it has finished
  pub over-finished : (standing_of before).known.finished ≡ true → now ≡ before
      → IsOver before.project (asked_of before.settings before.nets.spread) Finished (standing_of before)
      (standing_of now) moment moment
  over-finished finished same = record {
    stays = ap standing_of same;
    end = record {
      ends_so = ap (λ (v : SpreadSimView). (standing_of v).known.finished) same ∙ finished;
      names = tt;
    };
    nothing = refl;
  }

  -- or its cause holds
  pub over-stopped : (cause : StopCause) → IsSpreadSim now → now.stopped ≡ Some cause
      → standing_of now ≡ standing_of before
      → IsOver before.project (asked_of before.settings before.nets.spread) (Stopped cause) (standing_of before)
      (standing_of now) moment moment
  over-stopped cause is stopped same =
      asked-as (λ (q : Project) (asked : Asked). IsOver q asked (Stopped cause) (standing_of before) (standing_of now)
      moment moment) now.project before.project now.settings before.settings now.nets.spread before.nets.spread p s r
      (record {
        stays = same;
        end = record {
          ends_so = subst (λ (o : Option StopCause). IfSome o (λ (c : StopCause). EndsOverSo now.project
              now.nets.spread (standing_of now) now.settings.slack now.settings.search.rounds (Some c))) stopped
              is.stopped;
          names = subst (λ (o : Option StopCause). IfSome o (NamesStuckOver now.project now.nets.spread
              (standing_of now).known now.settings.search.rounds)) stopped is.stuck;
        };
        nothing = refl;
      })

-- ---- steps of one run

-- what a step does, by the network, the settings and the spread of the run's start
pub steps-as : (result : Result (Option RunEnd) OutFault) (p project : Project) (s settings : OpenSettings)
    (r spread : Spread) (left next : OpenStanding) (m n : RunMoment) → p ≡ project → s ≡ settings → r ≡ spread
    → StepPuts result p (asked_of s r) left next m n → StepPuts result project (asked_of settings spread) left next m n
steps-as result p project s settings r spread left next m n e f g puts =
    asked-as (λ (q : Project) (asked : Asked). StepPuts result q asked left next m n) p project s settings r spread e f
    g puts

-- ---- the first and the last lines

-- what the first lines give, by the run
pub begun-by : (sim : SpreadSimView) → IsSpreadSim sim → (project : Project) (found : OpenRow) (rows : Spread)
    (result : Result (Unit {0}) OutFault) (m n : RunMoment) → project ≡ sim.project → found ≡ sim.found
    → rows ≡ sim.nets.spread
    → ((asked : Asked) → asked.spread ≡ rows → open_header_of found ≡ open_header_for project
    → StartIsDecided project asked.spread → RunBegins result project asked m n)
    → RunBegins result sim.project (asked_of sim.settings sim.nets.spread) m n
begun-by sim is project found rows result m n p f r begins =
    subst (λ (q : Project). RunBegins result q (asked_of sim.settings sim.nets.spread) m n) p
    (begins (asked_of sim.settings sim.nets.spread) (sym r)
    (ap open_header_of f ∙ (is.header ∙ ap open_header_for (sym p)))
    (subst (λ (q : Project). StartIsDecided q sim.nets.spread) (sym p) is.decided))

-- a run that has done no period stands at its start
pub begun-at : (project : Project) (asked : Asked) (first left : OpenStanding) (before now : RunMoment)
    → first ≡ left → IsSoFar project asked first before now → IsSoFar project asked left before now
begun-at project asked first left before now e so_far =
    subst (λ (s : OpenStanding). IsSoFar project asked s before now) e so_far

-- what the last lines make of a run, as of the network at its start
pub ended-as : (p project : Project) (asked : Asked) (left : OpenStanding) (outcome : Outcome)
    (result : Result RunEnd OutFault) (start before now : RunMoment) → p ≡ project
    → (IsEnd p asked left outcome → (x : RunMoment) → IsSoFar p asked left x before → RunPuts result p asked x now)
    → IsEnd project asked left outcome → IsSoFar project asked left start before
    → RunPuts result project asked start now
ended-as p project asked left outcome result start before now e puts ends so_far =
    subst (λ (q : Project). IsEnd q asked left outcome → (x : RunMoment) → IsSoFar q asked left x before
    → RunPuts result q asked x now) e puts ends start so_far
