-- What the steps of a run with a slack find and put in.
use Rattle.std.proofs.Common.{◌≡◌, ℕ, ◌<◌, ◌^◌, true, Option, Some, refl, sym, ap, subst, ◌∙◌}
use Rattle.std.specs.Prelude.{IfSome, Result}
use Rattle.hyd_io.specs.declared.output.OutFault.{OutFault}
use Rattle.hyd_spec.specs.ProgramTypes.{Project}
use Rattle.hyd_spec_certificates.specs.declared.StopCause.{StopCause}
use Rattle.hyd_spec_reports.specs.PromisesOfRunsAndChecks.{Outcome, Finished, Stopped}
use Rattle.hyd_spec_open_ends.specs.OpenStandings.{OpenStanding}
use Rattle.hyd_spec_open_ends.specs.OpenCertificateText.{open_record_text}
use Rattle.hyd_spec_open_ends.specs.PromisesOfOpenRuns.{EndsOpenlySo}
use Rattle.hyd_spec_open_reports.specs.PromisesOfOpenReports.{Reported}
use Rattle.hyd_cert.specs.RecordView.{row_of}
use Rattle.hyd_open_certificates.specs.OpenRowView.{open_record_of}
use Rattle.hyd_open_certificates.specs.declared.open_row.OpenRow.{OpenRow}
use Rattle.hyd_open_report.specs.OpenPeriodLines.{open_texts}
use Rattle.hyd_open_report.proofs.OpenReports.{is_report}
use Rattle.hyd_period_network.specs.NetAsPeriodNetwork.{grid_of}
use Rattle.hyd_run.specs.PassedOn.{NamesStuck}
use Rattle.hyd_run.specs.Pens.{RunMoment, PutIn, IsCutInOrder}
use Rattle.hyd_run.specs.Runs.{periods_left}
use Rattle.hyd_run.specs.declared.outcome.RunEnd.{RunEnd}
use Rattle.hyd_run.proofs.PeriodLemmas.{tank-facts-of, row-fits, grid-count}
use Rattle.hyd_open_run_so_far.specs.OpenRunSoFar.{Asked, IsEnd, IsSoFar, IsOpenStep, DidPeriod, LostPeriod, IsOver, StepPuts}
use Rattle.hyd_open_run_so_far.specs.OpenRunSoFar.{RunPuts}
use Rattle.hyd_open_sim.specs.RunView.{OpenSimView, IsOpenSim, standing_of}
use Rattle.hyd_open_sim.specs.Steps.{IsPeriod, found_between}
use Rattle.hyd_open_sim.specs.declared.open_settings.OpenSettings.{OpenSettings}
use Rattle.hyd_open_run.specs.PeriodsOfOpenRuns.{asked_of, IsOfPeriod, lines_left}
use Rattle.hyd_open_run.proofs.OpenPeriodLemmas.{number-next, fewer-left}

-- ---- a period that was done

-- it is what the run left
pub of-period : (before now : OpenSimView) → IsPeriod before now → IsOfPeriod now
of-period before now period = record {
  certificates = period.valid.certificates;
  have = period.have;
  order = period.order;
  states = period.states;
  links = period.links;
}

-- the numbers of its record
pub record AreSmall (found : OpenRow) : Type 0 where
  pub number : found.row.number < 2 ^ 32
  pub time : found.row.time < 2 ^ 32
  pub length : found.row.length < 2 ^ 32
  pub late : found.late < 2 ^ 32
  pub shortest : found.shortest < 2 ^ 32

-- what it found
abbrev pub reported : OpenSimView → OpenSimView → Reported
reported before now = record {
  here = found_between (standing_of before) (grid_of now.net) (open_record_of now.found) (standing_of now);
  lines = lines_left now;
}

module _ (before now : OpenSimView) (is : IsOpenSim now) (period : IsPeriod before now) (small : AreSmall now.found)
  where
    step-of : IsOpenStep now.project (asked_of now.settings) (standing_of before) (standing_of now) (reported before now)
    step-of = record {
      begins = refl;
      leaves = refl;
      valid = period.valid;
      within = period.within;
      report = is_report now.project now.net (row_of now.found.row) now.facts
          (record { start = now.found.late; end = now.close.late }) now.close.opened.list is.net
          (tank-facts-of now.project now.facts period.have) period.links (standing_of before) (open_record_of now.found)
          now.close.first period.valid.late refl period.facts;
      sharp = period.sharp;
      fits = record {
        row = row-fits now.project (grid_of now.net) (row_of now.found.row) (grid-count now.project now.net is.net)
            period.valid.certificates small.number small.time small.length;
        late_fits = small.late;
        shortest_fits = small.shortest;
      };
      number = number-next now.project (standing_of before) (grid_of now.net) (open_record_of now.found)
          (standing_of now) period.valid;
    }

    module _ (project : Project) (settings : OpenSettings)
        (p : now.project ≡ project) (s : now.settings ≡ settings) (m o : RunMoment) where
      -- it was put in
      pub did-there : PutIn (open_record_text (open_record_of now.found)) (open_texts now.project (lines_left now)) m o
          → DidPeriod project (asked_of settings) (standing_of before) (standing_of now) m o
          × (periods_left project (standing_of now).known < periods_left project (standing_of before).known)
      did-there put = (
        subst (λ (q : Project). DidPeriod q (asked_of settings) (standing_of before) (standing_of now) m o) p
            (subst (λ (t : OpenSettings). DidPeriod now.project (asked_of t) (standing_of before) (standing_of now) m o) s
            (record {
              each = reported before now;
              step = step-of;
              put = put;
            })),
        subst (λ (q : Project). periods_left q (standing_of now).known < periods_left q (standing_of before).known) p
            (fewer-left before now is step-of.number),
      )

      -- a fault cut it off
      pub lost-there : (fault : OutFault) → IsCutInOrder fault (open_record_text (open_record_of now.found))
          (open_texts now.project (lines_left now)) m o
          → LostPeriod fault project (asked_of settings) (standing_of before) (standing_of now) m o
      lost-there fault cut =
          subst (λ (q : Project). LostPeriod fault q (asked_of settings) (standing_of before) (standing_of now) m o) p
          (subst (λ (t : OpenSettings). LostPeriod fault now.project (asked_of t) (standing_of before) (standing_of now) m
          o) s
          (record {
            each = reported before now;
            step = step-of;
            cut_off = cut;
          }))

-- ---- a run that is over

module _ (before now : OpenSimView) (project : Project) (settings : OpenSettings) (p : now.project ≡ project)
    (s : now.settings ≡ settings) (moment : RunMoment) where
  -- it has finished
  pub over-finished : (standing_of before).known.finished ≡ true → now ≡ before
      → IsOver project (asked_of settings) Finished (standing_of before) (standing_of now) moment moment
  over-finished finished same = record {
    stays = ap standing_of same;
    end = record { ends_so = ap (λ (v : OpenSimView). (standing_of v).known.finished) same ∙ finished; names = tt };
    nothing = refl;
  }

  -- or its cause holds
  pub over-stopped : (cause : StopCause) → IsOpenSim now → now.stopped ≡ Some cause → standing_of now ≡ standing_of before
      → IsOver project (asked_of settings) (Stopped cause) (standing_of before) (standing_of now) moment moment
  over-stopped cause is stopped same =
      subst (λ (q : Project). IsOver q (asked_of settings) (Stopped cause) (standing_of before) (standing_of now) moment
      moment) p
      (subst (λ (t : OpenSettings). IsOver now.project (asked_of t) (Stopped cause) (standing_of before)
      (standing_of now) moment moment) s (record {
        stays = same;
        end = record {
          ends_so = subst (λ (o : Option StopCause). IfSome o (λ (c : StopCause). EndsOpenlySo now.project
              (standing_of now) now.settings.slack now.settings.search.rounds (Some c))) stopped is.stopped;
          names = subst (λ (o : Option StopCause). IfSome o (NamesStuck now.project (standing_of now).known
              now.settings.search.rounds)) stopped is.stuck;
        };
        nothing = refl;
      }))

-- ---- steps of one run

-- what a step does, by the network and the settings of the run's start
pub steps-as : (result : Result (Option RunEnd) OutFault) (p project : Project) (s settings : OpenSettings)
    (left next : OpenStanding) (m n : RunMoment) → p ≡ project → s ≡ settings
    → StepPuts result p (asked_of s) left next m n → StepPuts result project (asked_of settings) left next m n
steps-as result p project s settings left next m n e f puts =
    subst (λ (q : Project). StepPuts result q (asked_of settings) left next m n) e
    (subst (λ (t : OpenSettings). StepPuts result p (asked_of t) left next m n) f puts)

-- a run that has done no period stands at its start
pub begun-at : (project : Project) (asked : Asked) (first left : OpenStanding) (before now : RunMoment)
    → first ≡ left → IsSoFar project asked first before now → IsSoFar project asked left before now
begun-at project asked first left before now e so_far =
    subst (λ (s : OpenStanding). IsSoFar project asked s before now) e so_far

-- what the last lines make of a run, as of the network at its start
pub ended-as : (p project : Project) (asked : Asked) (left : OpenStanding) (outcome : Outcome)
    (result : Result RunEnd OutFault) (start before now : RunMoment) → p ≡ project
    → (IsEnd p asked left outcome → (x : RunMoment) → IsSoFar p asked left x before → RunPuts result p asked x now)
    → IsEnd project asked left outcome → IsSoFar project asked left start before → RunPuts result project asked start now
ended-as p project asked left outcome result start before now e puts ends so_far =
    subst (λ (q : Project). IsEnd q asked left outcome → (x : RunMoment) → IsSoFar q asked left x before
    → RunPuts result q asked x now) e puts ends start so_far
