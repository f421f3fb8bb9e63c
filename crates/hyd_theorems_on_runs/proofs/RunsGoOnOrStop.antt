-- Every standing that a run leaves keeps what standings keep, and a run that isn't finished goes on or stops.
use Rattle.std.proofs.Common.{◌≡◌, ℕ, refl, sym, subst, false, List, ◌⊎◌, inl, inr}
use Rattle.hyd_net.specs.Sound.{IsSound}
use Rattle.hyd_spec.specs.ProgramTypes.{Project}
use Rattle.hyd_spec_certificates.specs.RecordAndStanding.{Standing, initial_standing}
use Rattle.hyd_spec_certificates.specs.Valid.{LeadsOn, continues, finishes, Finishes}
use Rattle.hyd_spec_reports.specs.PromisesOfRunsAndChecks.{Found, IsFound, IsRunFrom, none, more, IsRun}
use Rattle.hyd_theorems_on_runs.proofs.OnePeriodMore.{run_more}
use Rattle.hyd_theorems_on_histories.specs.Agreement.{IsKept}
use Rattle.hyd_theorems_on_histories.proofs.AgreementAfterPeriod.{kept_at_start, kept_next}
use Rattle.hyd_theorems_on_nesting.specs.GoingOnOrStopped.{LeadsSomewhere, IsStopped}
use Rattle.hyd_theorems_on_runs.specs.LongerRuns.{IsLonger}
use Rattle.hyd_theorems_on_nesting.specs.StandingsOfRuns.{IsTidy}
use Rattle.hyd_theorems_on_nesting.proofs.TightVectorsDecide.{tidy_at_start, tidy_next}
use Rattle.hyd_theorems_on_runs.proofs.ReportsExist.{report_is}
use Rattle.hyd_theorems_on_nesting.proofs.RecordOrStop.{goes_on}

-- what a standing of a run keeps
record Keeps (project : Project) (standing : Standing) : Type 0 where
  kept : IsKept project standing
  tidy : IsTidy project standing

module _ (project : Project) (sound : IsSound project) where
  -- the period at the end of the run leaves what it found
  finished-keeps : (standing next : Standing) (found : Found) → Keeps project standing
      → Finishes project standing found.row next → Keeps project next
  finished-keeps standing next found keeps f = subst (Keeps project) (sym f.next_is) (record {
    kept = record { controls = keeps.kept.controls; levels = keeps.kept.levels; states = keeps.kept.states };
    tidy = record {
      levels_each = keeps.tidy.levels_each;
      volumes_each = keeps.tidy.volumes_each;
      tanks_each = keeps.tidy.tanks_each;
      ordered = keeps.tidy.ordered;
      in_time = keeps.tidy.in_time;
    };
  })

  next-keeps : (found : Found) → IsFound project found → Keeps project found.standing → Keeps project found.next
  next-keeps found is keeps = by-leading is.valid.leads_on
    where
      by-leading : LeadsOn project found.grid found.standing found.row found.next → Keeps project found.next
      by-leading (continues c) = record {
        kept = kept_next project sound found.grid found.standing found.row found.next keeps.kept c;
        tidy = tidy_next project sound found.standing found.grid found.row found.next keeps.kept keeps.tidy is.valid c;
      }
      by-leading (finishes f) = finished-keeps found.standing found.next found keeps f

  along : (standing : Standing) (founds : List Found) (last : Standing) → IsRunFrom project standing founds last
      → Keeps project standing → Keeps project last
  along _ _ last none keeps = keeps
  along _ _ last (more {found = found} {rest = rest} is go) keeps =
      along found.next rest last go (next-keeps found is keeps)

  run-keeps : (founds : List Found) (last : Standing) → IsRun project founds last → Keeps project last
  run-keeps founds last run = along (initial_standing project) founds last run
      (record { kept = kept_at_start project sound; tidy = tidy_at_start project sound })

  pub run_keeps : (founds : List Found) (last : Standing) → IsRun project founds last
      → IsKept project last × IsTidy project last
  run_keeps founds last run = let k = run-keeps founds last run in (k.kept, k.tidy)

  -- one more period, with its report
  longer : (founds : List Found) (last : Standing) → IsRun project founds last → Keeps project last
      → LeadsSomewhere project last → IsLonger project founds
  longer founds last run keeps leads =
      let report = report_is project sound leads.grid last leads.row keeps.kept keeps.tidy leads.valid.is_grid
      leads.next leads.valid.leads_on in
      let found : Found = record {
        standing = last;
        grid = leads.grid;
        row = leads.row;
        lines = report.0;
        next =
            leads.next;
      } in
      record {
        found = found;
        is_run = run_more project founds last found run refl
            (record { valid = leads.valid; report = report.1 });
      }

  pub run_goes_on : (founds : List Found) (last : Standing) → IsRun project founds last → last.finished ≡ false
      → (rounds : ℕ)
      → IsLonger project founds ⊎ IsStopped project last rounds
  run_goes_on founds last run unfinished rounds =
      let keeps = run-keeps founds last run in
      elim (goes_on project sound last keeps.kept unfinished rounds) [
        | inl leads ↦ inl (longer founds last run keeps leads)
        | inr stopped ↦ inr stopped
      ]
