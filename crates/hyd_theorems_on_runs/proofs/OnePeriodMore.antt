-- Histories, runs and certificates grow by a period at their end, and a front of each is one.
use Rattle.std.proofs.Common.{◌≡◌, ◌≢◌, ℕ, ◌+◌, ◌<◌, ◌≤◌, List, [], ◌∷◌, ◌++◌, subst, arith}
use Rattle.hyd_spec.specs.ProgramTypes.{Project}
use Rattle.hyd_spec.specs.PeriodLength.{Period, EndsByClock, step, duration, pattern, report, control_time}
use Rattle.hyd_spec.specs.PeriodLength.{control_clock}
use Rattle.hyd_spec.specs.PeriodLength.{MayEnd, by_clock, by_level, by_rules, HasItsLength, at_end, before_end}
use Rattle.hyd_spec.specs.History.{IsPeriod, ComesAfter, GoesOn, IsHistory}
use Rattle.hyd_spec_certificates.specs.PeriodNetwork.{Grid}
use Rattle.hyd_spec_certificates.specs.RecordAndStanding.{Record, Standing, initial_standing}
use Rattle.hyd_spec_certificates.specs.Valid.{IsValid, AreValidFrom, none as none_valid, more as more_valid}
use Rattle.hyd_spec_reports.specs.PromisesOfRunsAndChecks.{Found, IsFound, IsRunFrom, none as none_run}
use Rattle.hyd_spec_reports.specs.PromisesOfRunsAndChecks.{more as more_run}

-- ---- histories

module _ (project : Project) (S : ℕ) where
  goes-on-more : (first : Period) (periods : List Period) (last period : Period) → GoesOn project S first
      (periods ++ (last ∷ []))
      → ComesAfter project S last period → IsPeriod project S period → GoesOn project S first
      (periods ++ (last ∷ (period ∷ [])))
  goes-on-more first [] last period on after is = (on.0, (on.1.0, (after, (is, tt))))
  goes-on-more first (next ∷ periods) last period on after is =
      (on.0, (on.1.0, goes-on-more next periods last period on.1.1 after is))

  pub history_more : (periods : List Period) (last period : Period) → IsHistory project S (periods ++ (last ∷ []))
      → ComesAfter project S last period → IsPeriod project S period → IsHistory project S
      (periods ++ (last ∷ (period ∷ [])))
  history_more [] last period history after is = (history.0, (history.1.0, (after, (is, tt))))
  history_more (first ∷ periods) last period history after is =
      (history.0, (history.1.0, goes-on-more first periods last period history.1.1 after is))

  goes-on-front : (first : Period) (front rest : List Period) → GoesOn project S first (front ++ rest)
      → GoesOn project S first front
  goes-on-front first [] rest on = tt
  goes-on-front first (next ∷ front) rest on = (on.0, (on.1.0, goes-on-front next front rest on.1.1))

  pub history_front : (front rest : List Period) → IsHistory project S (front ++ rest) → IsHistory project S front
  history_front [] rest history = tt
  history_front (first ∷ front) rest history = (history.0, (history.1.0, goes-on-front first front rest history.1.1))

-- ---- runs and certificates

module _ (project : Project) where
  run-from-more : (start : Standing) (founds : List Found) (last : Standing) (found : Found)
      → IsRunFrom project start founds last
      → found.standing ≡ last → IsFound project found → IsRunFrom project start (founds ++ (found ∷ [])) found.next
  run-from-more _ _ last found none_run at is =
      subst (λ (s : Standing). IsRunFrom project s (found ∷ []) found.next) at (more_run is none_run)
  run-from-more _ _ last found (more_run {found = first} {rest = rest} here on) at is =
      more_run here (run-from-more first.next rest last found on at is)

  pub run_more : (founds : List Found) (last : Standing) (found : Found) → IsRunFrom project
      (initial_standing project) founds last
      → found.standing ≡ last → IsFound project found
      → IsRunFrom project (initial_standing project) (founds ++ (found ∷ [])) found.next
  run_more founds last found run at is = run-from-more (initial_standing project) founds last found run at is

  valid-from-more : (start : Standing) (rows : List Record) (last next : Standing) (grid : Grid) (row : Record)
      → AreValidFrom project start rows last → IsValid project last grid row next
      → AreValidFrom project start (rows ++ (row ∷ [])) next
  valid-from-more _ _ last next grid row none_valid is = more_valid grid is none_valid
  valid-from-more _ _ last next grid row (more_valid {next = after} {rows = rows} first here on) is =
      more_valid first here (valid-from-more after rows last next grid row on is)

  pub valid_more : (rows : List Record) (last next : Standing) (grid : Grid) (row : Record)
      → AreValidFrom project (initial_standing project) rows last → IsValid project last grid row next
      → AreValidFrom project (initial_standing project) (rows ++ (row ∷ [])) next
  valid_more rows last next grid row valid is = valid-from-more
      (initial_standing project) rows last next grid row valid is

-- ---- lengths

pub after_start : (project : Project) (time e : ℕ) → EndsByClock project time e → time < e
after_start project time e (step later is) = later
after_start project time e (duration later is) = later
after_start project time e (pattern later is) = later
after_start project time e (report later begun is) = later
after_start project time e (control_time control within is later) = later
after_start project time e (control_clock control at within is shown later) = later

may-end-later : (project : Project) (S : ℕ) (period : Period) (e : ℕ) → MayEnd project S period e → period.time < e
may-end-later project S period e (by_clock ends) = after_start project period.time e ends
may-end-later project S period e (by_level seconds some is ends) = omega (arith, some, is)
may-end-later project S period e (by_rules ends) = ends.later

pub some_length : (project : Project) (S : ℕ) (period : Period) → HasItsLength project S period
    → period.time ≢ project.times.duration → 1 ≤ period.length
some_length project S period (at_end last none) earlier = absurd (earlier last)
some_length project S period (before_end later least) earlier =
    let l = may-end-later project S period (period.time + period.length) least.holds in omega (arith, l)
