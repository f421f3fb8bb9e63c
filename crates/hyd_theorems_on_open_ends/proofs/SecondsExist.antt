-- Of each period that begins before the end of the run there are the seconds to the next instant of the clock, and
-- under each record with certificates an earliest and a latest second of what is watched, in order.
use Rattle.std.proofs.Common.{◌≡◌, ◌≢◌, ℕ, zero, suc, ◌+◌, ◌-◌, ◌%◌, ◌<◌, ◌≤◌, refl, ap, subst, ◌∙◌, arith, Bool}
use Rattle.std.proofs.Common.{true}
use Rattle.std.proofs.Common.{false, ◌==◌, List, [], ◌∷◌, ◌⊎◌, inl, inr}
use Rattle.std.specs.Prelude.{Option, Some, None, slice_get, Contains}
use Rattle.std.specs.Option.{option_map_or}
use Rattle.std.proofs.lemmas.Bool.{cases_lt, cases_eq, eqb-true, eq-eqb}
use Rattle.hyd_spec.specs.ProgramTypes.{Project, Tank, Control, When, AtLevel, AtTime, AtClock}
use Rattle.hyd_spec.specs.PumpPatternsAndSimpleControls.{clock_at}
use Rattle.hyd_spec.specs.Tank.{walls_of}
use Rattle.hyd_spec.specs.PeriodLength.{IsLeast}
use Rattle.hyd_spec_certificates.specs.Stocks.{may_reach, must_reach}
use Rattle.hyd_spec_certificates.specs.PeriodNetwork.{Grid}
use Rattle.hyd_spec_certificates.specs.RecordAndStanding.{Record, Standing}
use Rattle.hyd_spec_certificates.specs.Decided.{Watch, watches, stocks_of_tank, inflow_of_tank, SomeReaches}
use Rattle.hyd_spec_certificates.specs.Decided.{SomeMayReach, SomeMustReach}
use Rattle.hyd_spec_open_ends.specs.InstantsOfClock.{IsInstant, duration, pattern, report, control_time, control_clock}
use Rattle.hyd_spec_open_ends.specs.InstantsOfClock.{AreSecondsToInstant}
use Rattle.hyd_spec_open_ends.specs.OpenEnds.{AreSeconds}
use Rattle.hyd_lemmas.proofs.ListsOptionsAndResults.{same_item}
use Rattle.hyd_theorems_on_definitions.proofs.DecidedByEnds.{must_may}
use Rattle.hyd_theorems_on_histories.proofs.WatchedLevels.{contains-here, contains-later}
use Rattle.hyd_theorems_on_raises.proofs.FirstItemsAndChoices.{first-below}
use Rattle.hyd_theorems_on_nesting.specs.FirstAmongWatched.{ReachTest, watch_passes}
use Rattle.hyd_theorems_on_nesting.specs.Nesting.{AreNested}
use Rattle.hyd_theorems_on_nesting.proofs.NestedBoxes.{inflow_ordered}
use Rattle.hyd_theorems_on_nesting.proofs.FirstPassingItem.{find_or_none}

never : (b : Bool) → b ≡ true → b ≡ false → ⊥
never true e f = absurd (cc)
never false e f = absurd (cc)

contained-at : {X : Type 0} (xs : List X) (k : ℕ) (x : X) → slice_get xs k ≡ Some x → Contains xs x
contained-at {X} [] k x at = absurd (cc)
contained-at {X} (y ∷ xs) zero x at = subst (λ z. Contains (y ∷ xs) z) (same_item X y x at) (contains-here X y xs)
contained-at {X} (y ∷ xs) (suc k) x at = contains-later X x y xs (contained-at xs k x at)

-- ---- instants

module _ (project : Project) where
  abbrev when-acts : ℕ → When → Bool
  when-acts e (AtLevel tank above ticks) = false
  when-acts e (AtTime at) = at == e
  when-acts e (AtClock at) = clock_at project e == at

  by-control : (e : ℕ) (each : Control) → Contains project.controls.list each → (w : When) → each.when ≡ w
      → when-acts e w ≡ true → IsInstant project e
  by-control e each contained (AtLevel tank above ticks) is t = absurd (cc)
  by-control e each contained (AtTime at) is t = control_time each contained (is ∙ ap AtTime (eqb-true at e t))
  by-control e each contained (AtClock at) is t = control_clock each at contained is
      (eqb-true (clock_at project e) at t)

  not-by-control : (e : ℕ) (each : Control) → (w : When) → each.when ≡ w → when-acts e w ≡ true
      → when-acts e each.when ≡ false → ⊥
  not-by-control e each w is t fails = never (when-acts e each.when) (ap (when-acts e) is ∙ t) fails

  instant-or-not : (e : ℕ) → IsInstant project e ⊎ (IsInstant project e → ⊥)
  instant-or-not e = elim (cases_eq e project.times.duration) [
    | inl is ↦ inl (duration is)
    | inr a ↦ elim (cases_eq ((e + project.times.pattern_start) % project.times.pattern) 0) [
      | inl is ↦ inl (pattern is)
      | inr b ↦ elim (reports-or-not e) [
        | inl is ↦ inl (report is.0 is.1)
        | inr c ↦ elim (find_or_none Control (λ (each : Control). when-acts e each.when) project.controls.list) [
          | inl found ↦ inl (by-control e found.item (there found.place found.item found.is_item) found.item.when refl
              found.passes)
          | inr none ↦ inr (no-way a b c none.fails)
        ]
      ]
    ]
  ]
    where
      reports-or-not : (n : ℕ)
          → ((project.times.report_start ≤ n) × ((n - project.times.report_start) % project.times.report ≡ 0))
          ⊎ ((project.times.report_start ≤ n) → (n - project.times.report_start) % project.times.report ≡ 0 → ⊥)
      reports-or-not n = elim (cases_lt n project.times.report_start) [
        | inl less ↦ inr (λ from is. absurd (omega (arith, less, from)))
        | inr more ↦ elim (cases_eq ((n - project.times.report_start) % project.times.report) 0) [
          | inl is ↦ inl (more, is)
          | inr other ↦ inr (λ from is. other is)
        ]
      ]

      there : (k : ℕ) (each : Control) → slice_get project.controls.list k ≡ Some each
          → Contains project.controls.list each
      there k each at = contained-at project.controls.list k each at

      no-way : (e ≢ project.times.duration) → ((e + project.times.pattern_start) % project.times.pattern ≢ 0)
          → ((project.times.report_start ≤ e) → (e - project.times.report_start) % project.times.report ≡ 0 → ⊥)
          → ((each : Control) → Contains project.controls.list each → when-acts e each.when ≡ false)
          → IsInstant project e → ⊥
      no-way a b c none (duration is) = a is
      no-way a b c none (pattern is) = b is
      no-way a b c none (report from is) = c from is
      no-way a b c none (control_time each contained is) =
          not-by-control e each (AtTime e) is (eq-eqb e e refl) (none each contained)
      no-way a b c none (control_clock each at contained is shows) =
          not-by-control e each (AtClock at) is (eq-eqb (clock_at project e) at shows) (none each contained)

  -- before the end of the run there is a next instant
  pub next_instant_is : (time : ℕ) → time < project.times.duration → (seconds : ℕ) × AreSecondsToInstant project time
      seconds
  next_instant_is time before =
      elim (first-below (λ e. (time < e) × IsInstant project e) later-or-not (suc project.times.duration)) [
        | inr none ↦ absurd (none project.times.duration (omega arith) (before, duration refl))
        | inl found ↦
            let after = found.1.holds.0 in
            let n : found.0 ≡ time + (found.0 - time) = omega (arith, after) in
            (found.0 - time, subst (IsLeast (λ e. (time < e) × IsInstant project e)) n found.1)
      ]
    where
      later-or-not : (e : ℕ) → ((time < e) × IsInstant project e) ⊎ (((time < e) × IsInstant project e) → ⊥)
      later-or-not e = elim (cases_lt time e) [
        | inr early ↦ inr (λ both. let l = both.0 in absurd (omega (arith, l, early)))
        | inl later ↦ elim (instant-or-not e) [
          | inl is ↦ inl (later, is)
          | inr other ↦ inr (λ both. other both.1)
        ]
      ]

-- ---- what is watched

module _ (test : ReachTest) (project : Project) (grid : Grid) (standing : Standing) (row : Record) where
  reaches-so : (s : ℕ) (w : Watch) → Contains (watches project standing) w → (o : Option Tank)
      → slice_get project.tanks.list w.tank ≡ o
      → option_map_or (λ (tank : Tank). test (walls_of project tank) tank (stocks_of_tank standing w.tank)
      (inflow_of_tank project grid row w.tank) w.target w.rising s) o false ≡ true
      → SomeReaches test project grid standing row s
  reaches-so s w contained None at e = absurd (cc)
  reaches-so s w contained (Some tank) at e = record {
    watch = w;
    is_watched = contained;
    tank = tank;
    is_tank = at;
    reached = e;
  }

  passes-there : (s : ℕ) (r : SomeReaches test project grid standing row s)
      → watch_passes test project grid standing row r.watch s ≡ true
  passes-there s r =
      ap (λ o. option_map_or (λ (tank : Tank). test (walls_of project tank) tank (stocks_of_tank standing r.watch.tank)
      (inflow_of_tank project grid row r.watch.tank) r.watch.target r.watch.rising s) o false) r.is_tank ∙ r.reached

  reaches-or-not : (s : ℕ) → SomeReaches test project grid standing row s
      ⊎ (SomeReaches test project grid standing row s → ⊥)
  reaches-or-not s =
      elim (find_or_none Watch (λ (w : Watch). watch_passes test project grid standing row w s)
      (watches project standing)) [
        | inl found ↦ inl (reaches-so s found.item
            (contained-at (watches project standing) found.place found.item found.is_item)
            (slice_get project.tanks.list found.item.tank) refl found.passes)
        | inr none ↦ inr (λ r. never (watch_passes test project grid standing row r.watch s) (passes-there s r)
            (none.fails r.watch r.is_watched))
      ]

  abbrev Ends : ℕ → ℕ → Type 0
  Ends cap s = (s ≡ cap) ⊎ ((s ≡ project.times.hydraulic) ⊎ ((1 ≤ s) × SomeReaches test project grid standing row s))

  ends-or-not : (cap s : ℕ) → Ends cap s ⊎ (Ends cap s → ⊥)
  ends-or-not cap s = elim (cases_eq s cap) [
    | inl is ↦ inl (inl is)
    | inr a ↦ elim (cases_eq s project.times.hydraulic) [
      | inl is ↦ inl (inr (inl is))
      | inr b ↦ elim (cases_lt 0 s) [
        | inr none ↦ inr (no-end a b (λ some r. omega (arith, some, none)))
        | inl some ↦ elim (reaches-or-not s) [
          | inl r ↦ inl (inr (inr (omega (arith, some), r)))
          | inr other ↦ inr (no-end a b (λ one r. other r))
        ]
      ]
    ]
  ]
    where
      no-end : (s ≢ cap) → (s ≢ project.times.hydraulic)
          → ((1 ≤ s) → SomeReaches test project grid standing row s → ⊥) → Ends cap s → ⊥
      no-end a b c (inl is) = a is
      no-end a b c (inr (inl is)) = b is
      no-end a b c (inr (inr r)) = c r.0 r.1

  pub first_watched_is : (cap : ℕ) → (s : ℕ) × IsLeast (Ends cap) s
  first_watched_is cap = elim (first-below (Ends cap) (ends-or-not cap) (suc cap)) [
    | inl found ↦ found
    | inr none ↦ absurd (none cap (omega arith) (inl refl))
  ]

-- Some seconds are those of a record.
pub record HasSeconds (project : Project) (grid : Grid) (standing : Standing) (row : Record) : Type 0 where
  pub cap : ℕ
  pub earliest : ℕ
  pub latest : ℕ
  pub are : AreSeconds project grid standing row cap earliest latest

pub seconds_are : (project : Project) (grid : Grid) (standing : Standing) (row : Record)
    → AreNested project standing grid row row → standing.time < project.times.duration
    → HasSeconds project grid standing row
seconds_are project grid standing row nested before =
    let next = next_instant_is project standing.time before in
    let may = first_watched_is may_reach project grid standing row next.0 in
    let must = first_watched_is must_reach project grid standing row next.0 in
    record {
      cap = next.0;
      earliest = may.0;
      latest = must.0;
      are = record {
        not_last = λ e. absurd (omega (arith, e, before));
        is_cap = next.1;
        is_earliest = may.1;
        is_latest = must.1;
        in_order = may.1.least must.0 (end-may next.0 must.0 must.1.holds);
      };
    }
  where
    may-come : (s : ℕ) → SomeMustReach project grid standing row s → SomeMayReach project grid standing row s
    may-come s r = record {
      watch = r.watch;
      is_watched = r.is_watched;
      tank = r.tank;
      is_tank = r.is_tank;
      reached = must_may (walls_of project r.tank) r.tank (stocks_of_tank standing r.watch.tank)
          (inflow_of_tank project grid row r.watch.tank) r.watch.target r.watch.rising s
          (nested.vessels r.watch.tank r.tank r.is_tank) (nested.ordered r.watch.tank)
          (inflow_ordered project standing grid row row nested r.watch.tank r.tank r.is_tank) r.reached;
    }

    end-may : (cap s : ℕ) → ((s ≡ cap) ⊎ ((s ≡ project.times.hydraulic)
        ⊎ ((1 ≤ s) × SomeMustReach project grid standing row s)))
        → (s ≡ cap) ⊎ ((s ≡ project.times.hydraulic) ⊎ ((1 ≤ s) × SomeMayReach project grid standing row s))
    end-may cap s (inl is) = inl is
    end-may cap s (inr (inl is)) = inr (inl is)
    end-may cap s (inr (inr r)) = inr (inr (r.0, may-come s r.1))
