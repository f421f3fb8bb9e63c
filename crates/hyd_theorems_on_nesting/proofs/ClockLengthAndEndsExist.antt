-- The clock allows each period some length, and under each record there is an earliest and a latest end.
use Rattle.std.proofs.Common.{◌≡◌, ℕ, zero, suc, ◌+◌, ◌-◌, ◌%◌, ◌<◌, ◌≤◌, refl, sym, ap, subst, ◌∙◌, arith, Bool, true}
use Rattle.std.proofs.Common.{false, ◌&&◌, ◌||◌, ◌==◌, List, [], ◌∷◌, ◌⊎◌, inl, inr}
use Rattle.std.specs.Prelude.{Option, Some, None, slice_get, Contains, nat_lt, nat_le}
use Rattle.std.specs.List.{list_any}
use Rattle.std.specs.Option.{option_map_or}
use Rattle.std.proofs.lemmas.Bool.{cases_Bool, cases_lt, eqb-true, eq-eqb}
use Rattle.hyd_spec.specs.ProgramTypes.{Project, Tank, Control, When, AtLevel, AtTime, AtClock}
use Rattle.hyd_spec.specs.PumpPatternsAndSimpleControls.{clock_at}
use Rattle.hyd_spec.specs.Tank.{walls_of}
use Rattle.hyd_spec_certificates.specs.Stocks.{may_reach, must_reach}
use Rattle.hyd_spec.specs.PeriodLength.{IsLeast, EndsByClock, step, duration, pattern, report, control_time}
use Rattle.hyd_spec.specs.PeriodLength.{control_clock}
use Rattle.hyd_spec_certificates.specs.PeriodNetwork.{Grid}
use Rattle.hyd_spec_certificates.specs.RecordAndStanding.{Record, Standing}
use Rattle.hyd_spec_certificates.specs.Decided.{Watch, watches, stocks_of_tank, inflow_of_tank, SomeReaches}
use Rattle.hyd_spec_certificates.specs.Decided.{IsClockLength, IsEarliestEnd, IsLatestEnd}
use Rattle.hyd_theorems_on_nesting.specs.FirstAmongWatched.{ReachTest, watch_passes}
use Rattle.hyd_lemmas.proofs.BooleanTests.{both-first, both-second, or-left, or-right, and-true, any_of, nat-lt-from}
use Rattle.hyd_lemmas.proofs.BooleanTests.{nat-le-from}
use Rattle.hyd_theorems_on_histories.proofs.WatchedLevels.{contains-here, contains-later}
use Rattle.hyd_theorems_on_definitions.proofs.WatchedEnds.{one-clock-length}

-- ---- searching

record IsFirst (test : ℕ → Bool) (n : ℕ) : Type 0 where
  passes : test n ≡ true
  least : (k : ℕ) → test k ≡ true → n ≤ k

search-below : (test : ℕ → Bool) (n : ℕ) → ((k : ℕ) → k < n → test k ≡ false) ⊎ ((m : ℕ) × IsFirst test m)
search-below test zero = inl (λ k lt. absurd (omega (arith, lt)))
search-below test (suc n) = by-case (search-below test n)
  where
    none : ((k : ℕ) → k < n → test k ≡ false) → test n ≡ false → (k : ℕ) → k < suc n → test k ≡ false
    none before fails k lt = elim (cases_lt k n) [
      | inl less ↦ before k less
      | inr more ↦ let e : n ≡ k = omega (arith, lt, more) in subst (λ m. test m ≡ false) e fails
    ]

    least : ((k : ℕ) → k < n → test k ≡ false) → (k : ℕ) → test k ≡ true → n ≤ k
    least before k passes = elim (cases_lt k n) [
      | inl less ↦ absurd (let f = before k less in cc)
      | inr more ↦ more
    ]

    by-case : (((k : ℕ) → k < n → test k ≡ false) ⊎ ((m : ℕ) × IsFirst test m))
        → ((k : ℕ) → k < suc n → test k ≡ false) ⊎ ((m : ℕ) × IsFirst test m)
    by-case (inr found) = inr found
    by-case (inl before) = elim (cases_Bool (test n)) [
      | inl passes ↦ inr (n, record { passes = passes; least = least before })
      | inr fails ↦ inl (none before fails)
    ]

first-of : (test : ℕ → Bool) (n : ℕ) → test n ≡ true → (m : ℕ) × IsFirst test m
first-of test n passes = elim (search-below test (suc n)) [
  | inl none ↦ absurd (let f = none n (omega arith) in cc)
  | inr found ↦ found
]

or-cases : (a b : Bool) → (a || b) ≡ true → (a ≡ true) ⊎ (b ≡ true)
or-cases true b e = inl refl
or-cases false b e = inr e

pub record IsAny (X : Type 0) (test : X → Bool) (xs : List X) : Type 0 where
  pub item : X
  pub contained : Contains xs item
  pub passes : test item ≡ true

pub any-there : (X : Type 0) (test : X → Bool) (xs : List X) → list_any test xs ≡ true → IsAny X test xs
any-there X test [] e = absurd (cc)
any-there X test (x ∷ xs) e = elim (or-cases (test x) (list_any test xs) e) [
  | inl here ↦ record { item = x; contained = contains-here X x xs; passes = here }
  | inr later ↦ let r = any-there X test xs later in
      record { item = r.item; contained = contains-later X r.item x xs r.contained; passes = r.passes }
]

lt-true : (a b : ℕ) → nat_lt a b ≡ true → a < b
lt-true a b e = grind arith

le-true : (a b : ℕ) → nat_le a b ≡ true → a ≤ b
le-true a b e = grind arith

-- ---- by the clock

module _ (project : Project) (time : ℕ) where
  abbrev when-test : ℕ → When → Bool
  when-test e (AtLevel tank above ticks) = false
  when-test e (AtTime at) = at == e
  when-test e (AtClock at) = clock_at project e == at

  abbrev step-test : ℕ → Bool
  step-test e = e == time + project.times.hydraulic

  abbrev duration-test : ℕ → Bool
  duration-test e = e == project.times.duration

  abbrev pattern-test : ℕ → Bool
  pattern-test e = (e + project.times.pattern_start) % project.times.pattern == 0

  abbrev report-test : ℕ → Bool
  report-test e = nat_le project.times.report_start e && ((e - project.times.report_start) % project.times.report == 0)

  abbrev control-test : ℕ → Bool
  control-test e = list_any (λ (c : Control). when-test e c.when) project.controls.list

  abbrev way-test : ℕ → Bool
  way-test e = step-test e || (duration-test e || (pattern-test e || (report-test e || control-test e)))

  abbrev clock-test : ℕ → Bool
  clock-test e = nat_lt time e && way-test e

  later-so : (e : ℕ) → time < e → way-test e ≡ true → clock-test e ≡ true
  later-so e later way = and-true (nat_lt time e) (way-test e) (nat-lt-from time e later) way

  by-control : (e : ℕ) → control-test e ≡ true → way-test e ≡ true
  by-control e found = or-right (step-test e) _ (or-right (duration-test e) _
      (or-right (pattern-test e) _ (or-right (report-test e) (control-test e) found)))

  tested : (e : ℕ) → EndsByClock project time e → clock-test e ≡ true
  tested e (step later is) = later-so e later (or-left (step-test e) _ (eq-eqb e (time + project.times.hydraulic) is))
  tested e (duration later is) =
      later-so e later (or-right (step-test e) _ (or-left (duration-test e) _ (eq-eqb e project.times.duration is)))
  tested e (pattern later is) =
      later-so e later
      (or-right (step-test e) _ (or-right (duration-test e) _ (or-left (pattern-test e) _ (eq-eqb _ 0 is))))
  tested e (report later from is) = later-so e later (or-right (step-test e) _ (or-right (duration-test e) _
      (or-right (pattern-test e) _ (or-left (report-test e) (control-test e)
      (and-true (nat_le project.times.report_start e) _ (nat-le-from _ e from) (eq-eqb _ 0 is))))))
  tested e (control_time each contained is later) = later-so e later (by-control e
      (any_of Control (λ (c : Control). when-test e c.when) project.controls.list each contained
      (let t : when-test e each.when ≡ when-test e (AtTime e) = ap (when-test e) is in t ∙ eq-eqb e e refl)))
  tested e (control_clock each at contained is shows later) = later-so e later (by-control e
      (any_of Control (λ (c : Control). when-test e c.when) project.controls.list each contained
      (let t : when-test e each.when ≡ when-test e (AtClock at) = ap (when-test e) is in
      t ∙ eq-eqb (clock_at project e) at shows)))

  control-ends : (e : ℕ) → time < e → (each : Control) → Contains project.controls.list each → (w : When)
      → each.when ≡ w
      → when-test e w ≡ true → EndsByClock project time e
  control-ends e later each contained (AtLevel tank above ticks) is t = absurd (cc)
  control-ends e later each contained (AtTime at) is t = control_time each contained (is ∙ ap AtTime (eqb-true at e t))
      later
  control-ends e later each contained (AtClock at) is t = control_clock each at contained is
      (eqb-true (clock_at project e) at t) later

  ends : (e : ℕ) → clock-test e ≡ true → EndsByClock project time e
  ends e t =
      let later = lt-true time e (both-first (nat_lt time e) (way-test e) t) in
      elim (or-cases (step-test e) _ (both-second (nat_lt time e) (way-test e) t)) [
        | inl a ↦ step later (eqb-true e (time + project.times.hydraulic) a)
        | inr b ↦ elim (or-cases (duration-test e) _ b) [
          | inl a ↦ duration later (eqb-true e project.times.duration a)
          | inr c ↦ elim (or-cases (pattern-test e) _ c) [
            | inl p ↦ pattern later (eqb-true _ 0 p)
            | inr d ↦ elim (or-cases (report-test e) _ d) [
              | inl r ↦ report later (le-true _ e (both-first (nat_le project.times.report_start e) _ r))
                  (eqb-true _ 0 (both-second (nat_le project.times.report_start e) _ r))
              | inr k ↦ let found = any-there Control (λ (c : Control). when-test e c.when) project.controls.list k in
                  control-ends e later found.item found.contained found.item.when refl found.passes
            ]
          ]
        ]
      ]

  -- the clock ends it after its start
  pub after_start : (e : ℕ) → EndsByClock project time e → time < e
  after_start e by = lt-true time e (both-first (nat_lt time e) (way-test e) (tested e by))

  -- the clock allows it some length
  pub clock_length_is : 1 ≤ project.times.hydraulic → (cap : ℕ) × IsClockLength project time cap
  clock_length_is some =
      let found = first-of (λ d. clock-test (time + d)) project.times.hydraulic
      (later-so (time + project.times.hydraulic) (omega (arith, some))
      (or-left (step-test (time + project.times.hydraulic)) _ (eq-eqb (time + project.times.hydraulic) _ refl)))
      in (
        found.0,
        record {
          holds = ends (time + found.0) found.1.passes;
          least = λ k by.
              let after = after_start k by in
              let e : k ≡ time + (k - time) = omega (arith, after) in
              let l = found.1.least (k - time) (subst (λ m. clock-test m ≡ true) e (tested k by)) in
              omega (arith, l, after);
        },
      )

-- ---- by levels, by a test of each watched level

module _ (test : ReachTest) (project : Project) (grid : Grid) (standing : Standing) (row : Record) where
  abbrev some-test : ℕ → Bool
  some-test s = list_any (λ (w : Watch). watch_passes test project grid standing row w s) (watches project standing)

  passes-at : (s : ℕ) (w : Watch) (tank : Tank) → slice_get project.tanks.list w.tank ≡ Some tank
      → watch_passes test project grid standing row w s
      ≡ test (walls_of project tank) tank (stocks_of_tank standing w.tank) (inflow_of_tank project grid row w.tank)
      w.target w.rising s
  passes-at s w tank at =
      ap (λ o. option_map_or (λ (t : Tank). test (walls_of project t) t (stocks_of_tank standing w.tank)
      (inflow_of_tank project grid row w.tank) w.target w.rising s) o false) at

  reaches-tested : (s : ℕ) → SomeReaches test project grid standing row s → some-test s ≡ true
  reaches-tested s r = any_of Watch (λ (w : Watch). watch_passes test project grid standing row w s)
      (watches project standing)
      r.watch r.is_watched (passes-at s r.watch r.tank r.is_tank ∙ r.reached)

  reaches-so : (s : ℕ) (w : Watch) → Contains (watches project standing) w → (o : Option Tank)
      → slice_get project.tanks.list w.tank ≡ o
      → option_map_or (λ (tank : Tank). test (walls_of project tank) tank (stocks_of_tank standing w.tank)
      (inflow_of_tank project grid row w.tank) w.target w.rising s) o false ≡ true
      → SomeReaches test project grid standing row s
  reaches-so s w contained None at e = absurd (cc)
  reaches-so s w contained (Some tank) at e = record {
    watch = w;
    is_watched = contained;
    tank = tank;
    is_tank =
        at;
    reached = e;
  }

  tested-reaches : (s : ℕ) → some-test s ≡ true → SomeReaches test project grid standing row s
  tested-reaches s e =
      let found = any-there Watch (λ (w : Watch). watch_passes test project grid standing row w s)
      (watches project standing) e in
      reaches-so s found.item found.contained (slice_get project.tanks.list found.item.tank) refl found.passes

  -- the clock, or some watched level that passes the test, ends the period
  abbrev pub EndsAt : ℕ → Type 0
  EndsAt s = IsClockLength project standing.time s ⊎ ((1 ≤ s) × SomeReaches test project grid standing row s)

  abbrev end-test : ℕ → ℕ → Bool
  end-test cap s = (s == cap) || (nat_le 1 s && some-test s)

  module _ (cap : ℕ) (clock : IsClockLength project standing.time cap) where
    passes : (s : ℕ) → EndsAt s → end-test cap s ≡ true
    passes s (inl other) = or-left (s == cap) _ (eq-eqb s cap
        (one-clock-length project standing cap clock s other))
    passes s (inr r) = or-right (s == cap) _ (and-true (nat_le 1 s) _ (nat-le-from 1 s r.0) (reaches-tested s r.1))

    holds : (s : ℕ) → end-test cap s ≡ true → EndsAt s
    holds s e = elim (or-cases (s == cap) _ e) [
      | inl a ↦ inl (subst (IsClockLength project standing.time) (sym (eqb-true s cap a)) clock)
      | inr b ↦ inr (le-true 1 s (both-first (nat_le 1 s) _ b), tested-reaches s (both-second (nat_le 1 s) _ b))
    ]

  -- there is a first second at which it ends so
  pub first_end_is : 1 ≤ project.times.hydraulic → (e : ℕ) × IsLeast EndsAt e
  first_end_is some =
      let (cap, clock) = clock_length_is project standing.time some in
      let (m, first) = first-of (end-test cap) cap (or-left (cap == cap) _ (eq-eqb cap cap refl)) in
      (m, record { holds = holds cap clock m first.passes; least = λ k ends. first.least k (passes cap clock k ends) })

pub earliest_is : (project : Project) (grid : Grid) (standing : Standing) (row : Record) → 1 ≤ project.times.hydraulic
    → (e : ℕ) × IsEarliestEnd project grid standing row e
earliest_is project grid standing row some = first_end_is may_reach project grid standing row some

pub latest_is : (project : Project) (grid : Grid) (standing : Standing) (row : Record) → 1 ≤ project.times.hydraulic
    → (e : ℕ) × IsLatestEnd project grid standing row e
latest_is project grid standing row some = first_end_is must_reach project grid standing row some
