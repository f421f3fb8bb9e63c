-- At each second of a start in which no instant of the clock lies, controls change the same.
use Rattle.std.proofs.Common.{◌≡◌, ℕ, suc, ◌+◌, ◌%◌, ◌<◌, ◌≤◌, ℤ, refl, sym, ap, ◌∙◌, arith, Bool, true, false, List}
use Rattle.std.proofs.Common.{[], ◌∷◌, ◌++◌, ◌==◌, inl, inr}
use Rattle.std.specs.Prelude.{Contains, slice_set, ◌||◌, if◌then◌else◌}
use Rattle.std.proofs.lemmas.Bool.{cases_Bool, eqb-true}
use Rattle.hyd_spec.specs.ProgramTypes.{Project, LinkState, Control, When, AtLevel, AtTime, AtClock}
use Rattle.hyd_spec.specs.declared.Source.TheVariants.{Control as ByControl}
use Rattle.hyd_spec.specs.PumpPatternsAndSimpleControls.{patterned, after_patterns, is_pattern_boundary, control_acts}
use Rattle.hyd_spec.specs.PumpPatternsAndSimpleControls.{clock_at}
use Rattle.hyd_spec.specs.Rules.{is_same_state, state_of_link}
use Rattle.hyd_spec_certificates.specs.ChangesAtStart.{control_changes, start_changes}
use Rattle.hyd_spec_open_ends.specs.InstantsOfClock.{IsInstant, pattern, control_time, control_clock, HasNoInstant}
use Rattle.hyd_theorems_on_histories.proofs.WatchedLevels.{contains-here, contains-later}

apart : (a b : ℕ) → (a ≡ b → ⊥) → (a == b) ≡ false
apart a b other = elim (cases_Bool (a == b)) [ inl held ↦ absurd (other (eqb-true a b held)) | inr fails ↦ fails ]

neither : (a b : Bool) → a ≡ false → b ≡ false → (a || b) ≡ false
neither true b e f = absurd (cc)
neither false b e f = f

otherwise : (b : Bool) (xs ys : List LinkState) → b ≡ false → (if b then xs else ys) ≡ ys
otherwise true xs ys e = absurd (cc)
otherwise false xs ys e = refl

-- at a second that is no instant pumps keep their speeds
no-boundary : (project : Project) (time : ℕ) (states : List LinkState) → 0 < time → (IsInstant project time → ⊥)
    → patterned project time states ≡ states
no-boundary project time states some none =
    otherwise (is_pattern_boundary project time) (after_patterns project time project.links.list states) states
    (neither (time == 0) ((time + project.times.pattern_start) % project.times.pattern == 0)
    (apart time 0 (λ e. omega (arith, some, e)))
    (apart ((time + project.times.pattern_start) % project.times.pattern) 0 (λ e. none (pattern e))))

-- and no control acts by time or clock
abbrev by-level : (ℕ → Bool → ℤ → Bool) → When → Bool
by-level acts (AtLevel tank above ticks) = acts tank above ticks
by-level acts when = false

only-levels : (project : Project) (time : ℕ) (acts : ℕ → Bool → ℤ → Bool) (each : Control)
    → Contains project.controls.list each
    → (IsInstant project time → ⊥) → control_acts project time acts each.when ≡ by-level acts each.when
only-levels project time acts each contained none = by-when each.when refl
  where
    by-when : (w : When) → each.when ≡ w → control_acts project time acts w ≡ by-level acts w
    by-when (AtLevel tank above ticks) is = refl
    by-when (AtTime at) is = apart at time (λ e. none (control_time each contained (is ∙ ap AtTime e)))
    by-when (AtClock at) is = apart at (clock_at project time) (λ e. none (control_clock each at contained is (sym e)))

-- controls change the same at two times at which they act alike
same-at : (project : Project) (time other : ℕ) (acts : ℕ → Bool → ℤ → Bool) (k : ℕ) (controls : List Control)
    → ((each : Control) → Contains controls each → control_acts project time acts each.when
    ≡ control_acts project other acts each.when)
    → (links : List LinkState) → control_changes project time acts k controls links
    ≡ control_changes project other acts k controls links
same-at project time other acts k [] same links = refl
same-at project time other acts k (c ∷ controls) same links =
    let first = same c (contains-here Control c controls) in
    let later = λ (each : Control) (contained : Contains controls each). same each
    (contains-later Control each c controls contained) in
    let set = same-at project time other acts (suc k) controls later (slice_set links c.link c.to) in
    let kept = same-at project time other acts (suc k) controls later links in
    λ i. if first i
    then (if is_same_state (state_of_link links c.link) c.to then [] else record {
      source = ByControl k;
      link = c.link;
      to = c.to;
    } ∷ []) ++ set i
    else kept i

pub same_changes_at : (project : Project) (first time : ℕ) (acts : ℕ → Bool → ℤ → Bool) (commanded : List LinkState)
    → 0 < first → first ≤ time → HasNoInstant project first time
    → start_changes project first acts commanded ≡ start_changes project time acts commanded
same_changes_at project first time acts commanded some from none =
    let none-first : IsInstant project first → ⊥ = none first (omega arith) from in
    let none-then : IsInstant project time → ⊥ = none time from (omega arith) in
    let same-links : patterned project first commanded ≡ patterned project time commanded =
    no-boundary project first commanded some none-first
    ∙ sym (no-boundary project time commanded (omega (arith, some, from)) none-then) in
    ap (control_changes project first acts 0 project.controls.list) same-links
    ∙ same-at project first time acts 0 project.controls.list
    (λ each contained. only-levels project first acts each contained none-first
    ∙ sym (only-levels project time acts each contained none-then)) (patterned project time commanded)
