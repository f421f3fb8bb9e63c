-- The next instant of the clock.
use Rattle.std.proofs.Common.{◌≡◌, ◌⊎◌, inl, inr, ℕ, ◌+◌, ◌-◌, ◌<◌, ◌≤◌, min, refl, ap, sym, ◌∙◌, subst, arith}
use Rattle.std.specs.Prelude.{Contains}
use Rattle.std.proofs.lemmas.Bool.{cases_lt}
use Rattle.hyd_spec.specs.ProgramTypes.{Project, Control, When, AtLevel, AtTime, AtClock}
use Rattle.hyd_spec.specs.PeriodLength.{IsLeast}
use Rattle.hyd_spec_open_ends.specs.InstantsOfClock.{IsInstant, duration, pattern, report, control_time, control_clock}
use Rattle.hyd_spec_open_ends.specs.InstantsOfClock.{AreSecondsToInstant}
use Rattle.hyd_period_length.specs.Instants.{IsNextPattern, IsNextReport, ComesAt, IsFirstAmong}

module _ (project : Project) (time pattern_at report_at alone e : ℕ) (patterns : IsNextPattern project time pattern_at)
    (reports : IsNextReport project time report_at) (before : time < project.times.duration)
    (is : alone ≡ min (min project.times.duration pattern_at) report_at)
    (among : IsFirstAmong project time alone project.controls.list e) where
  one-of : (alone ≡ project.times.duration) ⊎ ((alone ≡ pattern_at) ⊎ (alone ≡ report_at))
  one-of = elim (cases_lt (min project.times.duration pattern_at) report_at) [
    | inr more ↦ inr (inr (omega (arith, is, more)))
    | inl less ↦ elim (cases_lt project.times.duration pattern_at) [
      | inr more ↦ inr (inl (omega (arith, is, less, more)))
      | inl lesser ↦ inl (omega (arith, is, less, lesser))
    ]
  ]

  alone-is : IsInstant project alone
  alone-is = elim one-of [
    | inl a ↦ duration a
    | inr b ↦ elim b [
      | inl a ↦ subst (IsInstant project) (sym a) (pattern patterns.holds.1)
      | inr a ↦ subst (IsInstant project) (sym a) (report reports.holds.1.0 reports.holds.1.1)
    ]
  ]

  control-is : (control : Control) (when : When) → Contains project.controls.list control → control.when ≡ when
      → ComesAt project when e → IsInstant project e
  control-is control (AtLevel tank above ticks) there at comes = absurd comes
  control-is control (AtTime at_time) there at comes = control_time control there (at ∙ ap AtTime (sym comes))
  control-is control (AtClock at_clock) there at comes = control_clock control at_clock there at comes

  instant-is : IsInstant project e
  instant-is = elim among.reached [
    | inl at ↦ subst (IsInstant project) (sym at) alone-is
    | inr r ↦ control-is r.0 (r.0).when r.1.0 refl r.1.1
  ]

  comes-so : (k : ℕ) (control : Control) (when : When) → control.when ≡ when → ComesAt project when k
      → ComesAt project control.when k
  comes-so k control when at comes = subst (λ (w : When). ComesAt project w k) (sym at) comes

  first-so : (k : ℕ) → time < k → IsInstant project k → e ≤ k
  first-so k later (duration at) = let w = among.within in omega (arith, at, w, is)
  first-so k later (pattern at) = let w = among.within in let l = patterns.least k (later, at) in omega
      (arith, l, w, is)
  first-so k later (report from at) =
      let w = among.within in let l = reports.least k (later, (from, at)) in omega (arith, l, w, is)
  first-so k later (control_time control there at) =
      among.none_before control k there later (comes-so k control (AtTime k) at refl)
  first-so k later (control_clock control at_clock there at shows) =
      among.none_before control k there later (comes-so k control (AtClock at_clock) at shows)

  pub seconds-are : AreSecondsToInstant project time (e - time)
  seconds-are =
      let later = among.later in
      let same : time + (e - time) ≡ e = omega (arith, later) in
      subst (IsLeast (λ k. (time < k) × IsInstant project k)) (sym same)
      (record { holds = (later, instant-is); least = λ k h. first-so k h.0 h.1 })
