-- The first of all instants at which the clock ends a period.
use Rattle.std.proofs.Common.{◌≡◌, ◌⊎◌, inl, inr, ℕ, ◌+◌, ◌<◌, ◌≤◌, min, refl, ap, sym, ◌∙◌, subst, arith}
use Rattle.std.specs.Prelude.{Contains}
use Rattle.std.proofs.lemmas.Bool.{cases_lt}
use Rattle.hyd_spec.specs.ProgramTypes.{Project, Control, When, AtLevel, AtTime, AtClock}
use Rattle.hyd_spec.specs.PeriodLength.{IsLeast, EndsByClock, step, duration, pattern, report, control_time}
use Rattle.hyd_spec.specs.PeriodLength.{control_clock}
use Rattle.hyd_length_at_scale.specs.Instants.{IsNextPattern, IsNextReport, ComesAt, IsFirstAmong}

module _ (project : Project) (time pattern_at report_at alone e : ℕ) (patterns : IsNextPattern project time pattern_at)
    (reports : IsNextReport project time report_at) (before : time < project.times.duration)
    (some : 1 ≤ project.times.hydraulic)
    (is : alone ≡ min (min (min (time + project.times.hydraulic) project.times.duration) pattern_at) report_at)
    (among : IsFirstAmong project time alone project.controls.list e) where
  one-of : (alone ≡ time + project.times.hydraulic) ⊎ ((alone ≡ project.times.duration) ⊎ ((alone ≡ pattern_at) ⊎
      (alone ≡ report_at)))
  one-of = elim (cases_lt (min (min (time + project.times.hydraulic) project.times.duration) pattern_at) report_at) [
    | inr more ↦ inr (inr (inr (omega (arith, is, more))))
    | inl less ↦ elim (cases_lt (min (time + project.times.hydraulic) project.times.duration) pattern_at) [
      | inr more ↦ inr (inr (inl (omega (arith, is, less, more))))
      | inl lesser ↦ elim (cases_lt (time + project.times.hydraulic) project.times.duration) [
        | inr more ↦ inr (inl (omega (arith, is, less, lesser, more)))
        | inl least ↦ inl (omega (arith, is, less, lesser, least))
      ]
    ]
  ]

  alone-ends : EndsByClock project time alone
  alone-ends = elim one-of [
    | inl a ↦ step (omega (arith, a, some)) a
    | inr b ↦ elim b [
      | inl a ↦ duration (omega (arith, a, before)) a
      | inr c ↦ elim c [
        | inl a ↦ subst (EndsByClock project time) (sym a) (pattern patterns.holds.0 patterns.holds.1)
        | inr a ↦ subst (EndsByClock project time) (sym a) (report reports.holds.0 reports.holds.1.0 reports.holds.1.1)
      ]
    ]
  ]

  control-ends : (control : Control) (when : When) → Contains project.controls.list control → control.when ≡ when
      → ComesAt project when e → EndsByClock project time e
  control-ends control (AtLevel tank above ticks) there at comes = absurd comes
  control-ends control (AtTime at_time) there at comes =
      control_time control there (at ∙ ap AtTime (sym comes)) among.later
  control-ends control (AtClock at_clock) there at comes = control_clock control at_clock there at comes among.later

  ends-so : EndsByClock project time e
  ends-so = elim among.reached [
    | inl at ↦ subst (EndsByClock project time) (sym at) alone-ends
    | inr r ↦ control-ends r.0 (r.0).when r.1.0 refl r.1.1
  ]

  comes-so : (k : ℕ) (control : Control) (when : When) → control.when ≡ when → ComesAt project when k
      → ComesAt project control.when k
  comes-so k control when at comes = subst (λ (w : When). ComesAt project w k) (sym at) comes

  first-so : (k : ℕ) → EndsByClock project time k → e ≤ k
  first-so k (step later at) = let w = among.within in omega (arith, at, w, is)
  first-so k (duration later at) = let w = among.within in omega (arith, at, w, is)
  first-so k (pattern later at) = let w = among.within in let l = patterns.least k (later, at) in omega
      (arith, l, w, is)
  first-so k (report later from at) =
      let w = among.within in let l = reports.least k (later, (from, at)) in omega (arith, l, w, is)
  first-so k (control_time control there at later) =
      among.none_before control k there later (comes-so k control (AtTime k) at refl)
  first-so k (control_clock control at_clock there at shows later) =
      among.none_before control k there later (comes-so k control (AtClock at_clock) at shows)

  pub first-is : IsLeast (EndsByClock project time) e
  first-is = record { holds = ends-so; least = first-so }
