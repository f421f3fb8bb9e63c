-- The least instant at which a period may end, and the instants at which the rules are tried.
use Rattle.std.proofs.Common.{◌≡◌, ◌≢◌, ◌⊎◌, inl, inr, ℕ, ◌+◌, ◌-◌, ◌%◌, ◌<◌, ◌≤◌, refl, sym, ap, subst, ◌∙◌, arith, []}
use Rattle.std.proofs.lemmas.Bool.{cases_lt}
use Rattle.std.proofs.Math.Nat.{add-mod_right}
use Rattle.hyd_spec.specs.ProgramTypes.{Project}
use Rattle.hyd_spec.specs.Rules.{rule_changes}
use Rattle.hyd_spec.specs.PeriodLength.{Period, IsLeast, EndsByClock, EndsByLevel, EndsByRules, values_at}
use Rattle.hyd_spec.specs.PeriodLength.{MayEnd, by_clock, by_level, by_rules}
use Rattle.hyd_theorems_on_nesting.proofs.RuleInstants.{a_step_later, first_after, first_multiple}
use Rattle.hyd_length_at_scale.specs.LevelEnds.{IsFirst}

-- a multiple and a step more is a multiple
pub next_multiple : (instant step : ℕ) → instant % step ≡ 0 → (instant + step) % step ≡ 0
next_multiple instant step multiple = add-mod_right instant step ∙ multiple

module _ (project : Project) (S : ℕ) (period : Period) where
  abbrev pub ByRules : ℕ → Type 0
  ByRules = EndsByRules project S period

  -- the rules end it at none before an instant
  abbrev pub NoneBefore : ℕ → Type 0
  NoneBefore instant = (k : ℕ) → ByRules k → instant ≤ k

  pub none_before_first : 1 ≤ project.times.rule
      → NoneBefore (period.time + (project.times.rule - period.time % project.times.rule))
  none_before_first some = λ k ends.
      let later = ends.later in
      let same : period.time + (k - period.time) ≡ k = omega (arith, later) in
      let multiple : (period.time + (k - period.time)) % project.times.rule ≡ 0 =
      ap (λ (m : ℕ). m % project.times.rule) same ∙ ends.is_tried in
      let l = first_after period.time project.times.rule some (first_multiple period.time project.times.rule some)
      (k - period.time) (omega (arith, later)) multiple in
      omega (arith, l, later)

  pub none_before_next : (instant : ℕ) → instant % project.times.rule ≡ 0
      → rule_changes project (values_at project S period instant) period.links ≡ [] → NoneBefore instant
      → NoneBefore (instant + project.times.rule)
  none_before_next instant multiple idle before = λ k ends.
      let l = before k ends in
      elim (cases_lt instant k) [
        | inl less ↦ a_step_later instant k project.times.rule multiple ends.is_tried less
        | inr more ↦
            let same : k ≡ instant = omega (arith, l, more) in
            absurd (subst (λ (n : ℕ). rule_changes project (values_at project S period n) period.links ≢ []) same
            ends.changes idle)
      ]

  abbrev pub AtCapOrByRules : ℕ → ℕ → Type 0
  AtCapOrByRules cap = λ e. (e ≡ cap) ⊎ ByRules e

  pub cap_first : (cap instant : ℕ) → cap ≤ instant → NoneBefore instant → IsLeast (AtCapOrByRules cap) cap
  cap_first cap instant past before = record {
    holds = inl refl;
    least = λ k at. elim at [
      | inl same ↦ omega (arith, same)
      | inr ends ↦ let l = before k ends in omega (arith, l, past)
    ];
  }

  pub rules_first : (cap instant : ℕ) → instant < cap → period.time < instant → instant % project.times.rule ≡ 0
      → rule_changes project (values_at project S period instant) period.links ≢ [] → NoneBefore instant
      → IsLeast (AtCapOrByRules cap) instant
  rules_first cap instant in_time later multiple changes before = record {
    holds = inr (record { later = later; is_tried = multiple; changes = changes });
    least = λ k at. elim at [
      | inl same ↦ omega (arith, same, in_time)
      | inr ends ↦ before k ends
    ];
  }

  -- ---- the end

  module _ (clock seconds e : ℕ) (by : IsLeast (EndsByClock project period.time) clock) (after : period.time < clock)
      (levels : IsFirst (EndsByLevel project S period) (clock - period.time) seconds)
      (rules : IsLeast (AtCapOrByRules (period.time + seconds)) e) where
    sooner : seconds ≤ clock - period.time
    sooner = levels.least (clock - period.time) (inl refl)

    before-cap : e ≤ period.time + seconds
    before-cap = rules.least (period.time + seconds) (inl refl)

    pub some_seconds : 1 ≤ seconds
    some_seconds = elim levels.holds [
      | inl same ↦ omega (arith, same, after)
      | inr some ↦ some.0
    ]

    at-cap : MayEnd project S period (period.time + seconds)
    at-cap = elim levels.holds [
      | inl same ↦
          let is : period.time + seconds ≡ clock = omega (arith, same, after) in
          subst (MayEnd project S period) (sym is) (by_clock by.holds)
      | inr some ↦ by_level seconds some.0 refl some.1
    ]

    may : MayEnd project S period e
    may = elim rules.holds [
      | inl same ↦ subst (MayEnd project S period) (sym same) at-cap
      | inr ends ↦ by_rules ends
    ]

    none-sooner : (k : ℕ) → MayEnd project S period k → e ≤ k
    none-sooner k (by_clock ends) =
        let l = by.least k ends in
        let s = sooner in
        let c = before-cap in
        omega (arith, l, s, c, after)
    none-sooner k (by_level s some is ends) =
        let l = levels.least s (inr (some, ends)) in
        let c = before-cap in
        omega (arith, l, c, is)
    none-sooner k (by_rules ends) = rules.least k (inr ends)

    pub least_end_is : IsLeast (MayEnd project S period) e
    least_end_is = record { holds = may; least = none-sooner }

    pub end_later : period.time < e
    end_later = elim rules.holds [
      | inl same ↦ let s = some_seconds in omega (arith, same, s)
      | inr ends ↦ ends.later
    ]

    pub end_within : (most : ℕ) → clock ≤ most → e ≤ most
    end_within most h =
        let s = sooner in
        let c = before-cap in
        omega (arith, s, c, h, after)
