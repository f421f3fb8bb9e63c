-- From one instant at which the rules are tried to the next, whatever period the facts are of.
use Rattle.std.proofs.Common.{◌≡◌, ℕ, ◌+◌, ◌-◌, ◌%◌, ◌<◌, ◌≤◌, ℤ, List, ap, sym, ◌∙◌, subst, arith}
use Rattle.std.proofs.Math.Nat.{add-mod_right}
use Rattle.hyd_num.specs.declared.spans.Span.{Span}
use Rattle.hyd_spec.specs.ProgramTypes.{Project, LinkState}
use Rattle.hyd_spec.specs.declared.Change.{Change}
use Rattle.hyd_spec_certificates.specs.Decided.{RulesMatter}
use Rattle.hyd_theorems_on_nesting.specs.FirstAmongWatched.{IsWalked}
use Rattle.hyd_theorems_on_nesting.proofs.RuleInstants as walking
use Rattle.hyd_period_facts.specs.declared.facts.Facts.{Facts}
use Rattle.hyd_period_length.specs.declared.end_kinds.Ending.{Ending}
use Rattle.hyd_period_length.specs.Endings.{ForPeriod, IsBrought, IsFirstBrought}
use Rattle.hyd_period_length.proofs.WhatRulesBringAbout.{brought_first}

-- a multiple and a step more is a multiple
pub next_multiple : (time seconds step : ℕ) → (time + seconds) % step ≡ 0 → (time + (seconds + step)) % step ≡ 0
next_multiple time seconds step multiple =
    let e : time + (seconds + step) ≡ (time + seconds) + step = omega arith in
    ap (λ (m : ℕ). m % step) e ∙ add-mod_right (time + seconds) step ∙ multiple

module _ (project : Project) (facts : Facts) (low high : List ℤ) (flows : List Span) where
  abbrev pub AreWalked : ℕ → Type 0
  AreWalked seconds = ForPeriod project facts low high flows
      (λ grid standing row. IsWalked project grid standing row seconds)

  pub walk_starts : 1 ≤ project.times.rule → AreWalked (project.times.rule - facts.time % project.times.rule)
  walk_starts some = λ grid standing row started read.
      subst (λ (t : ℕ). IsWalked project grid standing row (project.times.rule - t % project.times.rule))
      (sym started.time) (walking.walk_begins project grid standing row some)

  pub walk_goes_on : (seconds : ℕ) → (facts.time + seconds) % project.times.rule ≡ 0
      → ForPeriod project facts low high flows
      (λ grid standing row. RulesMatter project grid standing row seconds → ⊥)
      → AreWalked seconds → AreWalked (seconds + project.times.rule)
  walk_goes_on seconds multiple idle walked = λ grid standing row started read.
      walking.walk_on project grid standing row seconds
      (subst (λ (t : ℕ). (t + seconds) % project.times.rule ≡ 0) started.time multiple)
      (idle grid standing row started read) (walked grid standing row started read)

  pub walk_ends : (seconds last : ℕ) → last < seconds → AreWalked seconds → ForPeriod project facts low high flows
      (λ grid standing row. (s : ℕ) → RulesMatter project grid standing row s → last < s)
  walk_ends seconds last past walked = λ grid standing row started read s matters.
      let l = (walked grid standing row started read).none_before s matters in omega (arith, l, past)

  pub walk_finds : (seconds last : ℕ) (before after : List Change) (links : List LinkState) (ending : Ending)
      → 0 < seconds → (facts.time + seconds) % project.times.rule ≡ 0 → seconds ≤ last → AreWalked seconds
      → ForPeriod project facts low high flows
      (λ grid standing row. IsBrought project grid standing row seconds before after links ending)
      → ForPeriod project facts low high flows
      (λ grid standing row. IsFirstBrought project grid standing row last before after links ending)
  walk_finds seconds last before after links ending later multiple in_time walked brought =
      λ grid standing row started read.
      brought_first project grid standing row seconds last before after links ending
      (record {
        later = later;
        is_multiple = subst (λ (t : ℕ). (t + seconds) % project.times.rule ≡ 0) started.time multiple;
      })
      (walked grid standing row started read) in_time (brought grid standing row started read)
