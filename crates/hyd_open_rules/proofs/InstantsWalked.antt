-- From one instant at which the rules are tried to the next, whatever period the facts are of.
use Rattle.std.proofs.Common.{◌≡◌, ℕ, ◌+◌, ◌-◌, ◌%◌, ◌<◌, ◌≤◌, List, ap, sym, ◌∙◌, subst, arith, inl, inr}
use Rattle.std.proofs.lemmas.Bool.{cases_lt}
use Rattle.hyd_spec.specs.ProgramTypes.{Project, LinkState}
use Rattle.hyd_spec.specs.declared.Change.{Change}
use Rattle.hyd_spec_certificates.specs.PeriodNetwork.{Grid}
use Rattle.hyd_spec_certificates.specs.RecordAndStanding.{Record}
use Rattle.hyd_spec_open_ends.specs.OpenStandings.{OpenStanding}
use Rattle.hyd_spec_open_ends.specs.RulesOverLengths.{RulesMatterOver, NoRuleMattersUpTo}
use Rattle.hyd_theorems_on_nesting.proofs.RuleInstants.{a_step_later, first_after, first_multiple}
use Rattle.hyd_period_facts.specs.declared.facts.Facts.{Facts}
use Rattle.hyd_period_length.specs.declared.readings.Readings.{Readings}
use Rattle.hyd_open_rules.specs.declared.matters.Matter.{Matter}
use Rattle.hyd_open_rules.specs.OpenReadings.{ForOpenPeriod}
use Rattle.hyd_open_rules.specs.Matters.{seconds_of, IsBroughtOver, IsFirstMatter}
use Rattle.hyd_open_rules.proofs.WhatRulesBring.{matters_there}

-- the rules matter at no instant before this one
pub record IsWalkedOver (project : Project) (grid : Grid) (standing : OpenStanding) (row : Record) (current : ℕ) :
    Type 0 where
  pub none_before : (k : ℕ) → RulesMatterOver project grid standing row k → current ≤ k

module _ (project : Project) (facts : Facts) (late : ℕ) (readings : Readings) where
  abbrev pub AreWalked : ℕ → Type 0
  AreWalked seconds = ForOpenPeriod project facts late readings
      (λ grid standing row. IsWalkedOver project grid standing row seconds)

  pub walk_starts : 1 ≤ project.times.rule → AreWalked (project.times.rule - facts.time % project.times.rule)
  walk_starts some = λ grid standing row started open_by read. record {
    none_before = λ k matters. first_after facts.time project.times.rule some
        (first_multiple facts.time project.times.rule some) k matters.tried.later
        (ap (λ (t : ℕ). (t + k) % project.times.rule) started.time ∙ matters.tried.is_multiple);
  }

  pub walk_goes_on : (seconds : ℕ) → (facts.time + seconds) % project.times.rule ≡ 0
      → ForOpenPeriod project facts late readings
      (λ grid standing row. RulesMatterOver project grid standing row seconds → ⊥)
      → AreWalked seconds → AreWalked (seconds + project.times.rule)
  walk_goes_on seconds multiple idle walked = λ grid standing row started open_by read. record {
    none_before = λ k matters.
        let l = (walked grid standing row started open_by read).none_before k matters in
        elim (cases_lt seconds k) [
          | inl less ↦
              let tried : (facts.time + k) % project.times.rule ≡ 0 =
              ap (λ (t : ℕ). (t + k) % project.times.rule) started.time ∙ matters.tried.is_multiple in
              let a = a_step_later (facts.time + seconds) (facts.time + k) project.times.rule multiple tried
              (omega (arith, less)) in
              omega (arith, a)
          | inr more ↦
              let e : k ≡ seconds = omega (arith, l, more) in
              absurd (idle grid standing row started open_by read
              (subst (RulesMatterOver project grid standing row) e matters))
        ];
  }

  pub walk_ends : (seconds last : ℕ) → last < seconds → AreWalked seconds → ForOpenPeriod project facts late readings
      (λ grid standing row. NoRuleMattersUpTo project grid standing row last)
  walk_ends seconds last past walked = λ grid standing row started open_by read s matters.
      let l = (walked grid standing row started open_by read).none_before s matters in omega (arith, l, past)

  pub walk_finds : (seconds last : ℕ) (before after : List Change) (links : List LinkState) (matter : Matter)
      → 0 < seconds → (facts.time + seconds) % project.times.rule ≡ 0 → seconds ≤ last → seconds_of matter ≡ seconds
      → AreWalked seconds
      → ForOpenPeriod project facts late readings
      (λ grid standing row. IsBroughtOver project grid standing row seconds before after links matter)
      → ForOpenPeriod project facts late readings
      (λ grid standing row. IsFirstMatter project grid standing row last before after links matter)
  walk_finds seconds last before after links matter later multiple in_time is walked brought =
      λ grid standing row started open_by read.
      let here = subst (λ (s : ℕ). IsBroughtOver project grid standing row s before after links matter) (sym is)
      (brought grid standing row started open_by read) in
      record {
        in_time = omega (arith, is, in_time);
        first = record {
          holds = matters_there project grid standing row (seconds_of matter) before after links matter
              (record {
                later = omega (arith, is, later);
                is_multiple = ap (λ (s : ℕ). (standing.known.time + s) % project.times.rule) is
                    ∙ ap (λ (t : ℕ). (t + seconds) % project.times.rule) (sym started.time) ∙ multiple;
              })
              here;
          least = λ k other.
              let l = (walked grid standing row started open_by read).none_before k other in omega (arith, is, l);
        };
        brought = here;
      }
