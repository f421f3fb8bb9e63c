-- How a period ends, by its seconds and by what the rules bring about first.
use Rattle.std.proofs.Common.{◌≡◌, ◌≢◌, ◌⊎◌, inl, inr, ℕ, ◌+◌, ◌-◌, ◌<◌, ◌≤◌, min, List, refl, sym, ◌∙◌, ap, subst}
use Rattle.std.proofs.Common.{arith}
use Rattle.std.specs.Prelude.{Result, Ok, Err, IfOk, IfErr}
use Rattle.std.proofs.lemmas.Bool.{cases_lt}
use Rattle.hyd_spec.specs.ProgramTypes.{Project, LinkState}
use Rattle.hyd_spec.specs.declared.Change.{Change}
use Rattle.hyd_spec_certificates.specs.PeriodNetwork.{Grid}
use Rattle.hyd_spec_certificates.specs.RecordAndStanding.{Record}
use Rattle.hyd_spec_certificates.specs.Decided.{RuleIsOpen, EventIsOpen}
use Rattle.hyd_spec_open_ends.specs.OpenStandings.{OpenStanding}
use Rattle.hyd_spec_open_ends.specs.OpenEnds.{ByRules, ByInstant, ByWatched, EndsIn, by_rules, by_instant, by_watched}
use Rattle.hyd_spec_open_ends.specs.OpenEnds.{IsFirstOpen, rule_is_open, rule_parts, too_wide, rule_is_open_between}
use Rattle.hyd_spec_open_ends.specs.OpenEnds.{rule_acts_between, last_end}
use Rattle.hyd_spec_open_ends.specs.RulesOverLengths.{NoRuleMattersUpTo, SomeRuleIsOpen}
use Rattle.hyd_period_length.specs.TriedRules.{open_rule}
use Rattle.hyd_period_length.specs.declared.truth_of_rules.RuleOpen.{RuleOpen}
use Rattle.hyd_open_rules.specs.Matters.{IsFirstMatter}
use Rattle.hyd_open_rules.specs.declared.matters.Matter.TheVariants as matters
use Rattle.hyd_open_watches.specs.declared.seconds.Seconds.{Seconds}
use Rattle.hyd_open_ends.specs.FoundEnds.{IsNarrow, IsLastTried, AreOf, EndsByRules}

-- ---- results

pub if_ok : {A E : Type 0} (P Q : A → Type 0) (r : Result A E) → ((x : A) → P x → Q x) → IfOk r P → IfOk r Q
if_ok {A} {E} P Q (Ok x) f p = f x p
if_ok {A} {E} P Q (Err e) f p = p

pub if_err : {A E : Type 0} (P Q : E → Type 0) (r : Result A E) → ((x : E) → P x → Q x) → IfErr r P → IfErr r Q
if_err {A} {E} P Q (Ok x) f p = p
if_err {A} {E} P Q (Err e) f p = f e p

-- ---- seconds

module _ (project : Project) (grid : Grid) (standing : OpenStanding) (row : Record) (late slack : ℕ)
    (seconds : Seconds) (last : ℕ) (are : AreOf project grid standing row late slack seconds last) where
  in-cap : seconds.earliest ≤ seconds.cap
  in-cap = are.seconds_are.is_earliest.least seconds.cap (inl refl)

  to_event : (m n : ℕ) (from : ℕ) → m ≡ from → n ≡ last_end late seconds.latest seconds.cap
      → IsFirstOpen project grid standing row slack (EventIsOpen from
      (last_end standing.late seconds.latest seconds.cap))
      → IsFirstOpen project grid standing row slack (EventIsOpen m n)
  to_event m n from is at found =
      subst (λ (x : ℕ). IsFirstOpen project grid standing row slack (EventIsOpen x n)) (sym is)
      (subst (λ (x : ℕ). IsFirstOpen project grid standing row slack (EventIsOpen from x))
      (ap (λ (l : ℕ). last_end l seconds.latest seconds.cap) are.late_is ∙ sym at) found)

  pub at_instant : seconds.earliest ≡ seconds.cap → NoRuleMattersUpTo project grid standing row last
      → EndsIn project grid standing row (ByInstant seconds.cap)
  at_instant whole none = by_instant are.seconds_are whole
      (subst (λ (l : ℕ). NoRuleMattersUpTo project grid standing row l) is none)
    where
      is : last ≡ seconds.cap
      is = elim are.last_is [
        | inl narrow ↦
            let before = narrow.0.0 in
            let order = are.seconds_are.in_order in
            absurd (omega (arith, before, order, whole))
        | inr wide ↦ wide.1 ∙ whole
      ]

  pub at_watched : IsNarrow late slack seconds → NoRuleMattersUpTo project grid standing row last
      → EndsIn project grid standing row (ByWatched seconds.earliest seconds.latest)
  at_watched narrow none =
      let before = narrow.0 in
      let at = are.late_is in
      by_watched are.seconds_are (omega (arith, before, at))
      (subst (λ (l : ℕ). NoRuleMattersUpTo project grid standing row l) is none)
    where
      is : last ≡ standing.late + seconds.latest
      is = elim are.last_is [
        | inl here ↦ let at = are.late_is in let e = here.1 in omega (arith, at, e)
        | inr wide ↦ absurd (wide.0 narrow)
      ]

  pub at_wide : (n : ℕ) → (IsNarrow late slack seconds → ⊥) → (seconds.earliest ≡ seconds.cap → ⊥)
      → n ≡ last_end late seconds.latest seconds.cap → NoRuleMattersUpTo project grid standing row last
      → IsFirstOpen project grid standing row slack (EventIsOpen seconds.earliest n)
  at_wide n wide apart is none =
      to_event seconds.earliest n seconds.earliest refl is
      (too_wide are.seconds_are (subst (λ (l : ℕ). NoRuleMattersUpTo project grid standing row l) at none) before
      (elim (cases_lt (late + seconds.latest) seconds.cap) [
        | inr over ↦ inl (omega (arith, over, l))
        | inl under ↦ elim (cases_lt slack ((late + seconds.latest) - seconds.earliest)) [
          | inl more ↦ inr (omega (arith, more, l))
          | inr most ↦ absurd (wide (under, most))
        ]
      ]))
    where
      l : standing.late ≡ late
      l = are.late_is

      at : last ≡ seconds.earliest
      at = elim are.last_is [
        | inl narrow ↦ absurd (wide narrow.0)
        | inr here ↦ here.1
      ]

      before : seconds.earliest < seconds.cap
      before = elim (cases_lt seconds.earliest seconds.cap) [
        | inl less ↦ less
        | inr more ↦ let m = in-cap in absurd (apart (omega (arith, m, more)))
      ]

  -- rules after the first second of what is watched are tried where its end is narrow
  narrow-there : (at : ℕ) → seconds.earliest < at → at ≤ last
      → IsNarrow late slack seconds × (at ≤ standing.late + seconds.latest)
  narrow-there at later in_time = elim are.last_is [
    | inl here ↦ let e = here.1 in let l = are.late_is in (here.0, omega (arith, e, l, in_time))
    | inr wide ↦ let e = wide.1 in absurd (omega (arith, e, later, in_time))
  ]

  module _ (before after : List Change) (links : List LinkState) (at : ℕ) where
    none : IsFirstMatter project grid standing row last before after links (matters.Acts at)
        → SomeRuleIsOpen project grid standing row at → ⊥
    none found some = let lacks = found.brought.none_open in absurd (cc)

    pub by_acts : late < at → at ≤ seconds.earliest
        → IsFirstMatter project grid standing row last before after links (matters.Acts at)
        → EndsByRules project grid standing row before after links (ByRules at)
    by_acts begun soon found =
        let l = are.late_is in
        record {
          ends = by_rules are.seconds_are found.first (omega (arith, begun, l)) soon (none found);
          links_are = found.brought.links_are;
          changes_are = found.brought.changes_are;
        }

    pub acts_open : (m n : ℕ) → ((late < at) × (at ≤ seconds.earliest) → ⊥) → m ≡ min at seconds.earliest
        → n ≡ last_end late seconds.latest seconds.cap
        → IsFirstMatter project grid standing row last before after links (matters.Acts at)
        → IsFirstOpen project grid standing row slack (EventIsOpen m n)
    acts_open m n not first is found = elim (cases_lt seconds.earliest at) [
      | inl later ↦
          let there = narrow-there at later found.in_time in
          let l = are.late_is in
          let a = there.0.0 in
          let b = there.0.1 in
          to_event m n seconds.earliest (omega (arith, first, later)) is
          (rule_acts_between are.seconds_are (omega (arith, a, l)) (omega (arith, b, l)) found.first later there.1
          (none found))
      | inr soon ↦
          let l = are.late_is in
          to_event m n at (omega (arith, first, soon)) is
          (rule_parts are.seconds_are found.first soon (elim (cases_lt late at) [
            | inl begun ↦ absurd (not (begun, soon))
            | inr parts ↦ omega (arith, parts, l)
          ]) (none found))
    ]

    pub rule_open : (rule : RuleOpen)
        → IsFirstMatter project grid standing row last before after links (matters.Open at rule)
        → IsFirstOpen project grid standing row slack (RuleIsOpen (open_rule rule))
    rule_open rule found = elim (cases_lt seconds.earliest at) [
      | inl later ↦
          let there = narrow-there at later found.in_time in
          let l = are.late_is in
          let a = there.0.0 in
          let b = there.0.1 in
          rule_is_open_between are.seconds_are (omega (arith, a, l)) (omega (arith, b, l)) found.first later there.1
          found.brought
      | inr soon ↦ rule_is_open are.seconds_are found.first soon found.brought
    ]
