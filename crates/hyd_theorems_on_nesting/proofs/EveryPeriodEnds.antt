-- Each period that doesn't begin at the end of the run ends in some way under each record.
use Rattle.std.proofs.Common.{◌≡◌, ◌≢◌, ℕ, suc, ◌+◌, ◌%◌, ◌≤◌, refl, sym, ap, subst, ◌∙◌, arith, Bool, true, false}
use Rattle.std.proofs.Common.{List, [], ◌∷◌, map, ◌⊎◌, inl, inr}
use Rattle.std.specs.List.{AllByRecursion, list_any}
use Rattle.std.proofs.lemmas.Bool.{cases_Bool, cases_lt, cases_eq}
use Rattle.hyd_num.specs.Rational.{floor, ceiling}
use Rattle.hyd_spec.specs.ProgramTypes.{Project, Rule, RuleClause, Clause}
use Rattle.hyd_spec.specs.declared.Change.{Change}
use Rattle.hyd_spec.specs.Rules.{groups_of, measured}
use Rattle.hyd_spec_certificates.specs.PeriodNetwork.{Grid}
use Rattle.hyd_spec_certificates.specs.RecordAndStanding.{Record, Standing}
use Rattle.hyd_spec_certificates.specs.declared.Verdict.{Verdict}
use Rattle.hyd_spec_certificates.specs.declared.Verdict.TheVariants.{Yes, No, Unknown}
use Rattle.hyd_spec_certificates.specs.ThreeValuedLogic.{is_unknown, either, both}
use Rattle.hyd_spec_certificates.specs.ThreeValuedLogic.{some_holds}
use Rattle.hyd_spec_certificates.specs.ThreeValuedLogic.{all_hold}
use Rattle.hyd_spec_certificates.specs.Decided.{readings_below, readings_above, clause_between, rule_truth, rule_truths}
use Rattle.hyd_spec_certificates.specs.Decided.{decided_changes, IsTried, RulesMatter, OpenRule, IsOpenRule, End}
use Rattle.hyd_spec_certificates.specs.Decided.{ByRules, WithoutRules, RuleIsOpen, EventIsOpen, IsEarliestEnd}
use Rattle.hyd_spec_certificates.specs.Decided.{IsLatestEnd, IsFirstMatter, NoRuleMatters, EndsBy, by_rules}
use Rattle.hyd_spec_certificates.specs.Decided.{rule_is_open, by_clock, event_is_open}
use Rattle.hyd_theorems_on_raises.proofs.FirstItemsAndChoices.{first-below}
use Rattle.hyd_theorems_on_histories.proofs.TruthsAndRuleValues.{in-groups}
use Rattle.hyd_theorems_on_histories.proofs.LengthAndLinkStates.{is-empty}
use Rattle.hyd_theorems_on_histories.proofs.ListsByPlace.{mapped_at}
use Rattle.hyd_theorems_on_nesting.proofs.FirstPassingItem.{find_or_none, all_contained}
use Rattle.hyd_theorems_on_nesting.proofs.ClockLengthAndEndsExist.{any-there, earliest_is, latest_is}

never : (b : Bool) → b ≡ true → b ≡ false → ⊥
never true e f = absurd (cc)
never false e f = absurd (cc)

-- ---- a rule that is open has a clause that is

pub either_known : (s t : Verdict) → is_unknown s ≡ false → is_unknown t ≡ false → is_unknown (either s t) ≡ false
either_known Yes t p q = refl
either_known No t p q = q
either_known Unknown t p q = absurd (cc)

pub both_known : (s t : Verdict) → is_unknown s ≡ false → is_unknown t ≡ false → is_unknown (both s t) ≡ false
both_known Yes t p q = q
both_known No t p q = refl
both_known Unknown t p q = absurd (cc)

abbrev IsKnown : (Clause → Verdict) → Clause → Type 0
IsKnown truth clause = is_unknown (truth clause) ≡ false

group-known : (truth : Clause → Verdict) (group : List Clause) → AllByRecursion (IsKnown truth) group
    → is_unknown (some_holds (map truth group)) ≡ false
group-known truth [] all = refl
group-known truth (c ∷ group) all = either_known (truth c) (some_holds (map truth group)) all.0
    (group-known truth group all.1)

groups-known : (truth : Clause → Verdict) (groups : List (List Clause))
    → AllByRecursion (AllByRecursion (IsKnown truth)) groups
    → is_unknown (all_hold (map (λ group. some_holds (map truth group)) groups)) ≡ false
groups-known truth [] all = refl
groups-known truth (group ∷ groups) all =
    both_known (some_holds (map truth group)) (all_hold (map (λ g. some_holds (map truth g)) groups))
    (group-known truth group all.0) (groups-known truth groups all.1)

rule-known : (truth : Clause → Verdict) (rule : Rule)
    → AllByRecursion (λ (each : RuleClause). is_unknown (truth each.clause) ≡ false) rule.clauses.list
    → is_unknown (all_hold (map (λ group. some_holds (map truth group)) (groups_of rule))) ≡ false
rule-known truth rule all = groups-known truth (groups_of rule) (in-groups (IsKnown truth) rule all)

module _ (project : Project) (grid : Grid) (standing : Standing) (row : Record) where
  abbrev clause-at : ℕ → Clause → Verdict
  clause-at seconds clause =
      clause_between project (standing.time + seconds) (readings_below project grid standing row seconds)
      (readings_above project grid standing row seconds) clause

  abbrev truths : ℕ → List Verdict
  truths seconds = rule_truths project grid standing row seconds

  pub open_rule_is : (seconds : ℕ) → list_any is_unknown (truths seconds) ≡ true
      → (open_rule : OpenRule) × IsOpenRule project grid standing row seconds open_rule
  open_rule_is seconds unknown = elim (find_or_none Verdict is_unknown (truths seconds)) [
    | inr none ↦ absurd (
        let any = any-there Verdict is_unknown (truths seconds) unknown in
        never (is_unknown any.item) any.passes (none.fails any.item any.contained))
    | inl found ↦
        let m = mapped_at Rule Verdict (rule_truth project grid standing row seconds)
        project.rules.list found.place found.item found.is_item in
        elim (find_or_none RuleClause (λ each. is_unknown (clause-at seconds each.clause)) m.item.clauses.list) [
          | inr none ↦ absurd (
              let known = rule-known (clause-at seconds) m.item
              (all_contained RuleClause (λ each. is_unknown (clause-at seconds each.clause) ≡ false)
              m.item.clauses.list none.fails) in
              never (is_unknown (rule_truth project grid standing row seconds m.item)) (ap is_unknown m.same
              ∙ found.passes) known)
          | inl clause ↦ (
            record {
              rule = found.place;
              clause = clause.place;
              lo =
                  floor (measured project 1 (readings_below project grid standing row seconds) clause.item.clause.what);
              hi =
                  ceiling (measured project 1 (readings_above project grid standing row seconds)
                  clause.item.clause.what);
            },
            record {
              first_rule = found.is_place;
              rule = m.item;
              is_rule = m.is_item;
              clause_is = record {
                first_clause = clause.is_place;
                each = clause.item;
                is_clause =
                    clause.is_item;
                lo_is = refl;
                hi_is = refl;
              };
            },
          )
        ]
  ]

  -- ---- whether the rules matter

  tried-or-not : (seconds : ℕ) → IsTried project standing seconds ⊎ (IsTried project standing seconds → ⊥)
  tried-or-not seconds = elim (cases_lt 0 seconds) [
    | inr none ↦ inr (λ tried. let l = tried.later in absurd (omega (arith, l, none)))
    | inl later ↦ elim (cases_eq ((standing.time + seconds) % project.times.rule) 0) [
      | inl multiple ↦ inl (record { later = later; is_multiple = multiple })
      | inr other ↦ inr (λ tried. other tried.is_multiple)
    ]
  ]

  abbrev Matters : ℕ → Type 0
  Matters seconds = (list_any is_unknown (truths seconds) ≡ true) ⊎
      (decided_changes project grid standing row seconds ≢ [])

  matters-or-not : (seconds : ℕ) → Matters seconds ⊎ (Matters seconds → ⊥)
  matters-or-not seconds = elim (cases_Bool (list_any is_unknown (truths seconds))) [
    | inl unknown ↦ inl (inl unknown)
    | inr known ↦ elim (is-empty Change (decided_changes project grid standing row seconds)) [
      | inl none ↦ inr (neither known none)
      | inr some ↦ inl (inr some)
    ]
  ]
    where
      neither : list_any is_unknown (truths seconds) ≡ false
          → decided_changes project grid standing row seconds ≡ [] → Matters seconds → ⊥
      neither known none (inl unknown) = absurd (cc)
      neither known none (inr some) = some none

  rules-matter-or-not : (seconds : ℕ)
      → RulesMatter project grid standing row seconds ⊎ (RulesMatter project grid standing row seconds → ⊥)
  rules-matter-or-not seconds = elim (tried-or-not seconds) [
    | inr untried ↦ inr (λ m. untried m.tried)
    | inl tried ↦ elim (matters-or-not seconds) [
      | inl matters ↦ inl (record { tried = tried; matters = matters })
      | inr idle ↦ inr (λ m. idle m.matters)
    ]
  ]

  -- ---- the end

  module _ (some : 1 ≤ project.times.hydraulic) (not_last : standing.time ≢ project.times.duration) where
    abbrev SomeEnd : Type 0
    SomeEnd = (e : End) × EndsBy project grid standing row e

    by-matter : (seconds : ℕ) → IsFirstMatter project grid standing row seconds → SomeEnd
    by-matter seconds first = elim (cases_Bool (list_any is_unknown (truths seconds))) [
      | inr known ↦ (ByRules seconds, by_rules first known)
      | inl unknown ↦ let found = open_rule_is seconds unknown in (RuleIsOpen found.0, rule_is_open first found.1)
    ]

    without-rules : (earliest : ℕ) → NoRuleMatters project grid standing row earliest → SomeEnd
    without-rules earliest none =
        let latest = latest_is project grid standing row some in
        elim (cases_eq earliest latest.0) [
          | inl same ↦ (
            WithoutRules earliest,
            by_clock none (subst (IsLatestEnd project grid standing row)
                (sym same) latest.1),
          )
          | inr differ ↦ (EventIsOpen earliest latest.0, event_is_open none latest.1 differ)
        ]

    pub some_end : SomeEnd
    some_end = by-earliest (earliest_is project grid standing row some)
      where
        by-earliest : ((e : ℕ) × IsEarliestEnd project grid standing row e) → SomeEnd
        by-earliest (earliest, is) = elim (first-below (RulesMatter project grid standing row) rules-matter-or-not
            (suc earliest)) [
              | inr none ↦ without-rules earliest (record {
                not_last = not_last;
                is_earliest = is;
                none = λ s m. elim (cases_lt earliest s) [
                  | inl less ↦ less
                  | inr more ↦ absurd (none s (omega (arith, more)) m)
                ];
              })
              | inl (k, first) ↦ elim (cases_lt earliest k) [
                | inl after ↦ without-rules earliest (record {
                  not_last = not_last;
                  is_earliest = is;
                  none = λ s m. let l =
                      first.least s m in omega (arith, l, after);
                })
                | inr before ↦ by-matter k (record {
                  not_last = not_last;
                  earliest = earliest;
                  is_earliest = is;
                  in_time = before;
                  first = record { holds = first.holds; least = first.least };
                })
              ]
            ]
