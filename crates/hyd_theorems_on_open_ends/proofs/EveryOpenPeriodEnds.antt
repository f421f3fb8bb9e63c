-- Each period under a record with seconds ends in some way, or some matter is open first.
use Rattle.std.proofs.Common.{◌≡◌, ◌≢◌, ℕ, suc, ◌+◌, ◌-◌, ◌%◌, ◌<◌, ◌≤◌, refl, ap, subst, ◌∙◌, arith, Bool, true}
use Rattle.std.proofs.Common.{false}
use Rattle.std.proofs.Common.{List, [], ◌∷◌, map, ◌⊎◌, inl, inr}
use Rattle.std.specs.List.{AllByRecursion, list_any}
use Rattle.std.proofs.lemmas.Bool.{cases_Bool, cases_lt, cases_eq}
use Rattle.hyd_num.specs.Rational.{floor, ceiling}
use Rattle.hyd_spec.specs.ProgramTypes.{Project, Rule, RuleClause, Clause}
use Rattle.hyd_spec.specs.declared.Change.{Change}
use Rattle.hyd_spec.specs.Rules.{groups_of, measured}
use Rattle.hyd_spec.specs.PeriodLength.{IsLeast}
use Rattle.hyd_spec_certificates.specs.declared.Verdict.{Verdict}
use Rattle.hyd_spec_certificates.specs.ThreeValuedLogic.{is_unknown, some_holds, all_hold}
use Rattle.hyd_spec_certificates.specs.PeriodNetwork.{Grid}
use Rattle.hyd_spec_certificates.specs.RecordAndStanding.{Record}
use Rattle.hyd_spec_certificates.specs.Decided.{clause_between, IsTried, OpenRule, RuleIsOpen, EventIsOpen}
use Rattle.hyd_spec_open_ends.specs.OpenStandings.{OpenStanding}
use Rattle.hyd_spec_open_ends.specs.RulesOverLengths.{readings_below_over, readings_above_over, open_rule_truth}
use Rattle.hyd_spec_open_ends.specs.RulesOverLengths.{open_rule_truths, open_changes, RulesMatterOver, SomeRuleIsOpen}
use Rattle.hyd_spec_open_ends.specs.RulesOverLengths.{NoRuleMattersUpTo, IsOpenRuleOver}
use Rattle.hyd_spec_open_ends.specs.OpenEnds.{AreSeconds, ByRules, ByInstant, ByWatched}
use Rattle.hyd_spec_open_ends.specs.OpenEnds.{by_rules, by_instant, by_watched, last_end, rule_is_open}
use Rattle.hyd_spec_open_ends.specs.OpenEnds.{rule_parts, too_wide, rule_is_open_between, rule_acts_between}
use Rattle.hyd_theorems_on_raises.proofs.FirstItemsAndChoices.{first-below}
use Rattle.hyd_theorems_on_histories.proofs.TruthsAndRuleValues.{in-groups}
use Rattle.hyd_theorems_on_histories.proofs.LengthAndLinkStates.{is-empty}
use Rattle.hyd_theorems_on_histories.proofs.ListsByPlace.{mapped_at}
use Rattle.hyd_theorems_on_nesting.proofs.EveryPeriodEnds.{either_known, both_known}
use Rattle.hyd_theorems_on_nesting.proofs.FirstPassingItem.{find_or_none, all_contained}
use Rattle.hyd_theorems_on_nesting.proofs.ClockLengthAndEndsExist.{any-there}
use Rattle.hyd_theorems_on_open_ends.specs.WaysInside.{HasFate, Ends, IsOpen}

never : (b : Bool) → b ≡ true → b ≡ false → ⊥
never true e f = absurd (cc)
never false e f = absurd (cc)

-- ---- a rule that is open has a clause that is

abbrev IsKnown : (Clause → Verdict) → Clause → Type 0
IsKnown truth clause = is_unknown (truth clause) ≡ false

group-known : (truth : Clause → Verdict) (group : List Clause) → AllByRecursion (IsKnown truth) group
    → is_unknown (some_holds (map truth group)) ≡ false
group-known truth [] all = refl
group-known truth (c ∷ group) all = either_known (truth c) (some_holds (map truth group)) all.0
    (group-known truth group all.1)

groups-known : (truth : Clause → Verdict) (groups : List (List Clause))
    → AllByRecursion (AllByRecursion (IsKnown truth)) groups
    → is_unknown (all_hold (map (λ group. some_holds (map truth group)) groups)) ≡ false
groups-known truth [] all = refl
groups-known truth (group ∷ groups) all =
    both_known (some_holds (map truth group)) (all_hold (map (λ g. some_holds (map truth g)) groups))
    (group-known truth group all.0) (groups-known truth groups all.1)

rule-known : (truth : Clause → Verdict) (rule : Rule)
    → AllByRecursion (λ (each : RuleClause). is_unknown (truth each.clause) ≡ false) rule.clauses.list
    → is_unknown (all_hold (map (λ group. some_holds (map truth group)) (groups_of rule))) ≡ false
rule-known truth rule all = groups-known truth (groups_of rule) (in-groups (IsKnown truth) rule all)

module _ (project : Project) (grid : Grid) (standing : OpenStanding) (row : Record) where
  abbrev clause-at : ℕ → Clause → Verdict
  clause-at seconds clause =
      clause_between project (standing.known.time + seconds)
      (readings_below_over project grid standing.known row (seconds - standing.late) seconds)
      (readings_above_over project grid standing.known row (seconds - standing.late) seconds) clause

  abbrev truths : ℕ → List Verdict
  truths seconds = open_rule_truths project grid standing row seconds

  open-rule-is : (seconds : ℕ) → list_any is_unknown (truths seconds) ≡ true
      → (open_rule : OpenRule) × IsOpenRuleOver project grid standing row seconds open_rule
  open-rule-is seconds unknown = elim (find_or_none Verdict is_unknown (truths seconds)) [
    | inr none ↦ absurd (
        let any = any-there Verdict is_unknown (truths seconds) unknown in
        never (is_unknown any.item) any.passes (none.fails any.item any.contained))
    | inl found ↦
        let m = mapped_at Rule Verdict (open_rule_truth project grid standing row seconds)
        project.rules.list found.place found.item found.is_item in
        elim (find_or_none RuleClause (λ each. is_unknown (clause-at seconds each.clause)) m.item.clauses.list) [
          | inr none ↦ absurd (
              let known = rule-known (clause-at seconds) m.item
              (all_contained RuleClause (λ each. is_unknown (clause-at seconds each.clause) ≡ false)
              m.item.clauses.list none.fails) in
              never (is_unknown (open_rule_truth project grid standing row seconds m.item)) (ap is_unknown m.same
              ∙ found.passes) known)
          | inl clause ↦ (
            record {
              rule = found.place;
              clause = clause.place;
              lo = floor (measured project 1
                  (readings_below_over project grid standing.known row (seconds - standing.late) seconds)
                  clause.item.clause.what);
              hi = ceiling (measured project 1
                  (readings_above_over project grid standing.known row (seconds - standing.late) seconds)
                  clause.item.clause.what);
            },
            record {
              first_rule = found.is_place;
              rule = m.item;
              is_rule = m.is_item;
              clause_is = record {
                first_clause = clause.is_place;
                each = clause.item;
                is_clause = clause.is_item;
                lo_is = refl;
                hi_is = refl;
              };
            },
          )
        ]
  ]

  -- ---- whether the rules matter

  tried-or-not : (seconds : ℕ) → IsTried project standing.known seconds
      ⊎ (IsTried project standing.known seconds → ⊥)
  tried-or-not seconds = elim (cases_lt 0 seconds) [
    | inr none ↦ inr (λ tried. let l = tried.later in absurd (omega (arith, l, none)))
    | inl later ↦ elim (cases_eq ((standing.known.time + seconds) % project.times.rule) 0) [
      | inl multiple ↦ inl (record { later = later; is_multiple = multiple })
      | inr other ↦ inr (λ tried. other tried.is_multiple)
    ]
  ]

  abbrev Matters : ℕ → Type 0
  Matters seconds = SomeRuleIsOpen project grid standing row seconds
      ⊎ (open_changes project grid standing row seconds ≢ [])

  matters-or-not : (seconds : ℕ) → Matters seconds ⊎ (Matters seconds → ⊥)
  matters-or-not seconds = elim (cases_Bool (list_any is_unknown (truths seconds))) [
    | inl unknown ↦ inl (inl unknown)
    | inr known ↦ elim (is-empty Change (open_changes project grid standing row seconds)) [
      | inl none ↦ inr (neither known none)
      | inr some ↦ inl (inr some)
    ]
  ]
    where
      neither : list_any is_unknown (truths seconds) ≡ false
          → open_changes project grid standing row seconds ≡ [] → Matters seconds → ⊥
      neither known none (inl unknown) = absurd (cc)
      neither known none (inr some) = some none

  rules-matter-or-not : (seconds : ℕ) → RulesMatterOver project grid standing row seconds
      ⊎ (RulesMatterOver project grid standing row seconds → ⊥)
  rules-matter-or-not seconds = elim (tried-or-not seconds) [
    | inr untried ↦ inr (λ m. untried m.tried)
    | inl tried ↦ elim (matters-or-not seconds) [
      | inl matters ↦ inl (record { tried = tried; matters = matters })
      | inr idle ↦ inr (λ m. idle m.matters)
    ]
  ]

  -- the rules matter first at an instant up to one, or at none up to it
  first-matter : (last : ℕ) → ((seconds : ℕ) × ((seconds ≤ last)
      × IsLeast (RulesMatterOver project grid standing row) seconds))
      ⊎ NoRuleMattersUpTo project grid standing row last
  first-matter last =
      elim (first-below (RulesMatterOver project grid standing row) rules-matter-or-not (suc last)) [
        | inr none ↦ inr (λ s m. elim (cases_lt last s) [
          | inl less ↦ less
          | inr more ↦ absurd (none s (omega (arith, more)) m)
        ])
        | inl found ↦ elim (cases_lt last found.0) [
          | inl after ↦ inr (λ s m. let l = found.1.least s m in omega (arith, l, after))
          | inr before ↦ inl (found.0, (before, found.1))
        ]
      ]

  -- ---- the end

  module _ (slack cap earliest latest : ℕ)
      (seconds : AreSeconds project grid standing.known row cap earliest latest) where
    abbrev Fate : Type 0
    Fate = HasFate project grid standing row slack

    closed : (s : ℕ) → list_any is_unknown (truths s) ≡ false → SomeRuleIsOpen project grid standing row s → ⊥
    closed s known unknown = never (list_any is_unknown (truths s)) unknown known

    early : (s : ℕ) → s ≤ earliest → IsLeast (RulesMatterOver project grid standing row) s → Fate
    early s in_time first = elim (cases_Bool (list_any is_unknown (truths s))) [
      | inl unknown ↦ let found = open-rule-is s unknown in
          IsOpen (RuleIsOpen found.0) (rule_is_open seconds first in_time found.1)
      | inr known ↦ elim (cases_lt standing.late s) [
        | inl after ↦ Ends (ByRules s) (by_rules seconds first after in_time (closed s known)) (omega arith)
        | inr parts ↦ IsOpen (EventIsOpen s (last_end standing.late latest cap))
            (rule_parts seconds first in_time parts (closed s known))
      ]
    ]

    between : earliest < cap → NoRuleMattersUpTo project grid standing row earliest → standing.late + latest < cap
        → (standing.late + latest) - earliest ≤ slack → (s : ℕ) → s ≤ standing.late + latest
        → IsLeast (RulesMatterOver project grid standing row) s → Fate
    between sooner none before narrow s by first =
        let later = none s first.holds in
        elim (cases_Bool (list_any is_unknown (truths s))) [
          | inl unknown ↦ let found = open-rule-is s unknown in
              IsOpen (RuleIsOpen found.0) (rule_is_open_between seconds before narrow first later by found.1)
          | inr known ↦ IsOpen (EventIsOpen earliest (last_end standing.late latest cap))
              (rule_acts_between seconds before narrow first later by (closed s known))
        ]

    without-rules : NoRuleMattersUpTo project grid standing row earliest → Fate
    without-rules none = elim (cases_lt earliest cap) [
      | inr more ↦
          let most = seconds.is_earliest.least cap (inl refl) in
          let e : earliest ≡ cap = omega (arith, most, more) in
          Ends (ByInstant cap) (by_instant seconds e (subst (NoRuleMattersUpTo project grid standing row) e none))
          (omega arith)
      | inl sooner ↦ elim (cases_lt (standing.late + latest) cap) [
        | inr beyond ↦ IsOpen (EventIsOpen earliest (last_end standing.late latest cap))
            (too_wide seconds none sooner (inl beyond))
        | inl before ↦ elim (cases_lt slack ((standing.late + latest) - earliest)) [
          | inl wide ↦ IsOpen (EventIsOpen earliest (last_end standing.late latest cap))
              (too_wide seconds none sooner (inr wide))
          | inr narrow ↦ elim (first-matter (standing.late + latest)) [
            | inr idle ↦ Ends (ByWatched earliest latest) (by_watched seconds before idle) narrow
            | inl found ↦ between sooner none before narrow found.0 found.1.0 found.1.1
          ]
        ]
      ]
    ]

    pub some_fate : Fate
    some_fate = elim (first-matter earliest) [
      | inl found ↦ early found.0 found.1.0 found.1.1
      | inr none ↦ without-rules none
    ]
