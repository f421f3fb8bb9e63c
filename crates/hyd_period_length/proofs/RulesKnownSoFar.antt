-- Rules that are known, one after another.
use Rattle.std.proofs.Common.{◌≡◌, inl, inr, ℕ, zero, suc, ◌+◌, ◌<◌, ◌≤◌, ◌||◌, Bool, true, false, List, [], ◌∷◌}
use Rattle.std.proofs.Common.{length, refl, ap, sym, ◌∙◌, subst, arith}
use Rattle.std.specs.Prelude.{Some, map, slice_get, slice_index_or, slice_set}
use Rattle.std.specs.List.{list_any}
use Rattle.std.proofs.lemmas.Bool.{cases_lt}
use Rattle.std.proofs.lemmas.List.{length-map, get_or-map}
use Rattle.std.proofs.lemmas.Option.{slice_get_within}
use Rattle.hyd_spec.specs.ProgramTypes.{Project, Rule}
use Rattle.hyd_spec.specs.Rules.{Readings}
use Rattle.hyd_spec_certificates.specs.declared.Verdict.{Verdict}
use Rattle.hyd_spec_certificates.specs.declared.Verdict.TheVariants.{Yes}
use Rattle.hyd_spec_certificates.specs.ThreeValuedLogic.{is_yes, is_unknown}
use Rattle.hyd_spec_certificates.specs.Decided.{rule_between}
use Rattle.hyd_lemmas.proofs.ListsOptionsAndResults.{item_is, item_there}
use Rattle.hyd_controls_and_rules.proofs.FirstPassingPlace.{first_is}
use Rattle.hyd_period_length.specs.declared.truth_of_rules.RuleOpen.{RuleOpen}
use Rattle.hyd_period_length.specs.TruthOfRules.{IsKnown, IsOpen, AreKnown, IsFirstOpen}

-- ---- items of lists

set_here : {X : Type 0} (xs : List X) (k : ℕ) (x d : X) → k < length xs → slice_index_or (slice_set xs k x) k d ≡ x
set_here {X} [] k x d h = absurd (omega (arith, h))
set_here {X} (y ∷ xs) zero x d h = refl
set_here {X} (y ∷ xs) (suc k) x d h = set_here xs k x d (omega (arith, h))

set_before : {X : Type 0} (xs : List X) (k i : ℕ) (x d : X) → k < i
    → slice_index_or (slice_set xs i x) k d ≡ slice_index_or xs k d
set_before {X} [] k i x d h = refl
set_before {X} (y ∷ xs) k zero x d h = absurd (omega (arith, h))
set_before {X} (y ∷ xs) zero (suc i) x d h = refl
set_before {X} (y ∷ xs) (suc k) (suc i) x d h = set_before xs k i x d (omega (arith, h))

-- ---- rules

module _ (project : Project) (time : ℕ) (below above : Readings) where
  abbrev truth : Rule → Verdict
  truth rule = rule_between project time below above rule

  -- the rules before a number are known, with the values that stand in a list
  abbrev pub KnownBefore : ℕ → List Bool → Type 0
  KnownBefore i values = (k : ℕ) (each : Rule) → k < i → slice_get project.rules.list k ≡ Some each
      → IsKnown project time below above each (slice_index_or values k false)

  pub known_more : (i : ℕ) (values : List Bool) (value : Bool) → i < length values → KnownBefore i values
      → ((each : Rule) → slice_get project.rules.list i ≡ Some each → IsKnown project time below above each value)
      → KnownBefore (i + 1) (slice_set values i value)
  known_more i values value within before here k each h at = elim (cases_lt k i) [
    | inl less ↦ subst (IsKnown project time below above each) (sym (set_before values k i value false less))
        (before k each less at)
    | inr more ↦
        let same : k ≡ i = omega (arith, h, more) in
        let there : slice_get project.rules.list i ≡ Some each =
        ap (λ (n : ℕ). slice_get project.rules.list n) (sym same) ∙ at in
        let stands : value ≡ slice_index_or (slice_set values i value) k false =
        sym (ap (λ (n : ℕ). slice_index_or (slice_set values i value) n false) same
        ∙ set_here values i value false within) in
        subst (IsKnown project time below above each) stands (here each there)
  ]

  values_from : (rules : List Rule) (values : List Bool) → length values ≡ length rules
      → ((k : ℕ) (each : Rule) → slice_get rules k ≡ Some each → slice_index_or values k false ≡ is_yes (truth each))
      → values ≡ map is_yes (map truth rules)
  values_from [] [] e same = refl
  values_from [] (v ∷ values) e same = absurd (omega (arith, e))
  values_from (rule ∷ rules) [] e same = absurd (omega (arith, e))
  values_from (rule ∷ rules) (v ∷ values) e same =
      ap (λ (b : Bool). b ∷ values) (same 0 rule refl)
      ∙ ap (λ (bs : List Bool). is_yes (truth rule) ∷ bs)
      (values_from rules values (omega (arith, e)) (λ k each at. same (suc k) each at))

  none_from : (rules : List Rule)
      → ((k : ℕ) (each : Rule) → slice_get rules k ≡ Some each → is_unknown (truth each) ≡ false)
      → list_any is_unknown (map truth rules) ≡ false
  none_from [] same = refl
  none_from (rule ∷ rules) same =
      let here = same 0 rule refl in
      let later = none_from rules (λ k each at. same (suc k) each at) in
      or-false (is_unknown (truth rule)) (list_any is_unknown (map truth rules)) here later
    where
      or-false : (a b : Bool) → a ≡ false → b ≡ false → (a || b) ≡ false
      or-false false b h k = k
      or-false true b h k = absurd (cc)

  pub all_known : (i : ℕ) (values : List Bool) → length values ≡ length project.rules.list
      → length values ≤ i → KnownBefore i values → AreKnown project time below above values
  all_known i values e h before = record {
    none_open = none_from project.rules.list (λ k each at.
        (before k each (let w = slice_get_within project.rules.list k each at in omega (arith, w, e, h)) at).decided);
    values_are = values_from project.rules.list values e (λ k each at.
        (before k each (let w = slice_get_within project.rules.list k each at in omega (arith, w, e, h)) at).value_is);
  }

  pub first_open : (i : ℕ) (values : List Bool) (found : RuleOpen) → i < length project.rules.list
      → KnownBefore i values
      → ((each : Rule) → slice_get project.rules.list i ≡ Some each → IsOpen project time below above i each found)
      → IsFirstOpen project time below above found
  first_open i values found within before opens =
      let there = item_there project.rules.list i within in
      let is = opens there.0 there.1 in
      let size : length (map truth project.rules.list) ≡ length project.rules.list = length-map project.rules.list
      truth in
      let first = first_is is_unknown (map truth project.rules.list) i Yes (omega (arith, within, size))
      (λ k less.
      let each = item_there project.rules.list k (omega (arith, less, within)) in
      ap is_unknown (get_or-map truth project.rules.list k each.0 Yes (omega (arith, less, within))
      ∙ ap truth (item_is project.rules.list k each.0 each.0 each.1)) ∙ (before k each.0 less each.1).decided)
      (ap is_unknown (get_or-map truth project.rules.list i there.0 Yes within
      ∙ ap truth (item_is project.rules.list i there.0 there.0 there.1) ∙ is.is_open)) in
      record {
        first_rule = first ∙ ap (λ (n : ℕ). Some n) (sym is.number_is);
        rule = there.0;
        is_rule = ap (λ (n : ℕ). slice_get project.rules.list n) is.number_is ∙ there.1;
        clause_is = is.clause_is;
      }
