-- What a rule's truth tells between its two readings.
use Rattle.std.proofs.Common.{◌≡◌, ℕ, ◌<◌, Bool, length, subst, arith}
use Rattle.std.specs.Prelude.{Some, slice_get, slice_index_or}
use Rattle.std.proofs.lemmas.Option.{get_or_from_slice_get}
use Rattle.hyd_net.specs.ControlsAndRules.{IsRule}
use Rattle.hyd_net.specs.Sound.{IsSound}
use Rattle.hyd_spec.specs.ProgramTypes.{Project, Rule, RuleClause}
use Rattle.hyd_spec.specs.Rules.{Readings, groups_of, clause_holds, rule_holds}
use Rattle.hyd_spec_certificates.specs.declared.Verdict.{Verdict}
use Rattle.hyd_spec_certificates.specs.Decided.{clause_between, rule_between, IsTruthBetween}
use Rattle.hyd_spec_certificates.specs.declared.Truth.{Truth}
use Rattle.hyd_spec_certificates.specs.declared.Truth.TheVariants.{True, False, Open}
use Rattle.hyd_theorems_on_histories.specs.PassedOn.{Tells}
use Rattle.hyd_theorems_on_histories.proofs.PassedOn.{rule_tells}
use Rattle.hyd_theorems_on_histories.specs.Agreement.{AreBetween}
use Rattle.hyd_theorems_on_histories.proofs.Clauses.{clause_tells}
use Rattle.hyd_theorems_on_histories.proofs.TruthsAndRuleValues.{each_of, in-groups}
use Rattle.hyd_theorems_on_nesting.proofs.InnerRecordsDecide.{Refines, ends-refine, groups-refine}
use Rattle.hyd_controls_and_rules.specs.TruthOfRule.{IsTruthOf, IsKnownAs}

rule-at : (project : Project) → IsSound project → (k : ℕ) (each : Rule) → k < length project.rules.list
    → slice_get project.rules.list k ≡ Some each → IsRule project each
rule-at project sound k each lt at = subst (IsRule project) (get_or_from_slice_get project.rules.list k each each at)
    (sound.rules k each lt)

-- by the truth of each clause
tells-between : (project : Project) (S time : ℕ) (below x above : Readings) (rule : Rule) → IsRule project rule → 0 < S
    → AreBetween project S below x above
    → Tells (rule_between project time below above rule) (rule_holds project S time x rule)
tells-between project S time below x above rule is some between =
    rule_tells (clause_between project time below above) (clause_holds project S time x) (groups_of rule)
    (in-groups (λ clause. Tells (clause_between project time below above clause) (clause_holds project S time x
    clause)) rule
    (each_of RuleClause (λ row. Tells (clause_between project time below above row.clause) (clause_holds project S time
    x row.clause)) rule.clauses.list
    (λ k d le. clause_tells project S time below x above (slice_index_or rule.clauses.list k d).clause some (is.clauses
    k d le).relation between)))

refines-between : (project : Project) (time : ℕ) (below lower upper above : Readings) (rule : Rule)
    → IsRule project rule
    → AreBetween project 1 below lower above → AreBetween project 1 below upper above
    → Refines (rule_between project time below above rule) (rule_between project time lower upper rule)
refines-between project time below lower upper above rule is low high =
    groups-refine (clause_between project time below above) (clause_between project time lower upper) (groups_of rule)
    (in-groups (λ clause. Refines (clause_between project time below above clause) (clause_between project time lower
    upper clause)) rule
    (each_of RuleClause (λ row. Refines (clause_between project time below above row.clause) (clause_between project
    time lower upper row.clause)) rule.clauses.list
    (λ k d le. ends-refine (clause_between project time below above (slice_index_or rule.clauses.list k d).clause) _ _
    (clause_tells project 1 time below lower above (slice_index_or rule.clauses.list k d).clause (omega arith)
    (is.clauses k d le).relation low)
    (clause_tells project 1 time below upper above (slice_index_or rule.clauses.list k d).clause (omega arith)
    (is.clauses k d le).relation high))))

by-truth : (project : Project) (time : ℕ) (below above : Readings) (rule : Rule) (truth : Truth) (value : Bool)
    → IsTruthBetween project time below above rule truth
    → Tells (rule_between project time below above rule) value → IsTruthOf truth value
by-truth project time below above rule True value is tells = subst (λ (v : Verdict). Tells v value) is tells
by-truth project time below above rule False value is tells = subst (λ (v : Verdict). Tells v value) is tells
by-truth project time below above rule (Open clause lo hi) value is tells = tt

by-known : (project : Project) (time : ℕ) (below above : Readings) (rule : Rule) (truth : Truth) (known : Verdict)
    → IsTruthBetween project time below above rule truth
    → Refines (rule_between project time below above rule) known → IsKnownAs truth known
by-known project time below above rule True known is refines = subst (λ (v : Verdict). Refines v known) is refines
by-known project time below above rule False known is refines = subst (λ (v : Verdict). Refines v known) is refines
by-known project time below above rule (Open clause lo hi) known is refines = tt

pub truth_holds : (project : Project) → IsSound project
    → (k time : ℕ) (below above : Readings) (each : Rule) (truth : Truth) → k < length project.rules.list
    → slice_get project.rules.list k ≡ Some each → IsTruthBetween project time below above each truth
    → (S : ℕ) (x : Readings) → 0 < S → AreBetween project S below x above
    → IsTruthOf truth (rule_holds project S time x each)
truth_holds project sound k time below above each truth lt at is S x some between =
    by-truth project time below above each truth _ is (tells-between project S time below x above each (rule-at project
    sound k each lt at) some between)

pub truth_stays : (project : Project) → IsSound project
    → (k time : ℕ) (below above : Readings) (each : Rule) (truth : Truth) → k < length project.rules.list
    → slice_get project.rules.list k ≡ Some each → IsTruthBetween project time below above each truth
    → (lower upper : Readings)
    → AreBetween project 1 below lower above → AreBetween project 1 below upper above
    → IsKnownAs truth (rule_between project time lower upper each)
truth_stays project sound k time below above each truth lt at is lower upper low high =
    by-known project time below above each truth _ is (refines-between project time below lower upper above each
    (rule-at project sound k each lt at) low high)
