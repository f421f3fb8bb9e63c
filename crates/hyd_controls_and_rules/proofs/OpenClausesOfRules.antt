-- A rule that is open has a clause that is open by itself; and rules of a sound network by their numbers.
use Rattle.std.proofs.Common.{◌≡◌, ℤ, ℕ, suc, ◌<◌, false, List, [], ◌∷◌, length, map, Option, Some, None, IsSome}
use Rattle.std.proofs.Common.{slice_get, slice_index_or, position, refl, ap, sym, subst, ◌∙◌, arith}
use Rattle.std.proofs.lemmas.List.Quantifiers.{position-Some}
use Rattle.std.proofs.lemmas.List.Sums.{get_or-le-sum_by}
use Rattle.std.proofs.lemmas.Option.{slice_get-get_or}
use Rattle.hyd_num.specs.Rational.{floor, ceiling}
use Rattle.hyd_lemmas.proofs.Integers.{ceiling_whole, floor_whole}
use Rattle.hyd_net.specs.Sound.{IsSound, part_count}
use Rattle.hyd_spec.specs.ProgramTypes.{Project, Rule, RuleClause, Joined, And, Or, Clause}
use Rattle.hyd_spec.specs.Rules.{Parts, parts_of, put_before, groups_in}
use Rattle.hyd_spec_certificates.specs.declared.Verdict.{Verdict}
use Rattle.hyd_spec_certificates.specs.declared.Verdict.TheVariants.{Unknown}
use Rattle.hyd_spec_certificates.specs.ThreeValuedLogic.{is_unknown, either}
use Rattle.hyd_spec_certificates.specs.ThreeValuedLogic.{some_holds, all_hold}
use Rattle.hyd_spec_certificates.specs.Decided.{IsOpenClause}
use Rattle.hyd_controls_and_rules.specs.declared.clauses.Instant.{Instant}
use Rattle.hyd_controls_and_rules.specs.declared.clauses.Ends.{Ends}
use Rattle.hyd_controls_and_rules.specs.RuleReadings.{below, above, AreEnds}
use Rattle.hyd_controls_and_rules.specs.KnownOfRules.{IsSoundRule, is_open}
use Rattle.hyd_controls_and_rules.proofs.FirstPassingPlace.{fails}
use Rattle.hyd_theorems_on_nesting.proofs.EveryPeriodEnds.{either_known, both_known}

-- ---- premises

record AreKnown (truth : Clause → Verdict) (parts : Parts) : Type 0 where
  pub front : is_unknown (some_holds (map truth parts.front)) ≡ false
  pub rest : is_unknown (all_hold (map (λ each. some_holds (map truth each)) parts.rest)) ≡ false

put_known : (truth : Clause → Verdict) (joined : Joined) (clause : Clause) (parts : Parts)
    → is_unknown (truth clause) ≡ false → AreKnown truth parts
    → AreKnown truth (put_before joined clause parts)
put_known truth And clause parts h known = record {
  front = refl;
  rest = both_known (either (truth clause) (some_holds (map truth parts.front))) (all_hold (map
      (λ each. some_holds (map truth each)) parts.rest))
      (either_known (truth clause) (some_holds (map truth parts.front)) h known.front) known.rest;
}
put_known truth Or clause parts h known = record {
  front = either_known (truth clause) (some_holds (map truth parts.front)) h known.front;
  rest = known.rest;
}

parts_known : (truth : Clause → Verdict) (rows : List RuleClause)
    → ((k : ℕ) (d : RuleClause) → k < length rows → is_unknown (truth (slice_index_or rows k d).clause) ≡ false)
    → AreKnown truth (parts_of rows)
parts_known truth [] each = record { front = refl; rest = refl }
parts_known truth (row ∷ rows) each =
    put_known truth row.joined row.clause (parts_of rows) (each 0 row (omega arith)) (parts_known truth rows
    (λ k d h. each (suc k) d (omega arith)))

groups_known : (truth : Clause → Verdict) (front : List Clause) (rest : List (List Clause))
    → AreKnown truth (record { front = front; rest = rest })
    → is_unknown (all_hold (map (λ each. some_holds (map truth each)) (groups_in
    (record { front = front; rest = rest })))) ≡ false
groups_known truth [] rest known = known.rest
groups_known truth (clause ∷ front) rest known =
    both_known (some_holds (map truth (clause ∷ front))) (all_hold (map (λ each. some_holds
    (map truth each)) rest)) known.front known.rest

-- A premise that is open has a clause that is open.
pub some_open : (truth : Clause → Verdict) (rows : List RuleClause)
    → all_hold (map (λ each. some_holds (map truth each)) (groups_in (parts_of rows))) ≡ Unknown
    → IsSome (position (λ (row : RuleClause). is_unknown (truth row.clause)) rows)
some_open truth rows left =
    let by_case : (o : Option ℕ) → position (λ (row : RuleClause). is_unknown (truth row.clause)) rows ≡ o
    → IsSome o =
    λ o. elim o as (λ o. position (λ (row : RuleClause). is_unknown (truth row.clause)) rows ≡ o → IsSome o) [
      | Some i ↦ λ e. refl
      | None ↦ λ e. let known = groups_known truth (parts_of rows).front (parts_of rows).rest
          (parts_known truth rows (fails (λ (row : RuleClause). is_unknown (truth row.clause)) rows e)) in absurd (cc)
    ] in by_case (position (λ (row : RuleClause). is_unknown (truth row.clause)) rows) refl

-- ---- rules of a sound network

rule_in : (project : Project) → IsSound project → (k : ℕ) (d : Rule) → k < length project.rules.list
    → IsSoundRule project (slice_index_or project.rules.list k d)
rule_in project sound k d h =
    let one = get_or-le-sum_by part_count project.rules.list k d h in
    record {
      in_range = sound.rules k d h;
      made = sound.made.rules k d h;
      few = omega (arith, one, sound.counts.parts);
    }

pub sound_rule : (project : Project) → IsSound project → (k : ℕ) (rules : List Rule) (rule : Rule)
    → k < length project.rules.list
    → rules ≡ project.rules.list → rule ≡ slice_index_or rules k rule → IsSoundRule project rule
sound_rule project sound k rules rule h are is =
    subst (λ (r : Rule). IsSoundRule project r) (sym (is
    ∙ ap (λ (rs : List Rule). slice_index_or rs k rule) are)) (rule_in project sound k rule h)

-- The rule of a number is one.
pub rule_is : (project : Project) (k : ℕ) (rules : List Rule) (rule each : Rule) → k < length project.rules.list
    → rules ≡ project.rules.list → rule ≡ slice_index_or rules k rule
    → slice_get project.rules.list k ≡ Some each → rule ≡ each
rule_is project k rules rule each h are is there =
    let found = slice_get-get_or project.rules.list k rule h in
    let same : rule ≡ slice_index_or project.rules.list k rule = is
    ∙ ap (λ (rs : List Rule). slice_index_or rs k rule) are in
    cc

-- ---- ends of what a clause measures

-- The open clause of a rule, from the place of the first one and its ends.
pub open_clause : (instant : Instant) (rule : Rule) (clause : ℕ) (rows : List RuleClause) (each : RuleClause)
    (ends : Ends) (lo hi : ℤ)
    → position (is_open instant) rule.clauses.list ≡ Some clause → rows ≡ rule.clauses.list
    → each ≡ slice_index_or rows clause each
    → AreEnds instant (slice_index_or rows clause each).clause.what ends → lo ≡ ends.lo → hi ≡ ends.hi
    → IsOpenClause instant.project.now instant.time (below instant) (above instant) rule clause lo hi
open_clause instant rule clause rows each ends lo hi first are is measures low high =
    let own = subst (λ (r : RuleClause). AreEnds instant r.clause.what ends) (sym is) measures in
    let there = position-Some (is_open instant) rule.clauses.list clause each first in
    record {
      first_clause = first;
      each = each;
      is_clause = slice_get-get_or rule.clauses.list clause each there.0
          ∙ ap (λ (r : RuleClause). Some r) (sym (is
          ∙ ap (λ (rs : List RuleClause). slice_index_or rs clause each) are));
      lo_is = low ∙ sym (ap floor own.lo ∙ floor_whole ends.lo);
      hi_is = high ∙ sym (ap ceiling own.hi ∙ ceiling_whole ends.hi);
    }
