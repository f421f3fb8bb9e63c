-- Lists of a rule's parts, and of rules, one row further.
use Rattle.std.proofs.Common.{◌≡◌, ◌+◌, ◌≤◌, ℕ, Bool, true, false, List, [], ◌∷◌, ◌++◌, length, drop, slice_get, suc}
use Rattle.std.proofs.Common.{Some, None, refl, sym, ap, ◌∙◌, subst, append_assoc, append-nil, drop-cons, add-one}
use Rattle.std.proofs.lemmas.List.{drop_all}
use Rattle.std.proofs.lemmas.Option.{slice_get_within, get_or_from_slice_get}
use Rattle.hyd_spec_lines.specs.Lines.{Row}
use Rattle.hyd_spec_lines.specs.declared.section.Section.TheVariants.{Rules}
use Rattle.hyd_net.specs.declared.rules.Rule.{Rule}
use Rattle.hyd_spec_input.specs.Columns.{amount}
use Rattle.hyd_spec_input.specs.MeaningsAcrossRows.{rule_groups, lines_at, is_priority, priority_of}
use Rattle.hyd_spec_input.specs.Project.{Match, IsRule}
use Rattle.hyd_spec_input.specs.RuleRows.{begins_with, stage_by, is_rule, until_rule}
use Rattle.hyd_spec_input.specs.SectionsAndTables.{is_of, words_of}
use Rattle.hyd_spec_input.specs.declared.Stage.{Stage}
use Rattle.hyd_spec_input.specs.declared.Stage.TheVariants.{Named, Outside}
use Rattle.hyd_theorems_on_input.proofs.RuleLines.{rule_is}
use Rattle.hyd_theorems_on_input.proofs.MatchedLists.{match_push}
use Rattle.hyd_network_rows.proofs.StageLemmas.{next_stage}
use Rattle.hyd_build_links_controls_and_rules.specs.Rules.{lines_from, rest_of_rule, stage_at, AreParts, AreRules}

-- ---- the lines from a place on

rest_is : (rows : List Row) (k : ℕ) (row : Row) → slice_get rows k ≡ Some row
    → drop k rows ≡ row ∷ drop (k + 1) rows
rest_is rows k row is =
    rw (add-one, drop-cons rows k row (slice_get_within rows k row is))
    (ap (λ (r : Row). r ∷ drop (suc k) rows) (get_or_from_slice_get rows k row row is))

pub lines_same : (rows : List Row) (k : ℕ) (row : Row) → slice_get rows k ≡ Some row → is_of Rules row ≡ false
    → lines_from rows k ≡ lines_from rows (k + 1)
lines_same rows k row is other = ap (words_of Rules) (rest_is rows k row is) ∙ rw other refl

pub lines_more : (rows : List Row) (k : ℕ) (row : Row) → slice_get rows k ≡ Some row → is_of Rules row ≡ true
    → lines_from rows k ≡ row.words ∷ lines_from rows (k + 1)
lines_more rows k row is member = ap (words_of Rules) (rest_is rows k row is) ∙ rw member refl

pub lines_end : (rows : List Row) (k : ℕ) → length rows ≤ k → lines_from rows k ≡ []
lines_end rows k l = ap (words_of Rules) (drop_all k rows l)

-- ---- the parts of a rule

pub parts_begin : {B : Type 0} (passes : Stage → Bool) (R : List (List ℕ) → B → Type 0) (rows : List Row) (from : ℕ)
    → Named ≡ stage_at rows from → AreParts passes R rows from from Named []
parts_begin passes R rows from named = record { stage_is = named; done = []; all = refl; built = tt }

pub parts_skip : {B : Type 0} (passes : Stage → Bool) (R : List (List ℕ) → B → Type 0) (rows : List Row) (from k : ℕ)
    (row : Row) (stage : Stage) (list : List B) → AreParts passes R rows from k stage list
    → slice_get rows k ≡ Some row → is_of Rules row ≡ false → AreParts passes R rows from (k + 1) stage list
parts_skip passes R rows from k row stage list before is other = record {
  stage_is = next_stage rows k row stage stage is before.stage_is (rw other refl);
  done = before.done;
  all = before.all
      ∙ ap (λ ls. before.done ++ lines_at passes stage (until_rule ls)) (lines_same rows k row is other);
  built = before.built;
}

pub parts_less : {B : Type 0} (passes : Stage → Bool) (R : List (List ℕ) → B → Type 0) (rows : List Row) (from k : ℕ)
    (row : Row) (stage next : Stage) (list : List B) → AreParts passes R rows from k stage list
    → slice_get rows k ≡ Some row → is_of Rules row ≡ true → is_rule (begins_with row.words) ≡ false
    → next ≡ stage_by stage (begins_with row.words) → passes next ≡ false
    → AreParts passes R rows from (k + 1) next list
parts_less passes R rows from k row stage next list before is member going n less =
    let not_here : passes (stage_by stage (begins_with row.words)) ≡ false = rw n at less in
    let step : lines_at passes stage (rest_of_rule rows k) ≡ lines_at passes next (rest_of_rule rows (k + 1)) =
    ap (λ ls. lines_at passes stage (until_rule ls)) (lines_more rows k row is member)
    ∙ rw (n, going, not_here) refl in
    record {
      stage_is = next_stage rows k row stage next is before.stage_is (rw member n);
      done = before.done;
      all = before.all ∙ ap (λ ls. before.done ++ ls) step;
      built = before.built;
    }

pub parts_more : {B : Type 0} (passes : Stage → Bool) (R : List (List ℕ) → B → Type 0) (rows : List Row) (from k : ℕ)
    (row : Row) (stage next : Stage) (list more : List B) (item : B) → AreParts passes R rows from k stage list
    → slice_get rows k ≡ Some row → is_of Rules row ≡ true → is_rule (begins_with row.words) ≡ false
    → next ≡ stage_by stage (begins_with row.words) → passes next ≡ true → R row.words item
    → more ≡ list ++ item ∷ [] → AreParts passes R rows from (k + 1) next more
parts_more passes R rows from k row stage next list more item before is member going n here right m =
    let at_it : passes (stage_by stage (begins_with row.words)) ≡ true = rw n at here in
    let step : lines_at passes stage (rest_of_rule rows k)
    ≡ row.words ∷ lines_at passes next (rest_of_rule rows (k + 1)) =
    ap (λ ls. lines_at passes stage (until_rule ls)) (lines_more rows k row is member)
    ∙ rw (n, going, at_it) refl in
    record {
      stage_is = next_stage rows k row stage next is before.stage_is (rw member n);
      done = before.done ++ row.words ∷ [];
      all = before.all ∙ ap (λ ls. before.done ++ ls) step
          ∙ sym (append_assoc before.done (row.words ∷ []) (lines_at passes next (rest_of_rule rows (k + 1))));
      built = rw m (match_push R before.done list row.words item before.built right);
    }

parts_done : {B : Type 0} (passes : Stage → Bool) (R : List (List ℕ) → B → Type 0) (rows : List Row) (from k : ℕ)
    (stage : Stage) (list : List B) → AreParts passes R rows from k stage list → rest_of_rule rows k ≡ []
    → Match R (lines_at passes Named (rest_of_rule rows from)) list
parts_done passes R rows from k stage list before none =
    let all : lines_at passes Named (rest_of_rule rows from) ≡ before.done =
    before.all ∙ ap (λ ls. before.done ++ lines_at passes stage ls) none ∙ append-nil before.done in
    subst (λ (ls : List (List (List ℕ))). Match R ls list) (sym all) before.built

pub parts_before_rule : {B : Type 0} (passes : Stage → Bool) (R : List (List ℕ) → B → Type 0) (rows : List Row)
    (from k : ℕ) (row : Row) (stage : Stage) (list : List B) → AreParts passes R rows from k stage list
    → slice_get rows k ≡ Some row → is_of Rules row ≡ true → is_rule (begins_with row.words) ≡ true
    → Match R (lines_at passes Named (rest_of_rule rows from)) list
parts_before_rule passes R rows from k row stage list before is member begun =
    parts_done passes R rows from k stage list before
    (ap until_rule (lines_more rows k row is member) ∙ rw begun refl)

pub parts_at_end : {B : Type 0} (passes : Stage → Bool) (R : List (List ℕ) → B → Type 0) (rows : List Row)
    (from k : ℕ) (stage : Stage) (list : List B) → AreParts passes R rows from k stage list → length rows ≤ k
    → Match R (lines_at passes Named (rest_of_rule rows from)) list
parts_at_end passes R rows from k stage list before l =
    parts_done passes R rows from k stage list before (ap until_rule (lines_end rows k l))

-- ---- its priority

pub priority_skip : (rows : List Row) (k : ℕ) (row : Row) → slice_get rows k ≡ Some row → is_of Rules row ≡ false
    → priority_of (rest_of_rule rows (k + 1)) ≡ priority_of (rest_of_rule rows k)
priority_skip rows k row is other = sym (ap (λ ls. priority_of (until_rule ls)) (lines_same rows k row is other))

pub priority_less : (rows : List Row) (k : ℕ) (row : Row) → slice_get rows k ≡ Some row → is_of Rules row ≡ true
    → is_rule (begins_with row.words) ≡ false → is_priority (begins_with row.words) ≡ false
    → priority_of (rest_of_rule rows (k + 1)) ≡ priority_of (rest_of_rule rows k)
priority_less rows k row is member going less =
    sym (ap (λ ls. priority_of (until_rule ls)) (lines_more rows k row is member) ∙ rw (going, less) refl)

pub priority_here : (rows : List Row) (k : ℕ) (row : Row) → slice_get rows k ≡ Some row → is_of Rules row ≡ true
    → is_rule (begins_with row.words) ≡ false → is_priority (begins_with row.words) ≡ true
    → Some (amount 1 row.words) ≡ priority_of (rest_of_rule rows k)
priority_here rows k row is member going here =
    sym (ap (λ ls. priority_of (until_rule ls)) (lines_more rows k row is member) ∙ rw (going, here) refl)

pub priority_before_rule : (rows : List Row) (k : ℕ) (row : Row) → slice_get rows k ≡ Some row
    → is_of Rules row ≡ true → is_rule (begins_with row.words) ≡ true → None ≡ priority_of (rest_of_rule rows k)
priority_before_rule rows k row is member begun =
    sym (ap (λ ls. priority_of (until_rule ls)) (lines_more rows k row is member) ∙ rw begun refl)

pub priority_at_end : (rows : List Row) (k : ℕ) → length rows ≤ k → None ≡ priority_of (rest_of_rule rows k)
priority_at_end rows k l = sym (ap (λ ls. priority_of (until_rule ls)) (lines_end rows k l))

-- ---- the rules

pub rules_begin : (rows : List Row) → AreRules rows 0 []
rules_begin rows = record { done = []; all = refl; built = tt }

pub rules_skip : (rows : List Row) (k : ℕ) (row : Row) (list : List Rule) → AreRules rows k list
    → slice_get rows k ≡ Some row → is_of Rules row ≡ false → AreRules rows (k + 1) list
rules_skip rows k row list before is other = record {
  done = before.done;
  all = before.all ∙ ap (λ ls. before.done ++ rule_groups ls) (lines_same rows k row is other);
  built = before.built;
}

pub rules_less : (rows : List Row) (k : ℕ) (row : Row) (list : List Rule) → AreRules rows k list
    → slice_get rows k ≡ Some row → is_of Rules row ≡ true → is_rule (begins_with row.words) ≡ false
    → AreRules rows (k + 1) list
rules_less rows k row list before is member going =
    let step : rule_groups (lines_from rows k) ≡ rule_groups (lines_from rows (k + 1)) =
    ap rule_groups (lines_more rows k row is member) ∙ rw going refl in
    record { done = before.done; all = before.all ∙ ap (λ gs. before.done ++ gs) step; built = before.built }

pub rules_more : (rows : List Row) (k : ℕ) (row : Row) (list more : List Rule) (rule : Rule) → AreRules rows k list
    → slice_get rows k ≡ Some row → is_of Rules row ≡ true → is_rule (begins_with row.words) ≡ true
    → IsRule rows (row.words ∷ rest_of_rule rows (k + 1)) rule → more ≡ list ++ rule ∷ [] → AreRules rows (k + 1) more
rules_more rows k row list more rule before is member begun right m =
    let group = row.words ∷ rest_of_rule rows (k + 1) in
    let step : rule_groups (lines_from rows k) ≡ group ∷ rule_groups (lines_from rows (k + 1)) =
    ap rule_groups (lines_more rows k row is member) ∙ rw begun refl in
    record {
      done = before.done ++ group ∷ [];
      all = before.all ∙ ap (λ gs. before.done ++ gs) step
          ∙ sym (append_assoc before.done (group ∷ []) (rule_groups (lines_from rows (k + 1))));
      built = rw m (match_push (IsRule rows) before.done list group rule before.built right);
    }

pub rules_end : (rows : List Row) (k : ℕ) (list : List Rule) → AreRules rows k list → length rows ≤ k
    → Match (IsRule rows) (rule_groups (words_of Rules rows)) list
rules_end rows k list before l =
    let all : rule_groups (words_of Rules rows) ≡ before.done =
    before.all ∙ ap (λ ls. before.done ++ rule_groups ls) (lines_end rows k l) ∙ append-nil before.done in
    subst (λ (gs : List (List (List (List ℕ)))). Match (IsRule rows) gs list) (sym all) before.built

-- ---- a rule from its parts

pub named_after : (rows : List Row) (k : ℕ) (row : Row) → slice_get rows k ≡ Some row → is_of Rules row ≡ true
    → is_rule (begins_with row.words) ≡ true → Named ≡ stage_at rows (k + 1)
named_after rows k row is member begun =
    next_stage rows k row (stage_at rows k) Named is refl
    (rw (member, rule_is (begins_with row.words) begun) refl)

pub lines_behind : (passes : Stage → Bool) (words : List (List ℕ)) (lines : List (List (List ℕ)))
    → is_rule (begins_with words) ≡ true → passes Named ≡ false
    → lines_at passes Named lines ≡ lines_at passes Outside (words ∷ lines)
lines_behind passes words lines begun other = sym (rw (rule_is (begins_with words) begun, other) refl)

pub priority_behind : (words : List (List ℕ)) (lines : List (List (List ℕ))) → is_rule (begins_with words) ≡ true
    → priority_of lines ≡ priority_of (words ∷ lines)
priority_behind words lines begun = sym (rw (rule_is (begins_with words) begun) refl)
