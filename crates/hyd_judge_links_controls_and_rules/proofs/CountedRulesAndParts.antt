-- Rules, clauses and actions counted, one row further.
use Rattle.std.proofs.Common.{◌≡◌, ◌+◌, ◌≤◌, ◌++◌, ◌↔◌, ℕ, Bool, true, false, not, if◌then◌else◌, List, [], ◌∷◌, length}
use Rattle.std.proofs.Common.{filter, take, slice_get, Option, Some, None, Contains, refl, sym, ap, ◌∙◌, arith, inl}
use Rattle.std.proofs.Common.{inr, true≢false, length-append, append-nil}
use Rattle.std.specs.Prelude.{◌||◌}
use Rattle.std.specs.List.{list_any}
use Rattle.std.specs.Str.{bytes_eq}
use Rattle.std.specs.Cmp.Lexicographic.{bytes_decides, nat_list_eq_equiv}
use Rattle.std.proofs.lemmas.Bool.{cases_Bool}
use Rattle.std.proofs.lemmas.List.Folds.{list_any-append}
use Rattle.std.proofs.lemmas.List.Elements.{filter-append}
use Rattle.std.proofs.lemmas.Map.Views.{Contains-from_any, list_any-from_Contains}
use Rattle.hyd_spec_lines.specs.Lines.{Row}
use Rattle.hyd_spec_lines.specs.declared.section.Section.TheVariants.{Rules as InRules}
use Rattle.hyd_spec_input.specs.Columns.{word}
use Rattle.hyd_spec_input.specs.RuleRows.{begins_with, is_rule}
use Rattle.hyd_spec_input.specs.SectionsAndTables.{is_of, rows_of}
use Rattle.hyd_spec_input.specs.FaultsWithOtherRows.{names_rule, is_part, is_part_word, has_rule, rules_in, parts_in}
use Rattle.hyd_spec_input.specs.declared.RuleWord.{RuleWord}
use Rattle.hyd_spec_input.specs.declared.RuleWord.TheVariants.{Rule, If, And, Or, Then, Else, Priority}
use Rattle.hyd_rows_and_tables.proofs.FirstWrongRowLemmas.{filter_more, filter_same}
use Rattle.hyd_judge_links_controls_and_rules.specs.Rules.{AreCounted}
use Rattle.hyd_judge_links_controls_and_rules.specs.declared.rules.RuleCounts.{RuleCounts}

-- ---- lines of rules

more_of : (p : Row → Bool) (rows : List Row) (k : ℕ) (row : Row) → slice_get rows k ≡ Some row
    → is_of InRules row ≡ true → p row ≡ true
    → filter p (rows_of InRules (take (k + 1) rows)) ≡ filter p (rows_of InRules (take k rows)) ++ row ∷ []
more_of p rows k row is member passes =
    ap (filter p) (filter_more (is_of InRules) rows k row is member)
    ∙ filter-append p (rows_of InRules (take k rows)) (row ∷ []) ∙ rw passes refl

same_of : (p : Row → Bool) (rows : List Row) (k : ℕ) (row : Row) → slice_get rows k ≡ Some row
    → is_of InRules row ≡ true → p row ≡ false
    → filter p (rows_of InRules (take (k + 1) rows)) ≡ filter p (rows_of InRules (take k rows))
same_of p rows k row is member other =
    ap (filter p) (filter_more (is_of InRules) rows k row is member)
    ∙ filter-append p (rows_of InRules (take k rows)) (row ∷ [])
    ∙ rw other (append-nil (filter p (rows_of InRules (take k rows))))

rule_is_no_part : (o : Option RuleWord) → is_rule o ≡ true → is_part_word o ≡ false
rule_is_no_part (Some Rule) e = refl
rule_is_no_part (Some If) e = absurd (true≢false (sym e))
rule_is_no_part (Some And) e = absurd (true≢false (sym e))
rule_is_no_part (Some Or) e = absurd (true≢false (sym e))
rule_is_no_part (Some Then) e = absurd (true≢false (sym e))
rule_is_no_part (Some Else) e = absurd (true≢false (sym e))
rule_is_no_part (Some Priority) e = absurd (true≢false (sym e))
rule_is_no_part None e = absurd (true≢false (sym e))

-- ---- IDs of rules

has_rule-append : (name : List ℕ) (rows : List Row) (row : Row)
    → has_rule name (rows ++ row ∷ []) ≡ (has_rule name rows || bytes_eq name (word 1 row.words))
has_rule-append name [] row = by (bytes_eq name (word 1 row.words))
  where
    by : (b : Bool) → (b || false) ≡ b
    by true = refl
    by false = refl
has_rule-append name (next ∷ rows) row = by (bytes_eq name (word 1 next.words)) (has_rule name (rows ++ row ∷ []))
    (has_rule name rows) (bytes_eq name (word 1 row.words)) (has_rule-append name rows row)
  where
    by : (a more rest last : Bool) → more ≡ (rest || last) → (a || more) ≡ ((a || rest) || last)
    by true more rest last e = refl
    by false more rest last e = e

-- an ID is there, or is new
pub new_is : (name : List ℕ) (rows : List Row) (ids : List (List ℕ)) (new : Bool)
    → ((q : List ℕ) → list_any (bytes_eq q) ids ≡ has_rule q rows)
    → ((new ≡ false) ↔ Contains ids name) → new ≡ not (has_rule name rows)
new_is name rows ids new same present = elim (cases_Bool (has_rule name rows)) [
  | inl t ↦ rw t (present.1 (Contains-from_any (λ x y h. (bytes_decides x y).0 h) name ids (same name ∙ t)))
  | inr f ↦ rw f (elim (cases_Bool new) [
    | inl n ↦ n
    | inr n ↦ absurd (true≢false (sym (list_any-from_Contains nat_list_eq_equiv name ids (present.0 n))
        ∙ same name ∙ f))
  ])
]

named_more : (q name : List ℕ) (rows : List Row) (row : Row) (ids next : List (List ℕ)) (new : Bool)
    → name ≡ word 1 row.words → ((q : List ℕ) → list_any (bytes_eq q) ids ≡ has_rule q rows)
    → new ≡ not (has_rule name rows) → next ≡ (if new then ids ++ name ∷ [] else ids)
    → list_any (bytes_eq q) next ≡ has_rule q (rows ++ row ∷ [])
named_more q name rows row ids next true n same e l =
    rw (has_rule-append q rows row, l, list_any-append (bytes_eq q) ids (name ∷ []), same q, n)
    (by (has_rule q rows) (bytes_eq q (word 1 row.words)))
  where
    by : (a b : Bool) → (a || (b || false)) ≡ (a || b)
    by true b = refl
    by false true = refl
    by false false = refl
named_more q name rows row ids next false n same e l =
    rw (has_rule-append q rows row, l, same q) (sym (elim (cases_Bool (bytes_eq q (word 1 row.words))) [
      | inl t ↦ (let alike : q ≡ name = (bytes_decides q (word 1 row.words)).0 t ∙ sym n in
          let there : has_rule q rows ≡ true = rw alike (not_false (has_rule name rows) e) in
          rw there refl)
      | inr f ↦ rw f (or_false (has_rule q rows))
    ]))
  where
    not_false : (b : Bool) → false ≡ not b → b ≡ true
    not_false true e = refl
    not_false false e = absurd (true≢false (sym e))

    or_false : (b : Bool) → (b || false) ≡ b
    or_false true = refl
    or_false false = refl

-- ---- one row further

pub counted_rule : (rows : List Row) (k : ℕ) (row : Row) (counts next : RuleCounts) (name : List ℕ) (new : Bool)
    → AreCounted rows k counts → slice_get rows k ≡ Some row → is_of InRules row ≡ true
    → is_rule (begins_with row.words) ≡ true → name ≡ word 1 row.words
    → ((new ≡ false) ↔ Contains counts.names name)
    → next.names ≡ (if new then counts.names ++ name ∷ [] else counts.names)
    → next.rules ≡ counts.rules + 1 → next.parts ≡ counts.parts → AreCounted rows (k + 1) next
counted_rule rows k row counts next name new before is member rule n present names rules parts =
    let fresh = new_is name (rules_in (take k rows)) counts.names new before.named present in
    let more : rules_in (take (k + 1) rows) ≡ rules_in (take k rows) ++ row ∷ [] =
    more_of names_rule rows k row is member rule in
    let same : parts_in (take (k + 1) rows) ≡ parts_in (take k rows) =
    same_of is_part rows k row is member (rule_is_no_part (begins_with row.words) rule) in
    record {
      named = λ q. rw more (named_more q name (rules_in (take k rows)) row counts.names next.names new n before.named
          fresh names);
      rules = rw more (rules ∙ ap (λ m. m + 1) before.rules
          ∙ sym (length-append (rules_in (take k rows)) (row ∷ [])));
      parts = rw same (parts ∙ before.parts);
      few_names = longer new names;
      few_rules = omega (arith, before.few_rules, rules);
      few_parts = omega (arith, before.few_parts, parts);
    }
  where
    longer : (b : Bool) → next.names ≡ (if b then counts.names ++ name ∷ [] else counts.names)
        → length next.names ≤ k + 1
    longer true e = omega (arith, before.few_names, ap length e, length-append counts.names (name ∷ []))
    longer false e = omega (arith, before.few_names, ap length e)

pub counted_part : (rows : List Row) (k : ℕ) (row : Row) (counts next : RuleCounts) → AreCounted rows k counts
    → slice_get rows k ≡ Some row → is_of InRules row ≡ true → is_rule (begins_with row.words) ≡ false
    → is_part_word (begins_with row.words) ≡ true → next.names ≡ counts.names → next.rules ≡ counts.rules
    → next.parts ≡ counts.parts + 1 → AreCounted rows (k + 1) next
counted_part rows k row counts next before is member rule part names rules parts =
    let same : rules_in (take (k + 1) rows) ≡ rules_in (take k rows) =
    same_of names_rule rows k row is member rule in
    let more : parts_in (take (k + 1) rows) ≡ parts_in (take k rows) ++ row ∷ [] =
    more_of is_part rows k row is member part in
    record {
      named = λ q. rw (same, names) (before.named q);
      rules = rw same (rules ∙ before.rules);
      parts = rw more (parts ∙ ap (λ m. m + 1) before.parts
          ∙ sym (length-append (parts_in (take k rows)) (row ∷ [])));
      few_names = omega (arith, before.few_names, ap length names);
      few_rules = omega (arith, before.few_rules, rules);
      few_parts = omega (arith, before.few_parts, parts);
    }

pub counted_other : (rows : List Row) (k : ℕ) (row : Row) (counts : RuleCounts) → AreCounted rows k counts
    → slice_get rows k ≡ Some row → is_of InRules row ≡ true → is_rule (begins_with row.words) ≡ false
    → is_part_word (begins_with row.words) ≡ false → AreCounted rows (k + 1) counts
counted_other rows k row counts before is member rule part =
    let same : rules_in (take (k + 1) rows) ≡ rules_in (take k rows) =
    same_of names_rule rows k row is member rule in
    let none : parts_in (take (k + 1) rows) ≡ parts_in (take k rows) =
    same_of is_part rows k row is member part in
    record {
      named = λ q. rw same (before.named q);
      rules = rw same before.rules;
      parts = rw none before.parts;
      few_names = omega (arith, before.few_names);
      few_rules = omega (arith, before.few_rules);
      few_parts = omega (arith, before.few_parts);
    }

pub counted_elsewhere : (rows : List Row) (k : ℕ) (row : Row) (counts : RuleCounts) → AreCounted rows k counts
    → slice_get rows k ≡ Some row → is_of InRules row ≡ false → AreCounted rows (k + 1) counts
counted_elsewhere rows k row counts before is other =
    let same : rows_of InRules (take (k + 1) rows) ≡ rows_of InRules (take k rows) =
    filter_same (is_of InRules) rows k row is other in
    record {
      named = λ q. rw same (before.named q);
      rules = rw same before.rules;
      parts = rw same before.parts;
      few_names = omega (arith, before.few_names);
      few_rules = omega (arith, before.few_rules);
      few_parts = omega (arith, before.few_parts);
    }
