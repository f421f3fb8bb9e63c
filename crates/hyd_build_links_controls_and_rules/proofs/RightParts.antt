-- The lines of rules of a file without a fault, at the stage before them.
use Rattle.std.proofs.Common.{◌≡◌, ◌+◌, ℕ, Bool, true, false, List, ◌∷◌, [], drop, take, slice_get, Option, Some, None}
use Rattle.std.proofs.Common.{refl, sym, subst, true≢false, inl}
use Rattle.hyd_spec_lines.specs.Lines.{Row}
use Rattle.hyd_spec_lines.specs.declared.section.Section.{Section}
use Rattle.hyd_spec_lines.specs.declared.section.Section.TheVariants.{Rules}
use Rattle.hyd_net.specs.declared.refusal_cause.Cause.TheVariants.{Syntax}
use Rattle.hyd_option_and_rule_lines.specs.WhatLinesSay.{IsClauseLine, ClauseSays}
use Rattle.hyd_option_and_rule_lines.specs.declared.rules.ClauseLine.{ClauseLine}
use Rattle.hyd_spec_input.specs.SingleRows as itself
use Rattle.hyd_spec_input.specs.SingleRows.{IsWrongByItself}
use Rattle.hyd_spec_input.specs.Columns.{first, unless, needed, ends, number, id, word}
use Rattle.hyd_spec_input.specs.Faults.{NoneIs, IsWrongWithOthers}
use Rattle.hyd_spec_input.specs.Keywords.{object_word, attribute_word}
use Rattle.hyd_spec_input.specs.MeaningsAcrossRows.{node_ids, tank_ids, link_ids, is_asking, is_priority}
use Rattle.hyd_spec_input.specs.RuleRows as form
use Rattle.hyd_spec_input.specs.RuleRows.{begins_with, stage_by, is_acting, in_order, words_of_rule_line, words_about}
use Rattle.hyd_spec_input.specs.RuleRows.{gets_then, can_have, attribute_of, attribute, relation, value}
use Rattle.hyd_spec_input.specs.RuleRows.{attribute_place, comparison, clause_about}
use Rattle.hyd_spec_input.specs.SectionsAndTables.{is_of, words_of}
use Rattle.hyd_spec_input.specs.FaultsWithOtherRows as others
use Rattle.hyd_spec_input.specs.FaultsWithOtherRows.{is_part_word, is_action_word}
use Rattle.hyd_spec_input.specs.declared.Attribute.{Attribute}
use Rattle.hyd_spec_input.specs.declared.ObjectWord.{ObjectWord}
use Rattle.hyd_spec_input.specs.declared.ObjectWord.TheVariants.{System, Node, Link}
use Rattle.hyd_spec_input.specs.declared.RuleWord.{RuleWord}
use Rattle.hyd_spec_input.specs.declared.RuleWord.TheVariants.{Rule, If, And, Or, Then, Else, Priority}
use Rattle.hyd_spec_input.specs.declared.Stage.{Stage}
use Rattle.hyd_spec_input.specs.declared.Stage.TheVariants.{Outside, Named, Asking, Acting, Otherwise, Closed}
use Rattle.hyd_theorems_on_input.proofs.RowsWithoutFault.{or_none, all_none, unless_none, needed_none, section_is, none_alone}
use Rattle.hyd_theorems_on_input.proofs.RowsWithoutFault.{none_from}
use Rattle.hyd_theorems_on_input.proofs.RuleLines.{not_rule}
use Rattle.hyd_build_links_controls_and_rules.specs.Clauses.{HasNumber}
use Rattle.hyd_build_links_controls_and_rules.specs.RightRowsOfCommands.{IsRightAction}
use Rattle.hyd_build_links_controls_and_rules.specs.Rules.{is_clause_word, IsRightClause, is_of_branch, stage_at}
use Rattle.hyd_build_links_controls_and_rules.specs.declared.rule_parts.Branch.{Branch}
use Rattle.hyd_build_links_controls_and_rules.specs.declared.rule_parts.Branch.TheVariants as branch
use Rattle.hyd_build_links_controls_and_rules.proofs.ActionLemmas.{right_action}
use Rattle.hyd_build_links_controls_and_rules.proofs.RightClauses.{clause_numbered}

-- ---- by itself

record Alone (rows : List Row) (k : ℕ) (words : List (List ℕ)) : Type 0 where
  order : in_order (stage_at rows k) (begins_with words) ≡ None
  line : words_of_rule_line (is_acting (stage_at rows k)) words ≡ None

alone : (rows : List Row) (k : ℕ) (row : Row) → NoneIs (IsWrongByItself rows) → slice_get rows k ≡ Some row
    → is_of Rules row ≡ true → Alone rows k row.words
alone rows k row right is member =
    let earlier = words_of Rules (take k rows) in
    let later = words_of Rules (drop (k + 1) rows) in
    let P : Section → Type 0 = λ s. itself.section_fault s earlier row.words later ≡ None in
    let all : form.rule_line earlier row.words later ≡ None =
    subst P (section_is Rules row member)
    (none_alone rows k row right is) in
    let each = all_none (in_order (stage_at rows k) (begins_with row.words)
    ∷ words_of_rule_line (is_acting (stage_at rows k)) row.words ∷ unless (gets_then row.words later) Syntax ∷ []) all
    in
    record { order = each.0; line = each.1.0 }

-- ---- clauses

record Asks (o : Option RuleWord) (acting : Bool) (words : List (List ℕ)) : Type 0 where
  clause : is_clause_word o ≡ true
  part : is_part_word o ≡ true
  not_action : is_action_word o acting ≡ false
  by_itself : form.clause words ≡ None

asks : (stage : Stage) (o : Option RuleWord) (words : List (List ℕ)) → in_order stage o ≡ None
    → words_about o (is_acting stage) words ≡ None → is_asking (stage_by stage o) ≡ true
    → Asks o (is_acting stage) words
asks stage None words order line e = absurd (let x : ⊥ = cc in x)
asks stage (Some Rule) words order line e = absurd (true≢false (sym e))
asks stage (Some Then) words order line e = absurd (true≢false (sym e))
asks stage (Some Else) words order line e = absurd (true≢false (sym e))
asks stage (Some Priority) words order line e = absurd (true≢false (sym e))
asks stage (Some If) words order line e =
    record { clause = refl; part = refl; not_action = refl; by_itself = line }
asks stage (Some Or) words order line e =
    record { clause = refl; part = refl; not_action = refl; by_itself = line }
asks Asking (Some And) words order line e =
    record { clause = refl; part = refl; not_action = refl; by_itself = line }
asks Outside (Some And) words order line e = absurd (true≢false (sym e))
asks Named (Some And) words order line e = absurd (true≢false (sym e))
asks Acting (Some And) words order line e = absurd (true≢false (sym e))
asks Otherwise (Some And) words order line e = absurd (true≢false (sym e))
asks Closed (Some And) words order line e = absurd (true≢false (sym e))

pub right_clause : (rows : List Row) (k : ℕ) (row : Row) → NoneIs (IsWrongByItself rows)
    → NoneIs (IsWrongWithOthers rows) → slice_get rows k ≡ Some row → is_of Rules row ≡ true
    → is_asking (stage_by (stage_at rows k) (begins_with row.words)) ≡ true → IsRightClause rows row.words
right_clause rows k row by_itself with_others is member asking =
    let own = alone rows k row by_itself is member in
    let ask = asks (stage_at rows k) (begins_with row.words) row.words own.order own.line asking in
    let Q : Section → Type 0 = λ s. others.section_fault s rows k row ≡ None in
    let none = none_from (others.row_fault rows k row) (λ cause f. with_others k cause (record {
      row = row;
      row_is = is;
      fault = inl f;
    })) in
    let line : others.rule_line rows k row ≡ None = subst Q (section_is Rules row member) none in
    let parts : first (others.part_faults rows k row) ≡ None =
    rw (not_rule (begins_with row.words) ask.part, ask.part) at line in
    let each = all_none (others.part_faults rows k row) parts in
    let clause : others.clause rows row.words ≡ None = rw ask.not_action at each.1.0 in
    record { begins = ask.clause; by_itself = ask.by_itself; with_others = clause }

-- what it names has a number
can_compare : (o : ObjectWord) (k : ℕ) (words : List (List ℕ)) (a : Attribute) → comparison o k words ≡ None
    → attribute_word (word k words) ≡ Some a → can_have o a ≡ true
can_compare o k words a none is =
    let each = all_none (needed (attribute o) k words
    ∷ needed (relation (attribute_word (word k words))) (k + 1) words
    ∷ value (attribute_word (word k words)) (k + 2) words ∷ []) none in
    let there = needed_none (attribute o) k words each.0 in
    let has : attribute_of o (Some a) (word k words) ≡ None =
    subst (λ (found : Option Attribute). attribute_of o found (word k words) ≡ None) is there.right in
    unless_none (can_have o a) Syntax has

can_about : (o : ObjectWord) (words : List (List ℕ)) (a : Attribute) → clause_about (Some o) words ≡ None
    → attribute_word (word (attribute_place o) words) ≡ Some a → can_have o a ≡ true
can_about System words a none is = can_compare System 2 words a none is
can_about (Node kind) words a none is =
    can_compare (Node kind) 3 words a (or_none (needed id 2 words) (comparison (Node kind) 3 words) none).1 is
can_about (Link kind) words a none is =
    can_compare (Link kind) 3 words a (or_none (needed id 2 words) (comparison (Link kind) 3 words) none).1 is

numbered_by : (rows : List Row) (words : List (List ℕ)) (line : ClauseLine) (o : Option ObjectWord)
    → clause_about o words ≡ None → others.object_known rows o words ≡ None → ClauseSays o words line
    → HasNumber (node_ids rows) (tank_ids rows) (link_ids rows) line.what (word 2 words)
numbered_by rows words line None own known says = absurd says
numbered_by rows words line (Some o) own known says =
    clause_numbered rows words o line.what says.1.what (can_about o words line.what own says.1.what) known

pub names_numbered : (rows : List Row) (words : List (List ℕ)) (line : ClauseLine) (nodes tanks links : List (List ℕ))
    → nodes ≡ node_ids rows → tanks ≡ tank_ids rows → links ≡ link_ids rows → IsRightClause rows words
    → IsClauseLine words line → HasNumber nodes tanks links line.what (word 2 words)
names_numbered rows words line nodes tanks links n t l right says =
    rw (n, t, l) (numbered_by rows words line (object_word (word 1 words)) right.by_itself right.with_others says)

-- the words of a clause are read as one, where no action may stand
pub read_as_clause : (o : Option RuleWord) (words : List (List ℕ)) → is_clause_word o ≡ true
    → form.clause words ≡ None → words_about o false words ≡ None
read_as_clause (Some If) words e none = none
read_as_clause (Some And) words e none = none
read_as_clause (Some Or) words e none = none
read_as_clause (Some Rule) words e none = absurd (true≢false (sym e))
read_as_clause (Some Then) words e none = absurd (true≢false (sym e))
read_as_clause (Some Else) words e none = absurd (true≢false (sym e))
read_as_clause (Some Priority) words e none = absurd (true≢false (sym e))
read_as_clause None words e none = absurd (true≢false (sym e))

-- ---- actions

acts : (stage : Stage) (o : Option RuleWord) → in_order stage o ≡ None → is_acting (stage_by stage o) ≡ true
    → is_action_word o (is_acting stage) ≡ true
acts stage None order e = absurd (let x : ⊥ = cc in x)
acts stage (Some Rule) order e = absurd (true≢false (sym e))
acts stage (Some If) order e = absurd (true≢false (sym e))
acts stage (Some Priority) order e = absurd (true≢false (sym e))
acts stage (Some Then) order e = refl
acts stage (Some Else) order e = refl
acts stage (Some And) order e = e
acts Acting (Some Or) order e = absurd (let x : ⊥ = cc in x)
acts Otherwise (Some Or) order e = absurd (let x : ⊥ = cc in x)
acts Outside (Some Or) order e = absurd (true≢false (sym e))
acts Named (Some Or) order e = absurd (true≢false (sym e))
acts Asking (Some Or) order e = absurd (true≢false (sym e))
acts Closed (Some Or) order e = absurd (true≢false (sym e))

branch_acts : (b : Branch) (stage : Stage) → is_of_branch b stage ≡ true → is_acting stage ≡ true
branch_acts branch.Then Acting e = refl
branch_acts branch.Else Otherwise e = refl
branch_acts branch.Then Otherwise e = absurd (true≢false (sym e))
branch_acts branch.Else Acting e = absurd (true≢false (sym e))
branch_acts branch.Then Outside e = absurd (true≢false (sym e))
branch_acts branch.Then Named e = absurd (true≢false (sym e))
branch_acts branch.Then Asking e = absurd (true≢false (sym e))
branch_acts branch.Then Closed e = absurd (true≢false (sym e))
branch_acts branch.Else Outside e = absurd (true≢false (sym e))
branch_acts branch.Else Named e = absurd (true≢false (sym e))
branch_acts branch.Else Asking e = absurd (true≢false (sym e))
branch_acts branch.Else Closed e = absurd (true≢false (sym e))

pub right_branch : (rows : List Row) (k : ℕ) (row : Row) (b : Branch) → NoneIs (IsWrongByItself rows)
    → NoneIs (IsWrongWithOthers rows) → slice_get rows k ≡ Some row → is_of Rules row ≡ true
    → is_of_branch b (stage_by (stage_at rows k) (begins_with row.words)) ≡ true → IsRightAction rows row.words
right_branch rows k row b by_itself with_others is member of =
    let own = alone rows k row by_itself is member in
    right_action rows k row by_itself with_others is member
    (acts (stage_at rows k) (begins_with row.words) own.order
    (branch_acts b (stage_by (stage_at rows k) (begins_with row.words)) of))

pub no_branch_named : (b : Branch) → is_of_branch b Named ≡ false
no_branch_named branch.Then = refl
no_branch_named branch.Else = refl

-- ---- priorities

priority_by : (o : Option RuleWord) (acting : Bool) (words : List (List ℕ)) → is_priority o ≡ true
    → words_about o acting words ≡ None → needed number 1 words ≡ None
priority_by (Some Priority) acting words e none = (all_none (needed number 1 words ∷ ends 2 words ∷ []) none).0
priority_by (Some Rule) acting words e none = absurd (true≢false (sym e))
priority_by (Some If) acting words e none = absurd (true≢false (sym e))
priority_by (Some And) acting words e none = absurd (true≢false (sym e))
priority_by (Some Or) acting words e none = absurd (true≢false (sym e))
priority_by (Some Then) acting words e none = absurd (true≢false (sym e))
priority_by (Some Else) acting words e none = absurd (true≢false (sym e))
priority_by None acting words e none = absurd (true≢false (sym e))

pub right_priority : (rows : List Row) (k : ℕ) (row : Row) → NoneIs (IsWrongByItself rows)
    → slice_get rows k ≡ Some row → is_of Rules row ≡ true → is_priority (begins_with row.words) ≡ true
    → needed number 1 row.words ≡ None
right_priority rows k row by_itself is member e =
    priority_by (begins_with row.words) (is_acting (stage_at rows k)) row.words e
    (alone rows k row by_itself is member).line
