-- Lines of rules among all rows.
use Rattle.std.proofs.Common.{◌≡◌, ◌+◌, ℕ, Bool, true, false, not, map, List, length, take, drop, slice_get, Option}
use Rattle.std.proofs.Common.{Some, None, refl, sym, ap, ◌∙◌, subst, true≢false}
use Rattle.hyd_spec_lines.specs.Lines.{Row}
use Rattle.hyd_spec_lines.specs.declared.section.Section.{Section}
use Rattle.hyd_spec_lines.specs.declared.section.Section.TheVariants.{Rules as InRules}
use Rattle.hyd_net.specs.declared.refusal_cause.Cause.{Cause}
use Rattle.hyd_net.specs.declared.refusal_cause.Cause.TheVariants.{Syntax, DuplicateId}
use Rattle.hyd_spec_input.specs.SingleRows as itself
use Rattle.hyd_spec_input.specs.SingleRows.{IsWrongByItself}
use Rattle.hyd_spec_input.specs.CapacitiesOutOfRange.{IsRefusedIn, IsRefusedSetting}
use Rattle.hyd_spec_input.specs.Columns.{or_else, unless, word}
use Rattle.hyd_spec_input.specs.Faults.{NoneIs}
use Rattle.hyd_spec_input.specs.RuleRows as form
use Rattle.hyd_spec_input.specs.RuleRows.{begins_with, is_rule, stage_after, in_order, words_of_rule_line, words_about}
use Rattle.hyd_spec_input.specs.RuleRows.{gets_then}
use Rattle.hyd_spec_input.specs.SectionsAndTables.{is_of, words_of, words_of_row, link_named}
use Rattle.hyd_spec_input.specs.FaultsWithOtherRows as others
use Rattle.hyd_spec_input.specs.FaultsWithOtherRows.{is_part_word, is_action_word, holds_action, rules_in, parts_in}
use Rattle.hyd_spec_input.specs.declared.RuleWord.{RuleWord}
use Rattle.hyd_spec_input.specs.declared.RuleWord.TheVariants.{Rule, If, And, Or, Then, Else, Priority}
use Rattle.hyd_theorems_on_input.proofs.RowsWithoutFault.{or_none, section_is, none_alone, or_last}
use Rattle.hyd_rows_and_tables.specs.FirstWrongRow.{IsVerdict, kept}
use Rattle.hyd_rows_and_tables.specs.WrongInSection.{IsWrongIn, IsFaultThen}
use Rattle.hyd_rows_and_tables.proofs.WrongInSectionLemmas.{verdict_with_capacity, other_section}
use Rattle.hyd_rows_and_tables.proofs.FirstWrongRowLemmas.{filter_same, found_skip, found_kept}
use Rattle.hyd_network_rows.specs.RuleLineStages.{stage_with}
use Rattle.hyd_network_rows.proofs.StageLemmas.{next_stage}
use Rattle.hyd_judge_links_controls_and_rules.proofs.CountedRulesAndParts.{counted_elsewhere}
use Rattle.hyd_judge_links_controls_and_rules.specs.Rules.{AreCounted, AreRules, IsRuleFault, acting_at}
use Rattle.hyd_judge_links_controls_and_rules.specs.declared.rules.Rules.{Rules}

-- ---- a line of a rule that is right by itself

pub line_is_right : (rows : List Row) (k : ℕ) (row : Row) → NoneIs (IsWrongByItself rows)
    → slice_get rows k ≡ Some row → is_of InRules row ≡ true → words_of_rule_line (acting_at rows k) row.words ≡ None
line_is_right rows k row right is member =
    let earlier = words_of InRules (take k rows) in
    let later = words_of InRules (drop (k + 1) rows) in
    let P : Section → Type 0 = λ s. itself.section_fault s earlier row.words later ≡ None in
    let all : form.rule_line earlier row.words later ≡ None =
    subst P (section_is InRules row member)
    (none_alone rows k row right is) in
    let words = words_of_rule_line (acting_at rows k) row.words in
    let rest = (or_none (in_order (stage_after earlier) (begins_with row.words))
    (or_else words (or_else (unless (gets_then row.words later) Syntax) None)) all).1 in
    (or_none words (or_else (unless (gets_then row.words later) Syntax) None) rest).0

action_by : (o : Option RuleWord) (acting : Bool) (words : List (List ℕ)) → is_action_word o acting ≡ true
    → words_about o acting words ≡ None → form.action words ≡ None
action_by (Some Then) acting words e none = none
action_by (Some Else) acting words e none = none
action_by (Some And) true words e none = none
action_by (Some And) false words e none = absurd (true≢false (sym e))
action_by (Some Rule) acting words e none = absurd (true≢false (sym e))
action_by (Some If) acting words e none = absurd (true≢false (sym e))
action_by (Some Or) acting words e none = absurd (true≢false (sym e))
action_by (Some Priority) acting words e none = absurd (true≢false (sym e))
action_by None acting words e none = absurd (true≢false (sym e))

pub action_is_right : (rows : List Row) (k : ℕ) (row : Row) → NoneIs (IsWrongByItself rows)
    → slice_get rows k ≡ Some row → is_of InRules row ≡ true
    → is_action_word (begins_with row.words) (acting_at rows k) ≡ true → form.action row.words ≡ None
action_is_right rows k row right is member acts =
    action_by (begins_with row.words) (acting_at rows k) row.words acts (line_is_right rows k row right is member)

-- ---- what is wrong with it

without_capacity : (fault : Option Cause) (Refused : Type 0) (cause : Option Cause) → cause ≡ fault
    → (Refused → ⊥) → IsFaultThen fault Refused cause
without_capacity (Some fault) Refused cause e free = e
without_capacity None Refused cause e free = rw e free

rule_is_no_action : (o : Option RuleWord) (acting : Bool) → is_rule o ≡ true → is_action_word o acting ≡ false
rule_is_no_action (Some Rule) acting e = refl
rule_is_no_action (Some If) acting e = absurd (true≢false (sym e))
rule_is_no_action (Some And) acting e = absurd (true≢false (sym e))
rule_is_no_action (Some Or) acting e = absurd (true≢false (sym e))
rule_is_no_action (Some Then) acting e = absurd (true≢false (sym e))
rule_is_no_action (Some Else) acting e = absurd (true≢false (sym e))
rule_is_no_action (Some Priority) acting e = absurd (true≢false (sym e))
rule_is_no_action None acting e = absurd (true≢false (sym e))

other_is_no_action : (o : Option RuleWord) (acting : Bool) → is_rule o ≡ false → is_part_word o ≡ false
    → is_action_word o acting ≡ false
other_is_no_action (Some Rule) acting e f = absurd (true≢false e)
other_is_no_action (Some If) acting e f = absurd (true≢false f)
other_is_no_action (Some And) acting e f = absurd (true≢false f)
other_is_no_action (Some Or) acting e f = absurd (true≢false f)
other_is_no_action (Some Then) acting e f = absurd (true≢false f)
other_is_no_action (Some Else) acting e f = absurd (true≢false f)
other_is_no_action (Some Priority) acting e f = refl
other_is_no_action None acting e f = absurd (true≢false f)

pub rule_fault_is : (rows : List Row) (k : ℕ) (row : Row) (count : ℕ) (new : Bool) (cause : Option Cause)
    → is_rule (begins_with row.words) ≡ true → count ≡ length (rules_in (take (k + 1) rows))
    → new ≡ not (others.has_rule (word 1 row.words) (rules_in (take k rows)))
    → cause ≡ or_else (others.passes 10000 12 count) (unless new DuplicateId) → IsRuleFault rows k row cause
rule_fault_is rows k row count new cause rule n fresh e =
    let fault : cause ≡ others.rule_line rows k row =
    e ∙ rw (
      rule,
      n,
      fresh,
      or_last (unless (not (others.has_rule (word 1 row.words) (rules_in (take k rows))))
          DuplicateId),
    ) refl in
    without_capacity (others.rule_line rows k row) _ cause fault
    (λ refused. true≢false (sym refused.0 ∙ rule_is_no_action (begins_with row.words) (acting_at rows k) rule))

pub clause_fault_is : (rows : List Row) (k : ℕ) (row : Row) (count : ℕ) (cause : Option Cause)
    → is_rule (begins_with row.words) ≡ false → is_part_word (begins_with row.words) ≡ true
    → is_action_word (begins_with row.words) (acting_at rows k) ≡ false
    → count ≡ length (parts_in (take (k + 1) rows))
    → cause ≡ or_else (others.passes 100000 12 count) (others.clause rows row.words) → IsRuleFault rows k row cause
clause_fault_is rows k row count cause rule part acts n e =
    let fault : cause ≡ others.rule_line rows k row =
    e ∙ rw (rule, part, acts, n, or_last (others.clause rows row.words)) refl in
    without_capacity (others.rule_line rows k row) _ cause fault (λ refused. true≢false (sym refused.0 ∙ acts))

pub nothing_is_wrong : (rows : List Row) (k : ℕ) (row : Row) → is_rule (begins_with row.words) ≡ false
    → is_part_word (begins_with row.words) ≡ false → IsRuleFault rows k row None
nothing_is_wrong rows k row rule part =
    let fault : None ≡ others.rule_line rows k row = rw (rule, part) refl in
    without_capacity (others.rule_line rows k row) _ None fault (λ refused. true≢false (sym refused.0
    ∙ other_is_no_action (begins_with row.words) (acting_at rows k) rule part))

then_after : (fault next : Option Cause) (Refused : Type 0) (cause : Option Cause) → IsFaultThen next Refused cause
    → IsFaultThen (or_else fault (or_else next None)) Refused (or_else fault cause)
then_after (Some fault) next Refused cause then = refl
then_after None (Some next) Refused cause then = then
then_after None None Refused cause then = then

pub action_fault_is : (rows : List Row) (k : ℕ) (row : Row) (count : ℕ) (next cause : Option Cause)
    → is_rule (begins_with row.words) ≡ false → is_part_word (begins_with row.words) ≡ true
    → is_action_word (begins_with row.words) (acting_at rows k) ≡ true
    → count ≡ length (parts_in (take (k + 1) rows))
    → IsFaultThen (others.action rows row.words)
    (IsRefusedSetting rows (link_named rows (word 2 row.words)) (word 5 row.words)) next
    → cause ≡ or_else (others.passes 100000 12 count) next → IsRuleFault rows k row cause
action_fault_is rows k row count next cause rule part acts n then e =
    let Refused = (holds_action (take k rows) row ≡ true)
    × IsRefusedSetting rows (link_named rows (word 2 row.words)) (word 5 row.words) in
    let both : IsFaultThen (others.action rows row.words) Refused next =
    with_acting (others.action rows row.words) (holds_action (take k rows) row ≡ true) _ next acts then in
    let all : IsFaultThen (or_else (others.passes 100000 12 count) (or_else (others.action rows row.words) None))
    Refused
    (or_else (others.passes 100000 12 count) next) =
    then_after (others.passes 100000 12 count) (others.action rows row.words) Refused next both in
    let fault : or_else (others.passes 100000 12 count) (or_else (others.action rows row.words) None)
    ≡ others.rule_line rows k row = rw (rule, part, acts, n) refl in
    rw e (subst (λ f. IsFaultThen f Refused (or_else (others.passes 100000 12 count) next)) fault all)
  where
    with_acting : (fault : Option Cause) (P Q : Type 0) (c : Option Cause) → P → IsFaultThen fault Q c
        → IsFaultThen fault (P × Q) c
    with_acting (Some fault) P Q c p h = h
    with_acting None P Q None p h = λ both. h both.1
    with_acting None P Q (Some cause) p h = ((p, h.0), h.1)

-- ---- the verdict

pub verdict_is : (rows : List Row) (k : ℕ) (row : Row) (cause : Option Cause) → slice_get rows k ≡ Some row
    → is_of InRules row ≡ true → IsRuleFault rows k row cause → IsVerdict (IsWrongIn InRules rows k) cause
verdict_is rows k row cause is member then =
    let acting = holds_action (take k rows) row in
    let P : Section → Type 0 = λ s. IsFaultThen (others.section_fault s rows k row) (IsRefusedIn s rows acting row)
    cause in
    verdict_with_capacity InRules rows k row (others.row_fault rows k row) cause is member refl
    (subst P (sym (section_is InRules row member)) then)

-- ---- one row further

pub rules_elsewhere : (rows : List Row) (k : ℕ) (row : Row) (rules : Rules) → AreRules rows k rules
    → slice_get rows k ≡ Some row → is_of InRules row ≡ false → AreRules rows (k + 1) rules
rules_elsewhere rows k row rules before is other = record {
  counts = counted_elsewhere rows k row rules.counts before.counts is other;
  stage = before.stage ∙ sym (ap (λ rs. stage_after (map words_of_row rs))
      (filter_same (is_of InRules) rows k row is other));
  found = found_skip rows (IsWrongIn InRules rows) k rules.found before.found
      (other_section InRules rows k row is other);
}

pub rules_further : (rows : List Row) (k : ℕ) (row : Row) (rules next : Rules) (cause : Option Cause)
    → AreRules rows k rules → slice_get rows k ≡ Some row → is_of InRules row ≡ true
    → AreCounted rows (k + 1) next.counts → IsRuleFault rows k row cause
    → next.found ≡ kept rules.found k row.number cause → next.stage ≡ stage_with rules.stage row
    → AreRules rows (k + 1) next
rules_further rows k row rules next cause before is member counted fault found stage = record {
  counts = counted;
  stage = next_stage rows k row rules.stage next.stage is before.stage stage;
  found = rw found (found_kept rows (IsWrongIn InRules rows) k row rules.found cause before.found is
      (verdict_is rows k row cause is member fault));
}
