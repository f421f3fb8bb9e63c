-- Actions of a file without a fault.
use Rattle.std.proofs.Common.{◌≡◌, ℕ, Bool, true, false, List, take, slice_get, Option, Some, None, refl, sym, subst}
use Rattle.std.proofs.Common.{true≢false, inl, inr}
use Rattle.hyd_spec_lines.specs.Lines.{Row}
use Rattle.hyd_spec_lines.specs.declared.section.Section.{Section}
use Rattle.hyd_spec_lines.specs.declared.section.Section.TheVariants.{Rules}
use Rattle.hyd_net.specs.declared.refusal_cause.Cause.TheVariants.{Limit}
use Rattle.hyd_spec_input.specs.SingleRows.{IsWrongByItself}
use Rattle.hyd_spec_input.specs.CapacitiesOutOfRange.{IsRefusedIn, IsRefusedSetting}
use Rattle.hyd_spec_input.specs.Columns.{first, word}
use Rattle.hyd_spec_input.specs.Faults.{NoneIs, IsWrongWithOthers}
use Rattle.hyd_spec_input.specs.Keywords.{link_word}
use Rattle.hyd_spec_input.specs.RuleRows.{begins_with, is_rule}
use Rattle.hyd_spec_input.specs.SectionsAndTables.{is_of, link_named, allows_link}
use Rattle.hyd_spec_input.specs.FaultsWithOtherRows as others
use Rattle.hyd_spec_input.specs.FaultsWithOtherRows.{is_part_word, is_action_word, holds_action}
use Rattle.hyd_spec_input.specs.declared.RuleWord.{RuleWord}
use Rattle.hyd_spec_input.specs.declared.RuleWord.TheVariants.{Rule, If, And, Or, Then, Else, Priority}
use Rattle.hyd_theorems_on_input.proofs.RowsWithoutFault.{or_none, all_none, section_is, none_from}
use Rattle.hyd_judge_links_controls_and_rules.proofs.RuleLemmas.{action_is_right}
use Rattle.hyd_build_links_controls_and_rules.specs.RightRowsOfCommands.{IsRightAction}
use Rattle.hyd_build_links_controls_and_rules.proofs.ControlLemmas.{known}

action_is_part : (o : Option RuleWord) (acting : Bool) → is_action_word o acting ≡ true
    → (is_rule o ≡ false) × (is_part_word o ≡ true)
action_is_part (Some Then) acting e = (refl, refl)
action_is_part (Some Else) acting e = (refl, refl)
action_is_part (Some And) acting e = (refl, refl)
action_is_part (Some Rule) acting e = absurd (true≢false (sym e))
action_is_part (Some If) acting e = absurd (true≢false (sym e))
action_is_part (Some Or) acting e = absurd (true≢false (sym e))
action_is_part (Some Priority) acting e = absurd (true≢false (sym e))
action_is_part None acting e = absurd (true≢false (sym e))

pub right_action : (rows : List Row) (k : ℕ) (row : Row) → NoneIs (IsWrongByItself rows)
    → NoneIs (IsWrongWithOthers rows) → slice_get rows k ≡ Some row → is_of Rules row ≡ true
    → holds_action (take k rows) row ≡ true → IsRightAction rows row.words
right_action rows k row by_itself with_others is member acts =
    let section = section_is Rules row member in
    let Q : Section → Type 0 = λ s. others.section_fault s rows k row ≡ None in
    let R : Section → Type 0 = λ s. IsRefusedIn s rows (holds_action (take k rows) row) row in
    let none = none_from (others.row_fault rows k row) (λ cause f. with_others k cause (record {
      row = row;
      row_is = is;
      fault = inl f;
    })) in
    let line : others.rule_line rows k row ≡ None = subst Q section none in
    let of = action_is_part (begins_with row.words) _ acts in
    let parts : first (others.part_faults rows k row) ≡ None = rw (of.0, of.1) at line in
    let each = all_none (others.part_faults rows k row) parts in
    let action : others.action rows row.words ≡ None = rw acts at each.1.0 in
    let both = or_none (others.link_by_word rows (link_word (word 1 row.words)) (word 2 row.words)) _ action in
    let found = known (allows_link (link_word (word 1 row.words))) (link_named rows (word 2 row.words)) both.0 in
    record {
      by_itself = action_is_right rows k row by_itself is member acts;
      link = found.row;
      named = found.is;
      set = subst (λ (o : Option Row). others.set_link rows o (word 5 row.words) None ≡ None) found.is both.1;
      free = λ refused. with_others k (Limit 13) (record {
        row = row;
        row_is = is;
        fault = inr (
          none,
          subst R (sym section) (
            acts,
            subst (λ (o : Option Row).
                IsRefusedSetting rows o (word 5 row.words)) (sym found.is) refused,
          ),
          refl,
        );
      });
    }
