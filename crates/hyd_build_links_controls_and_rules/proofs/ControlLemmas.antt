-- Controls of a file without a fault.
use Rattle.std.proofs.Common.{◌≡◌, ◌+◌, ◌++◌, ℕ, Bool, true, false, List, [], ◌∷◌, map, take, drop, slice_get, Option}
use Rattle.std.proofs.Common.{Some, None, refl, sym, ap, ◌∙◌, subst, true≢false, codes, if◌then◌else◌, inl, inr}
use Rattle.std.specs.Prelude.{◌||◌}
use Rattle.std.proofs.lemmas.List.{map-append}
use Rattle.hyd_spec_lines.specs.WordsOfLines.{is_keyword}
use Rattle.hyd_spec_lines.specs.Headings.{is_one_of}
use Rattle.hyd_spec_lines.specs.Lines.{Row}
use Rattle.hyd_spec_lines.specs.declared.section.Section.{Section}
use Rattle.hyd_spec_lines.specs.declared.section.Section.TheVariants.{Rules, Tanks, Controls as InControls}
use Rattle.hyd_net.specs.NumberRanges.{IsHead}
use Rattle.hyd_net.specs.declared.refusal_cause.Cause.{Cause}
use Rattle.hyd_net.specs.declared.refusal_cause.Cause.TheVariants.{Syntax, Range, UnknownName, Unsupported, Limit}
use Rattle.hyd_net.specs.declared.controls.Control.{Control}
use Rattle.hyd_num.specs.FileQuantity.{is_us_unit, head_ticks}
use Rattle.hyd_num.specs.declared.flow_units.FlowUnit.{FlowUnit}
use Rattle.hyd_spec_input.specs.SingleRows as itself
use Rattle.hyd_spec_input.specs.SingleRows.{IsWrongByItself}
use Rattle.hyd_spec_input.specs.CapacitiesOutOfRange.{IsRefusedIn, IsRefusedSetting}
use Rattle.hyd_spec_input.specs.Columns.{unless, id, meant, asked, one_of, needed, word, word_is, is_option_keyword}
use Rattle.hyd_spec_input.specs.Columns.{amount}
use Rattle.hyd_spec_input.specs.ControlRows as row_form
use Rattle.hyd_spec_input.specs.Curves.{is_head}
use Rattle.hyd_spec_input.specs.Faults.{NoneIs, IsWrongWithOthers}
use Rattle.hyd_spec_input.specs.OptionsAndTimesInForce as force
use Rattle.hyd_spec_input.specs.Keywords.{link_word, node_word}
use Rattle.hyd_spec_input.specs.MeaningsAcrossRows.{tank_ids, number_in}
use Rattle.hyd_spec_input.specs.Project.{Match, IsControl}
use Rattle.hyd_spec_input.specs.SectionsAndTables.{is_of, rows_of, words_of, words_of_row, node_named, link_named}
use Rattle.hyd_spec_input.specs.SectionsAndTables.{allows_node}
use Rattle.hyd_spec_input.specs.SectionsAndTables.{allows_link}
use Rattle.hyd_spec_input.specs.FaultsWithOtherRows as others
use Rattle.hyd_theorems_on_input.proofs.RowsWithoutFault.{or_none, all_none, unless_none, needed_none, section_is, none_alone}
use Rattle.hyd_theorems_on_input.proofs.RowsWithoutFault.{none_from}
use Rattle.hyd_theorems_on_input.proofs.CurvePoints.{is_head_lies}
use Rattle.hyd_rows_and_tables.proofs.FirstWrongRowLemmas.{filter_more, filter_same}
use Rattle.hyd_build_links_controls_and_rules.specs.Controls.{IsRightWhen, AreControls}
use Rattle.hyd_build_links_controls_and_rules.specs.RightRowsOfCommands.{IsRightControl}
use Rattle.hyd_theorems_on_input.proofs.MatchedLists.{match_push}
use Rattle.hyd_build_links_controls_and_rules.proofs.NumberedNameLemmas.{tank_numbered}

-- ---- a name that is known

pub record Known (allowed : Row → Bool) (o : Option Row) : Type 0 where
  pub row : Row
  pub is : o ≡ Some row
  pub passes : allowed row ≡ true

pub known : (allowed : Row → Bool) (o : Option Row) → others.known_as allowed o ≡ None → Known allowed o
known allowed None e = absurd (let x : ⊥ = cc in x)
known allowed (Some row) e = record { row = row; is = refl; passes = unless_none (allowed row) UnknownName e }

-- ---- a control that is right in both phases

between_none : (rows : List Row) (link : Row) (asked : List ℕ) (between : Option Cause)
    → others.set_link rows (Some link) asked between ≡ None → between ≡ None
between_none rows link asked None e = refl
between_none rows link asked (Some cause) e =
    let rest = (or_none (unless (others.is_status asked || others.takes_number link) Syntax) _ e).1 in
    absurd (let x : ⊥ = cc in x)

pub right_control : (rows : List Row) (k : ℕ) (row : Row) → NoneIs (IsWrongByItself rows)
    → NoneIs (IsWrongWithOthers rows) → slice_get rows k ≡ Some row → is_of InControls row ≡ true
    → IsRightControl rows row
right_control rows k row by_itself with_others is member =
    let section = section_is InControls row member in
    let acting = others.holds_action (take k rows) row in
    let P : Section → Type 0 = λ s. itself.section_fault s (words_of Rules (take k rows)) row.words
    (words_of Rules (drop (k + 1) rows)) ≡ None in
    let Q : Section → Type 0 = λ s. others.section_fault s rows k row ≡ None in
    let R : Section → Type 0 = λ s. IsRefusedIn s rows acting row in
    let none = none_from (others.row_fault rows k row) (λ cause f. with_others k cause (record {
      row = row;
      row_is = is;
      fault = inl f;
    })) in
    let each = all_none (others.control_faults rows k row) (subst Q section none) in
    let found = known (allows_link (link_word (word 0 row.words))) (link_named rows (word 1 row.words)) each.1.0 in
    let S : Option Row → Type 0 = λ o.
    others.set_link rows o (word 2 row.words) (others.control_tank rows row) ≡ None in
    let set = subst S found.is each.1.1.1.0 in
    record {
      by_itself = subst P section
          (none_alone rows k row by_itself is);
      link = found.row;
      named = found.is;
      node = each.1.1.0;
      set = set;
      tank = between_none rows found.row (word 2 row.words) (others.control_tank rows row) set;
      level = each.1.1.1.1.0;
      free = λ refused. with_others k (Limit 13) (record {
        row = row;
        row_is = is;
        fault = inr (
          none,
          subst R (sym section) (subst (λ (o : Option Row). IsRefusedSetting rows o (word 2 row.words))
              (sym found.is) refused),
          refl,
        );
      });
    }

-- ---- when it acts

if_or_at : (w : List ℕ) → is_one_of (codes "IF" ∷ codes "AT" ∷ []) w ≡ true → is_keyword (codes "IF") w ≡ false
    → is_keyword (codes "AT") w ≡ true
if_or_at w e other = by (is_keyword (codes "AT") w) (rw other at e)
  where
    by : (b : Bool) → (if b then true else false) ≡ true → b ≡ true
    by true h = refl
    by false h = absurd (true≢false (sym h))

pub right_when : (rows : List Row) (row : Row) (tanks : List (List ℕ)) (unit : FlowUnit) → IsRightControl rows row
    → tanks ≡ tank_ids rows → unit ≡ force.unit rows → IsRightWhen tanks unit row.words
right_when rows row tanks unit right t u = record {
  tank = λ if_level. (let name : others.node_by_word rows (node_word (word 4 row.words)) (word 5 row.words) ≡ None =
      rw if_level at right.node in
      let found = known (allows_node (node_word (word 4 row.words))) (node_named rows (word 5 row.words)) name in
      let of : others.tank_at rows (node_named rows (word 5 row.words)) ≡ None = rw if_level at right.tank in
      let tank : others.tank_at rows (Some found.row) ≡ None =
      subst (λ (o : Option Row). others.tank_at rows o ≡ None) found.is of in
      subst (λ (ids : List (List ℕ)). number_in ids (word 5 row.words) ≡ None → ⊥) (sym t)
      (tank_numbered rows (word 5 row.words) found.row found.is
      (unless_none (is_of Tanks found.row) (Unsupported 8) tank)));
  level = λ if_level. (let level : others.head rows (amount 7 row.words) ≡ None = rw if_level at right.level in
      subst (λ (un : FlowUnit). IsHead (head_ticks (is_us_unit un) (amount 7 row.words))) (sym u)
      (is_head_lies (head_ticks (others.us rows) (amount 7 row.words))
      (unless_none (is_head (head_ticks (others.us rows) (amount 7 row.words))) Range level)));
  time = λ other. (let each = all_none (needed (meant link_word) 0 row.words ∷ needed id 1 row.words
      ∷ needed asked 2 row.words ∷ needed (one_of (codes "IF" ∷ codes "AT" ∷ [])) 3 row.words
      ∷ (if word_is 3 (codes "IF") row.words then row_form.level_control row.words
      else row_form.time_control row.words) ∷ []) right.by_itself in
      let there = needed_none (one_of (codes "IF" ∷ codes "AT" ∷ [])) 3 row.words each.1.1.1.0 in
      let no_if : is_keyword (codes "IF") (word 3 row.words) ≡ false =
      subst (λ (o : Option (List ℕ)). is_option_keyword (codes "IF") o ≡ false) there.is other in
      subst (λ (o : Option (List ℕ)). is_option_keyword (codes "AT") o ≡ true) (sym there.is)
      (if_or_at (word 3 row.words)
      (unless_none (is_one_of (codes "IF" ∷ codes "AT" ∷ []) (word 3 row.words)) Syntax there.right) no_if));
}

-- ---- the list, one row further

pub built_same : (rows : List Row) (k : ℕ) (row : Row) (list : List Control) → AreControls rows k list
    → slice_get rows k ≡ Some row → is_of InControls row ≡ false → AreControls rows (k + 1) list
built_same rows k row list before is other =
    let P : List Row → Type 0 = λ rs. Match (IsControl rows) (map words_of_row rs) list in
    subst P (sym (filter_same (is_of InControls) rows k row is other)) before

pub built_more : (rows : List Row) (k : ℕ) (row : Row) (list next : List Control) (control : Control)
    → AreControls rows k list → slice_get rows k ≡ Some row → is_of InControls row ≡ true
    → IsControl rows row.words control → next ≡ list ++ control ∷ [] → AreControls rows (k + 1) next
built_more rows k row list next control before is member right n =
    let more : words_of InControls (take (k + 1) rows) ≡ words_of InControls (take k rows) ++ row.words ∷ [] =
    ap (map words_of_row) (filter_more (is_of InControls) rows k row is member)
    ∙ map-append words_of_row (rows_of InControls (take k rows)) (row ∷ []) in
    rw (more, n) (match_push (IsControl rows) (words_of InControls (take k rows)) list row.words control before right)
