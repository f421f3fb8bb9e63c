-- Rows at the stage of the rules before them.
use Rattle.std.proofs.Common.{◌≡◌, ◌+◌, ◌-◌, ◌<◌, ◌≤◌, ℕ, List, [], ◌∷◌, ◌++◌, map, drop, take, length, slice_get}
use Rattle.std.proofs.Common.{get_or, Option, Some, None, refl, sym, ap, ◌∙◌, arith, inl, inr, Bool}
use Rattle.std.specs.Prelude.{if◌then◌else◌, ◌==◌}
use Rattle.std.proofs.lemmas.Bool.{cases_Bool}
use Rattle.std.proofs.lemmas.List.{map-append, drop-map, take_all, length-drop, length-map}
use Rattle.std.proofs.lemmas.Option.{slice_get_within}
use Rattle.hyd_spec_lines.specs.Lines.{Row, row_of}
use Rattle.hyd_spec_lines.specs.declared.line.Line.{Line}
use Rattle.hyd_spec_lines.specs.declared.section.Section.{Section}
use Rattle.hyd_spec_lines.specs.declared.section.Section.TheVariants.{Pipes, Rules}
use Rattle.hyd_spec_input.specs.SingleRows.{section_fault, row_fault_by, IsWrongBy}
use Rattle.hyd_spec_input.specs.Faults.{NoneIs}
use Rattle.hyd_spec_input.specs.NodeAndLinkRows.{pipe_by}
use Rattle.hyd_spec_input.specs.RuleRows.{stage_by, begins_with, stage_after}
use Rattle.hyd_spec_input.specs.SectionsAndTables.{is_of, place, words_of, words_of_row, rows_of}
use Rattle.hyd_spec_input.specs.declared.Stage.{Stage}
use Rattle.hyd_net.specs.declared.refusal_cause.Cause.{Cause}
use Rattle.hyd_rows_and_tables.specs.FirstWrongRow.{HasFound, IsFirstAt}
use Rattle.hyd_rows_and_tables.specs.RowsOfLines.{rows_at}
use Rattle.hyd_rows_and_tables.proofs.FirstWrongRowLemmas.{filter_more, filter_same, none_more, none_of, first_here}
use Rattle.hyd_rows_and_tables.proofs.FirstWrongRowLemmas.{row_at}
use Rattle.hyd_network_rows.specs.RuleLineStages.{stage_with, fault_at_stage, rule_lines}
use Rattle.hyd_theorems_on_input.proofs.RuleLines.{stage_more}

-- ---- the stage, one row further

pub next_stage : (rows : List Row) (k : ℕ) (row : Row) (stage next : Stage) → slice_get rows k ≡ Some row
    → stage ≡ stage_after (words_of Rules (take k rows)) → next ≡ stage_with stage row
    → next ≡ stage_after (words_of Rules (take (k + 1) rows))
next_stage rows k row stage next is before e = elim (cases_Bool (is_of Rules row)) [
  | inl t ↦ (let more : words_of Rules (take (k + 1) rows) ≡ words_of Rules (take k rows) ++ row.words ∷ [] =
      ap (map words_of_row) (filter_more (is_of Rules) rows k row is t)
      ∙ map-append words_of_row (rows_of Rules (take k rows)) (row ∷ []) in
      let here : next ≡ stage_by stage (begins_with row.words) = rw t at e in
      rw more (here ∙ ap (λ s. stage_by s (begins_with row.words)) before
      ∙ sym (stage_more (words_of Rules (take k rows)) row.words)))
  | inr f ↦ (let same : words_of Rules (take (k + 1) rows) ≡ words_of Rules (take k rows) =
      ap (map words_of_row) (filter_same (is_of Rules) rows k row is f) in
      let here : next ≡ stage = rw f at e in
      rw same (here ∙ before))
]

-- ---- one row

fault_is : (by_power : Bool) (section : Section) (stage : Stage) (earlier : List (List (List ℕ)))
    (words : List (List ℕ)) (later : List (List (List ℕ))) → stage ≡ stage_after earlier
    → fault_at_stage by_power section stage words later
    ≡ (if place section == place Pipes then pipe_by by_power words else section_fault section earlier words later)
fault_is by_power Rules stage earlier words later e = rw e refl
fault_is by_power _ stage earlier words later e = refl

-- what is found at a stage is the fault of the row
pub row_fault_is : (text : List ℕ) (lines : List Line) (k : ℕ) (d : Line) (by_power : Bool) (stage : Stage)
    (fault : Option Cause)
    → stage ≡ stage_after (words_of Rules (take k (rows_at text lines)))
    → fault ≡ fault_at_stage by_power (get_or lines k d).section stage (row_of text (get_or lines k d)).words
    (rule_lines text (take (length lines - (k + 1)) (drop (k + 1) lines)))
    → row_fault_by by_power (rows_at text lines) k (row_of text (get_or lines k d)) ≡ fault
row_fault_is text lines k d by_power stage fault s f =
    let line = get_or lines k d in
    let rows = rows_at text lines in
    let all : take (length lines - (k + 1)) (drop (k + 1) lines) ≡ drop (k + 1) lines =
    take_all (length lines - (k + 1)) (drop (k + 1) lines) (omega (arith, length-drop (k + 1) lines)) in
    let behind : rule_lines text (take (length lines - (k + 1)) (drop (k + 1) lines))
    ≡ words_of Rules (drop (k + 1) rows) =
    ap (rule_lines text) all ∙ ap (words_of Rules) (sym (drop-map (row_of text) (k + 1) lines)) in
    sym (f ∙ ap (fault_at_stage by_power line.section stage (row_of text line).words) behind
    ∙ fault_is by_power line.section stage (words_of Rules (take k rows)) (row_of text line).words
    (words_of Rules (drop (k + 1) rows)) s)

right : (by_power : Bool) (rows : List Row) (k : ℕ) (row : Row) → slice_get rows k ≡ Some row
    → row_fault_by by_power rows k row ≡ None → (cause : Cause) → IsWrongBy by_power rows k cause → ⊥
right by_power rows k row is none cause w =
    let same : w.row ≡ row = cc in
    let f : row_fault_by by_power rows k row ≡ Some cause = rw (← same) w.fault in
    let x : ⊥ = cc in x

-- ---- the first wrong row

pub none_further : (text : List ℕ) (lines : List Line) (by_power : Bool) (k : ℕ) (d : Line) → k < length lines
    → HasFound (rows_at text lines) (IsWrongBy by_power (rows_at text lines)) k None
    → row_fault_by by_power (rows_at text lines) k (row_of text (get_or lines k d)) ≡ None
    → HasFound (rows_at text lines) (IsWrongBy by_power (rows_at text lines)) (k + 1) None
none_further text lines by_power k d l before none =
    let rows = rows_at text lines in
    none_more rows (IsWrongBy by_power rows) k before (right by_power rows k _ (row_at text lines k d l) none)

pub wrong_here : (text : List ℕ) (lines : List Line) (by_power : Bool) (k : ℕ) (d : Line) (cause : Cause)
    → k < length lines → HasFound (rows_at text lines) (IsWrongBy by_power (rows_at text lines)) k None
    → row_fault_by by_power (rows_at text lines) k (row_of text (get_or lines k d)) ≡ Some cause
    → IsFirstAt (rows_at text lines) (IsWrongBy by_power (rows_at text lines))
    (record { place = k; line = (get_or lines k d).number; cause = cause })
wrong_here text lines by_power k d cause l before fault =
    let rows = rows_at text lines in
    let is = row_at text lines k d l in
    let row = row_of text (get_or lines k d) in
    first_here rows (IsWrongBy by_power rows) k row cause before is
    (record { row = row; row_is = is; fault = fault })
