-- The states in which links start.
use Rattle.std.proofs.Common.{◌≡◌, ℕ, Bool, true, false, List, length, take, Option, Some, None, slice_get, refl, sym}
use Rattle.std.proofs.Common.{ap, ◌∙◌, inl, inr, codes, if◌then◌else◌, arith}
use Rattle.std.specs.Str.{bytes_eq}
use Rattle.std.proofs.lemmas.Bool.{cases_Bool}
use Rattle.hyd_num.specs.FileQuantity.{is_us_unit}
use Rattle.hyd_num.specs.declared.decimals.Decimal.{Decimal}
use Rattle.hyd_spec_lines.specs.WordsOfLines.{is_keyword}
use Rattle.hyd_spec_lines.specs.Lines.{Row, row_of}
use Rattle.hyd_spec_lines.specs.declared.line.Line.{Line}
use Rattle.hyd_spec_lines.specs.declared.section.Section.TheVariants.{Pumps, Valves, Status}
use Rattle.hyd_net.specs.declared.links.LinkState.{LinkState}
use Rattle.hyd_net.specs.declared.links.LinkState.TheVariants.{Throttle}
use Rattle.hyd_net.specs.declared.links.LinkState.TheVariants as state
use Rattle.hyd_option_and_rule_lines.specs.WhatLinesSay.{IsAsked}
use Rattle.hyd_option_and_rule_lines.specs.declared.controls.Asked.{Asked}
use Rattle.hyd_network_rows.specs.Rows.{pipe_status}
use Rattle.hyd_network_rows.specs.declared.pipes.PipeStatus.{PipeStatus}
use Rattle.hyd_network_rows.specs.declared.pipes.PipeStatus.TheVariants.{Closed}
use Rattle.hyd_spec_input.specs.CapacitiesOutOfRange.{IsRefusedSetting}
use Rattle.hyd_spec_input.specs.Columns.{word, amount, is_option_keyword}
use Rattle.hyd_spec_input.specs.DemandEmitterCurvePatternAndStatusRows as data_row
use Rattle.hyd_spec_input.specs.OptionsAndTimesInForce as force
use Rattle.hyd_spec_input.specs.MeaningsAcrossRows.{status_row_of, last_naming}
use Rattle.hyd_spec_input.specs.NodeAndLinkRows as alone
use Rattle.hyd_spec_input.specs.Project.{IsNumberState, Where}
use Rattle.hyd_spec_input.specs.SectionsAndTables.{is_of, is_link, link_named, rows_of, own_id}
use Rattle.hyd_spec_input.specs.FaultsWithOtherRows as others
use Rattle.hyd_theorems_on_input.proofs.RowsWithoutFault.{right_alone, right_among, all_none}
use Rattle.hyd_theorems_on_input.proofs.OptionsAndTimesInForce.{keyword_same, in_force}
use Rattle.hyd_theorems_on_input.proofs.LinkKinds.{not_of}
use Rattle.hyd_theorems_on_input.proofs.LinkStates.{valve_range}
use Rattle.hyd_theorems_on_input.proofs.Names.{row_named, link_new}
use Rattle.hyd_theorems_on_input.proofs.OccurrencesOfNames.{same_name}
use Rattle.hyd_judge_links_controls_and_rules.proofs.FaultLemmas as states
use Rattle.hyd_judge_links_controls_and_rules.specs.AskedStatesOfLinks.{IsRightLink, IsSettable, IsThrottled, limit_fault}
use Rattle.hyd_rows_and_tables.proofs.WrongInSectionLemmas.{all_rows}
use Rattle.hyd_judge_links_controls_and_rules.proofs.RightLinks.{right_link}
use Rattle.hyd_build_links_controls_and_rules.specs.RowsToBuildLinksFrom.{IsRowOf, rows_from}
use Rattle.hyd_build_links_controls_and_rules.specs.declared.rows_to_build_links_from.RowsForLinks.{RowsForLinks}
use Rattle.hyd_judge_links_controls_and_rules.proofs.RangeLemmas.{throttle_alone}
use Rattle.hyd_build_links_controls_and_rules.proofs.RightRowsToBuildLinksFrom.{rows_for_links_are_right, free_row}

-- ---- pipes

not_closed : is_keyword (codes "CLOSED") (codes "CV") ≡ false
unfolding is_keyword
not_closed = refl

not_both : (o : Option (List ℕ)) → is_option_keyword (codes "CV") o ≡ true
    → is_option_keyword (codes "CLOSED") o ≡ false
not_both None e = refl
not_both (Some w) e = keyword_same (codes "CV") (codes "CLOSED") w e ∙ not_closed

-- a pipe with a check valve isn't closed
check_open : (words : List (List ℕ)) → alone.has_check_valve words ≡ true → alone.is_closed_pipe words ≡ false
check_open words e = not_both (slice_get words (alone.status_place words)) e

pub status_open : (words : List (List ℕ)) (status : PipeStatus) → status ≡ pipe_status words
    → (status ≡ Closed → ⊥) → state.Open ≡ (if alone.is_closed_pipe words then state.Closed else state.Open)
status_open words status is other = elim (cases_Bool (alone.has_check_valve words)) [
  | inl t ↦ rw (check_open words t) refl
  | inr f ↦ elim (cases_Bool (alone.is_closed_pipe words)) [
    | inl t ↦ (let g : status ≡ Closed = rw (f, t) at is in absurd (other g))
    | inr n ↦ rw n refl
  ]
]

-- ---- valves

pub flow_in_range : (text : List ℕ) (from : RowsForLinks) (line : Line) → IsRowOf (is_of Valves) text from line
    → alone.is_throttle (row_of text line).words ≡ false → alone.is_general (row_of text line).words ≡ false
    → (flow : Decimal) → flow.nano ≡ amount 5 (row_of text line).words → limit_fault from.unit flow.nano ≡ None
flow_in_range text from line at t g flow e =
    let rows = rows_from text from in
    let row = row_of text line in
    let range = valve_range rows at.among.place row (rows_for_links_are_right text from at.right) at.among.is at.of g in
    let u = at.right.unit_is in
    let own : limit_fault (force.unit rows) (amount 5 row.words) ≡ None =
    rw (not_of Valves Pumps row at.of refl, t) at range in
    rw (e, u) own

pub throttle_start : (text : List ℕ) (from : RowsForLinks) (line : Line) → IsRowOf (is_of Valves) text from line
    → alone.is_throttle (row_of text line).words ≡ true → (coefficient : Decimal)
    → coefficient.nano ≡ amount 5 (row_of text line).words → (us : Bool) → us ≡ is_us_unit from.unit
    → (start : LinkState) → IsThrottled us (amount 3 (row_of text line).words) coefficient.nano start
    → Where (alone.is_general (row_of text line).words) (start ≡ state.Open)
    (IsNumberState (rows_from text from) (row_of text line) (amount 5 (row_of text line).words) start)
throttle_start text from line at t coefficient e us u (Throttle nano law) is =
    let row = row_of text line in
    let v : us ≡ others.us (rows_from text from) = u ∙ ap is_us_unit at.right.unit_is in
    let general = throttle_alone row.words t in
    let pump = not_of Valves Pumps row at.of refl in
    rw (general, pump, t) (rw (← e, ← v) is)
throttle_start text from line at t coefficient e us u state.Open is = absurd is
throttle_start text from line at t coefficient e us u state.Closed is = absurd is
throttle_start text from line at t coefficient e us u (state.Speed nano) is = absurd is
throttle_start text from line at t coefficient e us u (state.Limit nano ticks) is = absurd is

-- ---- rows of [STATUS]

pub record StatusFacts (text : List ℕ) (from : RowsForLinks) (line status : Line) : Type 0 where
  pub own : data_row.status (row_of text status).words ≡ None
  pub link : IsRightLink (row_of text line)
  pub set : others.set_link (rows_from text from) (Some (row_of text line)) (word 1 (row_of text status).words) None
      ≡ None
  pub free : IsRefusedSetting (rows_from text from) (Some (row_of text line)) (word 1 (row_of text status).words) → ⊥

pub status_facts : (text : List ℕ) (from : RowsForLinks) (line status : Line) → IsRowOf is_link text from line
    → status_row_of (rows_from text from) (row_of text line) ≡ Some (row_of text status)
    → StatusFacts text from line status
status_facts text from line status at e =
    let rows = rows_from text from in
    let row = row_of text line in
    let last = row_of text status in
    let right = rows_for_links_are_right text from at.right in
    let found = in_force rows Status (λ r. bytes_eq (own_id row) (own_id r)) last e in
    let each = all_none (others.status_faults rows found.place last)
    (right_among rows Status found.place last right found.is found.of) in
    let same : own_id row ≡ own_id last = same_name _ _ found.passes in
    let row_is : link_named rows (own_id row) ≡ Some row =
    row_named is_link rows at.among.place row (link_new rows right) at.among.is at.of in
    let named : link_named rows (own_id last) ≡ Some row = rw (← same) row_is in
    record {
      own = right_alone rows Status found.place last right found.is found.of;
      link = right_link rows (own_id row) row at.right.by_itself row_is;
      set = rw named at each.1.0;
      free = λ refused. free_row text from found.place last Status at.right found.is found.of (rw named refused);
    }

pub settable : (text : List ℕ) (from : RowsForLinks) (line status : Line) → IsRowOf is_link text from line
    → status_row_of (rows_from text from) (row_of text line) ≡ Some (row_of text status)
    → (asked : Asked) → IsAsked (word 1 (row_of text status).words) asked
    → IsSettable from.unit (row_of text line) asked
settable text from line status at e asked is =
    let facts = status_facts text from line status at e in
    states.settable (rows_from text from) (row_of text line) (word 1 (row_of text status).words) from.unit asked None
    at.of at.right.unit_is is facts.set facts.free

-- the last row that names a link, among all rows
pub last_is : (text : List ℕ) (from : RowsForLinks) (line : Line) (id : List ℕ) (last : Option Row)
    → id ≡ own_id (row_of text line)
    → last ≡ last_naming id (rows_of Status (take (length from.lines.now) (rows_from text from)))
    → status_row_of (rows_from text from) (row_of text line) ≡ last
last_is text from line id last e l =
    sym (l ∙ ap (λ (rs : List Row). last_naming id (rows_of Status rs))
    (all_rows text from.lines.now (length from.lines.now) (omega arith))
    ∙ ap (λ (name : List ℕ). last_naming name (rows_of Status (rows_from text from))) e)
