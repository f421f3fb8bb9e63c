-- Rules of a file without a fault: what their clauses speak of, and what their actions set.
use Rattle.std.proofs.Common.{◌≡◌, ℕ, ◌+◌, ◌^◌, ◌<◌, ◌≤◌, zero, suc, Bool, true, false, List, [], ◌∷◌, ◌++◌, length}
use Rattle.std.proofs.Common.{Option, Some, None, refl, sym, ap, ◌∙◌, subst, arith, inl, inr, true≢false}
use Rattle.std.specs.Prelude.{slice_get, filter, ◌&&◌, ◌||◌, not, nat_le, All, IfSome, ℤ, pos, ◌*ℤ◌, ⊤, codes}
use Rattle.std.specs.Prelude.{if◌then◌else◌}
use Rattle.std.specs.List.{AllByRecursion}
use Rattle.std.specs.Option.{option_map}
use Rattle.std.proofs.lemmas.Bool.{cases_Bool, and_parts, or_left, or_right, not-true, leb-true, cond_both}
use Rattle.std.proofs.lemmas.Int.{ints}
use Rattle.std.proofs.lemmas.List.{length-append, length-map}
use Rattle.std.proofs.lemmas.Option.{slice_get-map, slice_get_within}
use Rattle.hyd_num.specs.Numeral.{is_numeral, is_negative, magnitude_of, nano_of, signed}
use Rattle.hyd_num.specs.declared.flow_units.FlowUnit.{FlowUnit}
use Rattle.hyd_spec_lines.specs.Lines.{Row}
use Rattle.hyd_spec_lines.specs.WordsOfLines.{is_keyword}
use Rattle.hyd_spec_lines.specs.Headings.{is_one_of}
use Rattle.hyd_spec_lines.specs.declared.section.Section.TheVariants.{Junctions, Reservoirs, Tanks, Pumps, Valves}
use Rattle.hyd_spec_lines.specs.declared.section.Section.TheVariants.{Rules as RulesSection}
use Rattle.hyd_net.specs.Ids.{IsId}
use Rattle.hyd_net.specs.NumberRanges.{LiesWithin, Numbers}
use Rattle.hyd_net.specs.RoundedFileNumbers.{IsValueMade}
use Rattle.hyd_net.specs.ControlsAndRules as commands
use Rattle.hyd_net.specs.ControlsAndRules.{node_count, HasPressure, HasSetting, SpeaksOf, Compares, IsComparedWith}
use Rattle.hyd_net.specs.declared.refusal_cause.Cause.TheVariants.{Syntax, Unsupported}
use Rattle.hyd_net.specs.declared.links.Link.{Link}
use Rattle.hyd_net.specs.declared.links.LinkKind.{LinkKind}
use Rattle.hyd_net.specs.declared.links.LinkKind.TheVariants.{Pipe, CheckPipe, Pump, CurvePump, Tcv, Fcv, Gpv}
use Rattle.hyd_net.specs.declared.rules.Relation.{Relation}
use Rattle.hyd_net.specs.declared.rules.Relation.TheVariants.{Less, AtMost, More, AtLeast, Equal, Unequal}
use Rattle.hyd_net.specs.declared.rules.What.{What}
use Rattle.hyd_net.specs.declared.rules.What.TheVariants.{Head, Pressure, Level, Flow, Setting, Status, Time, Clock}
use Rattle.hyd_net.specs.declared.rules.Value.{Value}
use Rattle.hyd_net.specs.declared.rules.Value.TheVariants.{Amount, Open as OpenValue, Closed as ClosedValue, Active}
use Rattle.hyd_net.specs.declared.rules.RuleClause.{RuleClause}
use Rattle.hyd_net.specs.declared.rules.Action.{Action}
use Rattle.hyd_net.specs.declared.rules.Rule.{Rule as RuleItem}
use Rattle.hyd_net.specs.declared.project.Project.{Project}
use Rattle.hyd_spec_input.specs.Columns.{first, unless, needed, ends, id, number, word, amount}
use Rattle.hyd_spec_input.specs.Keywords.{object_word, attribute_word, relation_word, link_word}
use Rattle.hyd_spec_input.specs.declared.ObjectWord.{ObjectWord}
use Rattle.hyd_spec_input.specs.declared.ObjectWord.TheVariants.{System, Node as NodeObject, Link as LinkObject}
use Rattle.hyd_spec_input.specs.declared.LinkWord.{LinkWord}
use Rattle.hyd_spec_input.specs.declared.LinkWord.TheVariants as linked
use Rattle.hyd_spec_input.specs.declared.Attribute.{Attribute}
use Rattle.hyd_spec_input.specs.declared.Attribute.TheVariants as attribute
use Rattle.hyd_spec_input.specs.declared.RuleWord.{RuleWord}
use Rattle.hyd_spec_input.specs.declared.RuleWord.TheVariants as rule
use Rattle.hyd_spec_input.specs.declared.Stage.TheVariants.{Outside}
use Rattle.hyd_spec_input.specs.TimesAndClockTimes.{time_seconds, clock_seconds}
use Rattle.hyd_spec_input.specs.RuleRows as alone
use Rattle.hyd_spec_input.specs.RuleRows.{begins_with, is_acting, words_about, can_have}
use Rattle.hyd_spec_input.specs.RuleRows.{attribute_of, is_equality, relates, relation_of, comparison, clause_about}
use Rattle.hyd_spec_input.specs.RuleRows.{attribute_place}
use Rattle.hyd_spec_input.specs.SectionsAndTables.{is_of, is_node, is_link, rows_of, words_of, own_id, node_rows}
use Rattle.hyd_spec_input.specs.SectionsAndTables.{link_rows}
use Rattle.hyd_spec_input.specs.SectionsAndTables.{row_with, node_named, link_named, allows_node, allows_link}
use Rattle.hyd_spec_input.specs.OptionsAndTimesInForce.{unit}
use Rattle.hyd_spec_input.specs.MeaningsAcrossRows.{node_ids, link_ids, number_in, rule_groups, clause_lines}
use Rattle.hyd_spec_input.specs.MeaningsAcrossRows.{then_lines}
use Rattle.hyd_spec_input.specs.MeaningsAcrossRows.{else_lines, rule_id, is_priority, first_amount, priority_of}
use Rattle.hyd_spec_input.specs.MeaningsAcrossRows.{is_asking}
use Rattle.hyd_spec_input.specs.MeaningsAcrossRows.{is_doing, is_otherwise}
use Rattle.hyd_spec_input.specs.FaultsWithOtherRows.{known_as, link_by_word, can_show, object_known, set_link}
use Rattle.hyd_spec_input.specs.Project as project
use Rattle.hyd_spec_input.specs.Project.{IsProject, IsLink, IsPumpKind, IsValveKind, IsWhat, compared}
use Rattle.hyd_spec_input.specs.Project.{status_value, IsValue, place_of, IsClauseAt, numbered_links}
use Rattle.hyd_theorems_on_input.proofs.ListsByPlace.{all_at, match_all, match_length, of_either, item_at, partner}
use Rattle.hyd_theorems_on_input.proofs.ListsByPlace.{kept_passes}
use Rattle.hyd_theorems_on_input.proofs.RowsWithoutFault.{AreRight, or_none, all_none, unless_none, needed_none}
use Rattle.hyd_theorems_on_input.proofs.OccurrencesOfNames.{number_inside, number_names}
use Rattle.hyd_theorems_on_input.proofs.TimesAndClockTimes.{time_right, clock_right}
use Rattle.hyd_theorems_on_input.proofs.Names.{own_ids, numbered_nodes, node_stands, link_stands, node_new, link_new}
use Rattle.hyd_theorems_on_input.proofs.Names.{row_named, node_ids_are, link_ids_are, node_length, link_length}
use Rattle.hyd_theorems_on_input.proofs.PatternsAndCurvesByNumber.{numbers_from}
use Rattle.hyd_theorems_on_input.proofs.LinkKinds.{as_pump, as_valve}
use Rattle.hyd_theorems_on_input.proofs.LinkStates.{Command, command}
use Rattle.hyd_theorems_on_input.proofs.ControlLines.{can_command, tank_inside}
use Rattle.hyd_theorems_on_input.proofs.RuleLines.{LineRight, RightFrom, rule_is, all_lines, GroupRight, group_right}
use Rattle.hyd_theorems_on_input.proofs.RuleLines.{line_at, each_line, ClauseLine, ActionLine, clause_line, then_line}
use Rattle.hyd_theorems_on_input.proofs.RuleLines.{else_line}

-- ---- the row that a number and a name have

-- a row of a list of rows, at the number of its name
named_row : (ids : List (List ℕ)) (list : List Row) (name : List ℕ) (n : ℕ) (row : Row) → ids ≡ own_ids list
    → number_in ids name ≡ Some n → slice_get list n ≡ Some row
    → own_id row ≡ name
named_row ids list name n row e numbered is =
    let there : slice_get (own_ids list) n ≡ Some name =
    subst (λ l. slice_get l n ≡ Some name) e (number_names ids name n numbered) in
    let own : slice_get (own_ids list) n ≡ Some (own_id row) =
    slice_get-map own_id list n ∙ ap (option_map own_id) is in
    let x : own_id row ≡ name = cc in x

-- ---- what a clause shows

-- a name that it knows is that of a row that is allowed
record Known (allowed : Row → Bool) (o : Option Row) : Type 0 where
  row : Row
  is : o ≡ Some row
  allows : allowed row ≡ true

known_none : (allowed : Row → Bool) (o : Option Row) → known_as allowed o ≡ None → Known allowed o
known_none allowed None e = absurd (let x : ⊥ = cc in x)
known_none allowed (Some row) e = record { row = row; is = refl; allows = unless_none _ _ e }

-- a pressure isn't that of a reservoir, a setting is that of a pump or a valve
record Shows (rows : List Row) (words : List (List ℕ)) (at : Attribute) : Type 0 where
  pressure : at ≡ attribute.Pressure → Known (λ node. not (is_of Reservoirs node)) (node_named rows (word 2 words))
  setting : at ≡ attribute.Setting → Known (λ link. is_of Pumps link || is_of Valves link)
      (link_named rows (word 2 words))

-- by the word before the name
setting_word : (rows : List Row) (words : List (List ℕ)) (kind : LinkWord)
    → can_have (LinkObject kind) attribute.Setting ≡ true
    → Known (allows_link (Some kind)) (link_named rows (word 2 words))
    → Known (λ link. is_of Pumps link || is_of Valves link) (link_named rows (word 2 words))
setting_word rows words linked.Link can known = absurd (true≢false (sym can))
setting_word rows words linked.Pipe can known = absurd (true≢false (sym can))
setting_word rows words linked.Pump can known =
    record { row = known.row; is = known.is; allows = or_left (is_of Pumps known.row) _ known.allows }
setting_word rows words linked.Valve can known =
    record { row = known.row; is = known.is; allows = or_right (is_of Pumps known.row) _ known.allows }

shows : (rows : List Row) (words : List (List ℕ)) (object : ObjectWord) (at : Attribute) → can_have object at ≡ true
    → object_known rows (Some object) words ≡ None
    → attribute_word (word (attribute_place object) words) ≡ Some at → Shows rows words at
shows rows words System at can known is = record {
  pressure = λ same. absurd (true≢false (sym can ∙ ap (can_have System) same));
  setting = λ same. absurd (true≢false (sym can ∙ ap (can_have System) same));
}
shows rows words (NodeObject kind) at can known is =
    let found = known_none (λ node. allows_node (Some kind) node && can_show (attribute_word (word 3 words)) node)
    (node_named rows (word 2 words)) known in
    let both = and_parts (allows_node (Some kind) found.row) (can_show (attribute_word (word 3 words)) found.row)
    found.allows in
    record {
      pressure = λ same. record {
        row = found.row;
        is = found.is;
        allows =
            subst (λ (o : Option Attribute). can_show o found.row ≡ true) (is ∙ ap Some same) both.1;
      };
      setting = λ same. absurd (true≢false (sym can ∙ ap (can_have (NodeObject kind)) same));
    }
shows rows words (LinkObject kind) at can known is = record {
  pressure = λ same. absurd (true≢false (sym can ∙ ap (can_have (LinkObject kind)) same));
  setting = λ same. setting_word rows words kind
      (subst (λ (a : Attribute). can_have (LinkObject kind) a ≡ true) same can)
      (known_none (allows_link (Some kind)) (link_named rows (word 2 words)) known);
}

-- ---- what a clause speaks of is there

-- a node that isn't a reservoir
pressure_right : (rows : List Row) (p : Project) (name : List ℕ) (n : ℕ) → AreRight rows → IsProject rows p
    → number_in (node_ids rows) name ≡ Some n
    → Known (λ node. not (is_of Reservoirs node)) (node_named rows name) → HasPressure p n
pressure_right rows p name n right of numbered known =
    let inside : n < node_count p =
    omega (arith, number_inside (node_ids rows) name n numbered, node_length rows p of) in
    let count = ap length (node_ids_are rows) ∙ length-map (numbered_nodes rows) own_id in
    let found = item_at (numbered_nodes rows) n
    (omega (arith, number_inside (node_ids rows) name n numbered, count)) in
    let stands = node_stands rows n found.item found.is in
    let same = named_row (node_ids rows) (numbered_nodes rows) name n found.item (node_ids_are rows) numbered
    found.is in
    let named : node_named rows name ≡ Some found.item =
    subst (λ id. row_with id (node_rows rows) ≡ Some found.item) same
    (row_named is_node rows stands.0.place found.item (node_new rows right) stands.0.is stands.1) in
    let one : found.item ≡ known.row = (let e : Some found.item ≡ Some known.row =
    sym named ∙ known.is in let x : found.item ≡ known.row = cc in x) in
    let other : is_of Reservoirs found.item ≡ false =
    ap (is_of Reservoirs) one ∙ not-true (is_of Reservoirs known.row) known.allows in
    let j = match_length (project.IsJunction rows) _ _ of.junctions in
    let r = match_length (project.IsReservoir rows) _ _ of.reservoirs in
    let both = length-append (rows_of Junctions rows) (rows_of Reservoirs rows) in
    record {
      in_range = inside;
      no_reservoir =
          elim (of_either (rows_of Junctions rows ++ rows_of Reservoirs rows) (rows_of Tanks rows) n found.item
          found.is) [
            | inl l ↦ elim (of_either (rows_of Junctions rows) (rows_of Reservoirs rows) n found.item l) [
              | inl a ↦ inl (omega (arith, slice_get_within (rows_of Junctions rows) n found.item a, j))
              | inr b ↦
                  absurd (true≢false (sym (kept_passes (is_of Reservoirs) rows b.place found.item b.is) ∙ other))
            ]
            | inr t ↦ inr (omega (arith, t.behind, both, j, r))
          ];
    }

-- a pump or a valve
pump_sets : (rows : List Row) (row : Row) (kind : LinkKind) → IsPumpKind rows row kind → HasSetting kind
pump_sets rows row (Pump cap shutoff head pattern) is = tt
pump_sets rows row (CurvePump bend pattern) is = tt
pump_sets rows row (Pipe cap) is = absurd is
pump_sets rows row (CheckPipe cap) is = absurd is
pump_sets rows row (Tcv valve) is = absurd is
pump_sets rows row (Fcv valve) is = absurd is
pump_sets rows row (Gpv bend) is = absurd is

valve_sets : (rows : List Row) (row : Row) (kind : LinkKind) → IsValveKind rows row kind → HasSetting kind
valve_sets rows row (Tcv valve) is = tt
valve_sets rows row (Fcv valve) is = tt
valve_sets rows row (Gpv bend) is = tt
valve_sets rows row (Pipe cap) is = absurd is
valve_sets rows row (CheckPipe cap) is = absurd is
valve_sets rows row (Pump cap shutoff head pattern) is = absurd is
valve_sets rows row (CurvePump bend pattern) is = absurd is

setting_right : (rows : List Row) (p : Project) (name : List ℕ) (n : ℕ) → AreRight rows → IsProject rows p
    → number_in (link_ids rows) name ≡ Some n
    → Known (λ link. is_of Pumps link || is_of Valves link) (link_named rows name)
    → Numbers (λ (l : Link). HasSetting l.kind) p.links.list n
setting_right rows p name n right of numbered known =
    let found =
    item_at p.links.list n
    (omega (arith, number_inside (link_ids rows) name n numbered, link_length rows p of)) in
    let pair = partner (IsLink rows) (numbered_links rows) p.links.list n found.item of.links found.is in
    let stands = link_stands rows n pair.item pair.is in
    let same = named_row (link_ids rows) (numbered_links rows) name n pair.item (link_ids_are rows) numbered
    pair.is in
    let named : link_named rows name ≡ Some pair.item =
    subst (λ id. row_with id (link_rows rows) ≡ Some pair.item) same
    (row_named is_link rows stands.0.place pair.item (link_new rows right) stands.0.is stands.1) in
    let one : known.row ≡ pair.item = (let e : Some known.row ≡ Some pair.item =
    sym known.is ∙ named in let x : known.row ≡ pair.item = cc in x) in
    let allows : (is_of Pumps pair.item || is_of Valves pair.item) ≡ true =
    subst (λ r. (is_of Pumps r || is_of Valves r) ≡ true) one known.allows in
    let sets : HasSetting found.item.kind = elim (cases_Bool (is_of Pumps pair.item)) [
      | inl t ↦ pump_sets rows pair.item found.item.kind (as_pump rows pair.item found.item.kind t pair.holds.kind)
      | inr f ↦ (let valve : is_of Valves pair.item ≡ true = rw f at allows in
          valve_sets rows pair.item found.item.kind (as_valve rows pair.item found.item.kind valve pair.holds.kind))
    ] in
    numbers_from (λ (l : Link). HasSetting l.kind) p.links.list n found.item found.is sets

node_inside : (rows : List Row) (p : Project) (name : List ℕ) (n : ℕ) → IsProject rows p
    → number_in (node_ids rows) name ≡ Some n → n < node_count p
node_inside rows p name n of e = omega (arith, number_inside (node_ids rows) name n e, node_length rows p of)

link_inside : (rows : List Row) (p : Project) (name : List ℕ) (n : ℕ) → IsProject rows p
    → number_in (link_ids rows) name ≡ Some n → n < length p.links.list
link_inside rows p name n of e = omega (arith, number_inside (link_ids rows) name n e, link_length rows p of)

speaks : (rows : List Row) (p : Project) (words : List (List ℕ)) (at : Attribute) (what : What) → AreRight rows
    → IsProject rows p → Shows rows words at
    → IsWhat rows words (Some at) what → SpeaksOf p what
speaks rows p words attribute.Head (Head node) right of shown is = node_inside rows p (word 2 words) node of is
speaks rows p words attribute.Pressure (Pressure node) right of shown is =
    pressure_right rows p (word 2 words) node right of is (shown.pressure refl)
speaks rows p words attribute.Level (Level tank) right of shown is = tank_inside rows p (word 2 words) tank of is
speaks rows p words attribute.Flow (Flow link) right of shown is = link_inside rows p (word 2 words) link of is
speaks rows p words attribute.Setting (Setting link) right of shown is =
    setting_right rows p (word 2 words) link right of is (shown.setting refl)
speaks rows p words attribute.Status (Status link) right of shown is = link_inside rows p (word 2 words) link of is
speaks rows p words attribute.Time Time right of shown is = tt
speaks rows p words attribute.Clock Clock right of shown is = tt
speaks rows p words _ _ right of shown is = absurd is

-- ---- how it compares

abbrev IsOrder : Relation → Type 0
IsOrder Equal = ⊥
IsOrder Unequal = ⊥
IsOrder _ = ⊤

order_is : (relation : Relation) → unless (not (is_equality relation)) (Unsupported 10) ≡ None → IsOrder relation
order_is Less e = tt
order_is AtMost e = tt
order_is More e = tt
order_is AtLeast e = tt
order_is Equal e = absurd (let x : ⊥ = cc in x)
order_is Unequal e = absurd (let x : ⊥ = cc in x)

equality_is : (link : ℕ) (relation : Relation) → unless (is_equality relation) Syntax ≡ None
    → Compares (Status link) relation
equality_is link Equal e = tt
equality_is link Unequal e = tt
equality_is link Less e = absurd (let x : ⊥ = cc in x)
equality_is link AtMost e = absurd (let x : ⊥ = cc in x)
equality_is link More e = absurd (let x : ⊥ = cc in x)
equality_is link AtLeast e = absurd (let x : ⊥ = cc in x)

compares : (rows : List Row) (words : List (List ℕ)) (at : Attribute) (what : What) (relation : Relation)
    → IsWhat rows words (Some at) what → relates (Some at) relation ≡ None
    → Compares what relation
compares rows words attribute.Head (Head node) relation is e = order_is relation e
compares rows words attribute.Pressure (Pressure node) relation is e = order_is relation e
compares rows words attribute.Level (Level tank) relation is e = order_is relation e
compares rows words attribute.Flow (Flow link) relation is e = order_is relation e
compares rows words attribute.Setting (Setting link) relation is e = order_is relation e
compares rows words attribute.Status (Status link) relation is e = equality_is link relation e
compares rows words attribute.Time Time relation is e = tt
compares rows words attribute.Clock Clock relation is e = tt
compares rows words _ _ relation is e = absurd is

-- ---- what it compares with

record ValueRight (u : FlowUnit) (what : What) (value : Value) : Type 0 where
  compared : IsComparedWith what value
  made : IsValueMade u what value

whole_seconds : (s : ℕ) (lo nano : ℤ) → nano ≡ pos s *ℤ pos (10 ^ 9) → nano ≡ pos (10 ^ 9) *ℤ lo → lo ≡ pos s
whole_seconds s lo nano a b = omega (arith, ints, a, b)

status_right : (u : FlowUnit) (link : ℕ) (name : List ℕ) → ValueRight u (Status link) (status_value name)
status_right u link name =
    cond_both (is_keyword (codes "OPEN") name) OpenValue (if is_keyword (codes "CLOSED") name then ClosedValue else
    Active) (ValueRight u (Status link))
    (λ t. record { compared = tt; made = tt })
    (λ f. cond_both (is_keyword (codes "CLOSED") name) ClosedValue Active (ValueRight u (Status link))
    (λ t. record { compared = tt; made = tt }) (λ g. record { compared = tt; made = tt }))

value_right : (rows : List Row) (u : FlowUnit) (words : List (List ℕ)) (k : ℕ) (at : Attribute) (what : What)
    (found : Value) → IsWhat rows words (Some at) what
    → alone.value (Some at) k words ≡ None → IsValue u what k words found → ValueRight u what found
value_right rows u words k attribute.Head (Head node) (Amount span number) is e v =
    record { compared = tt; made = v.1 }
value_right rows u words k attribute.Pressure (Pressure node) (Amount span number) is e v =
    record { compared = tt; made = v.1 }
value_right rows u words k attribute.Level (Level tank) (Amount span number) is e v =
    record { compared = tt; made = v.1 }
value_right rows u words k attribute.Flow (Flow link) (Amount span number) is e v =
    record { compared = tt; made = v.1 }
value_right rows u words k attribute.Setting (Setting link) (Amount span number) is e v =
    record { compared = tt; made = v.1 }
value_right rows u words k attribute.Status (Status link) found is e v =
    subst (ValueRight u (Status link)) (sym v) (status_right u link (word k words))
value_right rows u words k attribute.Time Time (Amount span number) is e v =
    let seconds : span.lo ≡ pos (time_seconds k words) =
    whole_seconds (time_seconds k words) span.lo number.nano v.0 v.1.whole in
    let bounds = time_right 0 k words e in
    record {
      compared =
          rw seconds (record { at_least = omega (arith, ints); at_most = omega (arith, ints, bounds.at_most) });
      made =
          v.1;
    }
value_right rows u words k attribute.Clock Clock (Amount span number) is e v =
    let seconds : span.lo ≡ pos (clock_seconds k words) =
    whole_seconds (clock_seconds k words) span.lo number.nano v.0 v.1.whole in
    let bounds = clock_right k words e in
    record {
      compared = rw seconds (record { at_least = omega (arith, ints); at_most = omega (arith, ints, bounds) });
      made = v.1;
    }
value_right rows u words k attribute.Head (Head node) _ is e v = absurd v
value_right rows u words k attribute.Pressure (Pressure node) _ is e v = absurd v
value_right rows u words k attribute.Level (Level tank) _ is e v = absurd v
value_right rows u words k attribute.Flow (Flow link) _ is e v = absurd v
value_right rows u words k attribute.Setting (Setting link) _ is e v = absurd v
value_right rows u words k attribute.Time Time _ is e v = absurd v
value_right rows u words k attribute.Clock Clock _ is e v = absurd v
value_right rows u words k _ _ found is e v = absurd is

-- ---- clauses

pub record ClauseRight (rows : List Row) (p : Project) (c : RuleClause) : Type 0 where
  pub clause : commands.IsClause p c.clause
  pub made : IsValueMade (unit rows) c.clause.what c.clause.value

-- an attribute that an object can have
can_is : (object : ObjectWord) (a : Option Attribute) (w : List ℕ) → attribute_of object a w ≡ None
    → (at : Attribute) × ((a ≡ Some at) × (can_have object at ≡ true))
can_is object None w e = elim (cases_Bool (is_one_of alone.unsupported_attributes w)) [
  | inl t ↦ (let f : Some (Unsupported 10) ≡ None = rw t at e in absurd (let x : ⊥ = cc in x))
  | inr g ↦ (let f : Some Syntax ≡ None = rw g at e in absurd (let x : ⊥ = cc in x))
]
can_is object (Some at) w e = (at, (refl, unless_none _ _ e))

clause_at : (rows : List Row) (p : Project) (words : List (List ℕ)) (object : ObjectWord) (c : RuleClause)
    → AreRight rows → IsProject rows p
    → comparison object (attribute_place object) words ≡ None → object_known rows (Some object) words ≡ None
    → IsClauseAt rows (attribute_place object) words c → ClauseRight rows p c
clause_at rows p words object c right of e known is =
    let k = attribute_place object in
    let each =
    all_none (needed (alone.attribute object) k words ∷ needed (alone.relation (attribute_word (word k words)))
    (k + 1) words
    ∷ alone.value (attribute_word (word k words)) (k + 2) words ∷ []) e in
    let has = can_is object (attribute_word (word k words)) (word k words)
    (needed_none (alone.attribute object) k words each.0).right in
    let what : IsWhat rows words (Some has.0) c.clause.what =
    subst (λ (a : Option Attribute). IsWhat rows words a c.clause.what) has.1.0 is.what in
    let related : relation_of (attribute_word (word k words)) (relation_word (word (k + 1) words)) ≡ None =
    (needed_none (alone.relation (attribute_word (word k words))) (k + 1) words each.1.0).right in
    let relation : relates (Some has.0) c.clause.relation ≡ None =
    subst (λ (r : Option Relation). relation_of (Some has.0) r ≡ None) is.relation
    (subst (λ (a : Option Attribute). relation_of a (relation_word (word (k + 1) words)) ≡ None) has.1.0 related) in
    let value : alone.value (Some has.0) (k + 2) words ≡ None =
    subst (λ (a : Option Attribute). alone.value a (k + 2) words ≡ None) has.1.0 each.1.1.0 in
    let found = value_right rows (unit rows) words (k + 2) has.0 c.clause.what c.clause.value what value
    is.value_is in
    record {
      clause = record {
        what = speaks rows p words has.0 c.clause.what right of (shows rows words object has.0 has.1.1 known has.1.0)
            what;
        relation = compares rows words has.0 c.clause.what c.clause.relation what relation;
        value = found.compared;
      };
      made = found.made;
    }

clause_by : (rows : List Row) (p : Project) (words : List (List ℕ)) (o : Option ObjectWord) (c : RuleClause)
    → AreRight rows → IsProject rows p
    → clause_about o words ≡ None → object_known rows o words ≡ None → IsClauseAt rows (place_of o) words c
    → ClauseRight rows p c
clause_by rows p words None c right of e known is = absurd (let x : ⊥ = cc in x)
clause_by rows p words (Some System) c right of e known is = clause_at rows p words System c right of e known is
clause_by rows p words (Some (NodeObject kind)) c right of e known is =
    clause_at rows p words (NodeObject kind) c right of
    (or_none (needed id 2 words) (comparison (NodeObject kind) 3 words) e).1 known is
clause_by rows p words (Some (LinkObject kind)) c right of e known is =
    clause_at rows p words (LinkObject kind) c right of
    (or_none (needed id 2 words) (comparison (LinkObject kind) 3 words) e).1 known is

clause_right : (rows : List Row) (p : Project) (words : List (List ℕ)) (c : RuleClause) → AreRight rows
    → IsProject rows p → ClauseLine rows words
    → project.IsClause rows words c → ClauseRight rows p c
clause_right rows p words c right of line is =
    clause_by rows p words (object_word (word 1 words)) c right of line.by_itself line.with_others is

-- ---- actions

action_right : (rows : List Row) (p : Project) (words : List (List ℕ)) (a : Action) → AreRight rows → IsProject rows p
    → ActionLine rows words
    → project.IsAction rows words a → Command rows p a.link a.to
action_right rows p words a right of line is =
    let both = or_none (link_by_word rows (link_word (word 1 words)) (word 2 words))
    (set_link rows (link_named rows (word 2 words)) (word 5 words) None) line.with_others in
    command rows p (word 2 words) (word 5 words) a.link a.to None right of is.link both.1 is.to

-- ---- priorities

signed_lies : (negative : Bool) (n most : ℕ) → n ≤ most → LiesWithin most (signed negative n)
signed_lies true zero most l = record { at_least = omega (arith, ints, l); at_most = omega (arith, ints, l) }
signed_lies true (suc n) most l = record { at_least = omega (arith, ints, l); at_most = omega (arith, ints, l) }
signed_lies false n most l = record { at_least = omega (arith, ints, l); at_most = omega (arith, ints, l) }

number_lies : (w : List ℕ) → number w ≡ None → LiesWithin (10 ^ 21) (nano_of w)
unfolding nano_of
number_lies w e =
    let both = and_parts (is_numeral w) (nat_le (magnitude_of w) (10 ^ 21)) (unless_none _ _ e) in
    signed_lies (is_negative w) (magnitude_of w) (10 ^ 21) (leb-true (magnitude_of w) (10 ^ 21) both.1)

priority_line : (acting : Bool) (words : List (List ℕ)) (o : Option RuleWord) → words_about o acting words ≡ None
    → is_priority o ≡ true → LiesWithin (10 ^ 21) (amount 1 words)
priority_line acting words (Some rule.Priority) e is =
    number_lies (word 1 words) (needed_none number 1 words
    (all_none (needed number 1 words ∷ ends 2 words ∷ []) e).0).right
priority_line acting words None e is = absurd (true≢false (sym is))
priority_line acting words (Some rule.Rule) e is = absurd (true≢false (sym is))
priority_line acting words (Some rule.If) e is = absurd (true≢false (sym is))
priority_line acting words (Some rule.And) e is = absurd (true≢false (sym is))
priority_line acting words (Some rule.Or) e is = absurd (true≢false (sym is))
priority_line acting words (Some rule.Then) e is = absurd (true≢false (sym is))
priority_line acting words (Some rule.Else) e is = absurd (true≢false (sym is))

first_lies : (lines : List (List (List ℕ)))
    → AllByRecursion (λ words. is_priority (begins_with words) ≡ true → LiesWithin (10 ^ 21) (amount 1 words)) lines
    → IfSome (first_amount (filter (λ words. is_priority (begins_with words)) lines)) (LiesWithin (10 ^ 21))
first_lies [] all = tt
first_lies (words ∷ lines) all = elim (cases_Bool (is_priority (begins_with words))) [
  | inl t ↦ rw t (all.0 t)
  | inr f ↦ rw f (first_lies lines all.1)
]

priority_right : (rows : List Row) (group : List (List (List ℕ))) → GroupRight rows group
    → IfSome (priority_of group) (LiesWithin (10 ^ 21))
priority_right rows group right =
    first_lies group
    (each_line rows (λ words. is_priority (begins_with words) ≡ true → LiesWithin (10 ^ 21) (amount 1 words))
    (λ stage words line is. priority_line (is_acting stage) words (begins_with words) line.by_itself is) Outside group
    right.lines)

-- ---- rules

pub record RuleRight (rows : List Row) (p : Project) (r : RuleItem) : Type 0 where
  pub id : IsId r.id.list
  pub clauses : All (ClauseRight rows p) r.clauses.list
  pub yes : All (λ a. Command rows p a.link a.to) r.yes.list
  pub no : All (λ a. Command rows p a.link a.to) r.no.list
  pub priority : IfSome r.priority (LiesWithin (10 ^ 21))

rule_id_right : (rows : List Row) (group : List (List (List ℕ))) → GroupRight rows group → IsId (rule_id group)
rule_id_right rows group right =
    let first_line : LineRight rows Outside right.head =
    (subst (RightFrom rows Outside) right.group_is right.lines).0 in
    let own : first (needed id 1 right.head ∷ ends 2 right.head ∷ []) ≡ None =
    rw (rule_is (begins_with right.head) right.names) at first_line.by_itself in
    let found = needed_none id 1 right.head (all_none (needed id 1 right.head ∷ ends 2 right.head ∷ []) own).0 in
    let there : 1 ≤ length (word 1 right.head) = all_at (λ w. 1 ≤ length w) right.head first_line.not_empty 1
    (word 1 right.head) found.is in
    subst (λ g. IsId (rule_id g)) (sym right.group_is) (there, leb-true _ _ (unless_none _ _ found.right))

rule_right : (rows : List Row) (p : Project) (group : List (List (List ℕ))) (r : RuleItem) → AreRight rows
    → IsProject rows p → GroupRight rows group
    → project.IsRule rows group r → RuleRight rows p r
rule_right rows p group r right of lines is = record {
  id = subst IsId (sym is.id) (rule_id_right rows group lines);
  clauses = match_all (project.IsClause rows) (ClauseRight rows p) (clause_lines group) r.clauses.list is.clauses
      (λ n words c at _ made.
      clause_right rows p words c right of
      (clause_line rows words (line_at rows is_asking Outside group n words lines.lines at)) made);
  yes = match_all (project.IsAction rows) (λ a. Command rows p a.link a.to) (then_lines group) r.yes.list is.yes
      (λ n words a at _ made.
      action_right rows p words a right of
      (then_line rows words (line_at rows is_doing Outside group n words lines.lines at)) made);
  no = match_all (project.IsAction rows) (λ a. Command rows p a.link a.to) (else_lines group) r.no.list is.no
      (λ n words a at _ made.
      action_right rows p words a right of
      (else_line rows words (line_at rows is_otherwise Outside group n words lines.lines at)) made);
  priority = subst (λ (o : Option ℤ). IfSome o (LiesWithin (10 ^ 21))) (sym is.priority)
      (priority_right rows group lines);
}

pub each_rule : (rows : List Row) (p : Project) → AreRight rows → IsProject rows p
    → All (RuleRight rows p) p.rules.list
each_rule rows p right of =
    match_all (project.IsRule rows) (RuleRight rows p) (rule_groups (words_of RulesSection rows)) p.rules.list
    of.rules (λ n group r at _ made.
    rule_right rows p group r right of (group_right rows Outside (words_of RulesSection rows) n group
    (all_lines rows right) at) made)

pub rules_right : (rows : List Row) (p : Project) → AreRight rows → IsProject rows p
    → All (commands.IsRule p) p.rules.list
rules_right rows p right of = λ k d l.
    let r = each_rule rows p right of k d l in
    record {
      id = r.id;
      clauses = λ i e m. (r.clauses i e m).clause;
      yes = λ i e m. can_command rows p _ _ (r.yes i e m);
      no = λ i e m. can_command rows p _ _ (r.no i e m);
      priority = r.priority;
    }
