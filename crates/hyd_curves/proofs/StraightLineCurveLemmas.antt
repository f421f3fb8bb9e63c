-- The curves by straight lines that pumps and valves name, one row further.
use Rattle.std.proofs.Common.{◌≡◌, All, ◌+◌, ◌<◌, ◌≤◌, ◌++◌, ◌^◌, ◌==◌, ℕ, unsigned_abs, Bool, true, false, List, []}
use Rattle.std.proofs.Common.{◌∷◌, map, length, take, slice_get, get_or, Option, Some, None, pos, neg_ℤ, ◌≤ℤ◌, ◌<ℤ◌}
use Rattle.std.proofs.Common.{◌*ℤ◌, refl, sym, ap, ◌∙◌, subst, arith, true≢false, append-nil, append_assoc, inl}
use Rattle.std.proofs.Common.{if◌then◌else◌}
use Rattle.std.specs.Prelude.{◌&&◌, nat_le}
use Rattle.std.specs.List.{flat_map, list_all}
use Rattle.std.proofs.lemmas.Int.{ints, by_lt_z}
use Rattle.std.proofs.lemmas.Bool.{and_parts}
use Rattle.std.proofs.lemmas.Bool.Decides.{nat_tests}
use Rattle.std.proofs.lemmas.Grind.{flat_map-append}
use Rattle.std.proofs.lemmas.List.{length-map, get_or-map}
use Rattle.std.proofs.lemmas.List.Elements.{All-nil, All-cons}
use lib.Signed.{le_z, lt_z}
use Rattle.hyd_num.specs.FileQuantity.{is_us_unit}
use Rattle.hyd_num.specs.Rational.{Rational, whole, is_at_most}
use Rattle.hyd_num.specs.declared.flow_units.FlowUnit.{FlowUnit}
use Rattle.hyd_spec_lines.specs.Lines.{Row, row_of}
use Rattle.hyd_spec_lines.specs.declared.line.Line.{Line}
use Rattle.hyd_spec_lines.specs.declared.section.Section.{Section}
use Rattle.hyd_spec_lines.specs.declared.section.Section.TheVariants.{Pumps, Valves}
use Rattle.hyd_net.specs.Curves.{Knot, on_line, value_at, head_knots}
use Rattle.hyd_net.specs.ListView.{ListView}
use Rattle.hyd_net.specs.declared.refusal_cause.Cause.{Cause}
use Rattle.hyd_net.specs.declared.refusal_cause.Cause.TheVariants.{Range, Unsupported}
use Rattle.hyd_net.specs.declared.curves.HeadPoint.{HeadPoint}
use Rattle.hyd_spec_input.specs.SingleRows as itself
use Rattle.hyd_spec_input.specs.SingleRows.{IsWrongByItself}
use Rattle.hyd_spec_input.specs.Columns.{first, unless, or_empty}
use Rattle.hyd_spec_input.specs.Curves.{in_turn, at_start, at_end, has_flow, is_head, is_slower, is_faster, is_bent}
use Rattle.hyd_spec_input.specs.Curves.{is_pump_curve, is_pump_bend, begins_forward, begins_at_0, is_valve_bend}
use Rattle.hyd_spec_input.specs.Curves.{head_point}
use Rattle.hyd_spec_input.specs.Curves.{head_points}
use Rattle.hyd_spec_input.specs.Faults.{NoneIs, IsWrongWithOthers}
use Rattle.hyd_spec_input.specs.OptionsAndTimesInForce as force
use Rattle.hyd_spec_input.specs.MeaningsAcrossRows.{as_list, bent_name, bend_names, new_names, is_among}
use Rattle.hyd_spec_input.specs.NodeAndLinkRows as row_form
use Rattle.hyd_spec_input.specs.NodeAndLinkRows.{pump_curve, pump_pattern, valve_curve}
use Rattle.hyd_spec_input.specs.Project.{Match, bend_points}
use Rattle.hyd_spec_input.specs.SectionsAndTables.{Point, place, is_of, rows_of, curve_named}
use Rattle.hyd_spec_input.specs.FaultsWithOtherRows as others
use Rattle.hyd_spec_input.specs.FaultsWithOtherRows.{us}
use Rattle.hyd_rows_and_tables.specs.RowsOfLines.{rows_at}
use Rattle.hyd_num.proofs.Integers.{one_times}
use Rattle.hyd_rows_and_tables.proofs.FirstWrongRowLemmas.{filter_more, filter_same}
use Rattle.hyd_rows_and_tables.proofs.WrongInSectionLemmas.{all_rows}
use Rattle.hyd_curves.specs.PumpAndValveCurveTests.{begins_and_ends, loss_passes}
use Rattle.hyd_curves.specs.NamedVolumeCurves.{with_name}
use Rattle.hyd_curves.specs.NamedStraightLineCurves.{IsSmallHead, AreBends, AreOf, AreOfPumps, AreOfValves, pump_names}
use Rattle.hyd_curves.specs.NamedStraightLineCurves.{valve_names}
use Rattle.hyd_curves.specs.Points.{points_in, point_in}
use Rattle.hyd_curves.specs.declared.straight_line_curves.Bends.{Bends}
use Rattle.hyd_curves.specs.declared.points.CurvePoint.{CurvePoint}
use Rattle.hyd_lemmas.proofs.BooleanTests.{lt-from, le_z-yes, lt_z-yes}
use Rattle.hyd_theorems_on_input.proofs.MatchedLists.{match_push}
use Rattle.hyd_theorems_on_input.proofs.RowsWithoutFault.{unless_none, none_from, none_alone}
use Rattle.hyd_curves.proofs.PumpAndValveCurveTestLemmas.{lifted}
use Rattle.hyd_curves.proofs.LinesBetweenKnots.{high_is}
use Rattle.hyd_curves.proofs.NamesOnceLemmas.{one_name_more}
use Rattle.hyd_curves.proofs.VolumeCurveLemmas.{behind_none, here_none, length_with}

-- ---- small points

pub small_at : (unit : FlowUnit) (points : List CurvePoint) (k : ℕ) (point : CurvePoint)
    → All IsSmallHead (head_points unit (is_us_unit unit) (points_in points)) → k < length points
    → point ≡ get_or points k point → IsSmallHead (head_point unit (is_us_unit unit) (point_in point))
small_at unit points k point all l is =
    let made = head_point unit (is_us_unit unit) in
    let d : HeadPoint = made (point_in point) in
    let n : length (points_in points) ≡ length points = length-map points point_in in
    let m : length (map made (points_in points)) ≡ length (points_in points) = length-map (points_in points) made in
    let at : get_or (map made (points_in points)) k d ≡ d =
    get_or-map made (points_in points) k (point_in point) d (omega (arith, n, l))
    ∙ ap made (get_or-map point_in points k point (point_in point) l ∙ ap point_in (sym is)) in
    subst IsSmallHead at (all k d (omega (arith, n, m, l)))

flow_small : (p : HeadPoint) → has_flow p ≡ true → unsigned_abs p.flow ≤ 10 ^ 18
flow_small p h =
    let both = and_parts (le_z (neg_ℤ (pos (10 ^ 15))) p.flow) (le_z p.flow (pos (10 ^ 15))) h in
    let low = le_z-yes (neg_ℤ (pos (10 ^ 15))) p.flow both.0 in
    let high = le_z-yes p.flow (pos (10 ^ 15)) both.1 in
    omega (arith, ints, low, high)

head_small : (p : HeadPoint) → is_head p.head ≡ true → unsigned_abs p.head ≤ 10 ^ 18
head_small p h =
    let both = and_parts (le_z (neg_ℤ (pos (10 ^ 17))) p.head) (le_z p.head (pos (10 ^ 17))) h in
    let low = le_z-yes (neg_ℤ (pos (10 ^ 17))) p.head both.0 in
    let high = le_z-yes p.head (pos (10 ^ 17)) both.1 in
    omega (arith, ints, low, high)

-- heads that fall from a bound to no less than 0
falling_small : (a : HeadPoint) (points : List HeadPoint) → list_all has_flow (a ∷ points) ≡ true
    → in_turn is_slower (a ∷ points) ≡ true → at_end (λ (p : HeadPoint). le_z (pos 0) p.head) (a ∷ points) ≡ true
    → a.head ≤ℤ pos (10 ^ 16) → All IsSmallHead (a ∷ points)
falling_small a [] flows falls end most =
    let here = and_parts (has_flow a) true flows in
    let low : pos 0 ≤ℤ a.head = lifted a [] falls end in
    All-cons IsSmallHead a [] (record { flow = flow_small a here.0; head = omega (arith, ints, low, most) })
    (All-nil IsSmallHead)
falling_small a (b ∷ points) flows falls end most =
    let here = and_parts (has_flow a) (list_all has_flow (b ∷ points)) flows in
    let both = and_parts (is_slower a b) (in_turn is_slower (b ∷ points)) falls in
    let down = and_parts (lt_z a.flow b.flow) (lt_z b.head a.head) both.0 in
    let low : pos 0 ≤ℤ a.head = lifted a (b ∷ points) falls end in
    let less : b.head <ℤ a.head = lt_z-yes b.head a.head down.1 in
    All-cons IsSmallHead a (b ∷ points) (record { flow = flow_small a here.0; head = omega (arith, ints, low, most) })
    (falling_small b points here.1 both.1 end (omega (arith, ints, less, most)))

-- the first head of a pump's curve
first_low : (a b c : HeadPoint) (points : List HeadPoint) → a.flow <ℤ b.flow → b.head <ℤ a.head → pos 0 ≤ℤ a.flow
    → is_at_most (value_at 1 (head_knots (a ∷ b ∷ c ∷ points)) (pos 0)) (whole (pos (10 ^ 16))) ≡ true
    → a.head ≤ℤ pos (10 ^ 16)
first_low a b c points rise fall start low =
    let p : Knot = record { place = a.flow; value = a.head } in
    let q : Knot = record { place = b.flow; value = b.head } in
    let line : value_at 1 (head_knots (a ∷ b ∷ c ∷ points)) (pos 0) ≡ on_line 1 p q (pos 0) =
    rw (
      lt-from (pos 0) (pos 1 *ℤ b.flow) (omega (arith, ints, one_times b.flow, start, rise)),
      lt-from a.flow b.flow
          rise,
    ) refl in
    by_lt_z (pos (10 ^ 16)) a.head
    (λ above. absurd (true≢false (sym low ∙ ap (λ (v : Rational). is_at_most v (whole (pos (10 ^ 16)))) line
    ∙ sym (high_is p q (pos (10 ^ 16)) rise start (omega (arith, ints, fall)) above))))
    (λ most. most)

bend_small : (points : List HeadPoint) → 4 ≤ length points → is_pump_bend points ≡ true → All IsSmallHead points
bend_small [] l right = absurd (omega arith)
bend_small (a ∷ []) l right = absurd (omega arith)
bend_small (a ∷ b ∷ []) l right = absurd (omega arith)
bend_small (a ∷ b ∷ c ∷ points) l right =
    let all = a ∷ b ∷ c ∷ points in
    let parts = and_parts (list_all has_flow all && in_turn is_slower all)
    (begins_and_ends all && is_at_most (value_at 1 (head_knots all) (pos 0)) (whole (pos (10 ^ 16)))) right in
    let both = and_parts (list_all has_flow all) (in_turn is_slower all) parts.0 in
    let ends = and_parts (begins_and_ends all) (is_at_most (value_at 1 (head_knots all) (pos 0)) (whole (pos (10 ^
    16)))) parts.1 in
    let edges = and_parts (at_start (λ (p : HeadPoint). le_z (pos 0) p.flow) all)
    (at_end (λ (p : HeadPoint). le_z (pos 0) p.head) all) ends.0 in
    let order = and_parts (is_slower a b) (in_turn is_slower (b ∷ c ∷ points)) both.1 in
    let down = and_parts (lt_z a.flow b.flow) (lt_z b.head a.head) order.0 in
    falling_small a (b ∷ c ∷ points) both.0 both.1 edges.1
    (first_low a b c points (lt_z-yes a.flow b.flow down.0) (lt_z-yes b.head a.head down.1) (le_z-yes (pos 0) a.flow
    edges.0) ends.1)

losses_small : (points : List HeadPoint) → list_all loss_passes points ≡ true → All IsSmallHead points
losses_small [] right = All-nil IsSmallHead
losses_small (a ∷ points) right =
    let here = and_parts (loss_passes a) (list_all loss_passes points) right in
    let both = and_parts (has_flow a) (is_head a.head) here.0 in
    All-cons IsSmallHead a points (record { flow = flow_small a both.0; head = head_small a both.1 })
    (losses_small points here.1)

-- ---- rows among all rows

fourth : (a b c d e : Option Cause) → first (a ∷ b ∷ c ∷ d ∷ e ∷ []) ≡ None → d ≡ None
fourth a b c d e h = here_none d _ (behind_none c _ (behind_none b _ (behind_none a _ h)))

third : (a b c d : Option Cause) → first (a ∷ b ∷ c ∷ d ∷ []) ≡ None → c ≡ None
third a b c d h = here_none c _ (behind_none b _ (behind_none a _ h))

pump_is : (section : Section) (rows : List Row) (k : ℕ) (row : Row) → (place section == 4) ≡ true
    → others.section_fault section rows k row ≡ others.pump rows k row
pump_is Pumps rows k row h = refl
pump_is _ rows k row h = absurd (true≢false (sym h))

valve_is : (section : Section) (rows : List Row) (k : ℕ) (row : Row) → (place section == 5) ≡ true
    → others.section_fault section rows k row ≡ others.valve rows k row
valve_is Valves rows k row h = refl
valve_is _ rows k row h = absurd (true≢false (sym h))

right_row : (rows : List Row) (k : ℕ) (row : Row) → NoneIs (IsWrongWithOthers rows) → slice_get rows k ≡ Some row
    → others.row_fault rows k row ≡ None
right_row rows k row right is = none_from (others.row_fault rows k row)
    (λ cause f. right k cause (record { row = row; row_is = is; fault = inl f }))

bent_right : (rows : List Row) (name : List ℕ) → others.curve_of_pump rows (Some name) ≡ None
    → is_bent (curve_named rows name) ≡ true → is_pump_bend (bend_points rows name) ≡ true
bent_right rows name right bent =
    let range : others.pump_curve_range rows name ≡ None =
    behind_none (unless (is_pump_curve (curve_named rows name)) (Unsupported 4)) (others.pump_curve_range rows name)
    right in
    let both = unless_none (begins_forward (curve_named rows name) && is_pump_bend (bend_points rows name)) Range
    (rw bent at range) in
    (and_parts (begins_forward (curve_named rows name)) (is_pump_bend (bend_points rows name)) both).1

bent_many : (rows : List Row) (name : List ℕ) → is_bent (curve_named rows name) ≡ true → 4 ≤ length (bend_points
    rows name)
bent_many rows name bent =
    let n : length (bend_points rows name) ≡ length (curve_named rows name) =
    length-map (curve_named rows name) (head_point (force.unit rows) (us rows)) in
    let l : 4 ≤ length (curve_named rows name) = grind (arith, nat_tests, bent) in
    omega (arith, n, l)

pub pump_small : (rows : List Row) (k : ℕ) (row : Row) (name : List ℕ) → NoneIs (IsWrongWithOthers rows)
    → slice_get rows k ≡ Some row → is_of Pumps row ≡ true → pump_curve row.words ≡ Some name
    → is_bent (curve_named rows name) ≡ true → All IsSmallHead (bend_points rows name)
pump_small rows k row name right is member e bent =
    let fault : others.curve_of_pump rows (pump_curve row.words) ≡ None =
    fourth (others.ends rows k row) (others.known_curve rows (pump_curve row.words))
    (others.known_pattern rows (pump_pattern row.words)) (others.curve_of_pump rows (pump_curve row.words))
    (others.each_multiplier others.is_speed rows (pump_pattern row.words))
    (sym (pump_is row.section rows k row member) ∙ right_row rows k row right is) in
    bend_small (bend_points rows name) (bent_many rows name bent)
    (bent_right rows name (ap (others.curve_of_pump rows) (sym e) ∙ fault) bent)

pub valve_small : (rows : List Row) (k : ℕ) (row : Row) (name : List ℕ) → NoneIs (IsWrongWithOthers rows)
    → slice_get rows k ≡ Some row → is_of Valves row ≡ true → valve_curve row.words ≡ Some name
    → All IsSmallHead (bend_points rows name)
valve_small rows k row name right is member e =
    let fault : others.curve_of_valve rows (valve_curve row.words) ≡ None =
    third (others.ends rows k row) (others.known_curve rows (valve_curve row.words))
    (others.curve_of_valve rows (valve_curve row.words)) (others.flow_setting rows row)
    (sym (valve_is row.section rows k row member) ∙ right_row rows k row right is) in
    let points = bend_points rows name in
    let test : (begins_at_0 (curve_named rows name) && is_valve_bend points) ≡ true =
    unless_none (begins_at_0 (curve_named rows name) && is_valve_bend points) Range
    (ap (others.curve_of_valve rows) (sym e) ∙ fault) in
    let both = and_parts (begins_at_0 (curve_named rows name)) (is_valve_bend points) test in
    let parts = and_parts (nat_le 2 (length points) && in_turn is_faster points) (list_all loss_passes points) both.1 in
    losses_small points parts.1

-- ---- by itself

by_itself : (section : Section) (earlier : List (List (List ℕ))) (words : List (List ℕ)) (later : List (List (List ℕ)))
    → (place section == 4) ≡ true → itself.section_fault section earlier words later ≡ row_form.pump words
by_itself Pumps earlier words later h = refl
by_itself _ earlier words later h = absurd (true≢false (sym h))

pub pump_is_right : (rows : List Row) (k : ℕ) (row : Row) → NoneIs (IsWrongByItself rows)
    → slice_get rows k ≡ Some row → is_of Pumps row ≡ true → row_form.pump row.words ≡ None
pump_is_right rows k row right is member =
    sym (by_itself row.section _ row.words _ member)
    ∙ none_alone rows k row right is

-- ---- names

pub as_before : (rows : List Row) (named next : List (List ℕ)) (most : ℕ) (bends : Bends) → AreOf rows named most bends
    → next ≡ named → AreOf rows next (most + 1) bends
as_before rows named next most bends before e = record {
  names = before.names ∙ ap (new_names []) (sym e);
  few = omega (arith, before.few);
  lists = before.lists;
}

pub with_one : (rows : List Row) (named all : List (List ℕ)) (most : ℕ) (bends next : Bends) (name : List ℕ)
    → AreOf rows named most bends → all ≡ named ++ name ∷ [] → next.names ≡ with_name bends.names name
    → AreBends rows next → AreOf rows all (most + 1) next
with_one rows named all most bends next name before e names lists = record {
  names = names ∙ ap (λ (ns : List (List ℕ)). with_name ns name) before.names ∙ sym (ap (new_names []) e ∙
      one_name_more named name);
  few = omega (arith, before.few, ap length names, length_with (is_among name bends.names) bends.names name);
  lists = lists;
}

pub other_pump : (rows : List Row) (k : ℕ) (row : Row) → slice_get rows k ≡ Some row → is_of Pumps row ≡ false
    → pump_names rows (take (k + 1) rows) ≡ pump_names rows (take k rows)
other_pump rows k row is other = ap (flat_map (bent_name rows)) (filter_same (is_of Pumps) rows k row is other)

pub next_pump : (rows : List Row) (k : ℕ) (row : Row) (name : List ℕ) (bent : Bool) → slice_get rows k ≡ Some row
    → is_of Pumps row ≡ true → pump_curve row.words ≡ Some name → is_bent (curve_named rows name) ≡ bent
    → pump_names rows (take (k + 1) rows) ≡ pump_names rows (take k rows) ++ (if bent then name ∷ [] else [])
next_pump rows k row name bent is member e f =
    let added : bent_name rows row ≡ (if bent then name ∷ [] else []) =
    ap (λ (o : Option (List ℕ)). if is_bent (curve_named rows (or_empty o)) then as_list o else []) e
    ∙ ap (λ (b : Bool). if b then name ∷ [] else []) f in
    ap (flat_map (bent_name rows)) (filter_more (is_of Pumps) rows k row is member)
    ∙ flat_map-append (bent_name rows) (rows_of Pumps (take k rows)) (row ∷ [])
    ∙ ap (λ (ns : List (List ℕ)). pump_names rows (take k rows) ++ ns) (append-nil _ ∙ added)

pub other_valve : (rows : List Row) (k : ℕ) (row : Row) → slice_get rows k ≡ Some row → is_of Valves row ≡ false
    → valve_names (take (k + 1) rows) ≡ valve_names (take k rows)
other_valve rows k row is other =
    ap (flat_map (λ (r : Row). as_list (valve_curve r.words))) (filter_same (is_of Valves) rows k row is other)

pub next_valve : (rows : List Row) (k : ℕ) (row : Row) (added : List (List ℕ)) → slice_get rows k ≡ Some row
    → is_of Valves row ≡ true → as_list (valve_curve row.words) ≡ added
    → valve_names (take (k + 1) rows) ≡ valve_names (take k rows) ++ added
next_valve rows k row added is member e =
    ap (flat_map (λ (r : Row). as_list (valve_curve r.words))) (filter_more (is_of Valves) rows k row is member)
    ∙ flat_map-append (λ (r : Row). as_list (valve_curve r.words)) (rows_of Valves (take k rows)) (row ∷ [])
    ∙ ap (λ (ns : List (List ℕ)). valve_names (take k rows) ++ ns) (append-nil _ ∙ e)

pub list_more : (rows : List Row) (bends next : Bends) (name : List ℕ) (list : ListView HeadPoint)
    → AreBends rows bends → list.list ≡ bend_points rows name → next.names ≡ bends.names ++ name ∷ []
    → next.lists.list ≡ bends.lists.list ++ list ∷ [] → AreBends rows next
list_more rows bends next name list before one names lists =
    rw (names, lists) (match_push (λ (n : List ℕ) (l : ListView HeadPoint). l.list ≡ bend_points rows n) bends.names
    bends.lists.list name list before one)

-- so many points make straight lines, or don't
pub many_points : (points : List CurvePoint) (named : List Point) → points_in points ≡ named → 4 ≤ length points
    → is_bent named ≡ true
many_points points named e l =
    let n : length named ≡ length points = ap length (sym e) ∙ length-map points point_in in
    grind (arith, nat_tests, n, l)

pub few : (points : List CurvePoint) (named : List Point) → points_in points ≡ named → length points < 4
    → is_bent named ≡ false
few points named e l =
    let n : length named ≡ length points = ap length (sym e) ∙ length-map points point_in in
    grind (arith, nat_tests, n, l)

-- ---- valves, after all pumps

pub valve_as_before : (rows : List Row) (k : ℕ) (bends : Bends) → AreOfValves rows k bends
    → valve_names (take (k + 1) rows) ≡ valve_names (take k rows) → AreOfValves rows (k + 1) bends
valve_as_before rows k bends before e =
    let same : pump_names rows rows ++ valve_names (take (k + 1) rows) ≡ pump_names rows rows ++ valve_names (take k
    rows) =
    ap (λ (ns : List (List ℕ)). pump_names rows rows ++ ns) e in
    let next = as_before rows (pump_names rows rows ++ valve_names (take k rows))
    (pump_names rows rows ++ valve_names (take (k + 1) rows)) (length rows + k) bends before same in
    record { names = next.names; few = omega (arith, next.few); lists = next.lists }

pub valve_with_one : (rows : List Row) (k : ℕ) (bends next : Bends) (name : List ℕ) → AreOfValves rows k bends
    → valve_names (take (k + 1) rows) ≡ valve_names (take k rows) ++ name ∷ []
    → next.names ≡ with_name bends.names name → AreBends rows next → AreOfValves rows (k + 1) next
valve_with_one rows k bends next name before e names lists =
    let all : pump_names rows rows ++ valve_names (take (k + 1) rows)
    ≡ (pump_names rows rows ++ valve_names (take k rows)) ++ name ∷ [] =
    ap (λ (ns : List (List ℕ)). pump_names rows rows ++ ns) e
    ∙ sym (append_assoc (pump_names rows rows) (valve_names (take k rows)) (name ∷ [])) in
    let more = with_one rows (pump_names rows rows ++ valve_names (take k rows))
    (pump_names rows rows ++ valve_names (take (k + 1) rows)) (length rows + k) bends next name before all names
    lists in
    record { names = more.names; few = omega (arith, more.few); lists = more.lists }

-- ---- all rows

pub no_bends : (rows : List Row) (bends : Bends) → bends.names ≡ [] → bends.lists.list ≡ [] → AreOfPumps rows 0 bends
no_bends rows bends e f = record { names = e; few = omega (arith, ap length e); lists = rw (e, f) tt }

pub all_pumps : (text : List ℕ) (lines : List Line) (k : ℕ) (bends : Bends) → AreOfPumps (rows_at text lines) k bends
    → length lines ≤ k → k ≤ length lines → AreOfValves (rows_at text lines) 0 bends
all_pumps text lines k bends at l m =
    let rows = rows_at text lines in
    let n : length rows ≡ length lines = length-map lines (row_of text) in
    let all : pump_names rows (take k rows) ≡ pump_names rows rows ++ valve_names (take 0 rows) =
    ap (pump_names rows) (all_rows text lines k l) ∙ sym (append-nil (pump_names rows rows)) in
    record {
      names = at.names ∙ ap (new_names []) all;
      few = omega (arith, at.few, n, m);
      lists = at.lists;
    }

pub all_bends : (text : List ℕ) (lines : List Line) (k : ℕ) (bends : Bends) → AreOfValves (rows_at text lines) k bends
    → length lines ≤ k
    → (bends.names ≡ bend_names (rows_at text lines))
    × Match (λ (name : List ℕ) (list : ListView HeadPoint). list.list ≡ bend_points (rows_at text lines) name)
    (bend_names (rows_at text lines)) bends.lists.list
all_bends text lines k bends at l =
    let rows = rows_at text lines in
    let names : bends.names ≡ bend_names rows =
    at.names ∙ ap (λ (rs : List Row). new_names [] (pump_names rows rows ++ valve_names rs)) (all_rows text lines k
    l) in (
      names,
      subst (λ (ns : List (List ℕ)). Match (λ (name : List ℕ) (list : ListView HeadPoint). list.list ≡ bend_points
          rows name)
          ns bends.lists.list) names at.lists,
    )
