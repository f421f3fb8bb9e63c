-- The volume curves that tanks name, one row further.
use Rattle.std.proofs.Common.{◌≡◌, All, ◌+◌, ◌<◌, ◌≤◌, ◌++◌, ◌^◌, ◌==◌, ℕ, Bool, true, false, List, [], ◌∷◌, length}
use Rattle.std.proofs.Common.{take, slice_get, get_or, Option, Some, None, pos, refl, sym, ap, ◌∙◌, subst, arith}
use Rattle.std.proofs.Common.{true≢false, append-nil, inl, if◌then◌else◌, ℤ, ◌+ℤ◌, ◌-ℤ◌}
use Rattle.std.specs.Prelude.{◌&&◌, nat_le}
use Rattle.std.specs.List.{flat_map, list_all}
use Rattle.std.proofs.lemmas.Bool.{and_parts}
use Rattle.std.proofs.lemmas.Grind.{flat_map-append}
use Rattle.std.proofs.lemmas.List.{length-map, get_or-map, length-append}
use Rattle.std.proofs.lemmas.List.Elements.{All-nil, All-cons}
use lib.Signed.{le_z}
use Rattle.hyd_num.specs.FileQuantity.{head_ticks}
use Rattle.hyd_spec_lines.specs.Lines.{Row}
use Rattle.hyd_spec_lines.specs.declared.section.Section.{Section}
use Rattle.hyd_spec_lines.specs.declared.section.Section.TheVariants.{Tanks}
use Rattle.hyd_net.specs.Curves.{volume_at}
use Rattle.hyd_net.specs.ListView.{ListView}
use Rattle.hyd_net.specs.declared.refusal_cause.Cause.{Cause}
use Rattle.hyd_net.specs.declared.refusal_cause.Cause.TheVariants.{Range}
use Rattle.hyd_net.specs.declared.curves.VolumePoint.{VolumePoint}
use Rattle.hyd_spec_input.specs.SingleRows as itself
use Rattle.hyd_spec_input.specs.SingleRows.{IsWrongByItself}
use Rattle.hyd_spec_input.specs.Columns.{or_else, first, amount}
use Rattle.hyd_spec_input.specs.Curves.{volume_point, volume_points, is_fuller, in_turn, is_volume_curve, covers}
use Rattle.hyd_spec_input.specs.Faults.{NoneIs, IsWrongWithOthers}
use Rattle.hyd_spec_input.specs.MeaningsAcrossRows.{as_list, new_names, shape_names, is_among}
use Rattle.hyd_spec_input.specs.NodeAndLinkRows as row_form
use Rattle.hyd_spec_input.specs.NodeAndLinkRows.{tank_curve}
use Rattle.hyd_spec_input.specs.Project.{Match, shape_points}
use Rattle.hyd_spec_input.specs.SectionsAndTables.{place, is_of, rows_of, node_rows}
use Rattle.hyd_spec_input.specs.FaultsWithOtherRows as others
use Rattle.hyd_spec_input.specs.FaultsWithOtherRows.{us}
use Rattle.hyd_rows_and_tables.proofs.FirstWrongRowLemmas.{filter_more, filter_same}
use Rattle.hyd_rows_and_tables.specs.RowsOfLines.{rows_at}
use Rattle.hyd_rows_and_tables.proofs.WrongInSectionLemmas.{all_rows}
use Rattle.hyd_spec_lines.specs.declared.line.Line.{Line}
use Rattle.hyd_spec_input.specs.OptionsAndTimesInForce as force
use Rattle.hyd_curves.specs.CurveFaults.{tank_curve_fault}
use Rattle.hyd_curves.specs.NamedVolumeCurves.{IsSmallVolume, AreShapes, AreShapesAt, with_name}
use Rattle.hyd_curves.specs.Points.{points_in, point_in}
use Rattle.hyd_curves.specs.TankCurveTests.{IsRight, level_passes, begins_and_ends}
use Rattle.hyd_curves.specs.declared.points.CurvePoint.{CurvePoint}
use Rattle.hyd_curves.specs.declared.volume_curves.Shapes.{Shapes}
use Rattle.hyd_curves.specs.declared.points_in_ticks.Ticks.{Ticks}
use Rattle.hyd_theorems_on_input.proofs.MatchedLists.{match_push}
use Rattle.hyd_theorems_on_input.proofs.RowsWithoutFault.{unless_none, none_from, none_alone}
use Rattle.hyd_curves.proofs.NamesOnceLemmas.{one_name_more}
use Rattle.hyd_curves.proofs.TankCurveTestLemmas.{small, behind}

-- ---- small points

pub small_at : (us : Bool) (points : List CurvePoint) (k : ℕ) (point : CurvePoint)
    → All IsSmallVolume (volume_points us (points_in points)) → k < length points → point ≡ get_or points k point
    → IsSmallVolume (volume_point us (point_in point))
small_at us points k point all l is =
    let d : VolumePoint = volume_point us (point_in point) in
    let n : length (points_in points) ≡ length points = length-map points point_in in
    let m : length (volume_points us (points_in points)) ≡ length (points_in points) =
    length-map (points_in points) (volume_point us) in
    let at : get_or (volume_points us (points_in points)) k d ≡ d =
    get_or-map (volume_point us) (points_in points) k (point_in point) d (omega (arith, n, l))
    ∙ ap (volume_point us) (get_or-map point_in points k point (point_in point) l ∙ ap point_in (sym is)) in
    subst IsSmallVolume at (all k d (omega (arith, n, m, l)))

small_point : (p : VolumePoint) (points : List VolumePoint) → IsRight (p ∷ points) → IsSmallVolume p
small_point p points right =
    let ticks : Ticks = record { place = p.level; value = p.volume } in
    let s = small ticks points right in
    record { level = s.place; volume = s.value }

right_small : (points : List VolumePoint) → IsRight points → All IsSmallVolume points
right_small [] right = All-nil IsSmallVolume
right_small (a ∷ []) right = All-cons IsSmallVolume a [] (small_point a [] right) (All-nil IsSmallVolume)
right_small (a ∷ b ∷ points) right =
    All-cons IsSmallVolume a (b ∷ points) (small_point a (b ∷ points) right)
    (right_small (b ∷ points) (behind a b points right).0)

-- ---- a tank's row among all rows

pub behind_none : (fault next : Option Cause) → or_else fault next ≡ None → next ≡ None
behind_none None next e = e
behind_none (Some cause) next e = absurd (let x : ⊥ = cc in x)

pub here_none : (fault next : Option Cause) → or_else fault next ≡ None → fault ≡ None
here_none None next e = refl
here_none (Some cause) next e = absurd (let x : ⊥ = cc in x)

seventh : (a b c d e f g : Option Cause) → first (a ∷ b ∷ c ∷ d ∷ e ∷ f ∷ g ∷ []) ≡ None → g ≡ None
seventh a b c d e f g h =
    here_none g None (behind_none f _ (behind_none e _ (behind_none d _ (behind_none c _ (behind_none b _
    (behind_none a _ h))))))

fault_is : (section : Section) (rows : List Row) (k : ℕ) (row : Row) → (place section == 2) ≡ true
    → others.section_fault section rows k row ≡ others.tank rows k row
fault_is Tanks rows k row h = refl
fault_is _ rows k row h = absurd (true≢false (sym h))

-- its curve is one that covers its levels
curve_passes : (rows : List Row) (k : ℕ) (row : Row) → NoneIs (IsWrongWithOthers rows)
    → slice_get rows k ≡ Some row → is_of Tanks row ≡ true
    → others.volume_curve rows row (tank_curve row.words) ≡ None
curve_passes rows k row right is member =
    seventh (others.passes 32 6 (length (rows_of Tanks (take (k + 1) rows)))) (others.new_in (node_rows (take k
    rows)) row)
    (others.known_curve rows (tank_curve row.words)) (others.head rows (amount 1 row.words)) (others.levels_apart
    rows row)
    (others.head rows (amount 1 row.words +ℤ amount 4 row.words)) (others.volume_curve rows row (tank_curve row.words))
    (sym (fault_is row.section rows k row member)
    ∙ none_from (others.row_fault rows k row)
    (λ cause f. right k cause (record { row = row; row_is = is; fault = inl f })))

curve_right : (minimum maximum : ℤ) (points : List VolumePoint) → is_volume_curve minimum maximum points ≡ true
    → IsRight points
curve_right minimum maximum points e =
    let parts = and_parts ((nat_le 2 (length points) && (list_all level_passes points && in_turn is_fuller points))
    && begins_and_ends points)
    (covers minimum maximum points && le_z (pos (10 ^ 6)) (volume_at points maximum -ℤ volume_at points minimum)) e in
    let shape = and_parts (nat_le 2 (length points) && (list_all level_passes points && in_turn is_fuller points))
    (begins_and_ends points) parts.0 in
    let two = and_parts (nat_le 2 (length points)) (list_all level_passes points && in_turn is_fuller points) shape.0 in
    record { rises = two.1; volumes = shape.1 }

pub named_small : (rows : List Row) (k : ℕ) (row : Row) (name : List ℕ) → NoneIs (IsWrongWithOthers rows)
    → slice_get rows k ≡ Some row → is_of Tanks row ≡ true → tank_curve row.words ≡ Some name
    → All IsSmallVolume (shape_points rows name)
named_small rows k row name right is member e =
    let fault : others.volume_curve rows row (Some name) ≡ None =
    ap (λ (n : Option (List ℕ)). others.volume_curve rows row n) (sym e) ∙ curve_passes rows k row right is member in
    right_small (shape_points rows name)
    (curve_right (head_ticks (us rows) (amount 3 row.words)) (head_ticks (us rows) (amount 4 row.words))
    (shape_points rows name) (unless_none _ Range fault))

-- ---- by itself

by_itself : (section : Section) (earlier : List (List (List ℕ))) (words : List (List ℕ)) (later : List (List (List ℕ)))
    → (place section == 2) ≡ true → itself.section_fault section earlier words later ≡ row_form.tank words
by_itself Tanks earlier words later h = refl
by_itself _ earlier words later h = absurd (true≢false (sym h))

pub tank_is_right : (rows : List Row) (k : ℕ) (row : Row) → NoneIs (IsWrongByItself rows)
    → slice_get rows k ≡ Some row → is_of Tanks row ≡ true → row_form.tank row.words ≡ None
tank_is_right rows k row right is member =
    sym (by_itself row.section _ row.words _ member)
    ∙ none_alone rows k row right is

-- ---- names

abbrev names_in : List Row → List (List ℕ)
names_in tanks = flat_map (λ (row : Row). as_list (tank_curve row.words)) tanks

more_names : (rows : List Row) (k : ℕ) (row : Row) (added : List (List ℕ)) → slice_get rows k ≡ Some row
    → is_of Tanks row ≡ true → as_list (tank_curve row.words) ≡ added
    → shape_names (take (k + 1) rows) ≡ new_names [] (names_in (rows_of Tanks (take k rows)) ++ added)
more_names rows k row added is member e =
    ap (λ (rs : List Row). new_names [] (names_in rs)) (filter_more (is_of Tanks) rows k row is member)
    ∙ ap (new_names []) (flat_map-append (λ (r : Row). as_list (tank_curve r.words)) (rows_of Tanks (take k rows))
    (row ∷ [])
    ∙ ap (λ (ns : List (List ℕ)). names_in (rows_of Tanks (take k rows)) ++ ns) (append-nil _ ∙ e))

pub skip_row : (rows : List Row) (k : ℕ) (row : Row) (shapes : Shapes) → AreShapesAt rows k shapes
    → slice_get rows k ≡ Some row → is_of Tanks row ≡ false → AreShapesAt rows (k + 1) shapes
skip_row rows k row shapes before is other = record {
  names = before.names ∙ sym (ap (λ (rs : List Row). new_names [] (names_in rs)) (filter_same (is_of Tanks) rows k
      row is other));
  few = omega (arith, before.few);
  lists = before.lists;
}

pub none_row : (rows : List Row) (k : ℕ) (row : Row) (shapes : Shapes) → AreShapesAt rows k shapes
    → slice_get rows k ≡ Some row → is_of Tanks row ≡ true → tank_curve row.words ≡ None
    → AreShapesAt rows (k + 1) shapes
none_row rows k row shapes before is member none = record {
  names = before.names ∙ sym (more_names rows k row [] is member (ap as_list none)
      ∙ ap (new_names []) (append-nil (names_in (rows_of Tanks (take k rows)))));
  few = omega (arith, before.few);
  lists = before.lists;
}

pub length_with : (there : Bool) (names : List (List ℕ)) (name : List ℕ)
    → length (if there then names else names ++ name ∷ []) ≤ length names + 1
length_with true names name = omega arith
length_with false names name = omega (arith, length-append names (name ∷ []))

pub named_row : (rows : List Row) (k : ℕ) (row : Row) (name : List ℕ) (shapes next : Shapes)
    → AreShapesAt rows k shapes → slice_get rows k ≡ Some row → is_of Tanks row ≡ true
    → tank_curve row.words ≡ Some name → next.names ≡ with_name shapes.names name → AreShapes rows next
    → AreShapesAt rows (k + 1) next
named_row rows k row name shapes next before is member e names lists = record {
  names = names ∙ ap (λ (ns : List (List ℕ)). with_name ns name) before.names
      ∙ sym (more_names rows k row (name ∷ []) is member (ap as_list e) ∙ one_name_more (names_in (rows_of Tanks
      (take k rows))) name);
  few = omega (arith, before.few, ap length names, length_with (is_among name shapes.names) shapes.names name);
  lists = lists;
}

pub list_more : (rows : List Row) (shapes next : Shapes) (name : List ℕ) (list : ListView VolumePoint)
    → AreShapes rows shapes → list.list ≡ shape_points rows name → next.names ≡ shapes.names ++ name ∷ []
    → next.lists.list ≡ shapes.lists.list ++ list ∷ [] → AreShapes rows next
list_more rows shapes next name list before one names lists =
    rw (names, lists) (match_push (λ (n : List ℕ) (l : ListView VolumePoint). l.list ≡ shape_points rows n) shapes.names
    shapes.lists.list name list before one)

-- ---- all rows

pub no_shapes : (rows : List Row) (shapes : Shapes) → shapes.names ≡ [] → shapes.lists.list ≡ []
    → AreShapesAt rows 0 shapes
no_shapes rows shapes e f = record { names = e; few = omega (arith, ap length e); lists = rw (e, f) tt }

pub all_shapes : (text : List ℕ) (lines : List Line) (k : ℕ) (shapes : Shapes) → AreShapesAt (rows_at text lines) k
    shapes
    → length lines ≤ k
    → (shapes.names ≡ shape_names (rows_at text lines))
    × Match (λ (name : List ℕ) (list : ListView VolumePoint). list.list ≡ shape_points (rows_at text lines) name)
    (shape_names (rows_at text lines)) shapes.lists.list
all_shapes text lines k shapes at l =
    let rows = rows_at text lines in
    let names : shapes.names ≡ shape_names rows = at.names ∙ ap shape_names (all_rows text lines k l) in (
      names,
      subst (λ (ns : List (List ℕ)). Match (λ (name : List ℕ) (list : ListView VolumePoint). list.list ≡
          shape_points rows name)
          ns shapes.lists.list) names at.lists,
    )

-- ---- what a tank's row asks of its curve, in the unit in force

pub volume_curve_is : (rows : List Row) (row : Row) (name : Option (List ℕ))
    → tank_curve_fault rows (force.unit rows) (amount 3 row.words) (amount 4 row.words) name
    ≡ others.volume_curve rows row name
volume_curve_is rows row None = refl
volume_curve_is rows row (Some name) = refl
