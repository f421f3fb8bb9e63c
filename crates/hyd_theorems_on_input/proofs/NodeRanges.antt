-- Junctions, reservoirs and tanks of a file without a fault are in range.
use Rattle.std.proofs.Common.{◌≡◌, ℕ, ◌*◌, ◌^◌, zero, suc, Bool, true, false, List, [], ◌∷◌, ◌++◌, Option, Some, None}
use Rattle.std.proofs.Common.{refl, sym, ap, ◌∙◌, subst, arith}
use Rattle.std.specs.Prelude.{slice_get, ◌&&◌, All, is_some, IfSome, ℤ, pos, ◌+ℤ◌, ◌-ℤ◌, ◌*ℤ◌, ◌≤ℤ◌, ⊤, codes}
use Rattle.std.specs.Prelude.{if◌then◌else◌}
use Rattle.std.specs.List.{list_all, flat_map}
use Rattle.std.specs.Str.{bytes_eq}
use Rattle.std.proofs.lemmas.Bool.{and_parts, or_left, or_right}
use Rattle.std.proofs.lemmas.Int.{ints}
use Rattle.std.proofs.lemmas.List.Elements.{All-nil, All-cons, All-filter, All-map}
use lib.Signed.{le_z}
use Rattle.hyd_num.specs.FileQuantity.{head_ticks, flow_ticks}
use Rattle.hyd_num.specs.declared.flow_units.FlowUnit.{FlowUnit}
use Rattle.hyd_num.specs.declared.link_capacities.Capacity.{Capacity}
use Rattle.hyd_num.specs.declared.link_capacities.Origin.{Origin}
use Rattle.hyd_spec_lines.specs.Lines.{Row}
use Rattle.hyd_spec_lines.specs.declared.section.Section.{Section}
use Rattle.hyd_spec_lines.specs.declared.section.Section.TheVariants.{Junctions, Reservoirs, Tanks, Demands, Emitters}
use Rattle.hyd_net.specs.NumberRanges.{Lies, LiesWithin, least_level_difference, IsHead, IsFlow, IsUpTo, Numbers}
use Rattle.hyd_net.specs.NetworkRanges as size
use Rattle.hyd_net.specs.NetworkRanges.{HasPattern, IsDemand, IsShapeOf}
use Rattle.hyd_net.specs.ListView.{ListView}
use Rattle.hyd_net.specs.declared.curves.VolumePoint.{VolumePoint}
use Rattle.hyd_net.specs.declared.nodes.Demand.{Demand}
use Rattle.hyd_net.specs.declared.nodes.Junction.{Junction}
use Rattle.hyd_net.specs.declared.nodes.Reservoir.{Reservoir}
use Rattle.hyd_net.specs.declared.nodes.Tank.{Tank}
use Rattle.hyd_net.specs.declared.project.Project.{Project}
use Rattle.hyd_spec_input.specs.Columns.{needed, optional, ends, id, number, not_negative, up_to, one_of, word, amount}
use Rattle.hyd_spec_input.specs.Columns.{amount_or, units}
use Rattle.hyd_spec_input.specs.NodeAndLinkRows as alone
use Rattle.hyd_spec_input.specs.SectionsAndTables.{is_of, rows_of, rows_with, own_id}
use Rattle.hyd_spec_input.specs.OptionsAndTimesInForce.{unit}
use Rattle.hyd_spec_input.specs.MeaningsAcrossRows.{number_in, pattern_number, shape_names, as_list, is_among}
use Rattle.hyd_spec_input.specs.MeaningsAcrossRows.{demand_of_row, own_demand, or_own, demands_of, coefficient}
use Rattle.hyd_spec_input.specs.MeaningsAcrossRows.{last_naming, emitter_of}
use Rattle.hyd_spec_input.specs.FaultsWithOtherRows as others
use Rattle.hyd_spec_input.specs.FaultsWithOtherRows.{us, head, flow, multipliers_of, is_head_times}
use Rattle.hyd_spec_input.specs.Project as project
use Rattle.hyd_spec_input.specs.Project.{IsProject, shape_number, shape_points}
use Rattle.hyd_lemmas.proofs.Each.{all_by}
use Rattle.hyd_lemmas.proofs.BooleanTests.{le_z-yes}
use Rattle.hyd_theorems_on_input.proofs.ListsByPlace.{all_from, kept_stands, kept_passes, match_all}
use Rattle.hyd_theorems_on_input.proofs.RowsWithoutFault.{AreRight, right_alone, right_among, all_none, unless_none}
use Rattle.hyd_theorems_on_input.proofs.RowsWithoutFault.{needed_none, lies, within, in_range}
use Rattle.hyd_theorems_on_input.proofs.OccurrencesOfNames.{kept_once, has_number, itself}
use Rattle.hyd_theorems_on_input.proofs.OptionsAndTimesInForce.{in_force}
use Rattle.hyd_theorems_on_input.proofs.PatternsAndCurvesByNumber.{may_have_pattern, numbers_from, found_by}
use Rattle.hyd_theorems_on_input.proofs.CurvePoints.{volume_curve_right}

-- ---- ranges

pub head_right : (rows : List Row) (nano : ℤ) → head rows nano ≡ None → IsHead (head_ticks (us rows) nano)
head_right rows nano e = lies _ _ (head_ticks (us rows) nano) (unless_none _ _ e)

pub flow_right : (rows : List Row) (nano : ℤ) → flow rows nano ≡ None → IsFlow (flow_ticks (unit rows) nano)
flow_right rows nano e = lies _ _ (flow_ticks (unit rows) nano) (unless_none _ _ e)

pub head_rises : (us : Bool) (a b : ℤ) → a ≤ℤ b → head_ticks us a ≤ℤ head_ticks us b
head_rises true a b l = omega (arith, ints, l)
head_rises false a b l = omega (arith, ints, l)

pub head_sum : (us : Bool) (a b : ℤ) → head_ticks us (a +ℤ b) ≡ head_ticks us a +ℤ head_ticks us b
head_sum true a b = omega (arith, ints)
head_sum false a b = omega (arith, ints)

pub head_difference : (us : Bool) (a b : ℤ) → head_ticks us (a -ℤ b) ≡ head_ticks us a -ℤ head_ticks us b
head_difference true a b = omega (arith, ints)
head_difference false a b = omega (arith, ints)

head_positive : (us : Bool) (a : ℤ) → pos 0 ≤ℤ a → pos 0 ≤ℤ head_ticks us a
head_positive true a l = omega (arith, ints, l)
head_positive false a l = omega (arith, ints, l)

-- what holds of each row of a section
pub each_row : (rows : List Row) (section : Section) (P : Row → Type 0)
    → ((k : ℕ) (row : Row) → slice_get rows k ≡ Some row → is_of section row ≡ true → P row)
    → All P (rows_of section rows)
each_row rows section P each = all_from P (rows_of section rows) (λ n row e.
    let stands = kept_stands (is_of section) rows n row e in each stands.place row stands.is
    (kept_passes (is_of section) rows n row e))

-- ---- demands

any_pattern : (rows : List Row) (p : Project) (name : Option (List ℕ)) → IsProject rows p
    → HasPattern (λ _. ⊤) p.patterns.list (pattern_number rows name)
any_pattern rows p name of = may_have_pattern rows p (λ _. ⊤) name (pattern_number rows name) of refl
    (all_from (λ _. ⊤) (multipliers_of rows name) (λ k x is. tt))

demand_right : (rows : List Row) (p : Project) (k : ℕ) (row : Row) → AreRight rows → IsProject rows p
    → slice_get rows k ≡ Some row → is_of Demands row ≡ true
    → IsDemand p.patterns.list (demand_of_row rows row)
demand_right rows p k row right of is section =
    let each = all_none (others.demand_faults rows k row) (right_among rows Demands k row right is section) in
    record {
      base = flow_right rows (amount 1 row.words) each.1.1.1.0;
      pattern = any_pattern rows p (slice_get row.words 2) of;
    }

or_own_all : (P : Demand → Type 0) (own : Demand) (list : List Demand) → P own → All P list → All P (or_own own list)
or_own_all P own [] here all = All-cons P own [] here (All-nil P)
or_own_all P own (x ∷ xs) here all = all

demands_right : (rows : List Row) (p : Project) (k : ℕ) (row : Row) → AreRight rows → IsProject rows p
    → slice_get rows k ≡ Some row
    → flow rows (amount_or (pos 0) 2 row.words) ≡ None → All (IsDemand p.patterns.list) (demands_of rows row)
demands_right rows p k row right of is own =
    let P : Demand → Type 0 = IsDemand p.patterns.list in
    or_own_all P (own_demand rows row) _
    (record {
      base = flow_right rows (amount_or (pos 0) 2 row.words) own;
      pattern =
          any_pattern rows p (slice_get row.words 3) of;
    })
    (All-map P (demand_of_row rows) (rows_with (own_id row) (rows_of Demands rows))
    (All-filter (λ r. bytes_eq (own_id row) (own_id r)) (λ r. P (demand_of_row rows r)) (rows_of Demands rows)
    (each_row rows Demands (λ r. P (demand_of_row rows r))
    (λ j r e section. demand_right rows p j r right of e section))))

-- ---- emitters

coefficient_right : (rows : List Row) (name : List ℕ) → AreRight rows
    → IsUpTo (10 ^ 6) (coefficient (last_naming name (rows_of Emitters rows)))
coefficient_right rows name right = by (last_naming name (rows_of Emitters rows)) (λ row e.
    let found = in_force rows Emitters (λ r. bytes_eq name (own_id r)) row e in
    let each = all_none (needed id 0 row.words ∷ needed (up_to (10 ^ 6)) 1 row.words ∷ ends 2 row.words ∷ [])
    (right_alone rows Emitters found.place row right found.is found.of) in
    within (pos 0) (units (10 ^ 6)) (word 1 row.words) (needed_none (up_to (10 ^ 6)) 1 row.words each.1.0).right)
  where
    by : (o : Option Row) → ((row : Row) → o ≡ Some row → IsUpTo (10 ^ 6) (amount 1 row.words))
        → IsUpTo (10 ^ 6) (coefficient o)
    by None each = record { at_least = omega (arith, ints); at_most = omega (arith, ints) }
    by (Some row) each = each row refl

emitter_right : (unit : FlowUnit) (nano : ℤ) (o : Option Capacity) → IsUpTo (10 ^ 6) nano
    → project.IsEmitter unit nano o → IfSome o (λ cap. size.IsEmitter unit cap.origin)
emitter_right unit nano None bounds is = tt
emitter_right unit nano (Some cap) bounds is =
    let above = is.0 in
    let made = is.1 in
    subst (λ (origin : Origin). size.IsEmitter unit origin) (sym made.origin)
    (record {
      range = rw made.c_is (record { at_least = omega (arith, ints, above); at_most = bounds.at_most });
      same_unit = refl;
    })

-- ---- junctions

junction_right : (rows : List Row) (p : Project) (k : ℕ) (row : Row) (j : Junction) → AreRight rows → IsProject rows p
    → slice_get rows k ≡ Some row → is_of Junctions row ≡ true
    → project.IsJunction rows row j → size.IsJunction (unit rows) p.patterns.list j
junction_right rows p k row j right of is section made =
    let each = all_none (others.junction_faults rows k row) (right_among rows Junctions k row right is section) in
    record {
      elevation = rw made.elevation (head_right rows (amount 1 row.words) each.1.1.1.0);
      demands = subst (λ list. All (IsDemand p.patterns.list) list) (sym made.demands)
          (demands_right rows p k row right of is each.1.1.1.1.0);
      emitter = emitter_right (unit rows) (emitter_of rows row) j.emitter (coefficient_right rows (own_id row) right)
          made.emitter;
    }

pub junctions_right : (rows : List Row) (p : Project) → AreRight rows → IsProject rows p
    → All (size.IsJunction p.options.unit p.patterns.list) p.junctions.list
junctions_right rows p right of =
    subst (λ (u : FlowUnit). All (size.IsJunction u p.patterns.list) p.junctions.list) (sym of.options.unit_is)
    (match_all (project.IsJunction rows) (size.IsJunction (unit rows) p.patterns.list) (rows_of Junctions rows)
    p.junctions.list of.junctions (λ n row j at _ made.
    let stands = kept_stands (is_of Junctions) rows n row at in
    junction_right rows p stands.place row j right of stands.is (kept_passes (is_of Junctions) rows n row at) made))

-- ---- reservoirs

heads_right : (rows : List Row) (nano : ℤ) (name : Option (List ℕ)) → list_all (is_head_times rows nano)
    (multipliers_of rows name) ≡ true
    → All (λ multiplier. LiesWithin (10 ^ 17 * 10 ^ 9) (head_ticks (us rows) nano *ℤ multiplier))
    (multipliers_of rows name)
heads_right rows nano name e =
    all_by ℤ (λ multiplier. LiesWithin (10 ^ 17 * 10 ^ 9) (head_ticks (us rows) nano *ℤ multiplier))
    (is_head_times rows nano)
    (λ m t. lies _ _ (head_ticks (us rows) nano *ℤ m) t) (multipliers_of rows name) e

reservoir_right : (rows : List Row) (p : Project) (k : ℕ) (row : Row) (r : Reservoir) → AreRight rows
    → IsProject rows p → slice_get rows k ≡ Some row → is_of Reservoirs row ≡ true
    → project.IsReservoir rows row r → size.IsReservoir p.patterns.list r
reservoir_right rows p k row r right of is section made =
    let each = all_none (others.reservoir_faults rows k row) (right_among rows Reservoirs k row right is section) in
    record {
      head = rw made.head (head_right rows (amount 1 row.words) each.1.1.1.0);
      pattern =
          rw made.head
          (may_have_pattern rows p (λ multiplier. LiesWithin (10 ^ 17 * 10 ^ 9)
          (head_ticks (us rows) (amount 1 row.words) *ℤ multiplier))
          (slice_get row.words 2) r.pattern of made.pattern
          (heads_right rows (amount 1 row.words) (slice_get row.words 2) (unless_none _ _ each.1.1.1.1.0)));
    }

pub reservoirs_right : (rows : List Row) (p : Project) → AreRight rows → IsProject rows p
    → All (size.IsReservoir p.patterns.list) p.reservoirs.list
reservoirs_right rows p right of =
    match_all (project.IsReservoir rows) (size.IsReservoir p.patterns.list) (rows_of Reservoirs rows)
    p.reservoirs.list of.reservoirs (λ n row r at _ made.
    let stands = kept_stands (is_of Reservoirs) rows n row at in
    reservoir_right rows p stands.place row r right of stands.is (kept_passes (is_of Reservoirs) rows n row at) made)

-- ---- tanks

-- a tank's own numbers, in billionths
record TankNumbers (words : List (List ℕ)) : Type 0 where
  lowest : pos 0 ≤ℤ amount 3 words
  above_lowest : amount 3 words ≤ℤ amount 2 words
  below_highest : amount 2 words ≤ℤ amount 4 words
  across : Lies (alone.least_diameter (alone.tank_curve words)) (units 1000) (amount 5 words)

tank_numbers : (words : List (List ℕ)) → alone.tank words ≡ None → TankNumbers words
tank_numbers words e =
    let each = all_none (needed id 0 words ∷ needed number 1 words ∷ needed not_negative 2 words
    ∷ needed (alone.level (λ nano. le_z nano (amount 2 words))) 3 words
    ∷ needed (alone.level (λ nano. le_z (amount 2 words) nano)) 4 words ∷ needed (alone.diameter words) 5 words
    ∷ optional not_negative 6 words ∷ optional alone.curve_or_none 7 words
    ∷ optional (one_of (codes "NO" ∷ codes "YES" ∷ [])) 8 words ∷ ends 9 words ∷ []) e in
    let low = and_parts (le_z (pos 0) (amount 3 words)) (le_z (amount 3 words) (amount 2 words))
    (in_range (λ nano. le_z (pos 0) nano && le_z nano (amount 2 words)) (word 3 words)
    (needed_none (alone.level (λ nano. le_z nano (amount 2 words))) 3 words each.1.1.1.0).right) in
    let high = and_parts (le_z (pos 0) (amount 4 words)) (le_z (amount 2 words) (amount 4 words))
    (in_range (λ nano. le_z (pos 0) nano && le_z (amount 2 words) nano) (word 4 words)
    (needed_none (alone.level (λ nano. le_z (amount 2 words) nano)) 4 words each.1.1.1.1.0).right) in
    record {
      lowest = le_z-yes _ _ low.0;
      above_lowest = le_z-yes _ _ low.1;
      below_highest = le_z-yes _ _ high.1;
      across = within _ _ (word 5 words) (needed_none (alone.diameter words) 5 words each.1.1.1.1.1.0).right;
    }

-- a volume curve that a tank names has a number
among_flat : (f : Row → Option (List ℕ)) (xs : List Row) (n : ℕ) (row : Row) (name : List ℕ)
    → slice_get xs n ≡ Some row → f row ≡ Some name
    → is_among name (flat_map (λ (r : Row). as_list (f r)) xs) ≡ true
among_flat f [] n row name at is = absurd (let x : ⊥ = cc in x)
among_flat f (x ∷ xs) zero row name at is =
    let same : x ≡ row = cc in
    let here : f x ≡ Some name = ap f same ∙ is in
    rw here (or_left (bytes_eq name name) _ (itself name))
among_flat f (x ∷ xs) (suc n) row name at is = behind (f x) (among_flat f xs n row name at is)
  where
    behind : (o : Option (List ℕ)) → is_among name (flat_map (λ (r : Row). as_list (f r)) xs) ≡ true
        → is_among name (as_list o ++ flat_map (λ (r : Row). as_list (f r)) xs) ≡ true
    behind None e = e
    behind (Some other) e = or_right (bytes_eq name other) _ e

shape_there : (rows : List Row) (n : ℕ) (row : Row) (name : List ℕ) → slice_get (rows_of Tanks rows) n ≡ Some row
    → alone.tank_curve row.words ≡ Some name
    → number_in (shape_names rows) name ≡ None → ⊥
shape_there rows n row name at is none =
    has_number name (shape_names rows)
    (kept_once name [] (flat_map (λ (r : Row). as_list (alone.tank_curve r.words)) (rows_of Tanks rows))
    (among_flat (λ r. alone.tank_curve r.words) (rows_of Tanks rows) n row name at is) refl) none

-- the diameter, with a volume curve or without one
across_right : (rows : List Row) (curve : Option (List ℕ)) (shape : Option ℕ) (nano : ℤ)
    → shape ≡ shape_number rows curve
    → ((name : List ℕ) → curve ≡ Some name → number_in (shape_names rows) name ≡ None → ⊥)
    → Lies (alone.least_diameter curve) (units 1000) nano → Lies (pos (if is_some shape then 0 else 10 ^ 8))
    (pos (1000 * 10 ^ 9)) nano
across_right rows None shape nano is there bounds = rw is bounds
across_right rows (Some name) None nano is there bounds = absurd (there name refl (sym is))
across_right rows (Some name) (Some n) nano is there bounds = bounds

-- the volume curve, where there is one
shape_right : (rows : List Row) (p : Project) (t : Tank) (row : Row) (curve : Option (List ℕ)) (shape : Option ℕ)
    → IsProject rows p
    → t.minimum ≡ head_ticks (us rows) (amount 3 row.words) → t.maximum ≡ head_ticks (us rows) (amount 4 row.words)
    → shape ≡ shape_number rows curve → others.volume_curve rows row curve ≡ None
    → IfSome shape (Numbers (λ (s : ListView VolumePoint). IsShapeOf t s.list) p.shapes.list)
shape_right rows p t row None shape of low high is right = rw is tt
shape_right rows p t row (Some name) None of low high is right = tt
shape_right rows p t row (Some name) (Some n) of low high is right =
    let R : List ℕ → ListView VolumePoint → Type 0 = λ id list. list.list ≡ shape_points rows id in
    let found = found_by R (shape_names rows) p.shapes.list name n of.shapes (sym is) in
    let covers = volume_curve_right (head_ticks (us rows) (amount 3 row.words))
    (head_ticks (us rows) (amount 4 row.words)) (shape_points rows name) (unless_none _ _ right) in
    let whole : IsShapeOf t (shape_points rows name) = record {
      curve = covers.curve;
      from_minimum = rw low covers.from_minimum;
      to_maximum = rw high covers.to_maximum;
      apart = rw (low, high) covers.apart;
    } in
    numbers_from (λ (s : ListView VolumePoint). IsShapeOf t s.list) p.shapes.list n found.item found.is
    (subst (λ list. IsShapeOf t list) (sym found.holds) whole)

tank_right : (rows : List Row) (p : Project) (n k : ℕ) (row : Row) (t : Tank) → AreRight rows → IsProject rows p
    → slice_get (rows_of Tanks rows) n ≡ Some row
    → slice_get rows k ≡ Some row → is_of Tanks row ≡ true → project.IsTank rows row t → size.IsTank p.shapes.list t
tank_right rows p n k row t right of at is section made =
    let each = all_none (others.tank_faults rows k row) (right_among rows Tanks k row right is section) in
    let own = tank_numbers row.words (right_alone rows Tanks k row right is section) in
    let gap : pos least_level_difference ≤ℤ head_ticks (us rows) (amount 4 row.words -ℤ amount 3 row.words) =
    le_z-yes _ _ (unless_none _ _ each.1.1.1.1.0) in
    let apart : pos least_level_difference ≤ℤ (head_ticks (us rows) (amount 4 row.words) -ℤ head_ticks (us rows)
    (amount 3 row.words)) =
    rw (head_difference (us rows) (amount 4 row.words) (amount 3 row.words)) at gap in
    let over : IsHead (head_ticks (us rows) (amount 1 row.words) +ℤ head_ticks (us rows) (amount 4 row.words)) =
    subst IsHead (head_sum (us rows) (amount 1 row.words) (amount 4 row.words))
    (head_right rows (amount 1 row.words +ℤ amount 4 row.words) each.1.1.1.1.1.0) in
    record {
      bottom = rw made.bottom (head_right rows (amount 1 row.words) each.1.1.1.0);
      lowest = rw made.minimum (head_positive (us rows) (amount 3 row.words) own.lowest);
      initial = rw (made.minimum, made.maximum, made.initial) (record {
        at_least = head_rises (us rows) (amount 3 row.words) (amount 2 row.words) own.above_lowest;
        at_most = head_rises (us rows) (amount 2 row.words) (amount 4 row.words) own.below_highest;
      });
      apart = rw (made.minimum, made.maximum) apart;
      top = rw (made.bottom, made.maximum) over;
      diameter =
          rw made.diameter (across_right rows (alone.tank_curve row.words) t.shape (amount 5 row.words) made.shape
          (λ name e. shape_there rows n row name at e) own.across);
      shape = shape_right rows p t row (alone.tank_curve row.words) t.shape of made.minimum made.maximum made.shape
          each.1.1.1.1.1.1.0;
    }

pub tanks_right : (rows : List Row) (p : Project) → AreRight rows → IsProject rows p
    → All (size.IsTank p.shapes.list) p.tanks.list
tanks_right rows p right of =
    match_all (project.IsTank rows) (size.IsTank p.shapes.list) (rows_of Tanks rows) p.tanks.list of.tanks
    (λ n row t at _ made.
    let stands = kept_stands (is_of Tanks) rows n row at in
    tank_right rows p n stands.place row t right of at stands.is (kept_passes (is_of Tanks) rows n row at) made)
