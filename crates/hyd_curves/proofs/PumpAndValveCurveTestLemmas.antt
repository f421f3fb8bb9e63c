-- Whether the curve of a pump or of a general purpose valve is one by straight lines that is allowed.
use Rattle.std.proofs.Common.{◌≡◌, ◌≤◌, ◌++◌, ◌^◌, Bool, true, false, List, [], ◌∷◌, length, nat_le, None, get_or}
use Rattle.std.proofs.Common.{unsigned_abs, pos, neg_ℤ, ◌<ℤ◌, ◌≤ℤ◌, ◌*ℤ◌, refl, sym, ap, ◌∙◌, arith}
use Rattle.std.specs.Prelude.{◌&&◌}
use Rattle.std.specs.List.{list_all}
use Rattle.std.proofs.lemmas.List.{length-map}
use Rattle.std.proofs.lemmas.Int.{ints}
use Rattle.std.proofs.lemmas.Bool.{and_parts}
use lib.Signed.{le_z, lt_z}
use Rattle.hyd_num.specs.FileQuantity.{is_us_unit, head_ticks, flow_ticks}
use Rattle.hyd_num.specs.Rational.{Rational, whole, is_at_most}
use Rattle.hyd_num.specs.declared.flow_units.FlowUnit.{FlowUnit}
use Rattle.hyd_net.specs.Curves.{on_line, value_at, head_knots}
use Rattle.hyd_net.specs.declared.curves.HeadPoint.{HeadPoint}
use Rattle.hyd_spec_input.specs.Curves.{in_turn, at_start, at_end, has_flow, is_slower, is_faster, is_pump_bend}
use Rattle.hyd_spec_input.specs.Curves.{begins_at_0, head_point, head_points}
use Rattle.hyd_curves.specs.PumpAndValveCurveTests.{IsPumpPoint, begins_and_ends, loss_passes}
use Rattle.hyd_curves.specs.CurveFaults.{valve_fault}
use Rattle.hyd_curves.specs.PointsAsKnots.{knot_of}
use Rattle.hyd_curves.specs.Points.{points_in, point_in}
use Rattle.hyd_curves.specs.EachWithNext.{all_in_turn}
use Rattle.hyd_curves.specs.declared.points.CurvePoint.{CurvePoint}
use Rattle.hyd_curves.specs.declared.points_in_ticks.Ticks.{Ticks}
use Rattle.hyd_num.proofs.Integers.{one_times}
use Rattle.hyd_lemmas.proofs.BooleanTests.{lt-from, nat-le-from, le_z-yes, lt_z-yes}
use Rattle.hyd_lemmas.proofs.ListsOptionsAndResults.{no_items}
use Rattle.hyd_curves.proofs.ItemsInTurnLemmas.{last_is}

abbrev pub bend : FlowUnit → List CurvePoint → List HeadPoint
bend unit points = head_points unit (is_us_unit unit) (points_in points)

-- ---- both ends

pub no_ends : (unit : FlowUnit) (points : List CurvePoint) → length points ≡ 0
    → false ≡ begins_and_ends (bend unit points)
no_ends unit points e = rw (no_items points e) refl

pub ends_are : (unit : FlowUnit) (points rest front : List CurvePoint) (first last : CurvePoint)
    → points ≡ first ∷ rest → points ≡ front ++ last ∷ []
    → (le_z (pos 0) (flow_ticks unit first.x.nano) && le_z (pos 0) (head_ticks (is_us_unit unit) last.y.nano))
    ≡ begins_and_ends (bend unit points)
ends_are unit points rest front first last e f =
    let start : at_start (λ (p : HeadPoint). le_z (pos 0) p.flow) (bend unit points) ≡ le_z (pos 0) (flow_ticks unit
    first.x.nano) =
    rw e refl in
    let end : at_end (λ (p : HeadPoint). le_z (pos 0) p.head) (bend unit points)
    ≡ le_z (pos 0) (head_ticks (is_us_unit unit) last.y.nano) =
    ap (λ (ps : List CurvePoint). at_end (λ (p : HeadPoint). le_z (pos 0) p.head) (bend unit ps)) f
    ∙ last_is (λ (p : HeadPoint). le_z (pos 0) p.head) (head_point unit (is_us_unit unit)) front last in
    sym (rw (start, end) refl)

-- ---- the first two points

-- a head is at least the last one
pub lifted : (a : HeadPoint) (points : List HeadPoint) → in_turn is_slower (a ∷ points) ≡ true
    → at_end (λ (p : HeadPoint). le_z (pos 0) p.head) (a ∷ points) ≡ true → pos 0 ≤ℤ a.head
lifted a [] falls end = le_z-yes (pos 0) a.head end
lifted a (b ∷ points) falls end =
    let both = and_parts (is_slower a b) (in_turn is_slower (b ∷ points)) falls in
    let down = and_parts (lt_z a.flow b.flow) (lt_z b.head a.head) both.0 in
    let last : pos 0 ≤ℤ b.head = lifted b points both.1 end in
    omega (arith, ints, lt_z-yes b.head a.head down.1, last)

-- what is known of the first two points, in ticks, of a curve
pub record FirstTwoPoints (points : List HeadPoint) (x y : Ticks) : Type 0 where
  pub first : IsPumpPoint x
  pub second : IsPumpPoint y
  pub rises : x.place <ℤ y.place
  pub falls : y.value <ℤ x.value
  pub bend : is_at_most (on_line 1 (knot_of x) (knot_of y) (pos 0)) (whole (pos (10 ^ 16))) ≡ is_pump_bend points

-- ticks are those of a point
pub record AreTicks (point : HeadPoint) (ticks : Ticks) : Type 0 where
  pub place : ticks.place ≡ point.flow
  pub value : ticks.value ≡ point.head
  pub heads : unsigned_abs ticks.value ≤ 10 ^ 26

in_order : (turns ends low : Bool) → turns ≡ true → ends ≡ true → low ≡ (turns && (ends && low))
in_order turns ends low e f = rw (e, f) refl

begins : (a b c : HeadPoint) (points : List HeadPoint) (x y : Ticks) → AreTicks a x → AreTicks b y
    → all_in_turn has_flow is_slower (a ∷ b ∷ c ∷ points) ≡ true → begins_and_ends (a ∷ b ∷ c ∷ points) ≡ true
    → FirstTwoPoints (a ∷ b ∷ c ∷ points) x y
begins a b c points x y p q turns ends =
    let all = a ∷ b ∷ c ∷ points in
    let both = and_parts (list_all has_flow all) (in_turn is_slower all) turns in
    let flows = and_parts (has_flow a) (list_all has_flow (b ∷ c ∷ points)) both.0 in
    let next = and_parts (has_flow b) (list_all has_flow (c ∷ points)) flows.1 in
    let near = and_parts (le_z (neg_ℤ (pos (10 ^ 15))) a.flow) (le_z a.flow (pos (10 ^ 15))) flows.0 in
    let far = and_parts (le_z (neg_ℤ (pos (10 ^ 15))) b.flow) (le_z b.flow (pos (10 ^ 15))) next.0 in
    let order = and_parts (is_slower a b) (in_turn is_slower (b ∷ c ∷ points)) both.1 in
    let down = and_parts (lt_z a.flow b.flow) (lt_z b.head a.head) order.0 in
    let edges = and_parts (at_start (λ (p : HeadPoint). le_z (pos 0) p.flow) all)
    (at_end (λ (p : HeadPoint). le_z (pos 0) p.head) all) ends in
    let start : pos 0 ≤ℤ a.flow = le_z-yes (pos 0) a.flow edges.0 in
    let rise : a.flow <ℤ b.flow = lt_z-yes a.flow b.flow down.0 in
    let fall : b.head <ℤ a.head = lt_z-yes b.head a.head down.1 in
    let lift : pos 0 ≤ℤ b.head = lifted b (c ∷ points) order.1 edges.1 in
    let most : a.flow ≤ℤ pos (10 ^ 15) = le_z-yes a.flow (pos (10 ^ 15)) near.1 in
    let more : b.flow ≤ℤ pos (10 ^ 15) = le_z-yes b.flow (pos (10 ^ 15)) far.1 in
    let line : value_at 1 (head_knots all) (pos 0) ≡ on_line 1 (knot_of x) (knot_of y) (pos 0) =
    rw (
      p.place,
      p.value,
      q.place,
      q.value,
      lt-from (pos 0) (pos 1 *ℤ b.flow) (omega (arith, ints, one_times b.flow, start, rise)),
      lt-from a.flow b.flow rise,
    ) refl in
    record {
      first = record {
        forward = omega (arith, ints, p.place, start);
        flow = omega (arith, ints, p.place, most);
        lifts = omega (arith, ints, p.value, lift, fall);
        heads = omega (arith, ints, p.heads);
      };
      second = record {
        forward = omega (arith, ints, q.place, start, rise);
        flow = omega (arith, ints, q.place, more);
        lifts = omega (arith, ints, q.value, lift);
        heads = omega (arith, ints, q.heads);
      };
      rises = omega (arith, ints, p.place, q.place, rise);
      falls = omega (arith, ints, p.value, q.value, fall);
      bend = ap (λ (v : Rational). is_at_most v (whole (pos (10 ^ 16)))) (sym line)
          ∙ in_order (all_in_turn has_flow is_slower all) (begins_and_ends all)
          (is_at_most (value_at 1 (head_knots all) (pos 0)) (whole (pos (10 ^ 16)))) turns ends;
    }

pub two_begin : (unit : FlowUnit) (points : List CurvePoint) (a b : CurvePoint) (x y : Ticks) → 4 ≤ length points
    → a ≡ get_or points 0 a → b ≡ get_or points 1 b → AreTicks (head_point unit (is_us_unit unit) (point_in a)) x
    → AreTicks (head_point unit (is_us_unit unit) (point_in b)) y
    → true ≡ all_in_turn has_flow is_slower (bend unit points) → true ≡ begins_and_ends (bend unit points)
    → FirstTwoPoints (bend unit points) x y
two_begin unit [] a b x y l e f p q turns ends = absurd (omega arith)
two_begin unit (i ∷ []) a b x y l e f p q turns ends = absurd (omega arith)
two_begin unit (i ∷ j ∷ []) a b x y l e f p q turns ends = absurd (omega arith)
two_begin unit (i ∷ j ∷ k ∷ points) a b x y l e f p q turns ends =
    begins (head_point unit (is_us_unit unit) (point_in i)) (head_point unit (is_us_unit unit) (point_in j))
    (head_point unit (is_us_unit unit) (point_in k)) (bend unit points) x y (rw e at p) (rw f at q) (sym turns) (sym
    ends)

-- ---- curves of valves

pub two_points : (unit : FlowUnit) (points : List CurvePoint) → 2 ≤ length points
    → nat_le 2 (length (bend unit points)) ≡ true
two_points unit points l =
    let n : length (bend unit points) ≡ length points =
    length-map (points_in points) (head_point unit (is_us_unit unit)) ∙ length-map points point_in in
    rw n (nat-le-from 2 (length points) l)

pub valve_right : (unit : FlowUnit) (points : List CurvePoint) → 2 ≤ length points
    → true ≡ begins_at_0 (points_in points) → true ≡ all_in_turn loss_passes is_faster (bend unit points)
    → None ≡ valve_fault unit (points_in points)
valve_right unit points l start turns =
    let both = and_parts (list_all loss_passes (bend unit points)) (in_turn is_faster (bend unit points)) (sym turns) in
    rw (sym start, two_points unit points l, both.0, both.1) refl
