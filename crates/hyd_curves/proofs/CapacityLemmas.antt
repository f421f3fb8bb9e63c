-- Capacities of pumps by their curves.
use Rattle.std.proofs.Common.{◌≡◌, ◌^◌, Bool, true, false, List, [], ◌∷◌, length, get_or, None, ℕ, pos, neg_ℤ, ◌<ℤ◌}
use Rattle.std.proofs.Common.{◌≤ℤ◌, ◌-ℤ◌, ◌*ℤ◌, refl, sym, subst, arith}
use Rattle.std.specs.Prelude.{◌&&◌}
use Rattle.std.specs.Ordering.{int_eq}
use Rattle.std.proofs.lemmas.Bool.{and_parts}
use lib.Signed.{le_z, lt_z}
use Rattle.hyd_num.specs.FileQuantity.{is_us_unit, flow_ticks, head_ticks}
use Rattle.hyd_num.specs.CapacityRange.{IsRefused}
use Rattle.hyd_num.specs.declared.decimals.Decimal.{Decimal}
use Rattle.hyd_num.specs.declared.flow_units.FlowUnit.{FlowUnit}
use Rattle.hyd_num.specs.declared.link_capacities.Origin.TheVariants.{Pump}
use Rattle.hyd_net.proofs.EqualValues.{Decimal-equal}
use Rattle.hyd_net.specs.declared.refusal_cause.Cause.{Cause}
use Rattle.hyd_capacities.specs.FileNumberRanges.{IsCurveFlow}
use Rattle.hyd_spec_input.specs.CapacitiesOutOfRange.{IsRefusedPump}
use Rattle.hyd_spec_input.specs.Columns.{or_else, unless}
use Rattle.hyd_spec_input.specs.Curves as curve
use Rattle.hyd_spec_input.specs.Curves.{Drop, drop_of, is_bent, is_flow, is_within, square}
use Rattle.hyd_spec_input.specs.SectionsAndTables.{Point}
use Rattle.hyd_curves.specs.CurveFaults.{pump_fault, IsRefusedPoints}
use Rattle.hyd_curves.specs.Points.{points_in}
use Rattle.hyd_curves.specs.declared.points.CurvePoint.{CurvePoint}
use Rattle.hyd_lemmas.proofs.BooleanTests.{le_z-yes, lt_z-yes}

-- ---- a flow, a drop and thirds

pub refused_is : (unit : FlowUnit) (flow drop : Decimal) (thirds : ℕ) (points : List Point)
    → IsRefused (Pump flow drop thirds unit) → is_bent points ≡ false
    → drop_of points ≡ record { flow = flow.nano; drop = drop.nano; thirds = thirds } → IsRefusedPoints unit points
refused_is unit flow drop thirds points refused straight e = (
  straight,
  subst (λ (d : Drop). IsRefusedPump d unit) (sym e)
      (record { q = flow; q_is = refl; h = drop; h_is = refl; refused = refused }),
)

pub accepted_is : (unit : FlowUnit) (flow drop : Decimal) (thirds : ℕ) (points : List Point)
    → (IsRefused (Pump flow drop thirds unit) → ⊥)
    → drop_of points ≡ record { flow = flow.nano; drop = drop.nano; thirds = thirds } → IsRefusedPoints unit points → ⊥
accepted_is unit flow drop thirds points accepted e refused =
    let there : IsRefusedPump (record { flow = flow.nano; drop = drop.nano; thirds = thirds }) unit =
    subst (λ (d : Drop). IsRefusedPump d unit) e refused.1 in
    let q : there.q ≡ flow = Decimal-equal there.q flow there.q_is in
    let h : there.h ≡ drop = Decimal-equal there.h drop there.h_is in
    let one : IsRefused (Pump flow there.h thirds unit) =
    subst (λ (d : Decimal). IsRefused (Pump d there.h thirds unit)) q there.refused in
    accepted (subst (λ (d : Decimal). IsRefused (Pump flow d thirds unit)) h one)

-- ---- points that a pump can have

both_pass : (kind range : Bool) (a b : Cause) → or_else (unless kind a) (unless range b) ≡ None
    → (kind ≡ true) × (range ≡ true)
both_pass true true a b e = (refl, refl)
both_pass true false a b e = absurd (let x : ⊥ = cc in x)
both_pass false range a b e = absurd (let x : ⊥ = cc in x)

-- three points
pub record ThreeRight (unit : FlowUnit) (points : List Point) (a b : CurvePoint) : Type 0 where
  pub flow : IsCurveFlow unit b.x
  pub falls : b.y.nano <ℤ a.y.nano
  pub small : (a.y.nano -ℤ b.y.nano) ≤ℤ pos (10 ^ 21)
  pub straight : is_bent points ≡ false
  pub drop : drop_of points ≡ record { flow = b.x.nano; drop = a.y.nano -ℤ b.y.nano; thirds = 1 }

three : (unit : FlowUnit) (a b c : CurvePoint) → pump_fault unit (points_in (a ∷ b ∷ c ∷ [])) ≡ None
    → ThreeRight unit (points_in (a ∷ b ∷ c ∷ [])) a b
three unit a b c right =
    let points = points_in (a ∷ b ∷ c ∷ []) in
    let both = both_pass (curve.is_pump_curve points) (curve.are_flows unit points && curve.has_shutoff (is_us_unit
    unit) points) _ _ right in
    let shape = and_parts (int_eq a.x.nano (pos 0) && (lt_z (pos 0) b.x.nano && lt_z b.x.nano c.x.nano))
    ((lt_z b.y.nano a.y.nano && lt_z c.y.nano b.y.nano)
    && int_eq ((a.y.nano -ℤ c.y.nano) *ℤ square b.x.nano) ((a.y.nano -ℤ b.y.nano) *ℤ square c.x.nano)) both.0 in
    let rise = and_parts (int_eq a.x.nano (pos 0)) (lt_z (pos 0) b.x.nano && lt_z b.x.nano c.x.nano) shape.0 in
    let first = and_parts (lt_z (pos 0) b.x.nano) (lt_z b.x.nano c.x.nano) rise.1 in
    let fall = and_parts (lt_z b.y.nano a.y.nano && lt_z c.y.nano b.y.nano)
    (int_eq ((a.y.nano -ℤ c.y.nano) *ℤ square b.x.nano) ((a.y.nano -ℤ b.y.nano) *ℤ square c.x.nano)) shape.1 in
    let drops = and_parts (lt_z b.y.nano a.y.nano) (lt_z c.y.nano b.y.nano) fall.0 in
    let ranges = and_parts (curve.are_flows unit points) (curve.has_shutoff (is_us_unit unit) points) both.1 in
    let flows = and_parts (is_flow unit a.x.nano) (is_flow unit b.x.nano && (is_flow unit c.x.nano && true)) ranges.0 in
    let flow = and_parts (is_flow unit b.x.nano) (is_flow unit c.x.nano && true) flows.1 in
    let most = and_parts (le_z (neg_ℤ (pos (10 ^ 15))) (flow_ticks unit b.x.nano)) (le_z (flow_ticks unit b.x.nano)
    (pos (10 ^ 15))) flow.0 in
    let heads = and_parts (is_within (10 ^ 16) (head_ticks (is_us_unit unit) a.y.nano)) (le_z (a.y.nano -ℤ b.y.nano)
    (pos (10 ^ 21))) ranges.1 in
    record {
      flow = record {
        positive = lt_z-yes (pos 0) b.x.nano first.0;
        at_most = le_z-yes (flow_ticks unit b.x.nano) (pos
            (10 ^ 15)) most.1;
      };
      falls = lt_z-yes b.y.nano a.y.nano drops.0;
      small = le_z-yes (a.y.nano -ℤ b.y.nano) (pos (10 ^ 21)) heads.1;
      straight = refl;
      drop = refl;
    }

pub three_right : (unit : FlowUnit) (points : List CurvePoint) (a b : CurvePoint) → length points ≡ 3
    → a ≡ get_or points 0 a → b ≡ get_or points 1 b → pump_fault unit (points_in points) ≡ None
    → ThreeRight unit (points_in points) a b
three_right unit [] a b n e f right = absurd (omega arith)
three_right unit (p ∷ []) a b n e f right = absurd (omega arith)
three_right unit (p ∷ q ∷ []) a b n e f right = absurd (omega arith)
three_right unit (p ∷ q ∷ r ∷ []) a b n e f right =
    let points = points_in (p ∷ q ∷ r ∷ []) in
    subst (λ (x : CurvePoint). ThreeRight unit points x b) (sym e)
    (subst (λ (y : CurvePoint). ThreeRight unit points p y) (sym f) (three unit p q r right))
three_right unit (p ∷ q ∷ r ∷ s ∷ points) a b n e f right = absurd (omega arith)
