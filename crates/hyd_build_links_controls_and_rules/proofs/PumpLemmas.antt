-- The laws of pumps with curves of one point or three.
use Rattle.std.proofs.Common.{◌≡◌, ℕ, ◌≤◌, ◌<◌, false, List, Option, Some, [], ◌∷◌, length, get_or, refl, sym, subst}
use Rattle.std.proofs.Common.{arith, ◌&&◌}
use Rattle.std.specs.Prelude.{pos, ◌<ℤ◌, ◌-ℤ◌, ◌*ℤ◌}
use Rattle.std.specs.Ordering.{int_eq}
use Rattle.std.proofs.lemmas.Bool.{and_parts}
use Rattle.std.proofs.lemmas.Int.{ints}
use lib.Signed.{lt_z}
use Rattle.hyd_num.specs.CapacityPairs.{IsMade}
use Rattle.hyd_num.specs.FileQuantity.{is_us_unit, head_ticks}
use Rattle.hyd_num.specs.CapacityRange.{IsRefused}
use Rattle.hyd_num.specs.declared.link_capacities.Capacity.{Capacity}
use Rattle.hyd_num.specs.declared.link_capacities.Origin.TheVariants.{Pump as PumpOrigin}
use Rattle.hyd_num.specs.declared.decimals.Decimal.{Decimal}
use Rattle.hyd_num.specs.declared.spans.Span.{Span}
use Rattle.hyd_num.specs.declared.flow_units.FlowUnit.{FlowUnit}
use Rattle.hyd_net.specs.RoundedFileNumbers.{IsRounded, IsExactly}
use Rattle.hyd_net.specs.declared.links.ShutoffHead.TheVariants.{FourThirds, Given}
use Rattle.hyd_spec_lines.specs.Lines.{Row}
use Rattle.hyd_net.specs.declared.links.LinkKind.TheVariants.{Pump}
use Rattle.hyd_spec_input.specs.Curves.{square, is_bent}
use Rattle.hyd_spec_input.specs.OptionsAndTimesInForce as force
use Rattle.hyd_spec_input.specs.MeaningsAcrossRows.{pattern_number}
use Rattle.hyd_spec_input.specs.NodeAndLinkRows.{pump_curve, pump_pattern}
use Rattle.hyd_spec_input.specs.Project.{IsPumpKind}
use Rattle.hyd_spec_input.specs.SectionsAndTables.{curve_named}
use Rattle.hyd_lemmas.proofs.BooleanTests.{lt_z-yes}
use Rattle.hyd_build_links_controls_and_rules.specs.Pumps.{ArePumpPoints, IsPumpLaw}
use Rattle.hyd_curves.specs.Points.{points_in}
use Rattle.hyd_build_links_controls_and_rules.specs.declared.pump_laws.PumpLaw.{PumpLaw}
use Rattle.hyd_curves.specs.declared.points.CurvePoint.{CurvePoint}

-- ---- one point

pub one_point : (ps : List CurvePoint) (a : CurvePoint) → 1 ≤ length ps → length ps < 2 → a ≡ get_or ps 0 a
    → ps ≡ a ∷ []
one_point [] a l m e = absurd (omega (arith, l))
one_point (p ∷ []) a l m e = rw e refl
one_point (p ∷ q ∷ ps) a l m e = absurd (omega (arith, m))

pub free_one : (unit : FlowUnit) (ps : List CurvePoint) (a : CurvePoint) → ps ≡ a ∷ []
    → ArePumpPoints unit (points_in ps) → IsRefused (PumpOrigin a.x a.y 3 unit) → ⊥
free_one unit ps a e right refused =
    let P : List CurvePoint → Type 0 = λ qs. ArePumpPoints unit (points_in qs) in
    let at = subst P e right in
    at.free (record { q = a.x; q_is = refl; h = a.y; h_is = refl; refused = refused })

pub law_one : (unit : FlowUnit) (ps : List CurvePoint) (a : CurvePoint) (cap : Capacity) (shutoff : Span)
    → ps ≡ a ∷ [] → IsMade cap → cap.origin ≡ PumpOrigin a.x a.y 3 unit
    → IsRounded (pos 4 *ℤ head_ticks (is_us_unit unit) a.y.nano) 3 shutoff
    → IsPumpLaw unit (points_in ps) (record { cap = cap; shutoff = shutoff; head = FourThirds a.y })
law_one unit ps a cap shutoff e made origin rounded =
    let P : List CurvePoint → Type 0 = λ qs. IsPumpLaw unit (points_in qs)
    (record { cap = cap; shutoff = shutoff; head = FourThirds a.y }) in
    subst P (sym e) (record {
      capacity = record { made = made; q = a.x; q_is = refl; h = a.y; h_is = refl; origin = origin };
      head = refl;
      shutoff = rounded;
    })

-- ---- three points

pub record AreThree (ps : List CurvePoint) (a b : CurvePoint) : Type 0 where
  pub c : CurvePoint
  pub is : ps ≡ a ∷ b ∷ c ∷ []

pub three_points : (ps : List CurvePoint) (a b : CurvePoint) → 3 ≤ length ps → length ps < 4 → a ≡ get_or ps 0 a
    → b ≡ get_or ps 1 b → AreThree ps a b
three_points [] a b l m e f = absurd (omega (arith, l))
three_points (p ∷ []) a b l m e f = absurd (omega (arith, l))
three_points (p ∷ q ∷ []) a b l m e f = absurd (omega (arith, l))
three_points (p ∷ q ∷ r ∷ []) a b l m e f = record { c = r; is = rw (e, f) refl }
three_points (p ∷ q ∷ r ∷ s ∷ ps) a b l m e f = absurd (omega (arith, m))

-- the head falls
pub falls : (unit : FlowUnit) (ps : List CurvePoint) (a b : CurvePoint) → AreThree ps a b
    → ArePumpPoints unit (points_in ps) → b.y.nano <ℤ a.y.nano
falls unit ps a b three right =
    let c = three.c in
    let P : List CurvePoint → Type 0 = λ qs. ArePumpPoints unit (points_in qs) in
    let at = subst P three.is right in
    let halves = and_parts (int_eq a.x.nano (pos 0) && (lt_z (pos 0) b.x.nano && lt_z b.x.nano c.x.nano))
    ((lt_z b.y.nano a.y.nano && lt_z c.y.nano b.y.nano)
    && int_eq ((a.y.nano -ℤ c.y.nano) *ℤ square b.x.nano) ((a.y.nano -ℤ b.y.nano) *ℤ square c.x.nano)) at.curve in
    let ys = and_parts (lt_z b.y.nano a.y.nano && lt_z c.y.nano b.y.nano)
    (int_eq ((a.y.nano -ℤ c.y.nano) *ℤ square b.x.nano) ((a.y.nano -ℤ b.y.nano) *ℤ square c.x.nano)) halves.1 in
    lt_z-yes b.y.nano a.y.nano (and_parts (lt_z b.y.nano a.y.nano) (lt_z c.y.nano b.y.nano) ys.0).0

pub drop_above : (a b d : Decimal) → b.nano <ℤ a.nano → d.nano ≡ a.nano -ℤ b.nano → pos 0 <ℤ d.nano
drop_above a b d l e = rw e (omega (arith, ints, l))

pub free_three : (unit : FlowUnit) (ps : List CurvePoint) (a b : CurvePoint) (d : Decimal) → AreThree ps a b
    → ArePumpPoints unit (points_in ps) → d.nano ≡ a.y.nano -ℤ b.y.nano → IsRefused (PumpOrigin b.x d 1 unit) → ⊥
free_three unit ps a b d three right e refused =
    let P : List CurvePoint → Type 0 = λ qs. ArePumpPoints unit (points_in qs) in
    let at = subst P three.is right in
    at.free (record { q = b.x; q_is = refl; h = d; h_is = e; refused = refused })

pub law_three : (unit : FlowUnit) (ps : List CurvePoint) (a b : CurvePoint) (d : Decimal) (cap : Capacity)
    (shutoff : Span) → AreThree ps a b → d.nano ≡ a.y.nano -ℤ b.y.nano → IsMade cap
    → cap.origin ≡ PumpOrigin b.x d 1 unit → IsExactly (head_ticks (is_us_unit unit) a.y.nano) shutoff
    → IsPumpLaw unit (points_in ps) (record { cap = cap; shutoff = shutoff; head = Given a.y })
law_three unit ps a b d cap shutoff three e made origin exactly =
    let P : List CurvePoint → Type 0 = λ qs. IsPumpLaw unit (points_in qs)
    (record { cap = cap; shutoff = shutoff; head = Given a.y }) in
    subst P (sym three.is) (record {
      capacity = record { made = made; q = b.x; q_is = refl; h = d; h_is = e; origin = origin };
      head = refl;
      shutoff = exactly;
    })

-- ---- a pump's row

pub pump_made : (rows : List Row) (row : Row) (unit : FlowUnit) (ps : List CurvePoint) (name : List ℕ) (law : PumpLaw)
    (pattern : Option ℕ) → pump_curve row.words ≡ Some name → points_in ps ≡ curve_named rows name
    → is_bent (curve_named rows name) ≡ false → unit ≡ force.unit rows → IsPumpLaw unit (points_in ps) law
    → pattern ≡ pattern_number rows (pump_pattern row.words)
    → IsPumpKind rows row (Pump law.cap law.shutoff law.head pattern)
pump_made rows row unit ps name law pattern c e bent u is p =
    let own : IsPumpLaw (force.unit rows) (curve_named rows name) law = rw (← e, ← u) is in
    rw c (bent, own.capacity, own.head, own.shutoff, p)
