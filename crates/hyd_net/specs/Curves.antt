-- Curves by straight lines between their points, and what is asked of the points of each kind of curve.
-- Source: EPANET 2.2 User Manual, chapter 3 (curves) and appendix C ([CURVES]); the lines before the first and after
-- the last point, and the ranges, are this program's.
use Rattle.std.specs.Prelude.{◌≡◌, ℕ, ◌*◌, ◌≤◌, List, [], ◌∷◌, length, map, All, AllPairs, HoldsAt, IsTrue, ℤ, pos}
use Rattle.std.specs.Prelude.{◌+ℤ◌, ◌-ℤ◌, ◌*ℤ◌, ◌≤ℤ◌, ◌<ℤ◌, int_lt, unsigned_abs, if◌then◌else◌}
use Rattle.hyd_num.specs.Rational.{Rational, whole, is_at_most, floor}
use Rattle.hyd_net.specs.NumberRanges.{Lies, volume_limit, shutoff_head_limit, IsHead, IsFlow}
use Rattle.hyd_net.specs.declared.curves.VolumePoint.{VolumePoint}
use Rattle.hyd_net.specs.declared.curves.HeadPoint.{HeadPoint}

-- ---- straight lines

-- a knot: the value at a place, both in ticks
pub record Knot : Type 0 where
  pub place : ℤ
  pub value : ℤ

-- what the line through two knots has at x, the second knot's place being the greater; x and the result are S-th parts
-- of ticks
abbrev pub on_line : ℕ → Knot → Knot → ℤ → Rational
on_line S first second x =
    let width = unsigned_abs (second.place -ℤ first.place) in
    record {
      num = (pos (S * width) *ℤ first.value) +ℤ ((second.value -ℤ first.value) *ℤ (x -ℤ (pos S *ℤ first.place)));
      den = width;
    }

-- what two neighbours have at x: where their places are one, the first knot's value before it and the second's from it
-- on
abbrev pub between : ℕ → Knot → Knot → ℤ → Rational
between S first second x =
    if int_lt first.place second.place then on_line S first second x
    else whole (pos S *ℤ (if int_lt x (pos S *ℤ first.place) then first.value else second.value))

-- the value at x of knots that go on from one: that of the neighbours between which x lies
abbrev pub value_from : ℕ → Knot → List Knot → ℤ → Rational
value_from S knot [] x = whole (pos S *ℤ knot.value)
value_from S knot (next ∷ []) x = between S knot next x
value_from S knot (next ∷ (later ∷ rest)) x =
    if int_lt x (pos S *ℤ next.place) then between S knot next x else value_from S next (later ∷ rest) x

-- the value at x: on the straight line between the last knot at x or before it and the next one; before the first knot
-- and after the last one on the line of the first two, or the last two, where their places differ, else that knot's
-- value. Places don't fall.
abbrev pub value_at : ℕ → List Knot → ℤ → Rational
value_at S [] x = whole (pos 0)
value_at S (knot ∷ rest) x = value_from S knot rest x

-- numbers that rise, each one above all before it
abbrev pub AreRising : List ℤ → Type 0
AreRising xs = AllPairs (λ x later. x <ℤ later) xs

-- numbers that fall
abbrev pub AreFalling : List ℤ → Type 0
AreFalling xs = AllPairs (λ x later. later <ℤ x) xs

-- ---- volume curves

-- a volume curve's knots: the volume at each level
abbrev pub volume_knots : List VolumePoint → List Knot
volume_knots shape = map (λ (p : VolumePoint). record { place = p.level; value = p.volume }) shape

-- the volume up to a level, cut to whole volume ticks
abbrev pub volume_at : List VolumePoint → ℤ → ℤ
volume_at shape level = floor (value_at 1 (volume_knots shape) level)

-- at least two points; levels are heads, volumes at most their limit, and both rise
pub record IsVolumeCurve (shape : List VolumePoint) : Type 0 where
  pub two : 2 ≤ length shape
  pub levels : All (λ (p : VolumePoint). IsHead p.level) shape
  pub volumes : All (λ (p : VolumePoint). Lies (pos 0) (pos volume_limit) p.volume) shape
  pub levels_rise : AreRising (map (λ (p : VolumePoint). p.level) shape)
  pub volumes_rise : AreRising (map (λ (p : VolumePoint). p.volume) shape)

-- ---- curves of pumps and of general purpose valves

-- the knots of such a curve by its flows: the head at each flow
abbrev pub head_knots : List HeadPoint → List Knot
head_knots bend = map (λ (p : HeadPoint). record { place = p.flow; value = p.head }) bend

-- a pump's curve by straight lines: at least four points; flows are at least 0 and rise, heads fall to no less than 0,
-- and at flow 0 the line of the first two points gives at most the limit of shutoff heads
pub record IsPumpCurve (bend : List HeadPoint) : Type 0 where
  pub four : 4 ≤ length bend
  pub flows : All (λ (p : HeadPoint). IsFlow p.flow) bend
  pub forward : All (λ (p : HeadPoint). pos 0 ≤ℤ p.flow) bend
  pub flows_rise : AreRising (map (λ (p : HeadPoint). p.flow) bend)
  pub heads_fall : AreFalling (map (λ (p : HeadPoint). p.head) bend)
  pub lifts : All (λ (p : HeadPoint). pos 0 ≤ℤ p.head) bend
  pub shutoff : IsTrue (is_at_most (value_at 1 (head_knots bend) (pos 0)) (whole (pos shutoff_head_limit)))

-- a general purpose valve's curve: at least two points, the first of no flow and no loss; flows and losses rise
pub record IsLossCurve (bend : List HeadPoint) : Type 0 where
  pub two : 2 ≤ length bend
  pub first : HoldsAt (λ (p : HeadPoint). (p.flow ≡ pos 0) × (p.head ≡ pos 0)) bend 0
  pub flows : All (λ (p : HeadPoint). IsFlow p.flow) bend
  pub losses : All (λ (p : HeadPoint). IsHead p.head) bend
  pub flows_rise : AreRising (map (λ (p : HeadPoint). p.flow) bend)
  pub losses_rise : AreRising (map (λ (p : HeadPoint). p.head) bend)
