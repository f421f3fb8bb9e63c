-- Levels on a volume curve, and the line of the two points around one.
use Rattle.std.proofs.Common.{◌≡◌, ℕ, ◌+◌, ◌-◌, ◌*◌, ◌^◌, ◌<◌, ◌≤◌, ℤ, pos, ◌+ℤ◌, ◌-ℤ◌, ◌*ℤ◌, ◌≤ℤ◌, ◌<ℤ◌, List, [], ◌∷◌}
use Rattle.std.proofs.Common.{length, drop, slice_index_or, unsigned_abs, refl, sym, ap, subst, ◌∙◌, inl, inr, arith}
use Rattle.std.proofs.Math.IntN.{*ℤ_comm}
use Rattle.std.proofs.lemmas.Int.{ints}
use Rattle.std.proofs.lemmas.List.{drop_more, get_or-map, get_or_default, length-map}
use Rattle.hyd_num.proofs.Integers.{times_plus, times_minus, times_rises, times_reflects, one_times}
use Rattle.hyd_num.specs.Rational.{Rational, floor, ceiling}
use Rattle.hyd_num.specs.QuotientsAndRoots.{IsFloor, IsCeiling}
use Rattle.hyd_net.specs.Curves.{Knot, on_line, between, value_from, value_at, volume_at, volume_knots, IsVolumeCurve}
use Rattle.hyd_net.specs.NetworkRanges.{IsShapeOf}
use Rattle.hyd_net.specs.NumberRanges.{Lies}
use Rattle.hyd_spec.specs.ProgramTypes.{Tank, VolumePoint}
use Rattle.hyd_lemmas.proofs.BooleanTests.{lt-from, lt-not}
use Rattle.hyd_lemmas.proofs.KnotLines.{two-more, one-more}
use Rattle.hyd_lemmas.proofs.Integers.{floor_low, floor_greatest, ceiling_high, ceiling_least, exchanged}
use Rattle.hyd_theorems_on_definitions.specs.SoundLawsAndGrids.{AreInOrder}
use Rattle.hyd_theorems_on_definitions.proofs.ValuesAtTwoScales.{Leads}
use Rattle.hyd_theorems_on_definitions.proofs.RisingLines.{value-rises, value-den}
use Rattle.hyd_open_stocks.specs.VolumesOnCurve.{knot_at, AreNeighbours, IsOnCurve}

-- ---- one line

module _ (p q : VolumePoint) (x rise beyond width : ℤ) (near : AreNeighbours p q)
    (rise_is : rise ≡ q.volume -ℤ p.volume) (beyond_is : beyond ≡ x -ℤ p.level) (width_is : width ≡ q.level -ℤ p.level)
  where
    abbrev W : ℕ
    W = unsigned_abs (q.level -ℤ p.level)

    wide : width ≡ pos W
    wide = let h = near.higher in omega (arith, ints, width_is, h)

    some : 0 < W
    some = let h = near.higher in omega (arith, ints, h)

    abbrev L : Rational
    L = on_line 1 (knot_at p) (knot_at q) x

    num-is : L.num ≡ (pos W *ℤ p.volume) +ℤ (rise *ℤ beyond)
    num-is =
        let a : pos (1 * unsigned_abs (q.level -ℤ p.level)) *ℤ p.volume ≡ pos (unsigned_abs (q.level -ℤ p.level)) *ℤ
        p.volume = ap (λ (n : ℕ). pos n *ℤ p.volume) (let e : 1 * unsigned_abs (q.level -ℤ p.level)
        ≡ unsigned_abs (q.level -ℤ p.level) = omega arith in e) in
        let b : (q.volume -ℤ p.volume) *ℤ (x -ℤ (pos 1 *ℤ p.level)) ≡ rise *ℤ beyond =
        ap (λ (z : ℤ). (q.volume -ℤ p.volume) *ℤ (x -ℤ z)) (one_times p.level)
        ∙ ap (λ (z : ℤ). (q.volume -ℤ p.volume) *ℤ z) (sym beyond_is) ∙ ap (λ (z : ℤ). z *ℤ beyond) (sym rise_is) in
        rw (a, b) refl

    den-is : L.den ≡ W
    den-is = refl

    turned : (z : ℤ) → z *ℤ width ≡ pos W *ℤ z
    turned z = ap (λ (w : ℤ). z *ℤ w) wide ∙ *ℤ_comm z (pos W)

    pub line_floor : (r : ℤ) → IsFloor (rise *ℤ beyond) width r → p.volume +ℤ r ≡ floor (on_line 1 (knot_at p)
        (knot_at q) x)
    line_floor r is =
        let f = floor L in
        let le = is.at_most in
        let low = floor_low L (omega (arith, some, den-is)) in
        let d : pos L.den *ℤ floor L ≡ pos W *ℤ floor L = ap (λ (n : ℕ). pos n *ℤ floor L) den-is in
        let e : pos L.den *ℤ (p.volume +ℤ r) ≡ pos W *ℤ (p.volume +ℤ r) =
        ap (λ (n : ℕ). pos n *ℤ (p.volume +ℤ r)) den-is in
        let up = floor_greatest L (p.volume +ℤ r) (omega (arith, some, den-is))
        (omega (arith, ints, e, times_plus W p.volume r, turned r, le, num-is)) in
        let down = is.greatest (floor L -ℤ p.volume)
        (omega (arith, ints, turned (floor L -ℤ p.volume), times_minus W (floor L) p.volume, low, d, num-is)) in
        omega (arith, ints, up, down)

    pub line_ceiling : (r : ℤ) → IsCeiling (rise *ℤ beyond) width r
        → p.volume +ℤ r ≡ ceiling (on_line 1 (knot_at p) (knot_at q) x)
    line_ceiling r is =
        let le = is.at_least in
        let high = ceiling_high L (omega (arith, some, den-is)) in
        let d : pos L.den *ℤ ceiling L ≡ pos W *ℤ ceiling L = ap (λ (n : ℕ). pos n *ℤ ceiling L) den-is in
        let e : pos L.den *ℤ (p.volume +ℤ r) ≡ pos W *ℤ (p.volume +ℤ r) =
        ap (λ (n : ℕ). pos n *ℤ (p.volume +ℤ r)) den-is in
        let down = ceiling_least L (p.volume +ℤ r) (omega (arith, some, den-is))
        (omega (arith, ints, e, times_plus W p.volume r, turned r, le, num-is)) in
        let up = is.least (ceiling L -ℤ p.volume)
        (omega (arith, ints, turned (ceiling L -ℤ p.volume), times_minus W (ceiling L) p.volume, high, d, num-is)) in
        omega (arith, ints, up, down)

    -- both lie between the volumes of the two points
    product-up : p.level ≤ℤ x → x ≤ℤ q.level → (rise *ℤ beyond) ≤ℤ (rise *ℤ width)
    product-up from to =
        let fuller = near.fuller in
        let n : rise ≡ pos (unsigned_abs rise) = omega (arith, ints, rise_is, fuller) in
        let t = times_rises (unsigned_abs rise) beyond width (omega (arith, ints, beyond_is, width_is, to)) in
        let a : rise *ℤ beyond ≡ pos (unsigned_abs rise) *ℤ beyond = ap (λ (z : ℤ). z *ℤ beyond) n in
        let b : rise *ℤ width ≡ pos (unsigned_abs rise) *ℤ width = ap (λ (z : ℤ). z *ℤ width) n in
        omega (arith, ints, t, a, b)

    product-low : p.level ≤ℤ x → pos 0 ≤ℤ (rise *ℤ beyond)
    product-low from =
        let fuller = near.fuller in
        let n : rise ≡ pos (unsigned_abs rise) = omega (arith, ints, rise_is, fuller) in
        let t = times_rises (unsigned_abs rise) (pos 0) beyond (omega (arith, ints, beyond_is, from)) in
        let a : rise *ℤ beyond ≡ pos (unsigned_abs rise) *ℤ beyond = ap (λ (z : ℤ). z *ℤ beyond) n in
        let z : pos (unsigned_abs rise) *ℤ pos 0 ≡ pos 0 = omega (arith, ints) in
        omega (arith, ints, t, a, z)

    pub product_small : p.level ≤ℤ x → x ≤ℤ q.level → unsigned_abs (rise *ℤ beyond) < 2 ^ 127
    product_small from to =
        let fuller = near.fuller in
        let empty = near.some in
        let full = near.most in
        let l = near.low in
        let h = near.high in
        let n : rise ≡ pos (unsigned_abs rise) = omega (arith, ints, rise_is, fuller) in
        let few : unsigned_abs rise ≤ 10 ^ 18 = omega (arith, ints, rise_is, fuller, empty, full) in
        let t = times_rises (unsigned_abs rise) beyond (pos (2 * 10 ^ 17)) (omega
        (arith, ints, beyond_is, to, from, l, h)) in
        let a : rise *ℤ beyond ≡ pos (unsigned_abs rise) *ℤ beyond = ap (λ (z : ℤ). z *ℤ beyond) n in
        let low = product-low from in
        omega (arith, ints, low, t, a, few)

    pub floor_small : (r : ℤ) → p.level ≤ℤ x → x ≤ℤ q.level → IsFloor (rise *ℤ beyond) width r
        → (pos 0 ≤ℤ r) × (r ≤ℤ rise)
    floor_small r from to is =
        let le = is.at_most in
        let up = product-up from to in
        let low = product-low from in
        let zero : pos 0 *ℤ width ≡ pos 0 = omega (arith, ints) in (
          is.greatest (pos 0) (omega (arith, ints, low, zero)),
          times_reflects W r rise some (omega (arith, ints, turned r, turned rise, le, up)),
        )

    pub ceiling_small : (r : ℤ) → p.level ≤ℤ x → x ≤ℤ q.level → IsCeiling (rise *ℤ beyond) width r
        → (pos 0 ≤ℤ r) × (r ≤ℤ rise)
    ceiling_small r from to is =
        let le = is.at_least in
        let up = product-up from to in
        let low = product-low from in
        let zero : pos W *ℤ pos 0 ≡ pos 0 = omega (arith, ints) in (
          times_reflects W (pos 0) r some (omega (arith, ints, turned r, zero, le, low)),
          is.least rise up,
        )

-- ---- the walk

module _ (x : ℤ) where
  begins : (knots : List Knot) (a : Knot) → 0 < length knots
      → value_at 1 knots x ≡ value_from 1 (slice_index_or knots 0 a) (drop 1 knots) x
  begins [] a h = absurd (omega arith)
  begins (k ∷ knots) a h = refl

  goes-on : (p q r : Knot) (rest : List Knot) → (pos 1 *ℤ q.place) ≤ℤ x → value_from 1 p (q ∷ (r ∷ rest)) x
      ≡ value_from 1 q (r ∷ rest) x
  goes-on p q r rest le = let t = lt-not x (pos 1 *ℤ q.place) le in rw t refl

  stops : (p q r : Knot) (rest : List Knot) → x <ℤ (pos 1 *ℤ q.place) → value_from 1 p (q ∷ (r ∷ rest)) x
      ≡ between 1 p q x
  stops p q r rest lt = let t = lt-from x (pos 1 *ℤ q.place) lt in rw t refl

-- the volume is by point number i and those after it
abbrev pub WalkedTo : ℤ → List Knot → ℕ → Type 0
WalkedTo x knots i = (a : Knot) → value_at 1 knots x ≡ value_from 1 (slice_index_or knots i a) (drop (i + 1) knots) x

walk-on : (x : ℤ) (knots : List Knot) (i : ℕ) → WalkedTo x knots i → i + 1 + 1 < length knots
    → ((a : Knot) → (pos 1 *ℤ (slice_index_or knots (i + 1) a).place) ≤ℤ x)
    → WalkedTo x knots (i + 1)
walk-on x knots i walked h le a =
    walked a
    ∙ ap (λ (ks : List Knot). value_from 1 (slice_index_or knots i a) ks x) (two-more knots (i + 1) a h)
    ∙ goes-on x (slice_index_or knots i a) (slice_index_or knots (i + 1) a) (slice_index_or knots (i + 1 + 1) a)
    (drop (i + 1 + 1 + 1) knots) (le a)
    ∙ sym (ap (λ (ks : List Knot). value_from 1 (slice_index_or knots (i + 1) a) ks x)
    (drop_more knots (i + 1 + 1) a h))

walk-stops : (x : ℤ) (knots : List Knot) (i : ℕ) (a : Knot) → WalkedTo x knots i → i + 1 + 1 < length knots
    → x <ℤ (pos 1 *ℤ (slice_index_or knots (i + 1) a).place)
    → value_at 1 knots x ≡ between 1 (slice_index_or knots i a) (slice_index_or knots (i + 1) a) x
walk-stops x knots i a walked h lt =
    walked a
    ∙ ap (λ (ks : List Knot). value_from 1 (slice_index_or knots i a) ks x) (two-more knots (i + 1) a h)
    ∙ stops x (slice_index_or knots i a) (slice_index_or knots (i + 1) a) (slice_index_or knots (i + 1 + 1) a)
    (drop (i + 1 + 1 + 1) knots) lt

walk-ends : (x : ℤ) (knots : List Knot) (i : ℕ) (a : Knot) → WalkedTo x knots i → i + 1 + 1 ≡ length knots
    → value_at 1 knots x ≡ between 1 (slice_index_or knots i a) (slice_index_or knots (i + 1) a) x
walk-ends x knots i a walked h = walked a ∙ ap (λ (ks : List Knot). value_from 1 (slice_index_or knots i a) ks x)
    (one-more knots (i + 1) a h)

-- ---- points

abbrev pub nothing : VolumePoint
nothing = record { level = pos 0; volume = pos 0 }

abbrev pub point_at : List VolumePoint → ℕ → VolumePoint
point_at points i = slice_index_or points i nothing

knot-is : (points : List VolumePoint) (i : ℕ) (a : Knot) → i < length points
    → slice_index_or (volume_knots points) i a ≡ knot_at (point_at points i)
knot-is points i a h = get_or-map (λ (p : VolumePoint). knot_at p) points i nothing a h

as-many : (points : List VolumePoint) → length (volume_knots points) ≡ length points
as-many points = length-map points (λ (p : VolumePoint). knot_at p)

pub neighbours : (points : List VolumePoint) (i : ℕ) → IsVolumeCurve points → i + 1 < length points
    → AreNeighbours (point_at points i) (point_at points (i + 1))
neighbours points i curve h =
    let levels = curve.levels_rise i (i + 1) (pos 0) (omega arith)
    (let n = length-map points (λ (p : VolumePoint). p.level) in omega (arith, n, h)) in
    let volumes = curve.volumes_rise i (i + 1) (pos 0) (omega arith)
    (let n = length-map points (λ (p : VolumePoint). p.volume) in omega (arith, n, h)) in
    let la = get_or-map (λ (p : VolumePoint). p.level) points i nothing (pos 0) (omega (arith, h)) in
    let lb = get_or-map (λ (p : VolumePoint). p.level) points (i + 1) nothing (pos 0) h in
    let va = get_or-map (λ (p : VolumePoint). p.volume) points i nothing (pos 0) (omega (arith, h)) in
    let vb = get_or-map (λ (p : VolumePoint). p.volume) points (i + 1) nothing (pos 0) h in
    let p = curve.levels i nothing (omega (arith, h)) in
    let q = curve.levels (i + 1) nothing h in
    let r = curve.volumes i nothing (omega (arith, h)) in
    let s = curve.volumes (i + 1) nothing h in
    record {
      higher = omega (arith, ints, levels, la, lb);
      fuller = omega (arith, ints, volumes, va, vb);
      low = omega (arith, ints, p.at_least, p.at_most);
      high = omega (arith, ints, q.at_least, q.at_most);
      some = r.at_least;
      most = s.at_most;
    }

pub last_neighbours : (points : List VolumePoint) (i j : ℕ) → IsVolumeCurve points → j ≡ i + 1 → j < length points
    → AreNeighbours (point_at points i) (point_at points j)
last_neighbours points i j curve e h =
    subst (λ (k : ℕ). AreNeighbours (point_at points i) (point_at points k)) (sym e)
    (neighbours points i curve (omega (arith, e, h)))

-- the walk has come to point number i, which lies at the level or below it
pub record HasCome (points : List VolumePoint) (x : ℤ) (i : ℕ) : Type 0 where
  pub walked : WalkedTo x (volume_knots points) i
  pub from : (point_at points i).level ≤ℤ x

pub come_first : (points : List VolumePoint) (x : ℤ) → 0 < length points → IsOnCurve points x → HasCome points x 0
come_first points x h on = record {
  walked = λ a. begins x (volume_knots points) a (let n = as-many points in omega (arith, n, h));
  from = on.from_first nothing;
}

pub come_on : (points : List VolumePoint) (x : ℤ) (i : ℕ) → HasCome points x i → i + 1 + 1 < length points
    → (point_at points (i + 1)).level ≤ℤ x → HasCome points x (i + 1)
come_on points x i come h from = record {
  walked = walk-on x (volume_knots points) i come.walked (let n = as-many points in omega (arith, n, h))
      (λ a. let e = knot-is points (i + 1) a (omega (arith, h)) in
      rw e (let f = from in omega (arith, ints, f, one_times (point_at points (i + 1)).level)));
  from = from;
}

line-between : (p q : Knot) (x : ℤ) → p.place <ℤ q.place → between 1 p q x ≡ on_line 1 p q x
line-between p q x apart = let t = lt-from p.place q.place apart in rw t refl

pub line_here : (points : List VolumePoint) (x : ℤ) (i : ℕ) → IsVolumeCurve points → HasCome points x i
    → i + 1 + 1 < length points → x <ℤ (point_at points (i + 1)).level
    → value_at 1 (volume_knots points) x ≡ on_line 1 (knot_at (point_at points i)) (knot_at (point_at points (i + 1))) x
line_here points x i curve come h lt =
    let a = knot_at nothing in
    let e = knot-is points i a (omega (arith, h)) in
    let f = knot-is points (i + 1) a (omega (arith, h)) in
    let n = neighbours points i curve (omega (arith, h)) in
    let stop = walk-stops x (volume_knots points) i a come.walked (let m = as-many points in omega (arith, m, h))
    (rw f (let l = lt in omega (arith, ints, l, one_times (point_at points (i + 1)).level))) in
    stop ∙ ap (λ (k : Knot). between 1 k (slice_index_or (volume_knots points) (i + 1) a) x) e
    ∙ ap (λ (k : Knot). between 1 (knot_at (point_at points i)) k x) f
    ∙ line-between (knot_at (point_at points i)) (knot_at (point_at points (i + 1))) x n.higher

pub line_last : (points : List VolumePoint) (x : ℤ) (i j : ℕ) → IsVolumeCurve points → HasCome points x i → j ≡ i + 1
    → j + 1 ≡ length points
    → value_at 1 (volume_knots points) x ≡ on_line 1 (knot_at (point_at points i)) (knot_at (point_at points j)) x
line_last points x i j curve come e h =
    let a = knot_at nothing in
    let last : i + 1 + 1 ≡ length points = omega (arith, e, h) in
    let f = knot-is points i a (omega (arith, last)) in
    let g = knot-is points (i + 1) a (omega (arith, last)) in
    let n = neighbours points i curve (omega (arith, last)) in
    let stop = walk-ends x (volume_knots points) i a come.walked (let m = as-many points in omega (arith, m, last)) in
    stop ∙ ap (λ (k : Knot). between 1 k (slice_index_or (volume_knots points) (i + 1) a) x) f
    ∙ ap (λ (k : Knot). between 1 (knot_at (point_at points i)) k x) g
    ∙ line-between (knot_at (point_at points i)) (knot_at (point_at points (i + 1))) x n.higher
    ∙ ap (λ (k : ℕ). on_line 1 (knot_at (point_at points i)) (knot_at (point_at points k)) x) (sym e)

-- ---- levels within the bounds of a tank

pub on_curve : (tank : Tank) (points : List VolumePoint) (level : ℤ) → IsShapeOf tank points
    → Lies tank.minimum tank.maximum level → IsOnCurve points level
on_curve tank points level shape lies = record {
  from_first = λ d. let a = shape.from_minimum d in let b = lies.at_least in omega (arith, ints, a, b);
  to_last = λ d. let a = shape.to_maximum d in let b = lies.at_most in omega (arith, ints, a, b);
}

in-order : (points : List VolumePoint) → IsVolumeCurve points → AreInOrder (volume_knots points)
in-order points curve = λ i j d less within.
    let n = as-many points in
    let inside : j < length points = omega (arith, within, n) in
    let a = knot-is points i d (omega (arith, less, inside)) in
    let b = knot-is points j d inside in
    let levels = curve.levels_rise i j (pos 0) less
    (let m = length-map points (λ (p : VolumePoint). p.level) in omega (arith, m, inside)) in
    let volumes = curve.volumes_rise i j (pos 0) less
    (let m = length-map points (λ (p : VolumePoint). p.volume) in omega (arith, m, inside)) in
    let la = get_or-map (λ (p : VolumePoint). p.level) points i nothing (pos 0) (omega (arith, less, inside)) in
    let lb = get_or-map (λ (p : VolumePoint). p.level) points j nothing (pos 0) inside in
    let va = get_or-map (λ (p : VolumePoint). p.volume) points i nothing (pos 0) (omega (arith, less, inside)) in
    let vb = get_or-map (λ (p : VolumePoint). p.volume) points j nothing (pos 0) inside in
    rw (a, b) (omega (arith, ints, levels, la, lb), omega (arith, ints, volumes, va, vb))

-- the volume at a lower level, rounded down, is at most that at a higher one, rounded down or up
pub volumes_in_order : (points : List VolumePoint) (x y : ℤ) → IsVolumeCurve points → x ≤ℤ y
    → (floor (value_at 1 (volume_knots points) x) ≤ℤ floor (value_at 1 (volume_knots points) y))
    × (floor (value_at 1 (volume_knots points) x) ≤ℤ ceiling (value_at 1 (volume_knots points) y))
volumes_in_order points x y curve le =
    let knots = volume_knots points in
    let a = value_at 1 knots x in
    let b = value_at 1 knots y in
    let some-a = value-den 1 knots x in
    let some-b = value-den 1 knots y in
    let leads = value-rises 1 1 knots x y (omega arith) (in-order points curve)
    (omega (arith, ints, le, one_times x, one_times y)) in
    let crossed = leads.crossed in
    let low = floor_low a some-a in
    let s = times_rises b.den (pos a.den *ℤ floor a) a.num low in
    let t : pos b.den *ℤ (pos a.den *ℤ floor a) ≡ pos a.den *ℤ (pos b.den *ℤ floor a) = swapped b.den a.den (floor a) in
    let u : pos b.den *ℤ (pos 1 *ℤ a.num) ≡ pos b.den *ℤ a.num = ap (λ (z : ℤ). pos b.den *ℤ z) (one_times a.num) in
    let v : pos a.den *ℤ (pos 1 *ℤ b.num) ≡ pos a.den *ℤ b.num = ap (λ (z : ℤ). pos a.den *ℤ z) (one_times b.num) in
    let under : (pos b.den *ℤ floor a) ≤ℤ b.num = times_reflects a.den (pos b.den *ℤ floor a) b.num some-a
    (omega (arith, ints, s, t, u, v, crossed)) in
    let up = floor_greatest b (floor a) some-b under in
    let high = ceiling_high b some-b in
    (up, times_reflects b.den (floor a) (ceiling b) some-b (omega (arith, ints, under, high)))
  where
    swapped : (m n : ℕ) (z : ℤ) → pos m *ℤ (pos n *ℤ z) ≡ pos n *ℤ (pos m *ℤ z)
    swapped m n z = exchanged n m z
