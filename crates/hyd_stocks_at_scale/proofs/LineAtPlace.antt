-- Straight lines between knots at a scale, by the two knots at a place, and the first and the last value of a curve.
use Rattle.std.proofs.Common.{◌≡◌, ℕ, ◌+◌, ◌-◌, ◌*◌, ◌^◌, ◌<◌, ◌≤◌, ℤ, pos, ◌-ℤ◌, ◌*ℤ◌, ◌≤ℤ◌, ◌<ℤ◌, List, [], ◌∷◌}
use Rattle.std.proofs.Common.{length, drop, slice_index_or, unsigned_abs, refl, sym, ap, subst, ◌∙◌, inl, inr, arith}
use Rattle.std.proofs.Math.Nat.{mul-le-mul}
use Rattle.std.proofs.lemmas.Int.{ints}
use Rattle.std.proofs.lemmas.List.{drop_more, get_or-map, get_or_default, length-map}
use Rattle.std.specs.List.{HoldsAt}
use Rattle.std.proofs.lemmas.Bool.{cases_lt}
use Rattle.hyd_num.proofs.Integers.{times_rises}
use Rattle.hyd_net.specs.Curves.{Knot, on_line, between, value_from, value_at, IsVolumeCurve}
use Rattle.hyd_spec.specs.ProgramTypes.{VolumePoint}
use Rattle.hyd_stocks_at_scale.specs.declared.volume_curve.Known.{Known}
use Rattle.hyd_stocks_at_scale.specs.declared.volume_curve.Known.TheVariants.{Level, Volume}
use Rattle.hyd_stocks_at_scale.specs.declared.volume_curve.Mixed.{Mixed}
use Rattle.hyd_stocks_at_scale.specs.VolumeCurves.{knot_by, knots_by, AreNeighbours, IsFrom, IsOnCurve, IsAtLeast}
use Rattle.hyd_stocks_at_scale.specs.VolumeCurves.{IsAtMost}
use Rattle.hyd_lemmas.proofs.BooleanTests.{lt-from, lt-not}
use Rattle.hyd_lemmas.proofs.KnotLines.{two-more, one-more}

-- ---- the walk, at a scale

module _ (S : ℕ) (x : ℤ) where
  begins : (knots : List Knot) (a : Knot) → 0 < length knots
      → value_at S knots x ≡ value_from S (slice_index_or knots 0 a) (drop 1 knots) x
  begins [] a h = absurd (omega arith)
  begins (k ∷ knots) a h = refl

  goes-on : (p q r : Knot) (rest : List Knot) → (pos S *ℤ q.place) ≤ℤ x → value_from S p (q ∷ (r ∷ rest)) x
      ≡ value_from S q (r ∷ rest) x
  goes-on p q r rest le = let t = lt-not x (pos S *ℤ q.place) le in rw t refl

  stops : (p q r : Knot) (rest : List Knot) → x <ℤ (pos S *ℤ q.place) → value_from S p (q ∷ (r ∷ rest)) x
      ≡ between S p q x
  stops p q r rest lt = let t = lt-from x (pos S *ℤ q.place) lt in rw t refl

-- the value is by knot number i and those after it
abbrev pub WalkedTo : ℕ → ℤ → List Knot → ℕ → Type 0
WalkedTo S x knots i = (a : Knot) → value_at S knots x ≡ value_from S (slice_index_or knots i a) (drop (i + 1) knots) x

walk-on : (S : ℕ) (x : ℤ) (knots : List Knot) (i : ℕ) → WalkedTo S x knots i → i + 1 + 1 < length knots
    → ((a : Knot) → (pos S *ℤ (slice_index_or knots (i + 1) a).place) ≤ℤ x)
    → WalkedTo S x knots (i + 1)
walk-on S x knots i walked h le a =
    walked a
    ∙ ap (λ (ks : List Knot). value_from S (slice_index_or knots i a) ks x) (two-more knots (i + 1) a h)
    ∙ goes-on S x (slice_index_or knots i a) (slice_index_or knots (i + 1) a) (slice_index_or knots (i + 1 + 1) a)
    (drop (i + 1 + 1 + 1) knots) (le a)
    ∙ sym (ap (λ (ks : List Knot). value_from S (slice_index_or knots (i + 1) a) ks x)
    (drop_more knots (i + 1 + 1) a h))

walk-stops : (S : ℕ) (x : ℤ) (knots : List Knot) (i : ℕ) (a : Knot) → WalkedTo S x knots i → i + 1 + 1 < length knots
    → x <ℤ (pos S *ℤ (slice_index_or knots (i + 1) a).place)
    → value_at S knots x ≡ between S (slice_index_or knots i a) (slice_index_or knots (i + 1) a) x
walk-stops S x knots i a walked h lt =
    walked a
    ∙ ap (λ (ks : List Knot). value_from S (slice_index_or knots i a) ks x) (two-more knots (i + 1) a h)
    ∙ stops S x (slice_index_or knots i a) (slice_index_or knots (i + 1) a) (slice_index_or knots (i + 1 + 1) a)
    (drop (i + 1 + 1 + 1) knots) lt

walk-ends : (S : ℕ) (x : ℤ) (knots : List Knot) (i : ℕ) (a : Knot) → WalkedTo S x knots i → i + 1 + 1 ≡ length knots
    → value_at S knots x ≡ between S (slice_index_or knots i a) (slice_index_or knots (i + 1) a) x
walk-ends S x knots i a walked h = walked a ∙ ap (λ (ks : List Knot). value_from S (slice_index_or knots i a) ks x)
    (one-more knots (i + 1) a h)

-- ---- the points of a volume curve

abbrev pub nothing : VolumePoint
nothing = record { level = pos 0; volume = pos 0 }

point-at : (known : Known) (points : List VolumePoint) (i : ℕ) (a : Knot) → i < length points
    → slice_index_or (knots_by known points) i a ≡ knot_by known (slice_index_or points i nothing)
point-at known points i a h = get_or-map (knot_by known) points i nothing a h

as-many : (known : Known) (points : List VolumePoint) → length (knots_by known points) ≡ length points
as-many known points = length-map points (knot_by known)

-- neighbours on a volume curve
record Follow (p q : VolumePoint) : Type 0 where
  higher : p.level <ℤ q.level
  fuller : p.volume <ℤ q.volume
  lows : unsigned_abs p.level ≤ 10 ^ 17
  highs : unsigned_abs q.level ≤ 10 ^ 17
  some : pos 0 ≤ℤ p.volume
  most : q.volume ≤ℤ pos (10 ^ 18)

follow : (points : List VolumePoint) (i : ℕ) → IsVolumeCurve points → i + 1 < length points
    → Follow (slice_index_or points i nothing) (slice_index_or points (i + 1) nothing)
follow points i curve h =
    let levels = curve.levels_rise i (i + 1) (pos 0) (omega arith)
    (let n = length-map points (λ (p : VolumePoint). p.level) in omega (arith, n)) in
    let volumes = curve.volumes_rise i (i + 1) (pos 0) (omega arith)
    (let n = length-map points (λ (p : VolumePoint). p.volume) in omega (arith, n)) in
    let la = get_or-map (λ (p : VolumePoint). p.level) points i nothing (pos 0) (omega arith) in
    let lb = get_or-map (λ (p : VolumePoint). p.level) points (i + 1) nothing (pos 0) h in
    let va = get_or-map (λ (p : VolumePoint). p.volume) points i nothing (pos 0) (omega arith) in
    let vb = get_or-map (λ (p : VolumePoint). p.volume) points (i + 1) nothing (pos 0) h in
    let p = curve.levels i nothing (omega arith) in
    let q = curve.levels (i + 1) nothing h in
    let r = curve.volumes i nothing (omega arith) in
    let s = curve.volumes (i + 1) nothing h in
    record {
      higher = omega (arith, ints, levels, la, lb);
      fuller = omega (arith, ints, volumes, va, vb);
      lows = omega (arith, ints, p.at_least, p.at_most);
      highs = omega (arith, ints, q.at_least, q.at_most);
      some = r.at_least;
      most = s.at_most;
    }

are-neighbours : (known : Known) (p q : VolumePoint) → Follow p q → AreNeighbours (knot_by known p) (knot_by known q)
are-neighbours Level p q f =
    let higher = f.higher in
    let fuller = f.fuller in
    let lows = f.lows in
    let highs = f.highs in
    let some = f.some in
    let most = f.most in
    let wide : unsigned_abs (q.level -ℤ p.level) ≤ 2 * 10 ^ 17 = omega (arith, ints, lows, highs, higher) in
    let rise : unsigned_abs (q.volume -ℤ p.volume) ≤ 10 ^ 18 = omega (arith, ints, some, most, fuller) in
    record {
      apart = higher;
      rising = omega (arith, ints, fuller);
      first_place = omega (arith, lows);
      second_place = omega (arith, highs);
      first_value = omega (arith, ints, some, most, fuller);
      second_value = omega (arith, ints, some, most, fuller);
      width = omega (arith, wide);
      rise = rise;
      small = mul-le-mul wide rise;
    }
are-neighbours Volume p q f =
    let higher = f.higher in
    let fuller = f.fuller in
    let lows = f.lows in
    let highs = f.highs in
    let some = f.some in
    let most = f.most in
    let rise : unsigned_abs (q.level -ℤ p.level) ≤ 2 * 10 ^ 17 = omega (arith, ints, lows, highs, higher) in
    let wide : unsigned_abs (q.volume -ℤ p.volume) ≤ 10 ^ 18 = omega (arith, ints, some, most, fuller) in
    record {
      apart = fuller;
      rising = omega (arith, ints, higher);
      first_place = omega (arith, ints, some, most, fuller);
      second_place = omega (arith, ints, some, most, fuller);
      first_value = omega (arith, lows);
      second_value = omega (arith, highs);
      width = wide;
      rise = omega (arith, rise);
      small = mul-le-mul wide rise;
    }

pub neighbours : (known : Known) (points : List VolumePoint) (i : ℕ) → IsVolumeCurve points → i + 1 < length points
    → AreNeighbours (knot_by known (slice_index_or points i nothing))
    (knot_by known (slice_index_or points (i + 1) nothing))
neighbours known points i curve h = are-neighbours known (slice_index_or points i nothing)
    (slice_index_or points (i + 1) nothing) (follow points i curve h)

-- ---- the value on a volume curve

-- the walk has come to point number i, which lies at the place or before it
pub record HasCome (known : Known) (scale : ℕ) (points : List VolumePoint) (x : ℤ) (i : ℕ) : Type 0 where
  pub walked : WalkedTo scale x (knots_by known points) i
  pub from : IsFrom scale x (knot_by known (slice_index_or points i nothing))

pub come_first : (known : Known) (scale : ℕ) (points : List VolumePoint) (x : ℤ) → 0 < length points
    → IsOnCurve known scale points x → HasCome known scale points x 0
come_first known scale points x h on = record {
  walked = λ a. begins scale x (knots_by known points) a (let n = as-many known points in omega (arith, n));
  from = on.from_first nothing;
}

pub come_on : (known : Known) (scale : ℕ) (points : List VolumePoint) (x : ℤ) (i : ℕ) → HasCome known scale points x i
    → i + 1 + 1 < length points
    → IsFrom scale x (knot_by known (slice_index_or points (i + 1) nothing)) → HasCome known scale points x (i + 1)
come_on known scale points x i come h from = record {
  walked = walk-on scale x (knots_by known points) i come.walked (let n = as-many known points in omega (arith, n))
      (λ a. let e = point-at known points (i + 1) a (omega arith) in rw e from);
  from = from;
}

line-between : (scale : ℕ) (p q : Knot) (x : ℤ) → p.place <ℤ q.place → on_line scale p q x ≡ between scale p q x
line-between scale p q x apart = let t = lt-from p.place q.place apart in sym (rw t refl)

pub value_here : (known : Known) (scale : ℕ) (points : List VolumePoint) (x : ℤ) (i : ℕ) → IsVolumeCurve points
    → HasCome known scale points x i → i + 1 + 1 < length points
    → x <ℤ (pos scale *ℤ (knot_by known (slice_index_or points (i + 1) nothing)).place)
    → on_line scale (knot_by known (slice_index_or points i nothing))
    (knot_by known (slice_index_or points (i + 1) nothing)) x ≡ value_at scale (knots_by known points) x
value_here known scale points x i curve come h lt =
    let a = knot_by known nothing in
    let e = point-at known points i a (omega arith) in
    let f = point-at known points (i + 1) a (omega arith) in
    let n = neighbours known points i curve (omega arith) in
    let stop = walk-stops scale x (knots_by known points) i a come.walked (let m = as-many known points in
    omega (arith, m)) (rw f lt) in
    line-between scale (knot_by known (slice_index_or points i nothing))
    (knot_by known (slice_index_or points (i + 1) nothing)) x n.apart
    ∙ sym (rw (e, f) at stop)

pub value_last : (known : Known) (scale : ℕ) (points : List VolumePoint) (x : ℤ) (i : ℕ) → IsVolumeCurve points
    → HasCome known scale points x i → i + 1 + 1 ≡ length points
    → on_line scale (knot_by known (slice_index_or points i nothing))
    (knot_by known (slice_index_or points (i + 1) nothing)) x ≡ value_at scale (knots_by known points) x
value_last known scale points x i curve come h =
    let a = knot_by known nothing in
    let e = point-at known points i a (omega arith) in
    let f = point-at known points (i + 1) a (omega arith) in
    let n = neighbours known points i curve (omega arith) in
    let stop = walk-ends scale x (knots_by known points) i a come.walked (let m = as-many known points in
    omega (arith, m, h)) in
    line-between scale (knot_by known (slice_index_or points i nothing))
    (knot_by known (slice_index_or points (i + 1) nothing)) x n.apart
    ∙ sym (rw (e, f) at stop)

pub neighbours_at : (known : Known) (points : List VolumePoint) (i j : ℕ) → IsVolumeCurve points → j ≡ i + 1
    → j < length points
    → AreNeighbours (knot_by known (slice_index_or points i nothing)) (knot_by known (slice_index_or points j nothing))
neighbours_at known points i j curve e h =
    subst (λ (k : ℕ). AreNeighbours (knot_by known (slice_index_or points i nothing))
    (knot_by known (slice_index_or points k nothing))) (sym e)
    (neighbours known points i curve (omega arith))

pub value_at_last : (known : Known) (scale : ℕ) (points : List VolumePoint) (x : ℤ) (i j : ℕ) → IsVolumeCurve points
    → HasCome known scale points x i → j ≡ i + 1 → j + 1 ≡ length points
    → on_line scale (knot_by known (slice_index_or points i nothing))
    (knot_by known (slice_index_or points j nothing)) x ≡ value_at scale (knots_by known points) x
value_at_last known scale points x i j curve come e h =
    subst (λ (k : ℕ). on_line scale (knot_by known (slice_index_or points i nothing))
    (knot_by known (slice_index_or points k nothing)) x ≡ value_at scale (knots_by known points) x) (sym e)
    (value_last known scale points x i curve come (omega arith))

-- the same line by equal knots and places
pub line_along : (scale : ℕ) (p k q l : Knot) (x y : ℤ) → p ≡ k → q ≡ l → x ≡ y
    → on_line scale p q x ≡ on_line scale k l y
line_along scale p k q l x y e f g =
    ap (λ (m : Knot). on_line scale m q x) e ∙ ap (λ (m : Knot). on_line scale k m x) f
    ∙ ap (λ (z : ℤ). on_line scale k l z) g

-- ---- the first and the last value

ordered : (known : Known) (points : List VolumePoint) (i j : ℕ) → IsVolumeCurve points → i < j → j < length points
    → (knot_by known (slice_index_or points i nothing)).value ≤ℤ (knot_by known (slice_index_or points j nothing)).value
ordered Level points i j curve below within =
    let volumes = curve.volumes_rise i j (pos 0) below (let n = length-map points (λ (p : VolumePoint). p.volume) in
    omega (arith, n)) in
    let a = get_or-map (λ (p : VolumePoint). p.volume) points i nothing (pos 0) (omega arith) in
    let b = get_or-map (λ (p : VolumePoint). p.volume) points j nothing (pos 0) within in
    omega (arith, ints, volumes, a, b)
ordered Volume points i j curve below within =
    let levels = curve.levels_rise i j (pos 0) below (let n = length-map points (λ (p : VolumePoint). p.level) in
    omega (arith, n)) in
    let a = get_or-map (λ (p : VolumePoint). p.level) points i nothing (pos 0) (omega arith) in
    let b = get_or-map (λ (p : VolumePoint). p.level) points j nothing (pos 0) within in
    omega (arith, ints, levels, a, b)

in_order : (known : Known) (points : List VolumePoint) (i j : ℕ) → IsVolumeCurve points → i ≤ j → j < length points
    → (knot_by known (slice_index_or points i nothing)).value ≤ℤ (knot_by known (slice_index_or points j nothing)).value
in_order known points i j curve upto within = elim (cases_lt i j) [
  | inl below ↦ ordered known points i j curve below within
  | inr from ↦ subst (λ (k : ℕ). (knot_by known (slice_index_or points i nothing)).value
      ≤ℤ (knot_by known (slice_index_or points k nothing)).value)
      (let e : i ≡ j = omega (arith, upto, from) in e) (omega (arith, ints))
]

same-point : (points : List VolumePoint) (k : ℕ) (d : VolumePoint) → k < length points
    → slice_index_or points k d ≡ slice_index_or points k nothing
same-point points k d h = get_or_default points k d nothing h

pub from_first : (known : Known) (points : List VolumePoint) (scale i : ℕ) (v : ℤ) (m : Mixed) → IsVolumeCurve points
    → i < length points
    → v ≡ (knot_by known (slice_index_or points i nothing)).value → IsAtLeast scale v m
    → HoldsAt (λ point. IsAtLeast scale (knot_by known point).value m) points 0
from_first known points scale i v m curve within e at d =
    let o = in_order known points 0 i curve (omega arith) within in
    let f = ap (λ (p : VolumePoint). (knot_by known p).value) (same-point points 0 d (omega arith)) in
    let l = times_rises m.of (pos scale *ℤ (knot_by known (slice_index_or points 0 d)).value) (pos scale *ℤ v)
    (times_rises scale (knot_by known (slice_index_or points 0 d)).value v (omega (arith, ints, o, e, f))) in
    omega (arith, ints, l, at)

pub to_last : (known : Known) (points : List VolumePoint) (scale i : ℕ) (v : ℤ) (m : Mixed) → IsVolumeCurve points
    → i < length points
    → v ≡ (knot_by known (slice_index_or points i nothing)).value → IsAtMost scale v m
    → HoldsAt (λ point. IsAtMost scale (knot_by known point).value m) points (length points - 1)
to_last known points scale i v m curve within e at d =
    let o = in_order known points i (length points - 1) curve (omega arith) (omega arith) in
    let f = ap (λ (p : VolumePoint). (knot_by known p).value) (same-point points (length points - 1) d (omega arith)) in
    let l = times_rises m.of (pos scale *ℤ v)
    (pos scale *ℤ (knot_by known (slice_index_or points (length points - 1) d)).value)
    (times_rises scale v (knot_by known (slice_index_or points (length points - 1) d)).value
    (omega (arith, ints, o, e, f))) in
    omega (arith, ints, l, at)
