-- Volumes that are kept of a tank of a sound network are at most the limit of volumes.
use Rattle.std.proofs.Common.{◌≡◌, ℕ, ◌-◌, ◌*◌, ◌^◌, ◌≤◌, ℤ, pos, ◌+ℤ◌, ◌-ℤ◌, ◌*ℤ◌, ◌≤ℤ◌, ◌<ℤ◌}
use Rattle.std.proofs.Common.{refl, ap, subst, ◌∙◌, arith, List, [], ◌∷◌, length}
use Rattle.std.specs.Prelude.{unsigned_abs, int_lt, map, slice_index_or}
use Rattle.std.proofs.Math.Nat.{mul_comm}
use Rattle.std.proofs.lemmas.Int.{ints}
use Rattle.std.proofs.lemmas.Bool.{cond_both}
use Rattle.hyd_num.specs.Rational.{Rational, floor}
use Rattle.hyd_num.proofs.Integers.{times_plus, times_rises, times_reflects, one_times}
use Rattle.hyd_net.specs.Curves.{AreRising, on_line, between, value_from, volume_at, volume_knots}
use Rattle.hyd_net.specs.NumberRanges.{Lies, volume_limit}
use Rattle.hyd_spec.specs.ProgramTypes.{Tank, VolumePoint}
use Rattle.hyd_lemmas.proofs.Integers.{floor_low, floor_greatest}
use Rattle.hyd_lemmas.proofs.BooleanTests.{lt-no, lt-yes}
use Rattle.hyd_theorems_on_definitions.proofs.StocksInIntervals.{pairs-tail}
use Rattle.hyd_theorems_on_definitions.proofs.RisingLines.{line, line-is, difference-is, from-first, some-den}
use Rattle.hyd_theorems_on_definitions.proofs.CurveLevels.{Rises, AreRisingPoints, at-level, volumes-climb}
use Rattle.hyd_net.specs.NetworkRanges.{IsShapeOf}

-- a value is at most a number
abbrev IsUpTo : Rational → ℤ → Type 0
IsUpTo r most = r.num ≤ℤ (pos r.den *ℤ most)

-- a line is at most its end up to there
line-up : (W D : ℕ) (place value x : ℤ) → x ≤ℤ (place +ℤ pos W)
    → line 1 W D place value x ≤ℤ (pos W *ℤ (value +ℤ pos D))
line-up W D place value x le =
    let a = times_rises D (x -ℤ (pos 1 *ℤ place)) (pos W) (omega (arith, ints, le, one_times place)) in
    let b : pos D *ℤ pos W ≡ pos W *ℤ pos D = ap (λ (n : ℕ). pos n) (mul_comm D W) in
    let c : pos (1 * W) *ℤ value ≡ pos W *ℤ value =
    ap (λ (n : ℕ). pos n *ℤ value) (let e : 1 * W ≡ W = omega arith in e) in
    omega (arith, ints, a, b, c, times_plus W value (pos D))

-- between two points a volume is at most the second's
between-up : (p q : VolumePoint) (x : ℤ) → Rises p q → x ≤ℤ q.level
    → IsUpTo (between 1 (at-level p) (at-level q) x) q.volume
between-up p q x rises le =
    let W = unsigned_abs (q.level -ℤ p.level) in
    let D = unsigned_abs (q.volume -ℤ p.volume) in
    let later : p.level ≤ℤ q.level = (let l = rises.levels in omega (arith, ints, l)) in
    let higher : p.volume ≤ℤ q.volume = (let v = rises.volumes in omega (arith, ints, v)) in
    let place = difference-is p.level q.level later in
    let value : p.volume +ℤ pos D ≡ q.volume = (let d = difference-is p.volume q.volume higher in
    omega (arith, ints, d)) in
    cond_both (int_lt p.level q.level) (on_line 1 (at-level p) (at-level q) x) _ (λ (r : Rational). IsUpTo r q.volume)
    (λ e. rw (line-is 1 (at-level p) (at-level q) x (record { later = later; higher = higher }))
    (subst (λ (z : ℤ). line 1 W D p.level p.volume x ≤ℤ (pos W *ℤ z)) value
    (line-up W D p.level p.volume x (omega (arith, ints, place, le)))))
    (λ e. absurd (let n = lt-no p.level q.level e in let l = rises.levels in omega (arith, ints, n, l)))

-- the last of points
abbrev last_of : VolumePoint → List VolumePoint → VolumePoint
last_of p [] = p
last_of p (q ∷ rest) = last_of q rest

last-there : (p : VolumePoint) (points : List VolumePoint) (d : VolumePoint)
    → slice_index_or (p ∷ points) (length points) d ≡ last_of p points
last-there p [] d = refl
last-there p (q ∷ rest) d = last-there q rest d

last-highest : (p : VolumePoint) (points : List VolumePoint) → AreRisingPoints p points
    → p.volume ≤ℤ (last_of p points).volume
last-highest p [] rising = omega (arith, ints)
last-highest p (q ∷ rest) rising =
    let l = rising.0.volumes in
    let h = last-highest q rest rising.1 in
    omega (arith, ints, l, h)

raised : (r : Rational) (a b : ℤ) → a ≤ℤ b → IsUpTo r a → IsUpTo r b
raised r a b le up = let t = times_rises r.den a b le in omega (arith, ints, t, up)

-- up to the last point a volume is at most the last one's
from-up : (p : VolumePoint) (points : List VolumePoint) (x : ℤ) → AreRisingPoints p points
    → x ≤ℤ (last_of p points).level → IsUpTo (value_from 1 (at-level p) (volume_knots points) x) (last_of p points).volume
from-up p [] x rising le = omega (arith, ints, one_times p.volume)
from-up p (q ∷ []) x rising le = between-up p q x rising.0 le
from-up p (q ∷ (r ∷ rest)) x rising le =
    cond_both (int_lt x (pos 1 *ℤ q.level)) (between 1 (at-level p) (at-level q) x)
    (value_from 1 (at-level q) (volume_knots (r ∷ rest)) x) (λ (v : Rational). IsUpTo v (last_of r rest).volume)
    (λ e. raised (between 1 (at-level p) (at-level q) x) q.volume (last_of r rest).volume
    (last-highest q (r ∷ rest) rising.1)
    (between-up p q x rising.0 (let l = lt-yes x (pos 1 *ℤ q.level) e in omega (arith, ints, l, one_times q.level))))
    (λ e. from-up q (r ∷ rest) x rising.1 le)

rising-points : (p : VolumePoint) (points : List VolumePoint)
    → AreRising (map (λ (q : VolumePoint). q.level) (p ∷ points))
    → AreRising (map (λ (q : VolumePoint). q.volume) (p ∷ points)) → AreRisingPoints p points
rising-points p [] levels volumes = tt
rising-points p (q ∷ rest) levels volumes = (
  record {
    levels = levels 0 1 (pos 0) (omega arith) (omega arith);
    volumes = volumes 0 1 (pos 0) (omega arith) (omega arith);
  },
  rising-points q rest (pairs-tail (λ a b. a <ℤ b) p.level (map (λ (k : VolumePoint). k.level) (q ∷ rest)) levels)
      (pairs-tail (λ a b. a <ℤ b) p.volume (map (λ (k : VolumePoint). k.volume) (q ∷ rest)) volumes),
)

-- the volume at a level of a tank with a curve
pub volume_small : (tank : Tank) (points : List VolumePoint) (level : ℤ) → IsShapeOf tank points
    → Lies tank.minimum tank.maximum level → unsigned_abs (volume_at points level) ≤ 10 ^ 18
volume_small tank [] level shape lies = absurd (let two = shape.curve.two in omega (arith, two))
volume_small tank (p ∷ rest) level shape lies =
    let curve = shape.curve in
    let two = curve.two in
    let rising = rising-points p rest curve.levels_rise curve.volumes_rise in
    let r = value_from 1 (at-level p) (volume_knots rest) level in
    let some = some-den 1 (at-level p) (volume_knots rest) level in
    let place : length (p ∷ rest) - 1 ≡ length rest = omega arith in
    let there : slice_index_or (p ∷ rest) (length (p ∷ rest) - 1) p ≡ last_of p rest =
    ap (λ (n : ℕ). slice_index_or (p ∷ rest) n p) place ∙ last-there p rest p in
    let top : tank.maximum ≤ℤ (last_of p rest).level =
    subst (λ (q : VolumePoint). tank.maximum ≤ℤ q.level) there (shape.to_maximum p) in
    let from = shape.from_minimum p in
    let least = lies.at_least in
    let most = lies.at_most in
    let up = from-up p rest level rising (omega (arith, ints, most, top)) in
    let low = from-first 1 (at-level p) (volume_knots rest) level (volumes-climb p rest rising)
    (omega (arith, ints, one_times p.level, from, least)) in
    let one : (pos r.den *ℤ (pos 1 *ℤ p.volume)) ≡ (pos r.den *ℤ p.volume) =
    ap (λ (z : ℤ). pos r.den *ℤ z) (one_times p.volume) in
    let above = floor_greatest r p.volume some (omega (arith, ints, low, one)) in
    let fl = floor_low r some in
    let below = times_reflects r.den (floor r) (last_of p rest).volume some (omega (arith, ints, fl, up)) in
    let first = (curve.volumes 0 p (omega (arith, two))).at_least in
    let last : (last_of p rest).volume ≤ℤ pos volume_limit =
    subst (λ (q : VolumePoint). q.volume ≤ℤ pos volume_limit) there
    (curve.volumes (length (p ∷ rest) - 1) p (omega (arith, two))).at_most in
    omega (arith, ints, above, below, first, last)
