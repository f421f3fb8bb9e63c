-- Mixed numbers, and the value on the line of two knots at a scale as one.
use Rattle.std.proofs.Common.{◌≡◌, ℕ, ◌+◌, ◌*◌, ◌/◌, ◌%◌, ◌^◌, ◌<◌, ◌≤◌, ℤ, pos, ◌+ℤ◌, ◌-ℤ◌, ◌*ℤ◌, ◌≤ℤ◌}
use Rattle.std.proofs.Common.{unsigned_abs, inl, inr, refl, sym, ap, ◌∙◌, arith}
use Rattle.std.proofs.lemmas.Int.{ints, unsigned_abs-mul}
use Rattle.std.proofs.lemmas.Nat.{div-add-mod'}
use Rattle.std.proofs.lemmas.Bool.{cases_lt}
use Rattle.std.proofs.lemmas.Grind.{div_ceil_times}
use Rattle.std.specs.Int.{div_ceil}
use Rattle.std.proofs.Math.Nat.{mul_comm, mul-le-mul, mul-le-mul_left, mul-le-mul_right}
use Rattle.hyd_num.proofs.Integers.{times_plus, times_minus, times_times}
use Rattle.hyd_num.specs.Rational.{Rational, floor, ceiling}
use Rattle.hyd_net.specs.Curves.{Knot as Place, on_line}
use Rattle.hyd_lemmas.proofs.Integers.{exchanged}
use Rattle.hyd_tank.proofs.MixedNumbers.{floor-is, ceiling-is}
use Rattle.hyd_stocks_at_scale.specs.declared.volume_curve.Mixed.{Mixed}
use Rattle.hyd_stocks_at_scale.specs.VolumeCurves.{value_of, times_value, IsAtLeast, IsAtMost, finest}
use Rattle.hyd_stocks_at_scale.specs.VolumeCurves.{AreNeighbours}

-- ---- whole numbers at a mixed number

-- a number of times a mixed number, over one denominator
spread : (times : ℕ) (m : Mixed) → (times_value times m).num ≡ (pos m.of *ℤ (pos times *ℤ m.whole))
    +ℤ pos (times * m.part)
spread times m = times_plus times (pos m.of *ℤ m.whole) (pos m.part) ∙ ap (λ (z : ℤ). z +ℤ pos (times * m.part))
    (exchanged m.of times m.whole)

pub floor_of_mixed : (times : ℕ) (m : Mixed) → 0 < m.of → (pos times *ℤ m.whole) +ℤ pos (times * m.part / m.of)
    ≡ floor (times_value times m)
floor_of_mixed times m some =
    let p = times * m.part in
    sym (floor-is m.of (times_value times m).num ((pos times *ℤ m.whole) +ℤ pos (p / m.of)) (pos (p % m.of)) some
    (let e = spread times m in
    let f = times_plus m.of (pos times *ℤ m.whole) (pos (p / m.of)) in
    let parts : pos p ≡ pos (m.of * (p / m.of)) +ℤ pos (p % m.of) = omega (arith, ints, some) in
    omega (arith, ints, e, f, parts))
    (omega (arith, ints)) (omega (arith, ints, some)))

pub ceiling_of_mixed : (times : ℕ) (m : Mixed) → 0 < m.of → (pos times *ℤ m.whole)
    +ℤ pos (div_ceil (times * m.part) m.of) ≡ ceiling (times_value times m)
ceiling_of_mixed times m some =
    let p = times * m.part in
    let c = div_ceil p m.of in
    let b = div_ceil_times p m.of some in
    let turned = mul_comm c m.of in
    sym (ceiling-is m.of (times_value times m).num ((pos times *ℤ m.whole) +ℤ pos c) (pos (c * m.of) -ℤ pos p) some
    (let e = spread times m in
    let f = times_plus m.of (pos times *ℤ m.whole) (pos c) in
    omega (arith, ints, e, f, turned))
    (omega (arith, ints, b.0)) (omega (arith, ints, b.1)))

-- a quotient is at most what is divided
pub quotient_within : (n d : ℕ) → 0 < d → n / d ≤ n
quotient_within n d some = let m = mul-le-mul_right (n / d) some in let e = div-add-mod' n d in omega (arith, m, e)

pub ceiling_within : (n d : ℕ) → 0 < d → div_ceil n d ≤ n + 1
ceiling_within n d some = elim (cases_lt (n + 1) (div_ceil n d)) [
  | inl over ↦ absurd (
      let b = (div_ceil_times n d some).1 in
      let m = mul-le-mul over (let o : 1 ≤ d = omega (arith, some) in o) in
      let k = mul-le-mul_left (n + 1) (let o : 1 ≤ d = omega (arith, some) in o) in
      let l = mul-le-mul_right d over in
      omega (arith, b, m, k, l, some))
  | inr le ↦ le
]

-- ---- so many times a whole number

pub times_whole : (times limit : ℕ) (z : ℤ) → unsigned_abs z ≤ limit → unsigned_abs (pos times *ℤ z) ≤ times * limit
times_whole times limit z small =
    rw (unsigned_abs-mul (pos times) z) (mul-le-mul_left times small)

-- ---- a product in two steps

pub share_is : (rise beyond width : ℕ) → rise * beyond ≡ width * (rise * (beyond / width)
    + rise * (beyond % width) / width)
    + rise * (beyond % width) % width
share_is rise beyond width =
    let d = ap (λ (n : ℕ). rise * n) (div-add-mod' beyond width) in
    let e = div-add-mod' (rise * (beyond % width)) width in
    omega (arith, d, e)

-- the rest's product stays small
pub rest_small : (rise beyond width limit : ℕ) → 0 < width → rise * width ≤ limit → rise * (beyond % width) ≤ limit
rest_small rise beyond width limit some area =
    let r : beyond % width ≤ width = omega (arith, some) in
    let m = mul-le-mul_left rise r in
    omega (arith, m, area)

-- the quotient is small
pub steps_small : (beyond width limit : ℕ) → 0 < width → beyond ≤ limit * width → beyond / width ≤ limit
steps_small beyond width limit some within = elim (cases_lt limit (beyond / width)) [
  | inl over ↦ absurd (
      let m = mul-le-mul_left width over in
      let d = div-add-mod' beyond width in
      omega (arith, m, d, within, some))
  | inr le ↦ le
]

-- a quotient of a product by the greater factor
pub quotient_small : (rise beyond width steps rest : ℕ) → 0 < width → rise * beyond ≡ width * steps + rest
    → beyond ≤ finest * width → rise ≤ 10 ^ 18 → steps ≤ finest * 10 ^ 18
quotient_small rise beyond width steps rest some is within high = elim (cases_lt (finest * 10 ^ 18) steps) [
  | inl over ↦ absurd (
      let m = mul-le-mul_left width over in
      let n = mul-le-mul high within in
      omega (arith, m, n, is, some))
  | inr le ↦ le
]

-- ---- on the line of two knots

module _ (scale : ℕ) (first second : Place) (x : ℤ) (beyond width height : ℕ) (few : scale ≤ finest)
    (n : AreNeighbours first second) (b : pos beyond ≡ x -ℤ (pos scale *ℤ first.place))
    (w : pos width ≡ second.place -ℤ first.place) (h : pos height ≡ second.value -ℤ first.value) where
  pub width_some : 0 < width
  width_some = let apart = n.apart in omega (arith, ints, apart, w)

  pub width_is : unsigned_abs (second.place -ℤ first.place) ≡ width
  width_is = omega (arith, ints, w)

  pub height_is : unsigned_abs (second.value -ℤ first.value) ≡ height
  height_is = omega (arith, ints, h)

  pub beyond_scaled : x ≤ℤ (pos scale *ℤ second.place) → beyond ≤ scale * width
  beyond_scaled to =
      let m = times_minus scale second.place first.place in
      let e : pos scale *ℤ (second.place -ℤ first.place) ≡ pos (scale * width) = ap (λ (z : ℤ). pos scale *ℤ z) (sym w)
      in
      omega (arith, ints, b, to, m, e)

  pub beyond_small : x ≤ℤ (pos scale *ℤ second.place) → beyond ≤ finest * width
  beyond_small to =
      let m = mul-le-mul_right width few in
      omega (arith, m, beyond_scaled to)

  pub area_small : height * width ≤ 2 * 10 ^ 35
  area_small =
      let a = n.small in
      let e : unsigned_abs (second.place -ℤ first.place) * unsigned_abs (second.value -ℤ first.value) ≡ width * height =
      ap (λ (k : ℕ). k * unsigned_abs (second.value -ℤ first.value)) width_is ∙ ap (λ (k : ℕ). width * k) height_is in
      omega (arith, a, e)

  module _ (steps part : ℕ) (is : height * beyond ≡ width * steps + part) (whole : ℤ)
      (at : whole ≡ (pos scale *ℤ first.value) +ℤ pos steps) where
    -- the numerator, in two ways
    numerator-is : (pos width *ℤ whole) +ℤ pos part ≡ (pos (scale * width) *ℤ first.value) +ℤ pos (height * beyond)
    numerator-is =
        let a : pos width *ℤ whole ≡ (pos width *ℤ (pos scale *ℤ first.value)) +ℤ (pos width *ℤ pos steps) =
        ap (λ (z : ℤ). pos width *ℤ z) at ∙ times_plus width (pos scale *ℤ first.value) (pos steps) in
        let c : pos width *ℤ (pos scale *ℤ first.value) ≡ pos (scale * width) *ℤ first.value =
        times_times width scale first.value ∙ ap (λ (k : ℕ). pos k *ℤ first.value) (mul_comm width scale) in
        omega (arith, ints, a, c, is)

    pub line_is : (let m : Mixed = record { whole = whole; part = part; of = width } in value_of m)
        ≡ on_line scale first second x
    line_is =
        let product : pos (height * beyond) ≡ (second.value -ℤ first.value) *ℤ (x -ℤ (pos scale *ℤ first.place)) =
        ap (λ (z : ℤ). z *ℤ pos beyond) h ∙ ap (λ (z : ℤ). (second.value -ℤ first.value) *ℤ z) b in
        let wide : pos (scale * width) *ℤ first.value
        ≡ pos (scale * unsigned_abs (second.place -ℤ first.place)) *ℤ first.value =
        ap (λ (k : ℕ). pos (scale * k) *ℤ first.value) (sym width_is) in
        same ((pos width *ℤ whole) +ℤ pos part)
        ((pos (scale * unsigned_abs (second.place -ℤ first.place)) *ℤ first.value)
        +ℤ ((second.value -ℤ first.value) *ℤ (x -ℤ (pos scale *ℤ first.place)))) width
        (unsigned_abs (second.place -ℤ first.place))
        (numerator-is ∙ ap (λ (z : ℤ). z +ℤ pos (height * beyond)) wide
        ∙ ap (λ (z : ℤ). (pos (scale * unsigned_abs (second.place -ℤ first.place)) *ℤ first.value) +ℤ z) product)
        (sym width_is)
      where
        same : (a c : ℤ) (d e : ℕ) → a ≡ c → d ≡ e → (let r : Rational = record { num = a; den = d } in r)
            ≡ record { num = c; den = e }
        same a c d e f g = rw (f, g) refl

    pub line_from : IsAtLeast scale first.value (record { whole = whole; part = part; of = width })
    line_from =
        let a : pos width *ℤ whole ≡ (pos width *ℤ (pos scale *ℤ first.value)) +ℤ (pos width *ℤ pos steps) =
        ap (λ (z : ℤ). pos width *ℤ z) at ∙ times_plus width (pos scale *ℤ first.value) (pos steps) in
        omega (arith, ints, a)

    pub line_to : x ≤ℤ (pos scale *ℤ second.place)
        → IsAtMost scale second.value (record { whole = whole; part = part; of = width })
    line_to to =
        let within = mul-le-mul_left height (beyond_scaled to) in
        let high : second.value ≡ first.value +ℤ pos height = omega (arith, ints, h) in
        let c : pos width *ℤ (pos scale *ℤ second.value) ≡ pos (scale * width) *ℤ second.value =
        times_times width scale second.value ∙ ap (λ (k : ℕ). pos k *ℤ second.value) (mul_comm width scale) in
        let e : pos (scale * width) *ℤ second.value
        ≡ (pos (scale * width) *ℤ first.value) +ℤ (pos (scale * width) *ℤ pos height) =
        ap (λ (z : ℤ). pos (scale * width) *ℤ z) high ∙ times_plus (scale * width) first.value (pos height) in
        let turned : height * (scale * width) ≡ scale * width * height = mul_comm height (scale * width) in
        omega (arith, ints, within, c, e, turned, numerator-is)

-- a place between two knots, in parts
pub place_small : (scale : ℕ) (first second : Place) (x : ℤ) → scale ≤ finest → AreNeighbours first second
    → (pos scale *ℤ first.place) ≤ℤ x → x ≤ℤ (pos scale *ℤ second.place) → unsigned_abs x ≤ 10 ^ 25
place_small scale first second x few n from to =
    let a = times_whole scale (10 ^ 18) first.place n.first_place in
    let c = times_whole scale (10 ^ 18) second.place n.second_place in
    omega (arith, ints, from, to, a, c, few)
