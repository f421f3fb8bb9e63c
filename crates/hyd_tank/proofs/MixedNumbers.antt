-- Mixed numbers, and the value on the line of two knots as one.
use Rattle.std.proofs.Common.{◌≡◌, ℕ, ◌*◌, ◌/◌, ◌%◌, ◌^◌, ◌<◌, ◌≤◌, ℤ, pos, ◌+ℤ◌, ◌-ℤ◌, ◌*ℤ◌, ◌≤ℤ◌, ◌<ℤ◌, unsigned_abs}
use Rattle.std.proofs.Common.{inl, inr, refl, sym, ap, ◌∙◌, arith, mul-pos, to_z, of_z, w64}
use Rattle.std.specs.Int.{div_ceil, w128}
use Rattle.std.proofs.lemmas.Int.{ints, by_lt_z}
use Rattle.std.proofs.lemmas.Bool.{cases_lt}
use Rattle.std.proofs.lemmas.Grind.{div_ceil_times}
use Rattle.std.proofs.Math.Nat.{mul_comm, mul-le-mul, mul-le-mul_left, mul-le-mul_right}
use Rattle.hyd_num.proofs.Integers.{times_plus, times_minus, times_one, times_rises}
use Rattle.hyd_num.specs.Rational.{Rational, floor, ceiling}
use Rattle.hyd_net.specs.Curves.{Knot as Place}
use Rattle.hyd_net.specs.NumberRanges.{Lies}
use Rattle.hyd_lemmas.proofs.Integers.{exchanged, floor_low, floor_greatest, ceiling_high, ceiling_least}
use Rattle.hyd_tank.specs.declared.volume_curve.Mixed.{Mixed}
use Rattle.hyd_tank.specs.CurveByLevelOrVolume.{value_of, times_value, line_in, AreNeighbours, IsMixed, IsAtLeast}
use Rattle.hyd_tank.specs.CurveByLevelOrVolume.{IsAtMost}

-- ---- whole numbers at a mixed number

pub floor-is : (den : ℕ) (n w r : ℤ) → 0 < den → n ≡ (pos den *ℤ w) +ℤ r → pos 0 ≤ℤ r → r <ℤ pos den
    → floor (record { num = n; den = den }) ≡ w
floor-is den n w r some e low high =
    let x : Rational = record { num = n; den = den } in
    let least = floor_greatest x w some (omega (arith, ints, e, low)) in
    let most : floor x ≤ℤ w = by_lt_z w (floor x)
    (λ lt. absurd (
    let l = times_rises den (w +ℤ pos 1) (floor x) (omega (arith, ints, lt)) in
    let f = floor_low x some in
    omega (arith, ints, l, f, e, high, times_plus den w (pos 1), times_one den)))
    (λ ge. ge) in
    omega (arith, ints, least, most)

pub ceiling-is : (den : ℕ) (n w r : ℤ) → 0 < den → (n +ℤ r) ≡ pos den *ℤ w → pos 0 ≤ℤ r → r <ℤ pos den
    → ceiling (record { num = n; den = den }) ≡ w
ceiling-is den n w r some e low high =
    let x : Rational = record { num = n; den = den } in
    let most = ceiling_least x w some (omega (arith, ints, e, low)) in
    let least : w ≤ℤ ceiling x = by_lt_z (ceiling x) w
    (λ lt. absurd (
    let l = times_rises den (ceiling x +ℤ pos 1) w (omega (arith, ints, lt)) in
    let f = ceiling_high x some in
    omega (arith, ints, l, f, e, high, times_plus den (ceiling x) (pos 1), times_one den)))
    (λ ge. ge) in
    omega (arith, ints, least, most)

-- a number of times a mixed number, over one denominator
spread : (times : ℕ) (m : Mixed) → (times_value times m).num ≡ (pos m.of *ℤ (pos times *ℤ m.whole))
    +ℤ pos (times * m.part)
spread times m = times_plus times (pos m.of *ℤ m.whole) (pos m.part) ∙ ap (λ (z : ℤ). z +ℤ pos (times * m.part))
    (exchanged m.of times m.whole)

pub floor_of_mixed : (times : ℕ) (m : Mixed) → 0 < m.of → (pos times *ℤ m.whole) +ℤ pos (times * m.part / m.of)
    ≡ floor (times_value times m)
floor_of_mixed times m some =
    let p = times * m.part in
    sym (floor-is m.of (times_value times m).num ((pos times *ℤ m.whole) +ℤ pos (p / m.of)) (pos (p % m.of)) some
    (let e = spread times m in
    let f = times_plus m.of (pos times *ℤ m.whole) (pos (p / m.of)) in
    let parts : pos p ≡ pos (m.of * (p / m.of)) +ℤ pos (p % m.of) = omega (arith, ints, some) in
    omega (arith, ints, e, f, parts))
    (omega (arith, ints)) (omega (arith, ints, some)))

pub ceiling_of_mixed : (times : ℕ) (m : Mixed) → 0 < m.of → (pos times *ℤ m.whole)
    +ℤ pos (div_ceil (times * m.part) m.of) ≡ ceiling (times_value times m)
ceiling_of_mixed times m some =
    let p = times * m.part in
    let c = div_ceil p m.of in
    let b = div_ceil_times p m.of some in
    let turned = mul_comm c m.of in
    sym (ceiling-is m.of (times_value times m).num ((pos times *ℤ m.whole) +ℤ pos c) (pos (c * m.of) -ℤ pos p) some
    (let e = spread times m in
    let f = times_plus m.of (pos times *ℤ m.whole) (pos c) in
    omega (arith, ints, e, f, turned))
    (omega (arith, ints, b.0)) (omega (arith, ints, b.1)))

-- ---- how large they are

fraction-share : (times : ℕ) (m : Mixed) → m.part ≤ 10 ^ 18 * m.of → times * m.part ≤ times * 10 ^ 18 * m.of
fraction-share times m share = let a = mul-le-mul_left times share in omega (arith, a)

pub floor_fraction : (times : ℕ) (m : Mixed) → 0 < m.of → m.part ≤ 10 ^ 18 * m.of
    → times * m.part / m.of ≤ times * 10 ^ 18
floor_fraction times m some share = elim (cases_lt (times * 10 ^ 18) (times * m.part / m.of)) [
  | inl over ↦ absurd (
      let l = mul-le-mul_left m.of over in
      let s = fraction-share times m share in
      omega (arith, l, s, some))
  | inr le ↦ le
]

pub ceiling_fraction : (times : ℕ) (m : Mixed) → 0 < m.of → m.part ≤ 10 ^ 18 * m.of → div_ceil (times * m.part) m.of
    ≤ times * 10 ^ 18
ceiling_fraction times m some share = elim (cases_lt (times * 10 ^ 18) (div_ceil (times * m.part) m.of)) [
  | inl over ↦ absurd (
      let l = mul-le-mul_right m.of over in
      let s = fraction-share times m share in
      let b = (div_ceil_times (times * m.part) m.of some).1 in
      omega (arith, l, s, b, some))
  | inr le ↦ le
]

pub times_whole : (times : ℕ) (z : ℤ) → unsigned_abs z ≤ 10 ^ 18 → unsigned_abs (pos times *ℤ z) ≤ times * 10 ^ 18
times_whole times z small =
    let h = times_rises times z (pos (10 ^ 18)) (omega (arith, ints, small)) in
    let l = times_rises times (pos 0 -ℤ pos (10 ^ 18)) z (omega (arith, ints, small)) in
    let n = times_minus times (pos 0) (pos (10 ^ 18)) in
    let zero : pos times *ℤ pos 0 ≡ pos 0 = omega (arith, ints) in
    omega (arith, ints, h, l, n, zero)

-- ---- on the line of two knots

module _ (scale : ℕ) (first second : Place) (x : ℤ) (beyond : ℕ) (some : 0 < scale) (few : scale ≤ 864)
    (n : AreNeighbours first second)
    (b : pos beyond ≡ x -ℤ (pos scale *ℤ first.place)) (to : x ≤ℤ (pos scale *ℤ second.place)) where
  pub beyond_small : beyond ≤ scale * unsigned_abs (second.place -ℤ first.place)
  beyond_small =
      let apart = n.apart in
      let wide : second.place -ℤ first.place ≡ pos (unsigned_abs (second.place -ℤ first.place)) =
      omega (arith, ints, apart) in
      let m = times_minus scale second.place first.place in
      let e : pos scale *ℤ (second.place -ℤ first.place) ≡ pos (scale * unsigned_abs (second.place -ℤ first.place)) =
      ap (λ (z : ℤ). pos scale *ℤ z) wide in
      omega (arith, ints, b, to, m, e)

  pub line_is : (let m : Mixed = record {
    whole = first.value;
    part = unsigned_abs (second.value -ℤ first.value) * beyond;
    of = scale
        * unsigned_abs (second.place -ℤ first.place);
  } in value_of m)
      ≡ line_in scale first second x
  line_is =
      let W = unsigned_abs (second.place -ℤ first.place) in
      let D = unsigned_abs (second.value -ℤ first.value) in
      let rising = n.rising in
      let high : pos D ≡ second.value -ℤ first.value = omega (arith, ints, rising) in
      let part : pos (D * beyond) ≡ (second.value -ℤ first.value) *ℤ (x -ℤ (pos scale *ℤ first.place)) =
      ap (λ (z : ℤ). z *ℤ pos beyond) high ∙ ap (λ (z : ℤ). (second.value -ℤ first.value) *ℤ z) b in
      same_value ((pos (scale * W) *ℤ first.value) +ℤ pos (D * beyond)) ((pos (scale * W) *ℤ first.value)
      +ℤ ((second.value -ℤ first.value) *ℤ (x -ℤ (pos scale *ℤ first.place))))
      (scale * W) (W * scale) (ap (λ (z : ℤ). (pos (scale * W) *ℤ first.value) +ℤ z) part) (mul_comm scale W)
    where
      same_value : (a b : ℤ) (c d : ℕ) → a ≡ b → c ≡ d → (let r : Rational = record {
        num = a;
        den = c;
      } in r) ≡ record { num = b; den = d }
      same_value a b c d e f = rw (e, f) refl

  pub line_small : (times : ℕ) → times * scale ≤ 864
      → IsMixed times (record {
        whole = first.value;
        part = unsigned_abs (second.value -ℤ first.value) * beyond;
        of = scale * unsigned_abs (second.place -ℤ first.place);
      })
  line_small times fits =
      let W = unsigned_abs (second.place -ℤ first.place) in
      let D = unsigned_abs (second.value -ℤ first.value) in
      let apart = n.apart in
      let inner = mul-le-mul_left D beyond_small in
      let area = n.small in
      let scaled = mul-le-mul_left scale area in
      let part : D * beyond ≤ scale * (2 * 10 ^ 35) = omega (arith, inner, scaled) in
      let taken = mul-le-mul_left times part in
      let bound = mul-le-mul_right (2 * 10 ^ 35) fits in
      record {
        some = mul-pos some (omega (arith, ints, apart));
        whole = n.whole;
        share = mul-le-mul n.rise beyond_small;
        small = omega (arith, taken, bound);
      }

-- the value lies between the values of the two knots
pub line_from : (scale : ℕ) (first second : Place) (x : ℤ) (beyond : ℕ)
    → IsAtLeast first.value (record {
      whole = first.value;
      part = unsigned_abs (second.value -ℤ first.value) * beyond;
      of = scale * unsigned_abs (second.place -ℤ first.place);
    })
line_from scale first second x beyond = omega (arith, ints)

pub line_to : (scale : ℕ) (first second : Place) (x : ℤ) (beyond : ℕ) → 0 < scale → scale ≤ 864
    → AreNeighbours first second
    → pos beyond ≡ x -ℤ (pos scale *ℤ first.place) → x ≤ℤ (pos scale *ℤ second.place)
    → IsAtMost second.value (record {
      whole = first.value;
      part = unsigned_abs (second.value -ℤ first.value) * beyond;
      of = scale * unsigned_abs (second.place -ℤ first.place);
    })
line_to scale first second x beyond some few n b to =
    let D = unsigned_abs (second.value -ℤ first.value) in
    let of = scale * unsigned_abs (second.place -ℤ first.place) in
    let rising = n.rising in
    let inner = mul-le-mul_left D (beyond_small scale first second x beyond some few n b to) in
    let high : second.value ≡ first.value +ℤ pos D = omega (arith, ints, rising) in
    let e = ap (λ (z : ℤ). pos of *ℤ z) high ∙ times_plus of first.value (pos D) in
    let turned : D * of ≡ of * D = mul_comm D of in
    omega (arith, ints, inner, e, turned)

-- ---- the same of the code's numbers

pub start_is : (scale : ℕ) (f r z : ℤ) → r ≡ to_z w128 (of_z w128 f) *ℤ to_z w64 (of_z w64 z) → f ≡ pos scale
    → scale ≤ 864 → unsigned_abs z ≤ 10 ^ 18 → r ≡ pos scale *ℤ z
start_is scale f r z e g few small =
    let first : to_z w128 (of_z w128 f) ≡ pos scale = omega (arith, ints, g) in
    let second : to_z w64 (of_z w64 z) ≡ z = omega (arith, ints, small) in
    e ∙ ap (λ (y : ℤ). y *ℤ to_z w64 (of_z w64 z)) first ∙ ap (λ (y : ℤ). pos scale *ℤ y) second

-- how far the place is beyond the first knot
pub difference_small : (scale : ℕ) (first second : Place) (x : ℤ) → scale ≤ 864 → AreNeighbours first second
    → (pos scale *ℤ first.place) ≤ℤ x → x ≤ℤ (pos scale *ℤ second.place)
    → Lies (pos 0) (pos (10 ^ 22)) (x -ℤ (pos scale *ℤ first.place))
difference_small scale first second x few n from to =
    let a = times_whole scale first.place n.first_place in
    let b = times_whole scale second.place n.second_place in
    record { at_least = omega (arith, ints, from); at_most = omega (arith, ints, to, a, b, few) }

pub place_small : (scale : ℕ) (first second : Place) (x : ℤ) → scale ≤ 864 → AreNeighbours first second
    → (pos scale *ℤ first.place) ≤ℤ x → x ≤ℤ (pos scale *ℤ second.place)
    → unsigned_abs x ≤ 10 ^ 22
place_small scale first second x few n from to =
    let a = times_whole scale first.place n.first_place in
    let b = times_whole scale second.place n.second_place in
    omega (arith, ints, from, to, a, b, few)

pub same_mixed : (a b : ℤ) (p q r s : ℕ) → a ≡ b → p ≡ q → r ≡ s → (let m : Mixed = record {
  whole = a;
  part = p;
  of = r;
} in m) ≡ record { whole = b; part = q; of = s }
same_mixed a b p q r s e f g = rw (e, f, g) refl
