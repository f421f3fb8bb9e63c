-- Straight lines between two knots.
use Rattle.std.proofs.Common.{◌≡◌, ◌*◌, ◌/◌, ◌≤◌, ℕ, ℤ, pos, negsuc, ◌+ℤ◌, ◌-ℤ◌, ◌*ℤ◌, ◌≤ℤ◌, ◌<ℤ◌, false}
use Rattle.std.proofs.Common.{unsigned_abs, refl, sym, ap, ◌∙◌, arith}
use Rattle.std.specs.Prelude.{int_le}
use Rattle.std.proofs.lemmas.Int.{ints}
use lib.Signed.{le_z}
use Rattle.std.proofs.Math.IntN.{*ℤ_comm}
use Rattle.std.specs.Int.{int_div_euclid}
use Rattle.hyd_num.specs.Rational.{floor, whole, is_at_most}
use Rattle.hyd_num.proofs.Integers.{times_rises, times_plus, times_one, one_times, both_below, times_one_right}
use Rattle.hyd_net.specs.Curves.{Knot, on_line, between}
use Rattle.hyd_lemmas.proofs.KnotLines.{on_line_is}
use Rattle.hyd_lemmas.proofs.BooleanTests.{lt_z-yes}

pub width_is : (a b : Knot) (d : ℤ) → a.place <ℤ b.place → b.place -ℤ a.place ≡ pos (on_line 1 a b d).den
width_is a b d less = omega (arith, ints)

not_le : (a b : ℤ) → b <ℤ a → false ≡ int_le a b
not_le a b less = grind (arith, ints)

-- the value between two knots, cut
pub floor_is : (a b : Knot) (d n w r : ℤ) → a.place <ℤ b.place → n ≡ (on_line 1 a b d).num
    → w ≡ b.place -ℤ a.place → r ≡ int_div_euclid n w → r ≡ floor (between 1 a b d)
floor_is a b d n w r less e f g =
    let den : w ≡ pos (on_line 1 a b d).den = f ∙ width_is a b d less in
    g ∙ rw (e, den) (ap floor (on_line_is a b d less))

over_1 : (z : ℤ) → int_div_euclid z (pos 1) ≡ z
over_1 (pos n) = ap pos (let e : n / 1 ≡ n = omega arith in e)
over_1 (negsuc n) = ap negsuc (let e : n / 1 ≡ n = omega arith in e)

-- of a whole number
pub floor_whole : (z : ℤ) → floor (whole (pos 1 *ℤ z)) ≡ z
floor_whole z = ap (λ (x : ℤ). floor (whole x)) (one_times z) ∙ over_1 z

-- a quotient is no greater than what is divided
pub quotient_small : (n w r : ℤ) → pos 0 <ℤ w → r ≡ int_div_euclid n w → unsigned_abs r ≤ unsigned_abs n
quotient_small (pos a) (pos b) r lt_z-yes e = rw e (let l : a / b ≤ a = omega arith in l)
quotient_small (negsuc a) (pos b) r lt_z-yes e = rw e (let l : a / b ≤ a = omega arith in omega (arith, l))
quotient_small n (negsuc b) r lt_z-yes e = absurd (omega (arith, ints, lt_z-yes))

-- ---- against a bound

-- the line at 0 is at most a bound
pub low_is : (a b : Knot) (most n w : ℤ) → a.place <ℤ b.place → n ≡ (on_line 1 a b (pos 0)).num
    → w ≡ b.place -ℤ a.place
    → le_z n (most *ℤ w) ≡ is_at_most (on_line 1 a b (pos 0)) (whole most)
low_is a b most n w less e f =
    let den : w ≡ pos (on_line 1 a b (pos 0)).den = f ∙ width_is a b (pos 0) less in
    let num : n ≡ (on_line 1 a b (pos 0)).num *ℤ pos 1 = e ∙ sym (times_one_right (on_line 1 a b (pos 0)).num) in
    rw (den, num) refl

-- a line that falls from lt_z-yes a bound, at 0 or beyond it
pub high_is : (a b : Knot) (most : ℤ) → a.place <ℤ b.place → pos 0 ≤ℤ a.place → b.value ≤ℤ a.value
    → most <ℤ a.value → false ≡ is_at_most (on_line 1 a b (pos 0)) (whole most)
high_is a b most less forward falls above =
    let x = on_line 1 a b (pos 0) in
    let w : ℕ = x.den in
    let wide : pos w ≡ b.place -ℤ a.place = sym (width_is a b (pos 0) less) in
    let back : pos 0 ≤ℤ ((b.value -ℤ a.value) *ℤ (pos 0 -ℤ (pos 1 *ℤ a.place))) =
    both_below (b.value -ℤ a.value) (pos 0 -ℤ (pos 1 *ℤ a.place)) (omega (arith, ints, falls)) (omega (
      arith,
      ints,
      one_times a.place,
      forward,
    )) in
    let up : (pos w *ℤ (most +ℤ pos 1)) ≤ℤ (pos w *ℤ a.value) =
    times_rises w (most +ℤ pos 1) a.value (omega (arith, ints, lt_z-yes)) in
    let one : 1 * w ≡ w = omega arith in
    let num : x.num ≡ (pos w *ℤ a.value) +ℤ ((b.value -ℤ a.value) *ℤ (pos 0 -ℤ (pos 1 *ℤ a.place))) = rw one refl in
    let same : x.num *ℤ pos 1 ≡ x.num = times_one_right x.num in
    let turn : most *ℤ pos w ≡ pos w *ℤ most = *ℤ_comm most (pos w) in
    let beyond : (most *ℤ pos w) <ℤ (x.num *ℤ pos 1) =
    omega (arith, ints, back, up, times_plus w most (pos 1), times_one w, num, same, turn, wide, less) in
    not_le _ _ beyond
