-- Integers: floors and ceilings, greatest and least of two, factors.
use Rattle.std.proofs.Common.{◌≡◌, ℕ, suc, ◌*◌, ◌/◌, ◌%◌, ◌<◌, ◌≤◌, ℤ, pos, negsuc, ◌+ℤ◌, ◌*ℤ◌, ◌≤ℤ◌, ◌<ℤ◌, neg_ℤ, sym}
use Rattle.std.proofs.Common.{ap, refl, ◌∙◌, subst, arith, inl, inr, ◌⊎◌}
use Rattle.std.proofs.Math.Nat.{mul_comm}
use Rattle.std.proofs.lemmas.Int.{ints, clamps, by_lt_z}
use Rattle.std.proofs.lemmas.Nat.{div-add-mod'}
use Rattle.std.specs.Int.{int_max, int_min, int_div_euclid}
use Rattle.hyd_num.specs.Rational.{Rational, floor, ceiling, negated, whole}
use Rattle.std.specs.Prelude.{unsigned_abs}
use Rattle.hyd_num.proofs.Integers.{times_plus, times_neg, times_rises, times_reflects, times_times, times_one}

-- ---- floors and ceilings

within : (n d : ℕ) → d * (n / d) ≤ n
within n d = omega (arith, div-add-mod' n d)

beyond : (n d : ℕ) → 0 < d → n < d * suc (n / d)
beyond n d above = let m : n % d < d = omega arith in omega arith

euclid_low : (z : ℤ) (d : ℕ) → 0 < d → (pos d *ℤ int_div_euclid z (pos d)) ≤ℤ z
euclid_low (pos n) d above = omega (arith, ints)
euclid_low (negsuc n) d above = let l : n < d * suc (n / d) = beyond n d above in omega (arith, ints)

euclid_high : (z : ℤ) (d : ℕ) → 0 < d → z <ℤ ((pos d *ℤ int_div_euclid z (pos d)) +ℤ pos d)
euclid_high (pos n) d above = let l : n < d * suc (n / d) = beyond n d above in omega (arith, ints)
euclid_high (negsuc n) d above = let l : d * (n / d) ≤ n = within n d in omega (arith, ints)

-- the floor of x, times its denominator, is at most its numerator, and the ceiling's at least it
pub floor_low : (x : Rational) → 0 < x.den → (pos x.den *ℤ floor x) ≤ℤ x.num
floor_low x above = euclid_low x.num x.den above

pub ceiling_high : (x : Rational) → 0 < x.den → x.num ≤ℤ (pos x.den *ℤ ceiling x)
ceiling_high x above =
    let l : (pos x.den *ℤ floor (negated x)) ≤ℤ neg_ℤ x.num = euclid_low (neg_ℤ x.num) x.den above in
    omega (arith, ints, times_neg x.den (floor (negated x)), l)

-- they are the greatest and the least such number
pub floor_greatest : (x : Rational) (k : ℤ) → 0 < x.den → (pos x.den *ℤ k) ≤ℤ x.num → k ≤ℤ floor x
floor_greatest x k above h = by_lt_z (floor x) k
    (λ lt. absurd (
    let l : x.num <ℤ ((pos x.den *ℤ floor x) +ℤ pos x.den) = euclid_high x.num x.den above in
    let m : (pos x.den *ℤ (floor x +ℤ pos 1)) ≤ℤ (pos x.den *ℤ k) = times_rises x.den (floor x +ℤ pos 1) k
    (omega (arith, ints)) in
    omega (arith, ints, l, m, h, times_plus x.den (floor x) (pos 1), times_one x.den)))
    (λ ge. ge)

pub ceiling_least : (x : Rational) (k : ℤ) → 0 < x.den → x.num ≤ℤ (pos x.den *ℤ k) → ceiling x ≤ℤ k
ceiling_least x k above h =
    let l : neg_ℤ k ≤ℤ floor (negated x) = floor_greatest (negated x) (neg_ℤ k) above
    (omega (arith, ints, times_neg x.den k, h)) in
    omega (arith, ints, l)

pub floor_at_most_ceiling : (x : Rational) → 0 < x.den → floor x ≤ℤ ceiling x
floor_at_most_ceiling x above = times_reflects x.den (floor x) (ceiling x) above
    (let l = floor_low x above in let m = ceiling_high x above in omega (arith, ints, l, m))

-- ---- the greater and the lesser

pub max_left : (a b : ℤ) → a ≤ℤ int_max a b
max_left a b = omega (arith, ints, clamps)

pub max_right : (a b : ℤ) → b ≤ℤ int_max a b
max_right a b = omega (arith, ints, clamps)

pub max_rises : (a b c : ℤ) → b ≤ℤ c → int_max a b ≤ℤ int_max a c
max_rises a b c h = omega (arith, ints, clamps)

pub min_left : (a b : ℤ) → int_min a b ≤ℤ a
min_left a b = omega (arith, ints, clamps)

pub min_right : (a b : ℤ) → int_min a b ≤ℤ b
min_right a b = omega (arith, ints, clamps)

pub min_rises : (a b c : ℤ) → b ≤ℤ c → int_min a b ≤ℤ int_min a c
min_rises a b c h = omega (arith, ints, clamps)

-- either of the two, whichever is the greater, the lesser
pub max_is : (P : ℤ → Type 0) (a b : ℤ) → (b ≤ℤ a → P a) → (a ≤ℤ b → P b) → P (int_max a b)
max_is P a b l r = by_lt_z b a
    (λ lt. subst P (let e : a ≡ int_max a b = omega (arith, ints, clamps) in e) (l (omega (arith, ints))))
    (λ ge. subst P (let e : b ≡ int_max a b = omega (arith, ints, clamps) in e) (r ge))

pub min_is : (P : ℤ → Type 0) (a b : ℤ) → (a ≤ℤ b → P a) → (b ≤ℤ a → P b) → P (int_min a b)
min_is P a b l r = by_lt_z b a
    (λ lt. subst P (let e : b ≡ int_min a b = omega (arith, ints, clamps) in e) (r (omega (arith, ints))))
    (λ ge. subst P (let e : a ≡ int_min a b = omega (arith, ints, clamps) in e) (l ge))

-- ---- factors

-- two factors, exchanged
pub exchanged : (S k : ℕ) (z : ℤ) → pos k *ℤ (pos S *ℤ z) ≡ pos S *ℤ (pos k *ℤ z)
exchanged S k z = times_times k S z ∙ ap (λ (n : ℕ). pos n *ℤ z) (mul_comm k S) ∙ sym (times_times S k z)

pub same-or-not : (x y : ℤ) → (x ≡ y) ⊎ (x ≡ y → ⊥)
same-or-not x y = by_lt_z x y (λ lt. inr (λ e. absurd (omega (arith, ints, lt, e))))
    (λ ge. by_lt_z y x (λ lt. inr (λ e. absurd (omega (arith, ints, lt, e)))) (λ le. inl (omega (arith, ints, ge, le))))

pub ceiling_whole : (z : ℤ) → ceiling (whole z) ≡ z
ceiling_whole z = omega (
  arith,
  ints,
  ceiling_high (whole z) (omega arith),
  ceiling_least (whole z) z
      (omega arith) (omega (arith, ints)),
)

pub floor_whole : (z : ℤ) → floor (whole z) ≡ z
floor_whole z = omega (
  arith,
  ints,
  floor_low (whole z) (omega arith),
  floor_greatest (whole z) z
      (omega arith) (omega (arith, ints)),
)

pub abs_above : (z : ℤ) → z ≤ℤ pos (unsigned_abs z)
abs_above (pos n) = omega (arith, ints)
abs_above (negsuc n) = omega (arith, ints)

-- a product of equal factors
pub product_is : (r x y a b : ℤ) → r ≡ x *ℤ y → x ≡ a → y ≡ b → r ≡ a *ℤ b
product_is r x y a b e f g = e ∙ (rw (f, g) refl)
