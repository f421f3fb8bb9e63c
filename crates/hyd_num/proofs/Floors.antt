-- Euclid's quotient is the floor, and the negated floor of the negated number the ceiling.
use Rattle.std.proofs.Common.{◌≡◌, ℕ, suc, ◌*◌, ◌<◌, ◌≤◌, ℤ, pos, negsuc, ◌+ℤ◌, ◌-ℤ◌, ◌*ℤ◌, ◌≤ℤ◌, ◌<ℤ◌, neg_ℤ, ◌^◌}
use Rattle.std.proofs.Common.{unsigned_abs, FitsSigned, le-mul_of_pos_right, ◌-◌, ap, ◌∙◌, arith}
use mir.Syntax.{w128}
use Rattle.std.proofs.Math.IntN.{*ℤ_comm}
use Rattle.std.proofs.lemmas.Int.{ints, by_lt_z}
use Rattle.std.specs.Int.{int_div_euclid}
use Rattle.hyd_num.proofs.Integers.{times_neg, times_plus, times_rises, times_one}
use Rattle.hyd_num.specs.QuotientsAndRoots.{IsFloor, IsCeiling}

-- n lies between r and the next multiple of d
record Euclid (n : ℤ) (d : ℕ) (r : ℤ) : Type 0 where
  from : (pos d *ℤ r) ≤ℤ n
  to : n <ℤ ((pos d *ℤ r) +ℤ pos d)

euclid : (n : ℤ) (d : ℕ) → 0 < d → Euclid n d (int_div_euclid n (pos d))
euclid (pos a) d above = record { from = omega (arith, ints); to = omega (arith, ints) }
euclid (negsuc a) d above = record { from = omega (arith, ints); to = omega (arith, ints) }

floor_at : (n : ℤ) (d : ℕ) (r : ℤ) → 0 < d → Euclid n d r → IsFloor n (pos d) r
floor_at n d r above e = record {
  at_most = rw *ℤ_comm e.from;
  greatest = λ k h. by_lt_z r k (λ lt.
      let more : (r +ℤ pos 1) ≤ℤ k = omega (arith, ints) in
      let most : (pos d *ℤ (r +ℤ pos 1)) ≤ℤ (pos d *ℤ k) = times_rises d _ _ more in
      let below : (pos d *ℤ k) ≤ℤ n = rw *ℤ_comm h in
      omega (arith, ints, most, below, e.to, times_plus d r (pos 1), times_one d)) (λ ge. ge);
}

pub floor_is : (n c r : ℤ) → pos 0 <ℤ c → r ≡ int_div_euclid n c → IsFloor n c r
floor_is n (pos d) r above e = let a : 0 < d = omega (arith, ints) in floor_at n d r a (rw e (euclid n d a))
floor_is n (negsuc d) r above e = absurd (omega (arith, ints))

neg_times : (z c : ℤ) → pos 0 <ℤ c → neg_ℤ z *ℤ c ≡ neg_ℤ (z *ℤ c)
neg_times z (pos d) above = *ℤ_comm (neg_ℤ z) (pos d) ∙ times_neg d z ∙ ap neg_ℤ (*ℤ_comm (pos d) z)
neg_times z (negsuc d) above = absurd (omega (arith, ints))

pub ceiling_is : (n m c q r : ℤ) → pos 0 <ℤ c → m ≡ neg_ℤ n → r ≡ neg_ℤ q → IsFloor m c q → IsCeiling n c r
ceiling_is n m c q r above em er f = record {
  at_least = let e : neg_ℤ q *ℤ c ≡ neg_ℤ (q *ℤ c) = neg_times q c above in rw er (omega (arith, ints, e, f.at_most));
  least = λ k h. let e : neg_ℤ k *ℤ c ≡ neg_ℤ (k *ℤ c) = neg_times k c above in
      let g : neg_ℤ k ≤ℤ q = f.greatest (neg_ℤ k) (omega (arith, ints, e, h, em)) in omega (arith, ints, g, er);
}

pub fits_by_size : (z : ℤ) → unsigned_abs z < 2 ^ 127 → FitsSigned w128 z
fits_by_size (pos a) h = record { sfits = h }
fits_by_size (negsuc a) h = record { sfits = omega arith }

pub fits_negated : (z y : ℤ) → unsigned_abs z < 2 ^ 127 → y ≡ pos 0 -ℤ z → FitsSigned w128 y
fits_negated z y h e = fits_by_size y (omega (arith, ints))

-- a quotient lies no further from 0 than the number does
floor_from : (m d : ℕ) (n q : ℤ) → 0 < d → unsigned_abs n ≤ suc m → IsFloor n (pos d) q → negsuc m ≤ℤ q
floor_from m d n q above h f =
    let more : suc m ≤ suc m * d = le-mul_of_pos_right (suc m) above in
    f.greatest (negsuc m) (omega (arith, ints, more))

pub fits_back : (n c q : ℤ) → pos 0 <ℤ c → unsigned_abs n < 2 ^ 127 → IsFloor n c q → FitsSigned w128 q
    → FitsSigned w128 (pos 0 -ℤ q)
fits_back n (pos d) q above h f g =
    let low : negsuc (2 ^ 127 - 2) ≤ℤ q = floor_from (2 ^ 127 - 2) d n q (omega (arith, ints)) (omega arith) f in
    omega (arith, ints, low, g)
fits_back n (negsuc d) q above h f g = absurd (omega (arith, ints))

-- a number has one floor and one ceiling
pub one_floor : (n c r s : ℤ) → IsFloor n c r → IsFloor n c s → r ≡ s
one_floor n c r s x y = let l = y.greatest r x.at_most in let m = x.greatest s y.at_most in omega (arith, ints, l, m)

pub one_ceiling : (n c r s : ℤ) → IsCeiling n c r → IsCeiling n c s → r ≡ s
one_ceiling n c r s x y = let l = y.least r x.at_least in let m = x.least s y.at_least in omega (arith, ints, l, m)
