-- A loss with a flow at most and one at least the exact one at each head makes a law: with signs, and at the scales
-- that one scale leads to.
use Rattle.std.proofs.Common.{ℕ, suc, ◌*◌, ◌<◌, ◌≤◌, ℤ, pos, negsuc, neg_ℤ, ◌*ℤ◌, ◌≤ℤ◌, arith, mul-pos}
use Rattle.std.proofs.lemmas.Int.{ints}
use Rattle.hyd_num.proofs.Integers.{times_neg}
use Rattle.hyd_spec.specs.Law.{Loss, odd_at_least, odd_at_most}
use Rattle.hyd_theorems_on_definitions.specs.SoundLawsAndGrids.{IsLaw, IsLossLaw}
use Rattle.hyd_theorems_on_definitions.proofs.LinkLaws.{at_most_for, at_least_for, at_least_back, at_most_back}
use Rattle.hyd_theorems_on_definitions.proofs.LinkLaws.{odd-consistent, odd-downward, odd-upward}

-- the one flow forward, the other in reverse
abbrev pub signed : (ℕ → ℕ) → (ℕ → ℕ) → ℤ → ℤ
signed forward back (pos d) = pos (forward d)
signed forward back (negsuc d) = neg_ℤ (pos (back (suc d)))

-- both flows rise with the head, the upper one is above 0 at a head above 0, and both enclose at every scale k, where
-- the loss is that of another scale
pub record EncloseLoss (at_most at_least : Loss) (scale : ℕ → ℕ) (down up : ℕ → ℕ) : Type 0 where
  pub down_rises : (c d : ℕ) → c ≤ d → down c ≤ down d
  pub up_rises : (c d : ℕ) → c ≤ d → up c ≤ up d
  pub some : (d : ℕ) → 0 < up (suc d)
  pub below : (k d y : ℕ) → 0 < k → k * d ≤ y → at_most (scale k) (k * down d) y
  pub above : (k d y : ℕ) → 0 < k → y ≤ k * d → at_least (scale k) (k * up d) y
  pub positive : (k : ℕ) → 0 < k → 0 < scale k

signed-rises : (f g : ℕ → ℕ) → ((c d : ℕ) → c ≤ d → f c ≤ f d) → ((c d : ℕ) → c ≤ d → g c ≤ g d) → (c d : ℤ) → c ≤ℤ d
    → signed f g c ≤ℤ signed f g d
signed-rises f g fr gr (pos a) (pos b) le = let l = fr a b (omega (arith, ints, le)) in omega (arith, ints, l)
signed-rises f g fr gr (negsuc a) (pos b) le = omega (arith, ints)
signed-rises f g fr gr (pos a) (negsuc b) le = absurd (omega (arith, ints, le))
signed-rises f g fr gr (negsuc a) (negsuc b) le =
    let l = gr (suc b) (suc a) (omega (arith, ints, le)) in omega (arith, ints, l)

in_order : (f g : ℕ → ℕ) → ((d : ℕ) → f d ≤ g d) → (d : ℤ) → signed f g d ≤ℤ signed g f d
in_order f g le (pos d) = let l = le d in omega (arith, ints, l)
in_order f g le (negsuc d) = let l = le (suc d) in omega (arith, ints, l)

once : (a b : ℕ) → 1 * a ≤ 1 * b → a ≤ b
once a b h = omega (arith, h)

module _ (A B : Loss) (scale : ℕ → ℕ) (down up : ℕ → ℕ) (loss : IsLossLaw A B)
    (flows : EncloseLoss A B scale down up)
  where
    ordered : (d : ℕ) → down d ≤ up d
    ordered d = once (down d) (up d) (loss.consistent (scale 1) (1 * down d) (1 * up d) d
        (flows.positive 1 (omega arith)) (flows.below 1 d d (omega arith) (omega arith))
        (flows.above 1 d d (omega arith) (omega arith)))

    encloses-below : (k : ℕ) (d x : ℤ) → 0 < k → (pos k *ℤ d) ≤ℤ x
        → odd_at_least A B (scale k) x (pos k *ℤ signed down up d)
    encloses-below k (pos d) x some le =
        at_most_for A (scale k) (k * down d) (k * d) x (λ y h. flows.below k d y some h) le
    encloses-below k (negsuc d) x some le =
        rw (times_neg k (pos (up (suc d))))
        (at_least_back A B (scale k) (k * up (suc d)) x (mul-pos some (flows.some d))
        (at_least_for B (scale k) (k * up (suc d)) (k * suc d) (neg_ℤ x) (λ y h. flows.above k (suc d) y some h)
        (omega (arith, ints, le))))

    encloses-above : (k : ℕ) (d x : ℤ) → 0 < k → x ≤ℤ (pos k *ℤ d)
        → odd_at_most A B (scale k) x (pos k *ℤ signed up down d)
    encloses-above k (pos d) x some le =
        at_least_for B (scale k) (k * up d) (k * d) x (λ y h. flows.above k d y some h) le
    encloses-above k (negsuc d) x some le =
        let l : 0 < k * suc d = mul-pos some (omega arith) in
        rw (times_neg k (pos (down (suc d))))
        (at_most_back A B (scale k) (k * down (suc d)) x (omega (arith, ints, l, le))
        (at_most_for A (scale k) (k * down (suc d)) (k * suc d) (neg_ℤ x) (λ y h. flows.below k (suc d) y some h)
        (omega (arith, ints, le))))

    pub IsLaw-signed : IsLaw (λ k. odd_at_least A B (scale k)) (λ k. odd_at_most A B (scale k)) (signed down up)
        (signed up down)
    IsLaw-signed = record {
      low_rises = λ c d le. signed-rises down up flows.down_rises flows.up_rises c d le;
      high_rises = λ c d le. signed-rises up down flows.up_rises flows.down_rises c d le;
      ordered = λ d. in_order down up ordered d;
      encloses_below = λ k d x some le. encloses-below k d x some le;
      encloses_above = λ k d x some le. encloses-above k d x some le;
      consistent = λ k x a b some. odd-consistent A B loss (scale k) x a b (flows.positive k some);
      downward = λ k x a b some. odd-downward A B loss (scale k) x a b (flows.positive k some);
      upward = λ k x a b some. odd-upward A B loss (scale k) x a b (flows.positive k some);
    }
