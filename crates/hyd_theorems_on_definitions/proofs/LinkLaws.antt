-- Each sound law of a link is a law.
use Rattle.std.proofs.Common.{◌≡◌, ℕ, zero, suc, ◌*◌, ◌<◌, ◌≤◌, ℤ, pos, negsuc, ◌+ℤ◌, ◌*ℤ◌, ◌≤ℤ◌, ◌<ℤ◌, neg_ℤ, ap, ◌∙◌}
use Rattle.std.proofs.Common.{arith, mul-pos, ◌⊎◌, inl, inr}
use Rattle.std.proofs.Math.Nat.{mul-le-mul_right, mul-le-mul_left, le_of_mul-le-mul_right, mul_comm}
use Rattle.std.proofs.lemmas.Int.{ints}
use Rattle.std.specs.Int.{int_max, int_min}
use Rattle.hyd_num.specs.Rational.{Rational, floor, ceiling}
use Rattle.hyd_num.proofs.Integers.{times_plus, times_neg, times_rises, times_reflects, times_times}
use Rattle.hyd_spec.specs.Scale.{at_scale}
use Rattle.hyd_spec_certificates.specs.EnclosingFunctions.{root_down, root_up, low, high}
use Rattle.hyd_spec.specs.Law.{Relation, Loss, Shut, lifted, odd_at_least, odd_at_most, loses_at_least, loses_at_most}
use Rattle.hyd_spec.specs.Law.{flow_at_least, flow_at_most}
use Rattle.hyd_theorems_on_definitions.specs.SoundLawsAndGrids.{IsLaw, IsLossLaw}
use Rattle.hyd_lemmas.proofs.Integers.{floor_low, ceiling_high, floor_at_most_ceiling, max_left, max_right, max_rises}
use Rattle.hyd_lemmas.proofs.Integers.{max_is, min_left, min_right, min_rises, min_is}
use Rattle.hyd_theorems_on_definitions.proofs.Roots.{root_down-is, root_up-is, square_reflects}

-- ---- closed links

pub IsLaw-shut : IsLaw (flow_at_least Shut) (flow_at_most Shut) (low Shut) (high Shut)
IsLaw-shut = record {
  low_rises = λ c d le. omega (arith, ints);
  high_rises = λ c d le. omega (arith, ints);
  ordered = λ d. omega (arith, ints);
  encloses_below = λ S d x some le. nothing S;
  encloses_above = λ S d x some le. nothing_up S;
  consistent = λ S x a b some least most. omega (arith, ints);
  downward = λ S x a b some le h. omega (arith, ints);
  upward = λ S x a b some le h. omega (arith, ints);
}
  where
    nothing : (S : ℕ) → (pos S *ℤ pos 0) ≤ℤ pos 0
    nothing S = omega (arith, ints)

    nothing_up : (S : ℕ) → pos 0 ≤ℤ (pos S *ℤ pos 0)
    nothing_up S = omega (arith, ints)

-- ---- one way, held, lifted

pub IsLaw-forward : (A B : Relation) (l h : ℤ → ℤ) → IsLaw A B l h
    → IsLaw (λ S x a. (a ≤ℤ pos 0) ⊎ A S x a) (λ S x a. (pos 0 ≤ℤ a) × B S x a) (λ d. int_max (pos 0) (l d))
    (λ d. int_max (pos 0) (h d))
IsLaw-forward A B l h law = record {
  low_rises = λ c d le. max_rises (pos 0) (l c) (l d) (law.low_rises c d le);
  high_rises = λ c d le. max_rises (pos 0) (h c) (h d) (law.high_rises c d le);
  ordered = λ d. max_rises (pos 0) (l d) (h d) (law.ordered d);
  encloses_below = λ S d x some le. max_is (λ z. ((pos S *ℤ z) ≤ℤ pos 0) ⊎ A S x (pos S *ℤ z)) (pos 0) (l d)
      (λ e. inl (nothing S)) (λ e. inr (law.encloses_below S d x some le));
  encloses_above = λ S d x some le. (
    positive S (int_max (pos 0) (h d)) (max_left (pos 0) (h d)),
    law.upward S x (pos S *ℤ h d) (pos S *ℤ int_max (pos 0) (h d)) some
        (times_rises S (h d) (int_max (pos 0) (h d)) (max_right (pos 0) (h d))) (law.encloses_above S d x some le),
  );
  consistent = λ S x a b some least most. elim least [
    | inl le ↦ let m : pos 0 ≤ℤ b = most.0 in omega (arith, ints)
    | inr more ↦ law.consistent S x a b some more most.1
  ];
  downward = λ S x a b some le least. elim least [
    | inl less ↦ inl (let m : b ≤ℤ pos 0 = omega (arith, ints) in m)
    | inr more ↦ inr (law.downward S x a b some le more)
  ];
  upward = λ S x a b some le most. (
    let m : pos 0 ≤ℤ a = most.0 in let n : pos 0 ≤ℤ b = omega (arith, ints) in
        n,
    law.upward S x a b some le most.1,
  );
}
  where
    nothing : (S : ℕ) → (pos S *ℤ pos 0) ≤ℤ pos 0
    nothing S = omega (arith, ints)

    positive : (S : ℕ) (z : ℤ) → pos 0 ≤ℤ z → pos 0 ≤ℤ (pos S *ℤ z)
    positive S z le = let m = times_rises S (pos 0) z le in omega (arith, ints, m)

pub IsLaw-reverse : (A B : Relation) (l h : ℤ → ℤ) → IsLaw A B l h
    → IsLaw (λ S x a. (a ≤ℤ pos 0) × A S x a) (λ S x a. (pos 0 ≤ℤ a) ⊎ B S x a) (λ d. int_min (pos 0) (l d))
    (λ d. int_min (pos 0) (h d))
IsLaw-reverse A B l h law = record {
  low_rises = λ c d le. min_rises (pos 0) (l c) (l d) (law.low_rises c d le);
  high_rises = λ c d le. min_rises (pos 0) (h c) (h d) (law.high_rises c d le);
  ordered = λ d. min_rises (pos 0) (l d) (h d) (law.ordered d);
  encloses_below = λ S d x some le. (
    negative S (int_min (pos 0) (l d)) (min_left (pos 0) (l d)),
    law.downward S x (pos S *ℤ l d) (pos S *ℤ int_min (pos 0) (l d)) some
        (times_rises S (int_min (pos 0) (l d)) (l d) (min_right (pos 0) (l d))) (law.encloses_below S d x some le),
  );
  encloses_above = λ S d x some le. min_is (λ z. (pos 0 ≤ℤ (pos S *ℤ z)) ⊎ B S x (pos S *ℤ z)) (pos 0) (h d)
      (λ e. inl (nothing S)) (λ e. inr (law.encloses_above S d x some le));
  consistent = λ S x a b some least most. elim most [
    | inl le ↦ let m : a ≤ℤ pos 0 = least.0 in omega (arith, ints)
    | inr more ↦ law.consistent S x a b some least.1 more
  ];
  downward = λ S x a b some le least. (
    let m : a ≤ℤ pos 0 = least.0 in let n : b ≤ℤ pos 0 = omega (arith, ints) in
        n,
    law.downward S x a b some le least.1,
  );
  upward = λ S x a b some le most. elim most [
    | inl less ↦ inl (let m : pos 0 ≤ℤ b = omega (arith, ints) in m)
    | inr more ↦ inr (law.upward S x a b some le more)
  ];
}
  where
    nothing : (S : ℕ) → pos 0 ≤ℤ (pos S *ℤ pos 0)
    nothing S = omega (arith, ints)

    negative : (S : ℕ) (z : ℤ) → z ≤ℤ pos 0 → (pos S *ℤ z) ≤ℤ pos 0
    negative S z le = let m = times_rises S z (pos 0) le in omega (arith, ints, m)

pub IsLaw-capped : (c : ℤ) (A B : Relation) (l h : ℤ → ℤ) → IsLaw A B l h
    → IsLaw (λ S x a. (a ≤ℤ at_scale S c) × A S x a) (λ S x a. (at_scale S c ≤ℤ a) ⊎ B S x a) (λ d. int_min c (l d))
    (λ d. int_min c (h d))
IsLaw-capped c A B l h law = record {
  low_rises = λ x d le. min_rises c (l x) (l d) (law.low_rises x d le);
  high_rises = λ x d le. min_rises c (h x) (h d) (law.high_rises x d le);
  ordered = λ d. min_rises c (l d) (h d) (law.ordered d);
  encloses_below = λ S d x some le. (
    times_rises S (int_min c (l d)) c (min_left c (l d)),
    law.downward S x (pos S *ℤ l d) (pos S *ℤ int_min c (l d)) some
        (times_rises S (int_min c (l d)) (l d) (min_right c (l d))) (law.encloses_below S d x some le),
  );
  encloses_above = λ S d x some le. min_is (λ z. ((pos S *ℤ c) ≤ℤ (pos S *ℤ z)) ⊎ B S x (pos S *ℤ z)) c (h d)
      (λ e. inl (let m : (pos S *ℤ c) ≤ℤ (pos S *ℤ c) = omega (arith, ints) in
      m)) (λ e. inr (law.encloses_above S d x some le));
  consistent = λ S x a b some least most. elim most [
    | inl le ↦ let m : a ≤ℤ (pos S *ℤ c) = least.0 in omega (arith, ints)
    | inr more ↦ law.consistent S x a b some least.1 more
  ];
  downward = λ S x a b some le least. (
    let m : a ≤ℤ (pos S *ℤ c) = least.0 in
        let n : b ≤ℤ (pos S *ℤ c) = omega (arith, ints) in n,
    law.downward S x a b some le least.1,
  );
  upward = λ S x a b some le most. elim most [
    | inl less ↦ inl (let m : (pos S *ℤ c) ≤ℤ b = omega (arith, ints) in m)
    | inr more ↦ inr (law.upward S x a b some le more)
  ];
}

pub IsLaw-held : (c e : ℤ) (A B : Relation) (l h : ℤ → ℤ) → c ≤ℤ e → IsLaw A B l h
    → IsLaw (λ S x a. (a ≤ℤ at_scale S c) ⊎ ((a ≤ℤ at_scale S e) × A S x a)) (λ S x a. (at_scale S e ≤ℤ a)
    ⊎ ((at_scale S c ≤ℤ a) × B S x a))
    (λ d. int_max c (int_min e (l d))) (λ d. int_max c (int_min e (h d)))
IsLaw-held c e A B l h ends law = record {
  low_rises = λ x d le. max_rises c (int_min e (l x)) (int_min e (l d))
      (min_rises e (l x) (l d) (law.low_rises x d le));
  high_rises = λ x d le. max_rises c (int_min e (h x)) (int_min e (h d))
      (min_rises e (h x) (h d) (law.high_rises x d le));
  ordered = λ d. max_rises c (int_min e (l d)) (int_min e (h d)) (min_rises e (l d) (h d) (law.ordered d));
  encloses_below = λ S d x some le. max_is (λ z. ((pos S *ℤ z) ≤ℤ (pos S *ℤ c))
      ⊎ (((pos S *ℤ z) ≤ℤ (pos S *ℤ e)) × A S x (pos S *ℤ z))) c (int_min e (l d))
      (λ f. inl (let m : (pos S *ℤ c) ≤ℤ (pos S *ℤ c) = omega (arith, ints) in m))
      (λ f. inr (
        times_rises S (int_min e (l d)) e (min_left e (l d)),
        law.downward S x (pos S *ℤ l d) (pos S *ℤ int_min e (l d)) some
            (times_rises S (int_min e (l d)) (l d) (min_right e (l d))) (law.encloses_below S d x some le),
      ));
  encloses_above = λ S d x some le. min_is (λ m. ((pos S *ℤ e) ≤ℤ (pos S *ℤ int_max c m))
      ⊎ (((pos S *ℤ c) ≤ℤ (pos S *ℤ int_max c m)) × B S x (pos S *ℤ int_max c m))) e (h d)
      (λ f. inl (times_rises S e (int_max c e) (max_right c e)))
      (λ f. inr (
        times_rises S c (int_max c (h d)) (max_left c (h d)),
        law.upward S x (pos S *ℤ h d) (pos S *ℤ int_max c (h d)) some
            (times_rises S (h d) (int_max c (h d)) (max_right c (h d))) (law.encloses_above S d x some le),
      ));
  consistent = λ S x a b some least most. elim least [
    | inl down ↦ elim most [
      | inl up ↦ let m : a ≤ℤ (pos S *ℤ c) = down in let n : (pos S *ℤ e) ≤ℤ b = up in
          let k = times_rises S c e ends in omega (arith, ints, m, n, k)
      | inr more ↦ let m : a ≤ℤ (pos S *ℤ c) = down in let n : (pos S *ℤ c) ≤ℤ b = more.0 in omega (arith, ints, m, n)
    ]
    | inr less ↦ elim most [
      | inl up ↦ let m : a ≤ℤ (pos S *ℤ e) = less.0 in let n : (pos S *ℤ e) ≤ℤ b = up in omega (arith, ints, m, n)
      | inr more ↦ law.consistent S x a b some less.1 more.1
    ]
  ];
  downward = λ S x a b some le least. elim least [
    | inl down ↦ inl (let m : a ≤ℤ (pos S *ℤ c) = down in let n : b ≤ℤ (pos S *ℤ c) = omega (arith, ints, m, le) in n)
    | inr less ↦ inr (
      let m : a ≤ℤ (pos S *ℤ e) = less.0 in let n : b ≤ℤ (pos S *ℤ e) = omega (arith, ints, m, le) in
          n,
      law.downward S x a b some le less.1,
    )
  ];
  upward = λ S x a b some le most. elim most [
    | inl up ↦ inl (let m : (pos S *ℤ e) ≤ℤ a = up in let n : (pos S *ℤ e) ≤ℤ b = omega (arith, ints, m, le) in n)
    | inr more ↦ inr (
      let m : (pos S *ℤ c) ≤ℤ a = more.0 in let n : (pos S *ℤ c) ≤ℤ b = omega (arith, ints, m, le) in
          n,
      law.upward S x a b some le more.1,
    )
  ];
}

-- the factors of a finer scale
pub finer : (S d : ℕ) (z : ℤ) → pos d *ℤ (pos S *ℤ z) ≡ pos (S * d) *ℤ z
finer S d z = times_times d S z ∙ ap (λ (n : ℕ). pos n *ℤ z) (mul_comm d S)

lift_below : (S : ℕ) (lift : Rational) (d x : ℤ) → 0 < lift.den → (pos S *ℤ d) ≤ℤ x
    → (pos (S * lift.den) *ℤ (d +ℤ floor lift)) ≤ℤ ((pos lift.den *ℤ x) +ℤ (pos S *ℤ lift.num))
lift_below S lift d x above le =
    let a : (pos lift.den *ℤ (pos S *ℤ d)) ≤ℤ (pos lift.den *ℤ x) = times_rises lift.den (pos S *ℤ d) x le in
    let b : (pos S *ℤ (pos lift.den *ℤ floor lift)) ≤ℤ (pos S *ℤ lift.num) = times_rises S
    (pos lift.den *ℤ floor lift) lift.num (floor_low lift above) in
    omega (
      arith,
      ints,
      a,
      b,
      finer S lift.den d,
      times_times S lift.den (floor lift),
      times_plus (S * lift.den) d
          (floor lift),
    )

lift_above : (S : ℕ) (lift : Rational) (d x : ℤ) → 0 < lift.den → x ≤ℤ (pos S *ℤ d)
    → ((pos lift.den *ℤ x) +ℤ (pos S *ℤ lift.num)) ≤ℤ (pos (S * lift.den) *ℤ (d +ℤ ceiling lift))
lift_above S lift d x above le =
    let a : (pos lift.den *ℤ x) ≤ℤ (pos lift.den *ℤ (pos S *ℤ d)) = times_rises lift.den x (pos S *ℤ d) le in
    let b : (pos S *ℤ lift.num) ≤ℤ (pos S *ℤ (pos lift.den *ℤ ceiling lift)) = times_rises S lift.num
    (pos lift.den *ℤ ceiling lift) (ceiling_high lift above) in
    omega (
      arith,
      ints,
      a,
      b,
      finer S lift.den d,
      times_times S lift.den (ceiling lift),
      times_plus (S * lift.den) d
          (ceiling lift),
    )

pub IsLaw-lifted : (lift : Rational) (A B : Relation) (l h : ℤ → ℤ) → 0 < lift.den → IsLaw A B l h
    → IsLaw (lifted lift A) (lifted lift B) (λ d. l (d +ℤ floor lift)) (λ d. h (d +ℤ ceiling lift))
IsLaw-lifted lift A B l h above law = record {
  low_rises = λ c d le. law.low_rises (c +ℤ floor lift) (d +ℤ floor lift) (let m : (c +ℤ floor lift)
      ≤ℤ (d +ℤ floor lift) = omega (arith, ints) in m);
  high_rises = λ c d le. law.high_rises (c +ℤ ceiling lift) (d +ℤ ceiling lift) (let m : (c +ℤ ceiling lift)
      ≤ℤ (d +ℤ ceiling lift) = omega (arith, ints) in m);
  ordered = λ d.
      let a = law.low_rises (d +ℤ floor lift) (d +ℤ ceiling lift) (let e = floor_at_most_ceiling lift above in
      let m : (d +ℤ floor lift) ≤ℤ (d +ℤ ceiling lift) = omega (arith, ints, e) in m) in
      let b = law.ordered (d +ℤ ceiling lift) in omega (arith, ints, a, b);
  encloses_below = λ S d x some le. rw (finer S lift.den (l (d +ℤ floor lift)))
      (law.encloses_below (S * lift.den) (d +ℤ floor lift) ((pos lift.den *ℤ x) +ℤ (pos S *ℤ lift.num))
      (mul-pos some above) (lift_below S lift d x above le));
  encloses_above = λ S d x some le. rw (finer S lift.den (h (d +ℤ ceiling lift)))
      (law.encloses_above (S * lift.den) (d +ℤ ceiling lift) ((pos lift.den *ℤ x) +ℤ (pos S *ℤ lift.num))
      (mul-pos some above) (lift_above S lift d x above le));
  consistent = λ S x a b some least most. times_reflects lift.den a b above
      (law.consistent (S * lift.den) ((pos lift.den *ℤ x) +ℤ (pos S *ℤ lift.num)) (pos lift.den *ℤ a)
      (pos lift.den *ℤ b) (mul-pos some above) least most);
  downward = λ S x a b some le least.
      law.downward (S * lift.den) ((pos lift.den *ℤ x) +ℤ (pos S *ℤ lift.num)) (pos lift.den *ℤ a) (pos lift.den *ℤ b)
      (mul-pos some above) (times_rises lift.den b a le) least;
  upward = λ S x a b some le most.
      law.upward (S * lift.den) ((pos lift.den *ℤ x) +ℤ (pos S *ℤ lift.num)) (pos lift.den *ℤ a) (pos lift.den *ℤ b)
      (mul-pos some above) (times_rises lift.den a b le) most;
}

-- ---- laws of a loss

pub at_most_for : (A : Loss) (S n m : ℕ) (z : ℤ) → ((y : ℕ) → m ≤ y → A S n y) → pos m ≤ℤ z → loses_at_most A S n z
at_most_for A S n m (pos y) each le = each y (omega (arith, ints))
at_most_for A S n m (negsuc y) each le = absurd (omega (arith, ints))

pub at_least_for : (B : Loss) (S n m : ℕ) (z : ℤ) → ((y : ℕ) → y ≤ m → B S n y) → z ≤ℤ pos m → loses_at_least B S n z
at_least_for B S n m (pos y) each le = each y (omega (arith, ints))
at_least_for B S n m (negsuc y) each le = tt

pub at_least_back : (A B : Loss) (S n : ℕ) (x : ℤ) → 0 < n → loses_at_least B S n (neg_ℤ x)
    → odd_at_least A B S x (neg_ℤ (pos n))
at_least_back A B S zero x above h = absurd (omega arith)
at_least_back A B S (suc n) x above h = h

pub at_most_back : (A B : Loss) (S n : ℕ) (x : ℤ) → x <ℤ pos 0 → loses_at_most A S n (neg_ℤ x)
    → odd_at_most A B S x (neg_ℤ (pos n))
at_most_back A B S zero (pos y) below h = absurd (omega (arith, ints))
at_most_back A B S zero (negsuc y) below h = tt
at_most_back A B S (suc n) x below h = h

same_way : (A B : Loss) → IsLossLaw A B → (S p q : ℕ) (z : ℤ) → 0 < S → loses_at_most A S p z → loses_at_least B S q z
    → p ≤ q
same_way A B loss S p q (pos y) some most least = loss.consistent S p q y some most least
same_way A B loss S p q (negsuc y) some most least = absurd most

most_falls : (A B : Loss) → IsLossLaw A B → (S p q : ℕ) (z : ℤ) → 0 < S → p ≤ q → loses_at_most A S q z
    → loses_at_most A S p z
most_falls A B loss S p q (pos y) some le most = loss.falls S p q y some le most
most_falls A B loss S p q (negsuc y) some le most = absurd most

least_rises : (A B : Loss) → IsLossLaw A B → (S p q : ℕ) (z : ℤ) → 0 < S → p ≤ q → loses_at_least B S p z
    → loses_at_least B S q z
least_rises A B loss S p q (pos y) some le least = loss.rises S p q y some le least
least_rises A B loss S p q (negsuc y) some le least = tt

-- no flow loses at most a head both forward and in reverse, but for 0
not_both : (A B : Loss) → IsLossLaw A B → (S p q : ℕ) (x : ℤ) → 0 < S → loses_at_most A S p x
    → loses_at_most A S (suc q) (neg_ℤ x) → ⊥
not_both A B loss S p q (pos zero) some ahead back =
    let l : suc q ≤ 0 = loss.consistent S (suc q) 0 0 some back (loss.without_head S 0 some) in absurd (omega arith)
not_both A B loss S p q (pos (suc y)) some ahead back = back
not_both A B loss S p q (negsuc y) some ahead back = ahead

back_from_ahead : (A B : Loss) → IsLossLaw A B → (S p q : ℕ) (x : ℤ) → 0 < S → loses_at_most A S p x
    → loses_at_least B S q (neg_ℤ x)
back_from_ahead A B loss S p q (pos zero) some ahead = loss.without_head S q some
back_from_ahead A B loss S p q (pos (suc y)) some ahead = tt
back_from_ahead A B loss S p q (negsuc y) some ahead = absurd ahead

ahead_from_back : (A B : Loss) → IsLossLaw A B → (S p q : ℕ) (x : ℤ) → 0 < S → loses_at_most A S p (neg_ℤ x)
    → loses_at_least B S q x
ahead_from_back A B loss S p q (pos zero) some back = loss.without_head S q some
ahead_from_back A B loss S p q (pos (suc y)) some back = absurd back
ahead_from_back A B loss S p q (negsuc y) some back = tt

pub odd-consistent : (A B : Loss) → IsLossLaw A B → (S : ℕ) (x a b : ℤ) → 0 < S → odd_at_least A B S x a
    → odd_at_most A B S x b → a ≤ℤ b
odd-consistent A B loss S x (pos a) (pos b) some least most = let l : a ≤ b = same_way A B loss S a b x some least
    most in omega (arith, ints)
odd-consistent A B loss S x (pos a) (negsuc b) some least most = absurd (not_both A B loss S a b x some least most)
odd-consistent A B loss S x (negsuc a) (pos b) some least most = omega (arith, ints)
odd-consistent A B loss S x (negsuc a) (negsuc b) some least most = let l : suc b ≤ suc a = same_way A B loss S
    (suc b) (suc a) (neg_ℤ x) some most least in omega (arith, ints)

pub odd-downward : (A B : Loss) → IsLossLaw A B → (S : ℕ) (x a b : ℤ) → 0 < S → b ≤ℤ a → odd_at_least A B S x a
    → odd_at_least A B S x b
odd-downward A B loss S x (pos a) (pos b) some le least = most_falls A B loss S b a x some (omega (arith, ints)) least
odd-downward A B loss S x (pos a) (negsuc b) some le least = back_from_ahead A B loss S a (suc b) x some least
odd-downward A B loss S x (negsuc a) (pos b) some le least = absurd (omega (arith, ints))
odd-downward A B loss S x (negsuc a) (negsuc b) some le least = least_rises A B loss S (suc a) (suc b) (neg_ℤ x) some
    (omega (arith, ints)) least

pub odd-upward : (A B : Loss) → IsLossLaw A B → (S : ℕ) (x a b : ℤ) → 0 < S → a ≤ℤ b → odd_at_most A B S x a
    → odd_at_most A B S x b
odd-upward A B loss S x (pos a) (pos b) some le most = least_rises A B loss S a b x some (omega (arith, ints)) most
odd-upward A B loss S x (pos a) (negsuc b) some le most = absurd (omega (arith, ints))
odd-upward A B loss S x (negsuc a) (pos b) some le most = ahead_from_back A B loss S (suc a) b x some most
odd-upward A B loss S x (negsuc a) (negsuc b) some le most = most_falls A B loss S (suc b) (suc a) (neg_ℤ x) some
    (omega (arith, ints)) most

-- ---- roots of a capacity N / D to M / E at a head of d

most_scaled : (N D S k d y : ℕ) → k * k * D ≤ N * d → S * d ≤ y → ((S * k) * (S * k)) * D ≤ N * (S * y)
most_scaled N D S k d y root le =
    let a : k * k * D * (S * S) ≤ N * d * (S * S) = mul-le-mul_right (S * S) root in
    let b : N * S * (S * d) ≤ N * S * y = mul-le-mul_left (N * S) le in omega (arith, a, b)

least_scaled : (M E S k d y : ℕ) → M * d ≤ k * k * E → y ≤ S * d → M * (S * y) ≤ ((S * k) * (S * k)) * E
least_scaled M E S k d y root le =
    let a : M * d * (S * S) ≤ k * k * E * (S * S) = mul-le-mul_right (S * S) root in
    let b : M * S * y ≤ M * S * (S * d) = mul-le-mul_left (M * S) le in omega (arith, a, b)

root-rises : (N D c d : ℕ) → 0 < D → c ≤ d → root_down (N * c) D ≤ root_down (N * d) D
root-rises N D c d above le = (root_down-is (N * d) D above).greatest (root_down (N * c) D)
    (let a = (root_down-is (N * c) D above).at_most in let b : N * c ≤ N * d = mul-le-mul_left N le in
    omega (arith, a, b))

root_up-rises : (N D c d : ℕ) → 0 < D → c ≤ d → root_up (N * c) D ≤ root_up (N * d) D
root_up-rises N D c d above le = (root_up-is (N * c) D above).least (root_up (N * d) D)
    (let a = (root_up-is (N * d) D above).at_least in let b : N * c ≤ N * d = mul-le-mul_left N le in
    omega (arith, a, b))

ends-ordered : (N D M E d : ℕ) → 0 < D → 0 < E → N * E ≤ M * D → root_down (N * d) D ≤ root_up (M * d) E
ends-ordered N D M E d pd pe ends = roots (root_down (N * d) D) (root_up (M * d) E)
    (root_down-is (N * d) D pd).at_most (root_up-is (M * d) E pe).at_least
  where
    roots : (k r : ℕ) → k * k * D ≤ N * d → M * d ≤ r * r * E → k ≤ r
    roots k r a b =
        let p : k * k * D * E ≤ N * d * E = mul-le-mul_right E a in
        let q : M * d * D ≤ r * r * E * D = mul-le-mul_right D b in
        let s : N * E * d ≤ M * D * d = mul-le-mul_right d ends in
        square_reflects k r (le_of_mul-le-mul_right (let l : k * k * (D * E) ≤ r * r
        * (D * E) = omega (arith, p, q, s) in l) (mul-pos pd pe))

root_up-above : (M E d : ℕ) → 0 < M → 0 < E → 0 < d → 0 < root_up (M * d) E
root_up-above M E d pm pe pd = some (root_up (M * d) E) (root_up-is (M * d) E pe).at_least (mul-pos pm pd)
  where
    some : (k : ℕ) → M * d ≤ k * k * E → 0 < M * d → 0 < k
    some zero le above = absurd (omega arith)
    some (suc k) le above = omega arith

-- the enclosing functions of such a capacity
abbrev pub roots_low : (N D M E : ℕ) → ℤ → ℤ
roots_low N D M E (pos d) = pos (root_down (N * d) D)
roots_low N D M E (negsuc d) = neg_ℤ (pos (root_up (M * suc d) E))

abbrev pub roots_high : (N D M E : ℕ) → ℤ → ℤ
roots_high N D M E (pos d) = pos (root_up (M * d) E)
roots_high N D M E (negsuc d) = neg_ℤ (pos (root_down (N * suc d) D))

pub low-rises : (N D M E : ℕ) → 0 < D → 0 < E → (c d : ℤ) → c ≤ℤ d → roots_low N D M E c ≤ℤ roots_low N D M E d
low-rises N D M E pd pe (pos c) (pos d) le = let l = root-rises N D c d pd (omega (arith, ints)) in
    omega (arith, ints, l)
low-rises N D M E pd pe (pos c) (negsuc d) le = absurd (omega (arith, ints))
low-rises N D M E pd pe (negsuc c) (pos d) le = omega (arith, ints)
low-rises N D M E pd pe (negsuc c) (negsuc d) le = let l = root_up-rises M E (suc d) (suc c) pe
    (omega (arith, ints)) in omega (arith, ints, l)

pub high-rises : (N D M E : ℕ) → 0 < D → 0 < E → (c d : ℤ) → c ≤ℤ d → roots_high N D M E c ≤ℤ roots_high N D M E d
high-rises N D M E pd pe (pos c) (pos d) le = let l = root_up-rises M E c d pe (omega (arith, ints)) in
    omega (arith, ints, l)
high-rises N D M E pd pe (pos c) (negsuc d) le = absurd (omega (arith, ints))
high-rises N D M E pd pe (negsuc c) (pos d) le = omega (arith, ints)
high-rises N D M E pd pe (negsuc c) (negsuc d) le = let l = root-rises N D (suc d) (suc c) pd (omega (arith, ints)) in
    omega (arith, ints, l)

pub roots-ordered : (N D M E : ℕ) → 0 < D → 0 < E → N * E ≤ M * D → (d : ℤ)
    → roots_low N D M E d ≤ℤ roots_high N D M E d
roots-ordered N D M E pd pe ends (pos d) = let l = ends-ordered N D M E d pd pe ends in omega (arith, ints, l)
roots-ordered N D M E pd pe ends (negsuc d) = let l = ends-ordered N D M E (suc d) pd pe ends in omega (arith, ints, l)

pub quad-below : (A B : Loss) (N D M E : ℕ) → 0 < D → 0 < M → 0 < E
    → ((S q y : ℕ) → (q * q) * D ≤ N * (S * y) → A S q y) → ((S q y : ℕ) → M * (S * y) ≤ (q * q) * E → B S q y)
    → (S : ℕ) (d x : ℤ) → 0 < S → (pos S *ℤ d) ≤ℤ x → odd_at_least A B S x (pos S *ℤ roots_low N D M E d)
quad-below A B N D M E pd pm pe most least S (pos d) x some le =
    at_most_for A S (S * root_down (N * d) D) (S * d) x
    (λ y h. most S (S * root_down (N * d) D) y (most_scaled N D S (root_down (N * d) D) d y
    (root_down-is (N * d) D pd).at_most h)) le
quad-below A B N D M E pd pm pe most least S (negsuc d) x some le =
    rw (times_neg S (pos (root_up (M * suc d) E)))
    (at_least_back A B S (S * root_up (M * suc d) E) x (mul-pos some (root_up-above M E (suc d) pm pe (omega arith)))
    (at_least_for B S (S * root_up (M * suc d) E) (S * suc d) (neg_ℤ x)
    (λ y h. least S (S * root_up (M * suc d) E) y (least_scaled M E S (root_up (M * suc d) E) (suc d) y
    (root_up-is (M * suc d) E pe).at_least h))
    (omega (arith, ints))))

pub quad-above : (A B : Loss) (N D M E : ℕ) → 0 < D → 0 < E
    → ((S q y : ℕ) → (q * q) * D ≤ N * (S * y) → A S q y) → ((S q y : ℕ) → M * (S * y) ≤ (q * q) * E → B S q y)
    → (S : ℕ) (d x : ℤ) → 0 < S → x ≤ℤ (pos S *ℤ d) → odd_at_most A B S x (pos S *ℤ roots_high N D M E d)
quad-above A B N D M E pd pe most least S (pos d) x some le =
    at_least_for B S (S * root_up (M * d) E) (S * d) x
    (λ y h. least S (S * root_up (M * d) E) y (least_scaled M E S (root_up (M * d) E) d y
    (root_up-is (M * d) E pe).at_least h)) le
quad-above A B N D M E pd pe most least S (negsuc d) x some le =
    rw (times_neg S (pos (root_down (N * suc d) D)))
    (at_most_back A B S (S * root_down (N * suc d) D) x (let l : 0 < S * suc d = mul-pos some (omega arith) in
    omega (arith, ints))
    (at_most_for A S (S * root_down (N * suc d) D) (S * suc d) (neg_ℤ x)
    (λ y h. most S (S * root_down (N * suc d) D) y (most_scaled N D S (root_down (N * suc d) D) (suc d) y
    (root_down-is (N * suc d) D pd).at_most h))
    (omega (arith, ints))))
