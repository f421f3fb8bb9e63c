-- A law that is held between two flows around 0 and may pass one way only is held with 0 as the other end.
use Rattle.std.proofs.Common.{◌≡◌, ℕ, ℤ, pos, ◌≤ℤ◌, arith, inl, inr}
use Rattle.std.specs.Prelude.{◌↔◌}
use Rattle.std.specs.Int.{int_max, int_min}
use Rattle.std.proofs.lemmas.Int.{ints, clamps}
use Rattle.hyd_num.proofs.Integers.{times_rises}
use Rattle.hyd_spec.specs.Scale.{at_scale}
use Rattle.hyd_spec.specs.Law.{Law, ForwardOnly, ReverseOnly, Held, flow_at_least, flow_at_most}
use Rattle.hyd_spec_certificates.specs.EnclosingFunctions.{low, high}

below-only : (c e x : ℤ) → c ≤ℤ pos 0 → pos 0 ≤ℤ e → int_min (pos 0) (int_max c (int_min e x))
    ≡ int_max c (int_min (pos 0) x)
below-only c e x least greatest = omega (arith, ints, clamps, least, greatest)

above-only : (c e x : ℤ) → c ≤ℤ pos 0 → pos 0 ≤ℤ e → int_max (pos 0) (int_max c (int_min e x))
    ≡ int_max (pos 0) (int_min e x)
above-only c e x least greatest = omega (arith, ints, clamps, least, greatest)

pub reverse_low : (c e : ℤ) (law : Law) (d : ℤ) → c ≤ℤ pos 0 → pos 0 ≤ℤ e → low (ReverseOnly (Held c e law)) d
    ≡ low (Held c (pos 0) law) d
reverse_low c e law d = below-only c e (low law d)

pub reverse_high : (c e : ℤ) (law : Law) (d : ℤ) → c ≤ℤ pos 0 → pos 0 ≤ℤ e → high (ReverseOnly (Held c e law)) d
    ≡ high (Held c (pos 0) law) d
reverse_high c e law d = below-only c e (high law d)

pub forward_low : (c e : ℤ) (law : Law) (d : ℤ) → c ≤ℤ pos 0 → pos 0 ≤ℤ e → low (ForwardOnly (Held c e law)) d
    ≡ low (Held (pos 0) e law) d
forward_low c e law d = above-only c e (low law d)

pub forward_high : (c e : ℤ) (law : Law) (d : ℤ) → c ≤ℤ pos 0 → pos 0 ≤ℤ e → high (ForwardOnly (Held c e law)) d
    ≡ high (Held (pos 0) e law) d
forward_high c e law d = above-only c e (high law d)

-- ---- exact flows

-- bounds at a scale stay on their sides of 0
below : (S : ℕ) (c : ℤ) → c ≤ℤ pos 0 → at_scale S c ≤ℤ pos 0
below S c le = let l = times_rises S c (pos 0) le in omega (arith, ints, l)

above : (S : ℕ) (e : ℤ) → pos 0 ≤ℤ e → pos 0 ≤ℤ at_scale S e
above S e le = let l = times_rises S (pos 0) e le in omega (arith, ints, l)

nothing : (S : ℕ) → at_scale S (pos 0) ≡ pos 0
nothing S = omega (arith, ints)

pub reverse_at_least : (c e : ℤ) (law : Law) (S : ℕ) (x a : ℤ) → c ≤ℤ pos 0 → pos 0 ≤ℤ e
    → flow_at_least (ReverseOnly (Held c e law)) S x a ↔ flow_at_least (Held c (pos 0) law) S x a
reverse_at_least c e law S x a least greatest = (
  λ h. elim h.1 [
    | inl less ↦ inl less
    | inr inner ↦ inr (
      let l : a ≤ℤ pos 0 = h.0 in
          let m : a ≤ℤ at_scale S (pos 0) = omega (arith, ints, l, nothing S) in m,
      inner.1,
    )
  ],
  λ h. elim h [
    | inl less ↦ (
      let l : a ≤ℤ at_scale S c = less in let m : a ≤ℤ pos 0 = omega (arith, ints, l, below S c least) in
          m,
      inl less,
    )
    | inr inner ↦ (
      let l : a ≤ℤ at_scale S (pos 0) = inner.0 in let m : a ≤ℤ pos 0 = omega (arith, ints, l, nothing S) in m,
      inr (
        let l : a ≤ℤ at_scale S (pos 0) = inner.0 in
            let m : a ≤ℤ at_scale S e = omega (arith, ints, l, nothing S, above S e greatest) in m,
        inner.1,
      ),
    )
  ],
)

pub reverse_at_most : (c e : ℤ) (law : Law) (S : ℕ) (x a : ℤ) → c ≤ℤ pos 0 → pos 0 ≤ℤ e
    → flow_at_most (ReverseOnly (Held c e law)) S x a ↔ flow_at_most (Held c (pos 0) law) S x a
reverse_at_most c e law S x a least greatest = (
  λ h. elim h [
    | inl none ↦ inl (let l : pos 0 ≤ℤ a = none in
        let m : at_scale S (pos 0) ≤ℤ a = omega (arith, ints, l, nothing S) in m)
    | inr held ↦ elim held [
      | inl more ↦ inl (let l : at_scale S e ≤ℤ a = more in
          let m : at_scale S (pos 0) ≤ℤ a = omega (arith, ints, l, nothing S, above S e greatest) in m)
      | inr inner ↦ inr inner
    ]
  ],
  λ h. elim h [
    | inl none ↦ inl (let l : at_scale S (pos 0) ≤ℤ a = none in
        let m : pos 0 ≤ℤ a = omega (arith, ints, l, nothing S) in m)
    | inr inner ↦ inr (inr inner)
  ],
)

pub forward_at_least : (c e : ℤ) (law : Law) (S : ℕ) (x a : ℤ) → c ≤ℤ pos 0 → pos 0 ≤ℤ e
    → flow_at_least (ForwardOnly (Held c e law)) S x a ↔ flow_at_least (Held (pos 0) e law) S x a
forward_at_least c e law S x a least greatest = (
  λ h. elim h [
    | inl none ↦ inl (let l : a ≤ℤ pos 0 = none in
        let m : a ≤ℤ at_scale S (pos 0) = omega (arith, ints, l, nothing S) in m)
    | inr held ↦ elim held [
      | inl less ↦ inl (let l : a ≤ℤ at_scale S c = less in
          let m : a ≤ℤ at_scale S (pos 0) = omega (arith, ints, l, nothing S, below S c least) in m)
      | inr inner ↦ inr inner
    ]
  ],
  λ h. elim h [
    | inl none ↦ inl (let l : a ≤ℤ at_scale S (pos 0) = none in
        let m : a ≤ℤ pos 0 = omega (arith, ints, l, nothing S) in m)
    | inr inner ↦ inr (inr inner)
  ],
)

pub forward_at_most : (c e : ℤ) (law : Law) (S : ℕ) (x a : ℤ) → c ≤ℤ pos 0 → pos 0 ≤ℤ e
    → flow_at_most (ForwardOnly (Held c e law)) S x a ↔ flow_at_most (Held (pos 0) e law) S x a
forward_at_most c e law S x a least greatest = (
  λ h. elim h.1 [
    | inl more ↦ inl more
    | inr inner ↦ inr (
      let l : pos 0 ≤ℤ a = h.0 in
          let m : at_scale S (pos 0) ≤ℤ a = omega (arith, ints, l, nothing S) in m,
      inner.1,
    )
  ],
  λ h. elim h [
    | inl more ↦ (
      let l : at_scale S e ≤ℤ a = more in
          let m : pos 0 ≤ℤ a = omega (arith, ints, l, above S e greatest) in m,
      inl more,
    )
    | inr inner ↦ (
      let l : at_scale S (pos 0) ≤ℤ a = inner.0 in let m : pos 0 ≤ℤ a = omega (arith, ints, l, nothing S) in m,
      inr (
        let l : at_scale S (pos 0) ≤ℤ a = inner.0 in
            let m : at_scale S c ≤ℤ a = omega (arith, ints, l, nothing S, below S c least) in m,
        inner.1,
      ),
    )
  ],
)
