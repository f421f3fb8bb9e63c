-- The first second at which a rate meets a need.
use Rattle.std.proofs.Common.{◌≡◌, ℕ, suc, zero, ◌≤◌, ◌⊎◌, min, ℤ, pos, negsuc, ◌*ℤ◌, ◌≤ℤ◌, ◌<ℤ◌, unsigned_abs, inl}
use Rattle.std.proofs.Common.{inr, refl, subst, arith}
use Rattle.std.specs.Int.{int_min}
use Rattle.std.proofs.Math.IntN.{*ℤ_comm}
use Rattle.std.proofs.lemmas.Int.{ints, clamps}
use Rattle.std.proofs.lemmas.Bool.{cases_lt}
use Rattle.hyd_num.proofs.Integers.{times_one_more, times_rises, one_times}
use Rattle.hyd_num.specs.QuotientsAndRoots.{IsCeiling}
use Rattle.hyd_spec.specs.PeriodLength.{IsLeast}
use Rattle.hyd_tank.specs.Contents.{IsFirstMeeting}

pub at_once : (need rate : ℤ) (cap : ℕ) → need ≤ℤ rate → IsFirstMeeting need rate cap (min cap 1)
at_once need rate cap met = record {
  holds = elim (cases_lt 0 cap) [
    | inl some ↦ inr (
      omega arith,
      subst (λ (s : ℕ). need ≤ℤ (pos s *ℤ rate)) (let e : 1 ≡ min cap 1 = omega arith in
          e) (omega (arith, ints, met, one_times rate)),
    )
    | inr none ↦ inl (omega arith)
  ];
  least = λ k at. elim at [ inl e ↦ omega arith | inr later ↦ omega (arith, later.0) ];
}

pub never : (need rate : ℤ) (cap : ℕ) → rate <ℤ need → rate ≤ℤ pos 0 → IsFirstMeeting need rate cap cap
never need rate cap short back = record {
  holds = inl refl;
  least = λ k at. elim at [ inl e ↦ omega arith | inr later ↦ absurd (none k later.0 later.1) ];
}
  where
    none : (k : ℕ) → 1 ≤ k → need ≤ℤ (pos k *ℤ rate) → ⊥
    none zero some met = omega arith
    none (suc j) some met =
        let l = times_rises j rate (pos 0) back in
        let nothing : pos j *ℤ pos 0 ≡ pos 0 = omega (arith, ints) in
        omega (arith, ints, met, l, nothing, short, times_one_more j rate)

no-ceiling : (R n : ℕ) (need : ℤ) → pos 0 <ℤ need → need ≤ℤ (negsuc n *ℤ pos R) → ⊥
no-ceiling R n need above met =
    let c = *ℤ_comm (negsuc n) (pos R) in
    let l = times_rises R (negsuc n) (pos 0) (omega (arith, ints)) in
    let e : pos R *ℤ pos 0 ≡ pos 0 = omega (arith, ints) in
    omega (arith, ints, above, met, c, l, e)

above-none : (ceil : ℤ) (R : ℕ) (need : ℤ) → pos 0 <ℤ need → need ≤ℤ (ceil *ℤ pos R) → pos 0 <ℤ ceil
above-none (pos zero) R need above met = absurd (let e : pos 0 *ℤ pos R ≡ pos 0 = omega (arith, ints) in
    omega (arith, ints, above, met, e))
above-none (pos (suc n)) R need above met = omega (arith, ints)
above-none (negsuc n) R need above met = absurd (no-ceiling R n need above met)

later-at : (need rate ceil : ℤ) (cap r : ℕ) → rate <ℤ need → pos 0 <ℤ rate → IsCeiling (need *ℤ pos 1) rate ceil
    → pos r ≡ int_min ceil (pos cap) → IsFirstMeeting need rate cap r
later-at need (pos R) ceil cap r short forward is e = record {
  holds = elim (cases_lt cap r) [
    | inl past ↦ absurd (omega (arith, ints, clamps, e))
    | inr within ↦ elim (cases_lt r cap) [
      | inl inside ↦ inr (
        (let a = above-none ceil R need (omega (arith, ints, short, forward)) reached in
            omega (arith, ints, clamps, e, a, inside)),
        subst (λ (z : ℤ). need ≤ℤ (z *ℤ pos R)) (let same : ceil ≡ pos r = omega (arith, ints, clamps, e, inside) in
            same) reached,
      )
      | inr full ↦ inl (omega (arith, within, full))
    ]
  ];
  least = λ k at. elim at [
    | inl same ↦ omega (arith, ints, clamps, e, same)
    | inr met ↦ let l = is.least (pos k) (let m = met.1 in omega (arith, ints, m)) in omega (arith, ints, clamps, e, l)
  ];
}
  where
    reached : need ≤ℤ (ceil *ℤ pos R)
    reached = let a = is.at_least in omega (arith, ints, a)
later-at need (negsuc n) ceil cap r short forward is e = absurd (omega (arith, ints, forward))

pub later : (need rate ceil z : ℤ) (cap : ℕ) → rate <ℤ need → pos 0 <ℤ rate → IsCeiling (need *ℤ pos 1) rate ceil
    → z ≡ int_min ceil (pos cap)
    → IsFirstMeeting need rate cap (unsigned_abs z)
later need (pos R) ceil z cap short forward is e =
    let m = is.at_least in
    let a = above-none ceil R need (omega (arith, ints, short, forward)) (omega (arith, ints, m)) in
    later-at need (pos R) ceil cap (unsigned_abs z) short forward is (omega (arith, ints, clamps, e, a))
later need (negsuc n) ceil z cap short forward is e = absurd (omega (arith, ints, forward))

-- ---- the same second of another test

pub first_like : (P Q : ℕ → Type 0) (cap e : ℕ) → ((s : ℕ) → 1 ≤ s → P s → Q s) → ((s : ℕ) → 1 ≤ s → Q s → P s)
    → IsLeast (λ s. (s ≡ cap) ⊎ ((1 ≤ s) × P s)) e → IsLeast (λ s. (s ≡ cap) ⊎ ((1 ≤ s) × Q s)) e
first_like P Q cap e to back is = record {
  holds = elim is.holds [ inl at ↦ inl at | inr some ↦ inr (some.0, to e some.0 some.1) ];
  least = λ k at. is.least k (turned k at);
}
  where
    turned : (k : ℕ) → (k ≡ cap) ⊎ ((1 ≤ k) × Q k) → (k ≡ cap) ⊎ ((1 ≤ k) × P k)
    turned k at = elim at [ inl same ↦ inl same | inr some ↦ inr (some.0, back k some.0 some.1) ]
