-- Whole roots: the greatest number whose square is at most a fraction, and the least whose square is at least it.
use Rattle.std.proofs.Common.{◌≡◌, ℕ, zero, suc, ◌+◌, ◌*◌, ◌/◌, ◌^◌, ◌<◌, ◌≤◌, Bool, ◌&&◌, if◌then◌else◌, refl, sym}
use Rattle.std.proofs.Common.{subst, arith, inl, inr}
use Rattle.std.specs.Prelude.{nat_le}
use Rattle.std.proofs.Math.Nat.{mul-le-mul_right, le_of_mul-le-mul_right}
use Rattle.std.proofs.lemmas.Bool.{cases_lt, cases_eq, cond_both, and_parts, leb-true, leb-false, eqb-true, eqb-false}
use Rattle.std.proofs.lemmas.Nat.{mul-le}
use Rattle.hyd_num.specs.QuotientsAndRoots.{IsSquareRootDown, IsSquareRootUp}
use Rattle.hyd_spec_certificates.specs.EnclosingFunctions.{greatest_root, root_down, root_up}

record IsGreatest (bound p q r : ℕ) : Type 0 where
  at_most : r * r * q ≤ p
  greatest : (k : ℕ) → k ≤ bound → k * k * q ≤ p → k ≤ r

greatest_is : (bound p q : ℕ) → IsGreatest bound p q (greatest_root bound p q)
unfolding greatest_root
greatest_is zero p q = record { at_most = omega arith; greatest = λ k le fits. le }
greatest_is (suc bound) p q = cond_both _ _ _ (λ r. IsGreatest (suc bound) p q r)
    (λ yes. record { at_most = leb-true _ _ yes; greatest = λ k le fits. le })
    (λ no. record {
      at_most = (greatest_is bound p q).at_most;
      greatest = λ k le fits. elim (cases_eq k (suc bound)) [
        | inl e ↦ absurd (let big : suc bound * suc bound * q ≤ p = subst (λ (n : ℕ). n * n * q ≤ p) e fits in
            let small : p < suc bound * suc bound * q = leb-false _ _ no in omega arith)
        | inr ne ↦ (greatest_is bound p q).greatest k (let l : k ≤ bound = omega arith in l) fits
      ];
    })

square_at_least : (k q : ℕ) → 0 < q → k ≤ k * k * q
square_at_least zero q above = omega arith
square_at_least (suc k) q above = let l : suc k * 1 ≤ suc k * (suc k * q) = mul-le (suc k) 1 (suc k) (suc k * q)
    (omega arith) (let m : 1 * 1 ≤ suc k * q = mul-le 1 1 (suc k) q (omega arith) above in omega arith) in
    omega (arith, l)

pub root_down-is : (p q : ℕ) → 0 < q → IsSquareRootDown p q (root_down p q)
unfolding root_down
root_down-is p q above = record {
  at_most = (greatest_is p p q).at_most;
  greatest = λ k fits. (greatest_is p p q).greatest k (let l = square_at_least k q above in omega arith) fits;
}

square_grows : (k r : ℕ) → k ≤ r → k * k ≤ r * r
square_grows k r le = mul-le k k r r le le

pub square_reflects : (k r : ℕ) → k * k ≤ r * r → k ≤ r
square_reflects k r h = elim (cases_lt r k) [
  | inl lt ↦ absurd (let l : suc r * suc r ≤ k * k = mul-le (suc r) (suc r) k k lt lt in omega (arith, l, h))
  | inr ge ↦ ge
]

pub root_up-is : (p q : ℕ) → 0 < q → IsSquareRootUp p q (root_up p q)
unfolding root_up
root_up-is p q above = cond_both _ _ _ (λ r. IsSquareRootUp p q r)
    (λ yes. let e : root_down p q * root_down p q * q ≡ p = eqb-true _ _ yes in record {
      at_least = omega (arith, e);
      least = λ k fits. square_reflects _ k (le_of_mul-le-mul_right (let l : root_down p q * root_down p q * q ≤ k * k
          * q = omega (arith, e, fits) in l) above);
    })
    (λ no. let d = root_down-is p q above in record {
      at_least = elim (cases_lt p ((root_down p q + 1) * (root_down p q + 1) * q)) [
        | inl lt ↦ omega arith
        | inr ge ↦ absurd (let l : root_down p q + 1 ≤ root_down p q = d.greatest (root_down p q + 1) ge in omega arith)
      ];
      least = λ k fits. elim (cases_lt k (root_down p q + 1)) [
        | inl lt ↦ absurd (
            let l : k * k * q ≤ root_down p q * root_down p q * q = mul-le-mul_right q
            (square_grows k (root_down p q) (omega arith)) in
            eqb-false _ _ no (let m : root_down p q * root_down p q * q ≤ p = d.at_most in omega arith))
        | inr ge ↦ ge
      ];
    })

-- ---- a root is determined

pub down_is : (p q r : ℕ) → 0 < q → IsSquareRootDown p q r → r ≡ root_down p q
down_is p q r above root =
    let is = root_down-is p q above in
    let l : r ≤ root_down p q = is.greatest r root.at_most in
    let m : root_down p q ≤ r = root.greatest (root_down p q) is.at_most in
    omega arith

pub up_is : (p q r : ℕ) → 0 < q → IsSquareRootUp p q r → r ≡ root_up p q
up_is p q r above root =
    let is = root_up-is p q above in
    let l : root_up p q ≤ r = is.least r root.at_least in
    let m : r ≤ root_up p q = root.least (root_up p q) is.at_least in
    omega arith

-- squares in order, one of them at most a number that is below the other
square_below : (j k p q : ℕ) → j * j * q ≤ p → p < k * k * q → j < k
square_below j k p q at_most beyond = elim (cases_lt j k) [
  | inl lt ↦ lt
  | inr ge ↦ absurd (let l : k * k * q ≤ j * j * q = mul-le-mul_right q (square_grows k j ge) in
      omega (arith, l, at_most, beyond))
]

pub root_down_at : (p q k : ℕ) → 0 < q → k * k * q ≤ p → p < (k + 1) * (k + 1) * q → root_down p q ≡ k
root_down_at p q k above at_most beyond = sym (down_is p q k above (record {
  at_most = at_most;
  greatest = λ j fits. let l : j < k + 1 = square_below j (k + 1) p q fits beyond in omega (arith, l);
}))

pub root_up_at_zero : (q : ℕ) → 0 < q → root_up 0 q ≡ 0
root_up_at_zero q above = sym (up_is 0 q 0 above (record { at_least = omega arith; least = λ j fits. omega arith }))

pub root_up_at : (p q k : ℕ) → 0 < q → k * k * q < p → p ≤ (k + 1) * (k + 1) * q → root_up p q ≡ k + 1
root_up_at p q k above beyond at_least = sym (up_is p q (k + 1) above (record {
  at_least = at_least;
  least = λ j fits. elim (cases_lt k j) [
    | inl lt ↦ omega (arith, lt)
    | inr ge ↦ absurd (let l : j * j * q ≤ k * k * q = mul-le-mul_right q (square_grows j k ge) in
        omega (arith, l, fits, beyond))
  ];
}))

-- ---- roots that compute: a number found by halving is kept where it is the root

-- from a number that fits and one that doesn't, the greatest that fits, after enough halvings
halved : ℕ → ℕ → ℕ → ℕ → ℕ → ℕ
halved zero p q low high = low
halved (suc n) p q low high =
    let middle = (low + high) / 2 in
    let fits = nat_le (middle * middle * q) p in
    halved n p q (if fits then middle else low) (if fits then high else middle)

is_root : ℕ → ℕ → ℕ → Bool
is_root p q k = (nat_le 1 q && nat_le (k * k * q) p) && nat_le (suc p) ((k + 1) * (k + 1) * q)

-- roots below 2 ^ 128 compute so
unfoldable pub quick_root : ℕ → ℕ → ℕ
unfolding halved is_root
quick_root p q =
    let k = halved 128 p q 0 (2 ^ 128) in
    if is_root p q k then k else root_down p q

quick_at : (p q : ℕ) → root_down p q ≡ quick_root p q
unfolding quick_root is_root
quick_at p q = cond_both _ _ _ (λ r. root_down p q ≡ r)
    (λ yes.
    let outer = and_parts _ _ yes in
    let inner = and_parts _ _ outer.0 in
    root_down_at p q _ (leb-true _ _ inner.0) (leb-true _ _ inner.1) (leb-true _ _ outer.1))
    (λ no. refl)

-- the two functions are one: `rw root_down-quick refl` computes each root of numerals in a goal
pub root_down-quick : root_down ≡ quick_root
root_down-quick = λ i p q. quick_at p q i
