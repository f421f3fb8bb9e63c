-- The greatest and the least whole number that pass a test.
use Rattle.std.proofs.Common.{◌≡◌, ℕ, zero, suc, ◌+◌, ◌<◌, ◌≤◌, inl, inr, Bool, true, false, subst, arith, le_refl, sym}
use Rattle.std.proofs.lemmas.Bool.{cases_eq, cases_lt, cond_both}
use Rattle.hyd_spec_power_laws.specs.CutPowers.{greatest, least}

pub record IsGreatest (test : ℕ → Bool) (bound r : ℕ) : Type 0 where
  pub within : r ≤ bound
  pub greatest : (k : ℕ) → k ≤ bound → 1 ≤ k → test k ≡ true → k ≤ r
  pub passes : 1 ≤ r → test r ≡ true

pub greatest_is : (test : ℕ → Bool) (bound : ℕ) → IsGreatest test bound (greatest test bound)
unfolding greatest
greatest_is test zero = record {
  within = le_refl _;
  greatest = λ k le some pass. le;
  passes = λ some. absurd (omega
      (arith, some));
}
greatest_is test (suc bound) = cond_both _ _ _ (λ (r : ℕ). IsGreatest test (suc bound) r)
    (λ yes. record { within = le_refl _; greatest = λ k le some pass. le; passes = λ some. yes })
    (λ no. let b = greatest_is test bound in record {
      within = omega (arith, b.within);
      greatest = λ k le some pass. elim (cases_eq k (suc bound)) [
        | inl e ↦ absurd (let p : test (suc bound) ≡ true = subst (λ (n : ℕ). test n ≡ true) e pass in cc)
        | inr ne ↦ b.greatest k (omega (arith, le)) some pass
      ];
      passes = b.passes;
    })

-- where what passes one test passes another, the one's greatest is at most the other's
pub greatest-rises : (one other : ℕ → Bool) (bound : ℕ) → ((k : ℕ) → 1 ≤ k → k ≤ bound → one k ≡ true → other k ≡ true)
    → greatest one bound ≤ greatest other bound
greatest-rises one other bound implies =
    let a = greatest_is one bound in
    let b = greatest_is other bound in
    elim (cases_eq (greatest one bound) 0) [
      | inl e ↦ omega (arith, e)
      | inr ne ↦
          let some : 1 ≤ greatest one bound = omega (arith, ne) in
          b.greatest (greatest one bound) a.within some (implies _ some a.within (a.passes some))
    ]

-- where passing goes on downward, the greatest is where it ends
pub greatest-at : (test : ℕ → Bool) (bound r : ℕ)
    → ((p q : ℕ) → 1 ≤ p → p ≤ q → q ≤ bound → test q ≡ true → test p ≡ true)
    → r ≤ bound → (1 ≤ r → test r ≡ true) → (r < bound → test (r + 1) ≡ false) → r ≡ greatest test bound
greatest-at test bound r goes_on within pass fail =
    let g = greatest_is test bound in
    elim (cases_lt r (greatest test bound)) [
      | inl lt ↦ absurd (
          let p : test (greatest test bound) ≡ true = g.passes (omega (arith, lt)) in
          let q : test (r + 1) ≡ true = goes_on (r + 1) (greatest test bound) (omega arith) (omega
          (arith, lt)) g.within p in
          let f : test (r + 1) ≡ false = fail (omega (arith, lt, g.within)) in
          cc)
      | inr ge ↦ elim (cases_eq r 0) [
        | inl e ↦ omega (arith, e, ge)
        | inr ne ↦
            let some : 1 ≤ r = omega (arith, ne) in
            let l : r ≤ greatest test bound = g.greatest r within some (pass some) in
            omega (arith, l, ge)
      ]
    ]

-- ---- the least

pub record IsLeast (test : ℕ → Bool) (from many r : ℕ) : Type 0 where
  pub at_least : from ≤ r
  pub within : r ≤ from + many
  pub none : (k : ℕ) → from ≤ k → k < r → test k ≡ false
  pub passes : r < from + many → test r ≡ true

pub least_is : (test : ℕ → Bool) (from many : ℕ) → IsLeast test from many (least test from many)
unfolding least
least_is test from zero = record {
  at_least = le_refl _;
  within = omega arith;
  none = λ k low high. absurd (omega (arith, low, high));
  passes = λ lt. absurd (omega (arith, lt));
}
least_is test from (suc many) = cond_both _ _ _ (λ (r : ℕ). IsLeast test from (suc many) r)
    (λ yes. record {
      at_least = le_refl _;
      within = omega arith;
      none = λ k low high. absurd (omega (arith, low, high));
      passes = λ lt. yes;
    })
    (λ no. let b = least_is test (from + 1) many in record {
      at_least = omega (arith, b.at_least);
      within = omega (arith, b.within);
      none = λ k low high. elim (cases_eq k from) [
        | inl e ↦ subst (λ (n : ℕ). test n ≡ false) (sym e) no
        | inr ne ↦ b.none k (omega (arith, low, ne)) high
      ];
      passes = λ lt. b.passes (omega (arith, lt));
    })

-- where what passes the other test passes the one, the one's least is at most the other's
pub least-rises : (one other : ℕ → Bool) (from many : ℕ) → ((k : ℕ) → from ≤ k → k ≤ from + many → other k ≡ true
    → one k ≡ true)
    → least one from many ≤ least other from many
least-rises one other from many implies =
    let a = least_is one from many in
    let b = least_is other from many in
    elim (cases_lt (least other from many) (least one from many)) [
      | inl lt ↦ absurd (
          let p : other (least other from many) ≡ true = b.passes (omega (arith, lt, a.within)) in
          let q : one (least other from many) ≡ true = implies (least other from many) b.at_least b.within p in
          let f : one (least other from many) ≡ false = a.none (least other from many) b.at_least lt in
          cc)
      | inr ge ↦ ge
    ]

-- where passing goes on upward, the least is where it begins
pub least-at : (test : ℕ → Bool) (from many s : ℕ)
    → ((p q : ℕ) → from ≤ p → p ≤ q → q ≤ from + many → test p ≡ true → test q ≡ true)
    → from ≤ s + 1 → s + 1 ≤ from + many → (from ≤ s → test s ≡ false) → (s + 1 < from + many → test (s + 1) ≡ true)
    → s + 1 ≡ least test from many
least-at test from many s goes_on low high fail pass =
    let l = least_is test from many in
    elim (cases_lt (least test from many) (s + 1)) [
      | inl lt ↦ absurd (
          let p : test (least test from many) ≡ true = l.passes (omega (arith, lt, high)) in
          let q : test s ≡ true = goes_on (least test from many) s l.at_least (omega (arith, lt)) (omega
          (arith, high)) p in
          let f : test s ≡ false = fail (omega (arith, lt, l.at_least)) in
          cc)
      | inr ge ↦ elim (cases_lt (s + 1) (least test from many)) [
        | inl lt ↦ absurd (
            let p : test (s + 1) ≡ true = pass (omega (arith, lt, l.within)) in
            let f : test (s + 1) ≡ false = l.none (s + 1) low lt in
            cc)
        | inr le ↦ omega (arith, ge, le)
      ]
    ]
