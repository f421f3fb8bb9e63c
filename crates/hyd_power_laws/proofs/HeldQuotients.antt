-- Numbers times or divided by powers of two, held at 2^122, and whether something is cut off.
use Rattle.std.proofs.Common.{◌≡◌, ℕ, ◌+◌, ◌-◌, ◌*◌, ◌/◌, ◌%◌, ◌^◌, ◌<◌, ◌≤◌, ◌⊎◌, inl, inr, true, false, min, nat_eq}
use Rattle.std.proofs.Common.{ap, sym, ◌∙◌, arith}
use Rattle.std.proofs.Common.{mul-le-mul, mul-le-mul_right, mul-lt-mul_of_pos_right, lit≤, le-mul_of_pos_right}
use Rattle.std.proofs.Common.{div-add-mod', mod-lt, eqb-true, ne_eqb}
use Rattle.std.proofs.Math.Nat.{pow-le-pow_right, div-mul-le_self, lt-div-mul-add, le-div_iff_mul-le}
use Rattle.std.proofs.lemmas.Nat.{pow_pos, pow-add}
use Rattle.std.proofs.lemmas.Bool.{cases_eq, cases_lt, eq-eqb}
use Rattle.hyd_power_laws.proofs.WholeNumbers.{quotient_at}

-- ---- a number times 2^k

pub times_held : (T k : ℕ) → 2 ^ 62 ≤ T → (2 ^ 122 ≤ T) ⊎ (60 ≤ k) → 2 ^ 122 ≤ T * 2 ^ k
times_held T k least (inl big) =
    let l : T ≤ T * 2 ^ k = le-mul_of_pos_right T (pow_pos k) in
    omega (arith, big, l)
times_held T k least (inr far) =
    let p : 2 ^ 60 ≤ 2 ^ k = pow-le-pow_right {n = 2} (lit≤ tt) far in
    let l : 2 ^ 62 * 2 ^ 60 ≤ T * 2 ^ k = mul-le-mul least p in
    omega (arith, l)

whole_power : (n k : ℕ) → k ≤ n → 2 ^ n ≡ 2 ^ (n - k) * 2 ^ k
whole_power n k le = let e : n - k + k ≡ n = omega (arith, le) in ap (λ x. 2 ^ x) (sym e) ∙ pow-add 2 (n - k) k

pub times_reaches : (T k : ℕ) → k < 60 → 2 ^ (122 - k) ≤ T → 2 ^ 122 ≤ T * 2 ^ k
times_reaches T k few le =
    let e : 2 ^ 122 ≡ 2 ^ (122 - k) * 2 ^ k = whole_power 122 k (omega (arith, few)) in
    let l : 2 ^ (122 - k) * 2 ^ k ≤ T * 2 ^ k = mul-le-mul_right (2 ^ k) le in
    omega (arith, e, l)

pub times_short : (T k : ℕ) → k < 60 → T < 2 ^ (122 - k) → T * 2 ^ k < 2 ^ 122
times_short T k few lt =
    let e : 2 ^ 122 ≡ 2 ^ (122 - k) * 2 ^ k = whole_power 122 k (omega (arith, few)) in
    let l : T * 2 ^ k < 2 ^ (122 - k) * 2 ^ k = mul-lt-mul_of_pos_right lt (pow_pos k) in
    omega (arith, e, l)

-- ---- a number of two parts divided by 2^k, for few places

sixty_four : (k : ℕ) → k < 64 → 2 ^ 64 ≡ 2 ^ (64 - k) * 2 ^ k
sixty_four k few = whole_power 64 k (omega (arith, few))

power_of_sum : (k : ℕ) → 2 ^ (58 + k) ≡ 2 ^ 58 * 2 ^ k
power_of_sum k = pow-add 2 58 k

pub few_reach : (h l k : ℕ) → 2 ^ (58 + k) ≤ h → 2 ^ 122 ≤ (h * 2 ^ 64 + l) / 2 ^ k
few_reach h l k le =
    let p = power_of_sum k in
    (le-div_iff_mul-le {x = 2 ^ 122} {y = h * 2 ^ 64 + l} (pow_pos k)).1 (omega (arith, le, p))

pub few_product : (h k : ℕ) → k < 64 → h < 2 ^ (58 + k) → h * 2 ^ (64 - k) + 2 ^ (64 - k) ≤ 2 ^ 122
few_product h k few lt =
    let p = power_of_sum k in
    let e = sixty_four k few in
    let l : (h + 1) * 2 ^ (64 - k) ≤ 2 ^ (58 + k) * 2 ^ (64 - k) = mul-le-mul_right (2 ^ (64 - k)) (omega
    (arith, lt)) in
    let q : 2 ^ (58 + k) * 2 ^ (64 - k) ≡ 2 ^ 58 * (2 ^ (64 - k) * 2 ^ k) = ap (λ x. x * 2 ^ (64 - k)) p
    ∙ omega arith in
    omega (arith, l, q, e)

quotient_below : (n d m : ℕ) → 0 < d → n < m * d → n / d < m
quotient_below n d m above lt = elim (cases_lt (n / d) m) [
  | inl l ↦ l
  | inr g ↦ absurd (
      let a : m * d ≤ n / d * d = mul-le-mul_right d g in
      let b : n / d * d ≤ n = div-mul-le_self n d in
      omega (arith, a, b, lt))
]

pub few_rest : (l k : ℕ) → k < 64 → l < 2 ^ 64 → l / 2 ^ k < 2 ^ (64 - k)
few_rest l k few lt = quotient_below l (2 ^ k) (2 ^ (64 - k)) (pow_pos k) (let e = sixty_four k few in omega
    (arith, e, lt))

pub few_quotient : (h l k : ℕ) → k < 64 → h * 2 ^ (64 - k) + l / 2 ^ k ≡ (h * 2 ^ 64 + l) / 2 ^ k
few_quotient h l k few =
    let e = sixty_four k few in
    let a : l / 2 ^ k * 2 ^ k ≤ l = div-mul-le_self l (2 ^ k) in
    let b : l < l / 2 ^ k * 2 ^ k + 2 ^ k = lt-div-mul-add {a = l} (pow_pos k) in
    quotient_at (h * 2 ^ 64 + l) (2 ^ k) (h * 2 ^ (64 - k) + l / 2 ^ k) (pow_pos k)
    (omega (arith, a, ap (λ x. h * x) e)) (omega (arith, b, ap (λ x. h * x) e))

-- what is cut off
rest_is : (n d q r : ℕ) → q ≡ n / d → q * d + r ≡ n → r ≡ n % d
rest_is n d q r e split =
    let a : n / d * d + n % d ≡ n = div-add-mod' n d in
    let b : q * d ≡ n / d * d = ap (λ x. x * d) e in
    omega (arith, a, b, split)

pub few_cut_off : (h l k : ℕ) → k < 64 → l % 2 ^ k ≡ (h * 2 ^ 64 + l) % 2 ^ k
few_cut_off h l k few =
    let e = sixty_four k few in
    let a : l / 2 ^ k * 2 ^ k + l % 2 ^ k ≡ l = div-add-mod' l (2 ^ k) in
    rest_is (h * 2 ^ 64 + l) (2 ^ k) (h * 2 ^ (64 - k) + l / 2 ^ k) (l % 2 ^ k) (few_quotient h l k few)
    (omega (arith, a, ap (λ x. h * x) e))

-- ---- for many places

more_places : (k : ℕ) → 64 ≤ k → 2 ^ k ≡ 2 ^ (k - 64) * 2 ^ 64
more_places k many = whole_power k 64 many

pub many_quotient : (h l k : ℕ) → 64 ≤ k → l < 2 ^ 64 → h / 2 ^ (k - 64) ≡ (h * 2 ^ 64 + l) / 2 ^ k
many_quotient h l k many lt =
    let e = more_places k many in
    let a : h / 2 ^ (k - 64) * 2 ^ (k - 64) ≤ h = div-mul-le_self h (2 ^ (k - 64)) in
    let b : h < h / 2 ^ (k - 64) * 2 ^ (k - 64) + 2 ^ (k - 64) = lt-div-mul-add {a = h} (pow_pos (k - 64)) in
    quotient_at (h * 2 ^ 64 + l) (2 ^ k) (h / 2 ^ (k - 64)) (pow_pos k)
    (omega (arith, a, ap (λ x. h / 2 ^ (k - 64) * x) e)) (omega (arith, b, lt, ap (λ x. (h / 2 ^ (k - 64) + 1) * x) e))

pub many_cut_off : (h l k : ℕ) → 64 ≤ k → l < 2 ^ 64 → h % 2 ^ (k - 64) * 2 ^ 64 + l ≡ (h * 2 ^ 64 + l) % 2 ^ k
many_cut_off h l k many lt =
    let e = more_places k many in
    let a : h / 2 ^ (k - 64) * 2 ^ (k - 64) + h % 2 ^ (k - 64) ≡ h = div-add-mod' h (2 ^ (k - 64)) in
    rest_is (h * 2 ^ 64 + l) (2 ^ k) (h / 2 ^ (k - 64)) (h % 2 ^ (k - 64) * 2 ^ 64 + l) (many_quotient h l k many lt)
    (omega (arith, a, ap (λ x. h / 2 ^ (k - 64) * x) e))

same_test : (a b : ℕ) → a ≡ b → nat_eq a 0 ≡ nat_eq b 0
same_test a b e = ap (λ n. nat_eq n 0) e

pub few_exact : (h l k : ℕ) → k < 64 → nat_eq (l % 2 ^ k) 0 ≡ nat_eq ((h * 2 ^ 64 + l) % 2 ^ k) 0
few_exact h l k few = same_test _ _ (few_cut_off h l k few)

pub many_exact : (h l k : ℕ) → 64 ≤ k → l < 2 ^ 64 → h % 2 ^ (k - 64) ≡ 0
    → nat_eq l 0 ≡ nat_eq ((h * 2 ^ 64 + l) % 2 ^ k) 0
many_exact h l k many lt e = same_test _ _ (omega (arith, e, many_cut_off h l k many lt))

pub many_inexact : (h l k : ℕ) → 64 ≤ k → l < 2 ^ 64 → ¬ (h % 2 ^ (k - 64) ≡ 0)
    → nat_eq (h % 2 ^ (k - 64)) 0 ≡ nat_eq ((h * 2 ^ 64 + l) % 2 ^ k) 0
many_inexact h l k many lt ne =
    ne_eqb (h % 2 ^ (k - 64)) 0 ne
    ∙ sym (ne_eqb ((h * 2 ^ 64 + l) % 2 ^ k) 0 (λ z. absurd (ne (omega (arith, z, many_cut_off h l k many lt)))))

-- ---- for more places than the number has

all_places : (k : ℕ) → 188 ≤ k → 2 ^ 188 ≤ 2 ^ k
all_places k many = pow-le-pow_right {n = 2} (lit≤ tt) many

pub none_quotient : (T k : ℕ) → 188 ≤ k → T < 2 ^ 188 → 0 ≡ T / 2 ^ k
none_quotient T k many lt = let p = all_places k many in quotient_at T (2 ^ k) 0 (pow_pos k) (omega arith) (omega
    (arith, lt, p))

pub none_exact : (T k : ℕ) → 188 ≤ k → 0 < T → T < 2 ^ 188 → false ≡ nat_eq (T % 2 ^ k) 0
none_exact T k many some lt =
    let r : T ≡ T % 2 ^ k = rest_is T (2 ^ k) 0 T (none_quotient T k many lt) (omega arith) in
    sym (ne_eqb (T % 2 ^ k) 0 (λ z. omega (arith, z, r, some)))

-- ---- m q^2 in 2^-60 ticks: n = q^2, T = m n, u and d the places of m

pub lost_up : (m n T u d p : ℕ) → T ≡ m * n → u + 60 ≡ p + d → T * 2 ^ p ≡ m * 2 ^ u * n * 2 ^ 60 / 2 ^ d
lost_up m n T u d p e balance =
    let a : 2 ^ (u + 60) ≡ 2 ^ u * 2 ^ 60 = pow-add 2 u 60 in
    let b : 2 ^ (p + d) ≡ 2 ^ p * 2 ^ d = pow-add 2 p d in
    let c : 2 ^ p * 2 ^ d ≡ 2 ^ u * 2 ^ 60 = sym b ∙ ap (λ x. 2 ^ x) (sym balance) ∙ a in
    let f : T * (2 ^ p * 2 ^ d) ≡ m * n * (2 ^ u * 2 ^ 60) = ap (λ x. x * (2 ^ p * 2 ^ d)) e ∙ ap (λ x. m * n * x) c in
    quotient_at (m * 2 ^ u * n * 2 ^ 60) (2 ^ d) (T * 2 ^ p) (pow_pos d) (omega (arith, f))
    (let z : 0 < 2 ^ d = pow_pos d in omega (arith, f, z))

pub lost_up_exact : (m n T u d p : ℕ) → T ≡ m * n → u + 60 ≡ p + d → true ≡ nat_eq (m * 2 ^ u * n * 2 ^ 60 % 2 ^ d) 0
lost_up_exact m n T u d p e balance =
    let a : 2 ^ (u + 60) ≡ 2 ^ u * 2 ^ 60 = pow-add 2 u 60 in
    let b : 2 ^ (p + d) ≡ 2 ^ p * 2 ^ d = pow-add 2 p d in
    let c : 2 ^ p * 2 ^ d ≡ 2 ^ u * 2 ^ 60 = sym b ∙ ap (λ x. 2 ^ x) (sym balance) ∙ a in
    let f : T * (2 ^ p * 2 ^ d) ≡ m * n * (2 ^ u * 2 ^ 60) = ap (λ x. x * (2 ^ p * 2 ^ d)) e ∙ ap (λ x. m * n * x) c in
    let r : 0 ≡ m * 2 ^ u * n * 2 ^ 60 % 2 ^ d = rest_is (m * 2 ^ u * n * 2 ^ 60) (2 ^ d) (T * 2 ^ p) 0
    (lost_up m n T u d p e balance) (omega (arith, f)) in
    sym (eq-eqb (m * 2 ^ u * n * 2 ^ 60 % 2 ^ d) 0 (sym r))

shift_back : (m n T u d p : ℕ) → T ≡ m * n → u ≡ 0 → d ≡ p + 60
    → (2 ^ d ≡ 2 ^ p * 2 ^ 60) × (m * 2 ^ u * n * 2 ^ 60 ≡ T * 2 ^ 60)
shift_back m n T u d p e z f = (
  ap (λ x. 2 ^ x) f ∙ pow-add 2 p 60,
  (let o : 2 ^ u ≡ 1 = ap (λ x. 2 ^ x) z in omega (arith, ap (λ x. m * x * n) o, e)),
)

pub lost_down : (m n T u d p : ℕ) → T ≡ m * n → u ≡ 0 → d ≡ p + 60 → T / 2 ^ p ≡ m * 2 ^ u * n * 2 ^ 60 / 2 ^ d
lost_down m n T u d p e z f =
    let s = shift_back m n T u d p e z f in
    let a : T / 2 ^ p * 2 ^ p ≤ T = div-mul-le_self T (2 ^ p) in
    let b : T < T / 2 ^ p * 2 ^ p + 2 ^ p = lt-div-mul-add {a = T} (pow_pos p) in
    quotient_at (m * 2 ^ u * n * 2 ^ 60) (2 ^ d) (T / 2 ^ p) (pow_pos d)
    (omega (arith, a, s.1, ap (λ x. T / 2 ^ p * x) s.0)) (omega (arith, b, s.1, ap (λ x. (T / 2 ^ p + 1) * x) s.0))

pub lost_down_exact : (m n T u d p : ℕ) → T ≡ m * n → u ≡ 0 → d ≡ p + 60
    → nat_eq (T % 2 ^ p) 0 ≡ nat_eq (m * 2 ^ u * n * 2 ^ 60 % 2 ^ d) 0
lost_down_exact m n T u d p e z f =
    let s = shift_back m n T u d p e z f in
    let a : T / 2 ^ p * 2 ^ p + T % 2 ^ p ≡ T = div-add-mod' T (2 ^ p) in
    let r : T % 2 ^ p * 2 ^ 60 ≡ m * 2 ^ u * n * 2 ^ 60 % 2 ^ d = rest_is (m * 2 ^ u * n * 2 ^ 60) (2 ^ d) (T / 2 ^ p)
    (T % 2 ^ p * 2 ^ 60) (lost_down m n T u d p e z f) (omega (arith, a, s.1, ap (λ x. T / 2 ^ p * x) s.0)) in
    elim (cases_eq (T % 2 ^ p) 0) [
      | inl none ↦ eq-eqb (T % 2 ^ p) 0 none ∙ sym (eq-eqb (m * 2 ^ u * n * 2 ^ 60 % 2 ^ d) 0 (omega (arith, none, r)))
      | inr some ↦ ne_eqb (T % 2 ^ p) 0 some
          ∙ sym (ne_eqb (m * 2 ^ u * n * 2 ^ 60 % 2 ^ d) 0 (λ y. some (omega (arith, y, r))))
    ]

-- ---- the head less that, rounded up

ceiling_exact : (X D : ℕ) → 0 < D → X % D ≡ 0 → (X + (D - 1)) / D ≡ X / D
ceiling_exact X D above e =
    let a : X / D * D + X % D ≡ X = div-add-mod' X D in
    sym (quotient_at (X + (D - 1)) D (X / D) above (omega (arith, a, e)) (omega (arith, a, e, above)))

ceiling_inexact : (X D : ℕ) → 0 < D → ¬ (X % D ≡ 0) → (X + (D - 1)) / D ≡ X / D + 1
ceiling_inexact X D above ne =
    let a : X / D * D + X % D ≡ X = div-add-mod' X D in
    let b : X % D < D = mod-lt X above in
    sym (quotient_at (X + (D - 1)) D (X / D + 1) above (omega (arith, a, ne, above)) (omega (arith, a, b, above)))

ceiling_from : (X D : ℕ) → 0 < D → X / D ≤ (X + (D - 1)) / D
ceiling_from X D above = elim (cases_eq (X % D) 0) [
  | inl z ↦ omega (arith, ceiling_exact X D above z)
  | inr ne ↦ omega (arith, ceiling_inexact X D above ne)
]

-- w is the quotient held, and whether it was exact is known where it wasn't held
pub left_exact : (H X D w : ℕ) → 0 < D → H < 2 ^ 122 → w ≡ min (X / D) (2 ^ 122) → (w < 2 ^ 122
    → true ≡ nat_eq (X % D) 0)
    → H - w ≡ H - (X + (D - 1)) / D
left_exact H X D w above short e exact = elim (cases_lt (X / D) (2 ^ 122)) [
  | inl lt ↦
      let z : X % D ≡ 0 = eqb-true (X % D) 0 (sym (exact (omega (arith, e, lt)))) in
      let c = ceiling_exact X D above z in
      omega (arith, e, lt, c)
  | inr ge ↦
      let c = ceiling_from X D above in
      omega (arith, e, ge, c, short)
]

clash_at : (n : ℕ) → n ≡ 0 → false ≡ nat_eq n 0 → ⊥
clash_at n z e = let t : nat_eq n 0 ≡ true = eq-eqb n 0 z in cc

pub left_inexact : (H X D w : ℕ) → 0 < D → H < 2 ^ 122 → w ≡ min (X / D) (2 ^ 122)
    → (w < 2 ^ 122 → false ≡ nat_eq (X % D) 0) → H - w - 1 ≡ H - (X + (D - 1)) / D
left_inexact H X D w above short e exact = elim (cases_lt (X / D) (2 ^ 122)) [
  | inl lt ↦
      let c = ceiling_inexact X D above (λ z. clash_at (X % D) z (exact (omega (arith, e, lt)))) in
      omega (arith, e, lt, c)
  | inr ge ↦
      let c = ceiling_from X D above in
      omega (arith, e, ge, c, short)
]
