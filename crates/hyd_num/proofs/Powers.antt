-- The ends of powers: they rise with the number, enclose its exact power, and powers of two stay within powers of two.
use Rattle.std.proofs.Common.{◌≡◌, ℕ, ◌+◌, ◌*◌, ◌^◌, ◌<◌, ◌≤◌, ℤ, pos, ◌-ℤ◌, refl, ap, subst, ◌∙◌, arith, lit≤, lit<}
use Rattle.std.proofs.Common.{mul-le-mul, mul-le-mul_right, mul-pos, le_of_mul-le-mul_right, pow-suc, one-mul, add-one}
use Rattle.std.proofs.Common.{le_refl}
use Rattle.std.proofs.lemmas.Nat.{pow_pos, pow-add}
use Rattle.std.proofs.Math.Nat.{pow-zero}
use Rattle.std.proofs.lemmas.Int.{ints}
use borrow.Author.Differences.{up, down}
use Rattle.hyd_num.specs.declared.binary.Scaled.{Scaled}
use Rattle.hyd_num.specs.declared.pairs.Pair.{Pair}
use Rattle.hyd_num.specs.BinaryNumbers.{numerator, denominator, IsDown, IsUp}
use Rattle.hyd_num.specs.Pairs.{IsProduct, IsPower, once, even, odd}
use Rattle.hyd_num.proofs.EndsInOrder.{denominator_positive}

-- s is at most t
pub record Below (s t : Scaled) : Type 0 where
  pub crossed : numerator s * denominator t ≤ numerator t * denominator s

-- what is rounded up rises
up_rises : (p q u v : ℕ) (s t : Scaled) → 0 < v → p * v ≤ u * q → IsUp p q s → IsUp u v t → Below s t
up_rises p q u v s t v_above le a b = record {
  crossed = a.least t (
      let x : p * v * denominator t ≤ u * q * denominator t = mul-le-mul_right (denominator t) le in
      let y : u * denominator t * q ≤ numerator t * v * q = mul-le-mul_right q b.at_least in
      let l : p * denominator t * v ≤ numerator t * q * v = omega (arith, x, y) in
      le_of_mul-le-mul_right l v_above);
}

high_product : (x y r u v s : Pair) → Below x.hi u.hi → Below y.hi v.hi → IsProduct x y r → IsProduct u v s
    → Below r.hi s.hi
high_product x y r u v s a b p q =
    let m : numerator x.hi * denominator u.hi * (numerator y.hi * denominator v.hi) ≤ numerator u.hi
    * denominator x.hi * (numerator v.hi * denominator y.hi) = mul-le-mul a.crossed b.crossed in
    up_rises (numerator x.hi * numerator y.hi) (denominator x.hi * denominator y.hi) (numerator u.hi * numerator v.hi)
    (denominator u.hi * denominator v.hi) r.hi s.hi
    (mul-pos (denominator_positive u.hi) (denominator_positive v.hi)) (omega (arith, m)) p.high q.high

pub pow_one : (a : ℕ) → a ^ 1 ≡ a
pow_one a = pow-suc a 0 ∙ ap (λ x. x * a) (pow-zero a) ∙ one-mul a

pow_twice : (a n : ℕ) → a ^ (2 * n) ≡ a ^ n * a ^ n
pow_twice a n = let e : 2 * n ≡ n + n = omega arith in rw e (pow-add a n n)

pow_twice_more : (a n : ℕ) → a ^ (2 * n + 1) ≡ a ^ n * a ^ n * a
pow_twice_more a n = rw (add-one, pow-suc a (2 * n), pow_twice a n) refl

positive : (x : Pair) (n : ℕ) (r : Pair) → IsPower x n r → 0 < n
positive x _ _ once = lit< tt
positive x _ _ (even n k r s e p q) = omega (arith, e, positive x n r p)
positive x _ _ (odd n k r s t e p q o) = omega (arith, e)

-- a / b is at most r / d, whose square is at most s / f
squares : (a b r d s f : ℕ) → 0 < d → a * d ≤ r * b → r * r * f ≤ s * (d * d) → a * a * f ≤ s * (b * b)
squares a b r d s f above h g =
    let m : a * d * (a * d) * f ≤ r * b * (r * b) * f = mul-le-mul_right f (mul-le-mul h h) in
    let n : r * r * f * (b * b) ≤ s * (d * d) * (b * b) = mul-le-mul_right (b * b) g in
    let l : a * a * f * (d * d) ≤ s * (b * b) * (d * d) = omega (arith, m, n) in
    le_of_mul-le-mul_right l (mul-pos above above)

-- a / b is at most s / f, which multiplied by c / e is at most t / g
once_more : (a b c e s f t g : ℕ) → 0 < f → a * f ≤ s * b → s * c * g ≤ t * (f * e) → a * c * g ≤ t * (b * e)
once_more a b c e s f t g above h k =
    let m : a * f * (c * g) ≤ s * b * (c * g) = mul-le-mul_right (c * g) h in
    let n : s * c * g * b ≤ t * (f * e) * b = mul-le-mul_right b k in
    let l : a * c * g * f ≤ t * (b * e) * f = omega (arith, m, n) in
    le_of_mul-le-mul_right l above

-- a power of two as a binary number
two_scaled : (u d : ℕ) → (t : Scaled) × (numerator t * 2 ^ d ≡ 2 ^ u * denominator t)
two_scaled u d =
    let z : ℤ = (pos u -ℤ pos d) -ℤ pos 62 in
    let e : up z + 62 + d ≡ u + down z = omega (arith, ints) in
    let a : 2 ^ (up z + 62 + d) ≡ 2 ^ (up z + 62) * 2 ^ d = pow-add 2 (up z + 62) d in
    let b : 2 ^ (up z + 62) ≡ 2 ^ up z * 2 ^ 62 = pow-add 2 (up z) 62 in
    let c : 2 ^ (u + down z) ≡ 2 ^ u * 2 ^ down z = pow-add 2 u (down z) in (
      record {
        mant = 2 ^ 62;
        exp = z;
        normal = lit≤ tt;
        short = lit< tt;
      },
      omega (arith, a, ap (λ x. x * 2 ^ d) b, c, ap (λ x. 2 ^ x) e),
    )

high_two : (a b c d u v : ℕ) (x y r : Pair) → numerator x.hi * 2 ^ b ≤ 2 ^ a * denominator x.hi
    → numerator y.hi * 2 ^ d ≤ 2 ^ c * denominator y.hi
    → u ≡ a + c → v ≡ b + d → IsProduct x y r → numerator r.hi * 2 ^ v ≤ 2 ^ u * denominator r.hi
high_two a b c d u v x y r h g up_is down_is p =
    let t = two_scaled u v in
    let m : numerator x.hi * 2 ^ b * (numerator y.hi * 2 ^ d) ≤ 2 ^ a * denominator x.hi
    * (2 ^ c * denominator y.hi) = mul-le-mul h g in
    let i : 2 ^ u ≡ 2 ^ a * 2 ^ c = rw up_is (pow-add 2 a c) in
    let j : 2 ^ v ≡ 2 ^ b * 2 ^ d = rw down_is (pow-add 2 b d) in
    let n : numerator x.hi * numerator y.hi * 2 ^ v ≤ 2 ^ u * (denominator x.hi * denominator y.hi) =
    omega (
      arith,
      m,
      ap (λ w. numerator x.hi * numerator y.hi * w) j,
      ap (λ w. w * (denominator x.hi * denominator y.hi)) i,
    ) in
    let k : numerator x.hi * numerator y.hi * 2 ^ v * denominator t.0 ≤ 2 ^ u * (denominator x.hi * denominator y.hi)
    * denominator t.0 = mul-le-mul_right (denominator t.0) n in
    let o : numerator t.0 * 2 ^ v * (denominator x.hi * denominator y.hi) ≡ 2 ^ u * denominator t.0
    * (denominator x.hi * denominator y.hi) = ap (λ w. w * (denominator x.hi * denominator y.hi)) t.1 in
    let l : numerator x.hi * numerator y.hi * denominator t.0 * 2 ^ v ≤ numerator t.0
    * (denominator x.hi * denominator y.hi) * 2 ^ v = omega (arith, k, o) in
    let q : numerator r.hi * denominator t.0 ≤ numerator t.0 * denominator r.hi = p.high.least t.0
    (le_of_mul-le-mul_right l (pow_pos v)) in
    let w : numerator r.hi * denominator t.0 * 2 ^ v ≤ numerator t.0 * denominator r.hi * 2 ^ v = mul-le-mul_right
    (2 ^ v) q in
    let z : numerator t.0 * 2 ^ v * denominator r.hi ≡ 2 ^ u * denominator t.0 * denominator r.hi =
    ap (λ x. x * denominator r.hi) t.1 in
    let f : numerator r.hi * 2 ^ v * denominator t.0 ≤ 2 ^ u * denominator r.hi * denominator t.0 =
    omega (arith, w, z) in
    le_of_mul-le-mul_right f (denominator_positive t.0)

-- the upper end of a power rises with the upper end of the number
pub high_rises : (x y : Pair) (n : ℕ) (r s : Pair) → Below x.hi y.hi → IsPower x n r → IsPower y n s → Below r.hi s.hi
high_rises x y _ _ _ h once once = h
high_rises x y _ _ _ h once (even n k r s e p q) = absurd (omega (arith, e))
high_rises x y _ _ _ h once (odd n k r s t e p q o) = absurd (omega (arith, e, positive y n r p))
high_rises x y _ _ _ h (even n k r s e p q) once = absurd (omega (arith, e))
high_rises x y _ _ _ h (even n k r s e p q) (even n' k' r' s' e' p' q') =
    let f : n' ≡ n = omega (arith, e, e') in
    let a : Below r.hi r'.hi = high_rises x y n r r' h p (subst (λ m. IsPower y m r') f p') in
    high_product r r s r' r' s' a a q q'
high_rises x y _ _ _ h (even n k r s e p q) (odd n' k' r' s' t' e' p' q' o') = absurd (omega (arith, e, e'))
high_rises x y _ _ _ h (odd n k r s t e p q o) once = absurd (omega (arith, e, positive x n r p))
high_rises x y _ _ _ h (odd n k r s t e p q o) (even n' k' r' s' e' p' q') = absurd (omega (arith, e, e'))
high_rises x y _ _ _ h (odd n k r s t e p q o) (odd n' k' r' s' t' e' p' q' o') =
    let f : n' ≡ n = omega (arith, e, e') in
    let a : Below r.hi r'.hi = high_rises x y n r r' h p (subst (λ m. IsPower y m r') f p') in
    high_product s x t s' y t' (high_product r r s r' r' s' a a q q') h o o'

-- the upper end is at least the exact power of the number's upper end
pub high_encloses : (x : Pair) (n : ℕ) (r : Pair) → IsPower x n r → numerator x.hi ^ n * denominator r.hi
    ≤ numerator r.hi * denominator x.hi ^ n
high_encloses x _ _ once = rw (pow_one (numerator x.hi), pow_one (denominator x.hi)) (le_refl _)
high_encloses x _ _ (even n k r s e p q) =
    let h : numerator x.hi ^ n * denominator r.hi ≤ numerator r.hi * denominator x.hi ^ n = high_encloses x n r p in
    rw (e, pow_twice (numerator x.hi) n, pow_twice (denominator x.hi) n)
    (squares (numerator x.hi ^ n) (denominator x.hi ^ n) (numerator r.hi) (denominator r.hi) (numerator s.hi)
    (denominator s.hi) (denominator_positive r.hi) h q.high.at_least)
high_encloses x _ _ (odd n k r s t e p q o) =
    let h : numerator x.hi ^ n * denominator r.hi ≤ numerator r.hi * denominator x.hi ^ n = high_encloses x n r p in
    let g : numerator x.hi ^ n * numerator x.hi ^ n * denominator s.hi ≤ numerator s.hi
    * (denominator x.hi ^ n * denominator x.hi ^ n) =
    squares (numerator x.hi ^ n) (denominator x.hi ^ n) (numerator r.hi) (denominator r.hi) (numerator s.hi)
    (denominator s.hi) (denominator_positive r.hi) h q.high.at_least in
    rw (e, pow_twice_more (numerator x.hi) n, pow_twice_more (denominator x.hi) n)
    (once_more (numerator x.hi ^ n * numerator x.hi ^ n) (denominator x.hi ^ n * denominator x.hi ^ n)
    (numerator x.hi) (denominator x.hi) (numerator s.hi) (denominator s.hi) (numerator t.hi) (denominator t.hi)
    (denominator_positive s.hi) g o.high.at_least)

-- a power of two stays at most the power's power of two
pub high_of_two : (x : Pair) (u d n : ℕ) (r : Pair) → numerator x.hi * 2 ^ d ≤ 2 ^ u * denominator x.hi
    → IsPower x n r → numerator r.hi * 2 ^ (n * d) ≤ 2 ^ (n * u) * denominator r.hi
high_of_two x u d _ _ h once = rw (one-mul d, one-mul u) h
high_of_two x u d _ _ h (even n k r s e p q) =
    high_two (n * u) (n * d) (n * u) (n * d) (k * u) (k * d) r r s (high_of_two x u d n r h p)
    (high_of_two x u d n r h p)
    (omega (arith, ap (λ m. m * u) e)) (omega (arith, ap (λ m. m * d) e)) q
high_of_two x u d _ _ h (odd n k r s t e p q o) =
    high_two (n * u + n * u) (n * d + n * d) u d (k * u) (k * d) s x t
    (high_two (n * u) (n * d) (n * u) (n * d) (n * u + n * u) (n * d + n * d) r r s (high_of_two x u d n r h p)
    (high_of_two x u d n r h p) refl refl q) h
    (omega (arith, ap (λ m. m * u) e)) (omega (arith, ap (λ m. m * d) e)) o

-- the same for lower ends
down_rises : (p q u v : ℕ) (s t : Scaled) → 0 < q → p * v ≤ u * q → IsDown p q s → IsDown u v t → Below s t
down_rises p q u v s t q_above le a b = record {
  crossed = b.greatest s (
      let x : p * v * denominator s ≤ u * q * denominator s = mul-le-mul_right (denominator s) le in
      let y : numerator s * q * v ≤ p * denominator s * v = mul-le-mul_right v a.at_most in
      let l : numerator s * v * q ≤ u * denominator s * q = omega (arith, x, y) in
      le_of_mul-le-mul_right l q_above);
}

low_product : (x y r u v s : Pair) → Below x.lo u.lo → Below y.lo v.lo → IsProduct x y r → IsProduct u v s
    → Below r.lo s.lo
low_product x y r u v s a b p q =
    let m : numerator x.lo * denominator u.lo * (numerator y.lo * denominator v.lo) ≤ numerator u.lo
    * denominator x.lo * (numerator v.lo * denominator y.lo) = mul-le-mul a.crossed b.crossed in
    down_rises (numerator x.lo * numerator y.lo) (denominator x.lo * denominator y.lo)
    (numerator u.lo * numerator v.lo) (denominator u.lo * denominator v.lo) r.lo s.lo
    (mul-pos (denominator_positive x.lo) (denominator_positive y.lo)) (omega (arith, m)) p.low q.low

squares_below : (a b r d s f : ℕ) → 0 < d → r * b ≤ a * d → s * (d * d) ≤ r * r * f → s * (b * b) ≤ a * a * f
squares_below a b r d s f above h g =
    let m : r * b * (r * b) * f ≤ a * d * (a * d) * f = mul-le-mul_right f (mul-le-mul h h) in
    let n : s * (d * d) * (b * b) ≤ r * r * f * (b * b) = mul-le-mul_right (b * b) g in
    let l : s * (b * b) * (d * d) ≤ a * a * f * (d * d) = omega (arith, m, n) in
    le_of_mul-le-mul_right l (mul-pos above above)

once_more_below : (a b c e s f t g : ℕ) → 0 < f → s * b ≤ a * f → t * (f * e) ≤ s * c * g → t * (b * e) ≤ a * c * g
once_more_below a b c e s f t g above h k =
    let m : s * b * (c * g) ≤ a * f * (c * g) = mul-le-mul_right (c * g) h in
    let n : t * (f * e) * b ≤ s * c * g * b = mul-le-mul_right b k in
    let l : t * (b * e) * f ≤ a * c * g * f = omega (arith, m, n) in
    le_of_mul-le-mul_right l above

low_two : (a b c d u v : ℕ) (x y r : Pair) → 2 ^ a * denominator x.lo ≤ numerator x.lo * 2 ^ b
    → 2 ^ c * denominator y.lo ≤ numerator y.lo * 2 ^ d
    → u ≡ a + c → v ≡ b + d → IsProduct x y r → 2 ^ u * denominator r.lo ≤ numerator r.lo * 2 ^ v
low_two a b c d u v x y r h g up_is down_is p =
    let t = two_scaled u v in
    let m : 2 ^ a * denominator x.lo * (2 ^ c * denominator y.lo) ≤ numerator x.lo * 2 ^ b
    * (numerator y.lo * 2 ^ d) = mul-le-mul h g in
    let i : 2 ^ u ≡ 2 ^ a * 2 ^ c = rw up_is (pow-add 2 a c) in
    let j : 2 ^ v ≡ 2 ^ b * 2 ^ d = rw down_is (pow-add 2 b d) in
    let n : 2 ^ u * (denominator x.lo * denominator y.lo) ≤ numerator x.lo * numerator y.lo * 2 ^ v =
    omega (
      arith,
      m,
      ap (λ w. numerator x.lo * numerator y.lo * w) j,
      ap (λ w. w * (denominator x.lo * denominator y.lo)) i,
    ) in
    let k : 2 ^ u * (denominator x.lo * denominator y.lo) * denominator t.0 ≤ numerator x.lo * numerator y.lo * 2 ^ v
    * denominator t.0 = mul-le-mul_right (denominator t.0) n in
    let o : numerator t.0 * 2 ^ v * (denominator x.lo * denominator y.lo) ≡ 2 ^ u * denominator t.0
    * (denominator x.lo * denominator y.lo) = ap (λ w. w * (denominator x.lo * denominator y.lo)) t.1 in
    let l : numerator t.0 * (denominator x.lo * denominator y.lo) * 2 ^ v ≤ numerator x.lo * numerator y.lo
    * denominator t.0 * 2 ^ v = omega (arith, k, o) in
    let q : numerator t.0 * denominator r.lo ≤ numerator r.lo * denominator t.0 = p.low.greatest t.0
    (le_of_mul-le-mul_right l (pow_pos v)) in
    let w : numerator t.0 * denominator r.lo * 2 ^ v ≤ numerator r.lo * denominator t.0 * 2 ^ v = mul-le-mul_right
    (2 ^ v) q in
    let z : numerator t.0 * 2 ^ v * denominator r.lo ≡ 2 ^ u * denominator t.0 * denominator r.lo =
    ap (λ x. x * denominator r.lo) t.1 in
    let f : 2 ^ u * denominator r.lo * denominator t.0 ≤ numerator r.lo * 2 ^ v * denominator t.0 =
    omega (arith, w, z) in
    le_of_mul-le-mul_right f (denominator_positive t.0)

-- the lower end of a power rises with the lower end of the number
pub low_rises : (x y : Pair) (n : ℕ) (r s : Pair) → Below x.lo y.lo → IsPower x n r → IsPower y n s → Below r.lo s.lo
low_rises x y _ _ _ h once once = h
low_rises x y _ _ _ h once (even n k r s e p q) = absurd (omega (arith, e))
low_rises x y _ _ _ h once (odd n k r s t e p q o) = absurd (omega (arith, e, positive y n r p))
low_rises x y _ _ _ h (even n k r s e p q) once = absurd (omega (arith, e))
low_rises x y _ _ _ h (even n k r s e p q) (even n' k' r' s' e' p' q') =
    let f : n' ≡ n = omega (arith, e, e') in
    let a : Below r.lo r'.lo = low_rises x y n r r' h p (subst (λ m. IsPower y m r') f p') in
    low_product r r s r' r' s' a a q q'
low_rises x y _ _ _ h (even n k r s e p q) (odd n' k' r' s' t' e' p' q' o') = absurd (omega (arith, e, e'))
low_rises x y _ _ _ h (odd n k r s t e p q o) once = absurd (omega (arith, e, positive x n r p))
low_rises x y _ _ _ h (odd n k r s t e p q o) (even n' k' r' s' e' p' q') = absurd (omega (arith, e, e'))
low_rises x y _ _ _ h (odd n k r s t e p q o) (odd n' k' r' s' t' e' p' q' o') =
    let f : n' ≡ n = omega (arith, e, e') in
    let a : Below r.lo r'.lo = low_rises x y n r r' h p (subst (λ m. IsPower y m r') f p') in
    low_product s x t s' y t' (low_product r r s r' r' s' a a q q') h o o'

-- the lower end is at most the exact power of the number's lower end
pub low_encloses : (x : Pair) (n : ℕ) (r : Pair) → IsPower x n r → numerator r.lo * denominator x.lo ^ n
    ≤ numerator x.lo ^ n * denominator r.lo
low_encloses x _ _ once = rw (pow_one (numerator x.lo), pow_one (denominator x.lo)) (le_refl _)
low_encloses x _ _ (even n k r s e p q) =
    let h : numerator r.lo * denominator x.lo ^ n ≤ numerator x.lo ^ n * denominator r.lo = low_encloses x n r p in
    rw (e, pow_twice (numerator x.lo) n, pow_twice (denominator x.lo) n)
    (squares_below (numerator x.lo ^ n) (denominator x.lo ^ n) (numerator r.lo) (denominator r.lo) (numerator s.lo)
    (denominator s.lo) (denominator_positive r.lo) h q.low.at_most)
low_encloses x _ _ (odd n k r s t e p q o) =
    let h : numerator r.lo * denominator x.lo ^ n ≤ numerator x.lo ^ n * denominator r.lo = low_encloses x n r p in
    let g : numerator s.lo * (denominator x.lo ^ n * denominator x.lo ^ n) ≤ numerator x.lo ^ n * numerator x.lo ^ n
    * denominator s.lo =
    squares_below (numerator x.lo ^ n) (denominator x.lo ^ n) (numerator r.lo) (denominator r.lo) (numerator s.lo)
    (denominator s.lo) (denominator_positive r.lo) h q.low.at_most in
    rw (e, pow_twice_more (numerator x.lo) n, pow_twice_more (denominator x.lo) n)
    (once_more_below (numerator x.lo ^ n * numerator x.lo ^ n) (denominator x.lo ^ n * denominator x.lo ^ n)
    (numerator x.lo) (denominator x.lo) (numerator s.lo) (denominator s.lo) (numerator t.lo) (denominator t.lo)
    (denominator_positive s.lo) g o.low.at_most)

-- a power of two stays at least the power's power of two
pub low_of_two : (x : Pair) (u d n : ℕ) (r : Pair) → 2 ^ u * denominator x.lo ≤ numerator x.lo * 2 ^ d → IsPower x n r
    → 2 ^ (n * u) * denominator r.lo ≤ numerator r.lo * 2 ^ (n * d)
low_of_two x u d _ _ h once = rw (one-mul d, one-mul u) h
low_of_two x u d _ _ h (even n k r s e p q) =
    low_two (n * u) (n * d) (n * u) (n * d) (k * u) (k * d) r r s (low_of_two x u d n r h p) (low_of_two x u d n r h p)
    (omega (arith, ap (λ m. m * u) e)) (omega (arith, ap (λ m. m * d) e)) q
low_of_two x u d _ _ h (odd n k r s t e p q o) =
    low_two (n * u + n * u) (n * d + n * d) u d (k * u) (k * d) s x t
    (low_two (n * u) (n * d) (n * u) (n * d) (n * u + n * u) (n * d + n * d) r r s (low_of_two x u d n r h p)
    (low_of_two x u d n r h p) refl refl q) h
    (omega (arith, ap (λ m. m * u) e)) (omega (arith, ap (λ m. m * d) e)) o
