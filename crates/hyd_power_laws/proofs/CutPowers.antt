-- Cut powers are below the exact ones by little, and rise.
use Rattle.std.proofs.Common.{◌≡◌, ℕ, ◌+◌, ◌*◌, ◌^◌, ◌≤◌, Bool, true, false, List, [], ◌∷◌, ap, ◌∙◌, arith}
use Rattle.std.proofs.Common.{le_refl, le_trans, one-mul, mul-le-mul, mul-le-mul_right, pow-suc, refl, length, drop}
use Rattle.std.proofs.Common.{get_or, ap₂, ◌-◌, zero, suc}
use Rattle.std.proofs.Math.Nat.{pow-zero}
use Rattle.std.proofs.lemmas.Nat.{pow-add}
use Rattle.std.proofs.lemmas.List.{drop_more, drop_all}
use Rattle.hyd_spec_power_laws.specs.declared.cut_numbers.CutNumber.{CutNumber}
use Rattle.hyd_spec_power_laws.specs.CutPowers.{value, IsNormal, cut_product, cut_power, exponent, roundings}
use Rattle.hyd_power_laws.proofs.CutNumbers.{product-cut, product-rises, cut-near}

pub pow_one : (a : ℕ) → a ^ 1 ≡ a
pow_one a = pow-suc a 0 ∙ ap (λ x. x * a) (pow-zero a) ∙ one-mul a

pub power-normal : (a : CutNumber) (ds : List Bool) → IsNormal a → IsNormal (cut_power a ds)
unfolding cut_power
power-normal a [] x = x
power-normal a (true ∷ ds) x =
    let r = power-normal a ds x in
    (product-cut _ a (product-cut (cut_power a ds) (cut_power a ds) r r).normal x).normal
power-normal a (false ∷ ds) x =
    let r = power-normal a ds x in
    (product-cut (cut_power a ds) (cut_power a ds) r r).normal

pub power-rises : (a b : CutNumber) (ds : List Bool) → IsNormal a → IsNormal b → value a ≤ value b
    → value (cut_power a ds) ≤ value (cut_power b ds)
unfolding cut_power
power-rises a b [] x y h = h
power-rises a b (true ∷ ds) x y h =
    let i = power-rises a b ds x y h in
    let p = power-normal a ds x in
    let q = power-normal b ds y in
    product-rises (cut_product (cut_power a ds) (cut_power a ds)) a (cut_product (cut_power b ds) (cut_power b ds)) b
    (product-cut (cut_power a ds) (cut_power a ds) p p).normal x
    (product-cut (cut_power b ds) (cut_power b ds) q q).normal y
    (product-rises (cut_power a ds) (cut_power a ds) (cut_power b ds) (cut_power b ds) p p q q i i) h
power-rises a b (false ∷ ds) x y h =
    let i = power-rises a b ds x y h in
    let p = power-normal a ds x in
    let q = power-normal b ds y in
    product-rises (cut_power a ds) (cut_power a ds) (cut_power b ds) (cut_power b ds) p p q q i i

-- a power is at most the exact one
pub power-at_most : (a : CutNumber) (ds : List Bool) → IsNormal a → value (cut_power a ds) ≤ value a ^ exponent ds
unfolding cut_power exponent
power-at_most a [] x = rw (pow_one (value a)) (le_refl _)
power-at_most a (true ∷ ds) x =
    let r = power-normal a ds x in
    let i = power-at_most a ds x in
    let s = product-cut (cut_power a ds) (cut_power a ds) r r in
    let t = product-cut (cut_product (cut_power a ds) (cut_power a ds)) a s.normal x in
    rw (
      pow-add (value a) (exponent ds + exponent ds) 1,
      pow-add (value a) (exponent ds) (exponent ds),
      pow_one
          (value a),
    )
    (le_trans t.at_most (mul-le-mul (le_trans s.at_most (mul-le-mul i i)) (le_refl (value a))))
power-at_most a (false ∷ ds) x =
    let r = power-normal a ds x in
    let i = power-at_most a ds x in
    rw (pow-add (value a) (exponent ds) (exponent ds))
    (le_trans (product-cut (cut_power a ds) (cut_power a ds) r r).at_most (mul-le-mul i i))

-- two numbers near their exact ones, and a product near theirs
pub near_product : (A p r B q s c n : ℕ) → A * n ^ r ≤ p * (n + 1) ^ r → B * n ^ s ≤ q * (n + 1) ^ s
    → p * q * n ≤ c * (n + 1) → A * B * n ^ (r + s + 1) ≤ c * (n + 1) ^ (r + s + 1)
near_product A p r B q s c n g h k =
    rw (pow-add n (r + s) 1, pow-add n r s, pow_one n, pow-add (n + 1) (r + s) 1, pow-add (n + 1) r s, pow_one (n + 1))
    (let l : A * n ^ r * (B * n ^ s) ≤ p * (n + 1) ^ r * (q * (n + 1) ^ s) = mul-le-mul g h in
    let m : A * n ^ r * (B * n ^ s) * n ≤ p * (n + 1) ^ r * (q * (n + 1) ^ s) * n = mul-le-mul_right n l in
    let o : p * q * n * ((n + 1) ^ r * (n + 1) ^ s) ≤ c * (n + 1) * ((n + 1) ^ r * (n + 1) ^ s) = mul-le-mul_right
    ((n + 1) ^ r * (n + 1) ^ s) k in
    omega (arith, m, o))

pub power-near : (a : CutNumber) (ds : List Bool) → IsNormal a
    → value a ^ exponent ds * (2 ^ 62) ^ roundings ds ≤ value (cut_power a ds) * (2 ^ 62 + 1) ^ roundings ds
unfolding cut_power exponent roundings
power-near a [] x = rw (pow_one (value a), pow-zero (2 ^ 62), pow-zero (2 ^ 62 + 1)) (le_refl _)
power-near a (true ∷ ds) x =
    let r = power-normal a ds x in
    let i = power-near a ds x in
    let s = product-cut (cut_power a ds) (cut_power a ds) r r in
    let t = product-cut (cut_product (cut_power a ds) (cut_power a ds)) a s.normal x in
    let k = roundings ds in
    let sq = near_product (value a ^ exponent ds) (value (cut_power a ds)) k (value a ^ exponent ds) (value
    (cut_power a ds))
    k (value (cut_product (cut_power a ds) (cut_power a ds))) (2 ^ 62) i i (cut-near _ _ s) in
    let one : value a * (2 ^ 62) ^ 0 ≤ value a * (2 ^ 62 + 1) ^ 0 =
    rw (pow-zero (2 ^ 62), pow-zero (2 ^ 62 + 1)) (le_refl _) in
    let last = near_product (value a ^ exponent ds * value a ^ exponent ds)
    (value (cut_product (cut_power a ds) (cut_power a ds))) (k + k + 1) (value a) (value a) 0
    (value (cut_product (cut_product (cut_power a ds) (cut_power a ds)) a)) (2 ^ 62) sq one (cut-near _ _ t) in
    let e : k + k + 1 + 0 + 1 ≡ k + k + 2 = omega arith in
    rw (
      pow-add (value a) (exponent ds + exponent ds) 1,
      pow-add (value a) (exponent ds) (exponent ds),
      pow_one
          (value a),
    )
    (rw e at last)
power-near a (false ∷ ds) x =
    let r = power-normal a ds x in
    let i = power-near a ds x in
    let s = product-cut (cut_power a ds) (cut_power a ds) r r in
    let k = roundings ds in
    rw (pow-add (value a) (exponent ds) (exponent ds))
    (near_product (value a ^ exponent ds) (value (cut_power a ds)) k (value a ^ exponent ds) (value (cut_power a ds))
    k (value (cut_product (cut_power a ds) (cut_power a ds))) (2 ^ 62) i i (cut-near _ _ s))

-- ---- one step, by the list of digits

pub power-once : (x : CutNumber) (rest ds : List Bool) → ds ≡ false ∷ rest
    → cut_product (cut_power x rest) (cut_power x rest) ≡ cut_power x ds
unfolding cut_power
power-once x rest ds e = rw e refl

pub power-twice : (x : CutNumber) (rest ds : List Bool) → ds ≡ true ∷ rest
    → cut_product (cut_product (cut_power x rest) (cut_power x rest)) x ≡ cut_power x ds
unfolding cut_power
power-twice x rest ds e = rw e refl

pub exponent-once : (rest ds : List Bool) → ds ≡ false ∷ rest → exponent ds ≡ exponent rest + exponent rest
unfolding exponent
exponent-once rest ds e = rw e refl

pub exponent-twice : (rest ds : List Bool) → ds ≡ true ∷ rest → exponent ds ≡ exponent rest + exponent rest + 1
unfolding exponent
exponent-twice rest ds e = rw e refl

power-none : (x : CutNumber) (ds : List Bool) → ds ≡ [] → x ≡ cut_power x ds
unfolding cut_power
power-none x ds e = rw e refl

exponent-none : (ds : List Bool) → ds ≡ [] → exponent ds ≡ 1
unfolding exponent
exponent-none ds e = rw e refl

-- no digit is left
pub power-empty : (x : CutNumber) (ds : List Bool) → x ≡ cut_power x (drop (length ds) ds)
power-empty x ds = power-none x (drop (length ds) ds) (drop_all (length ds) ds (le_refl _))

pub exponent-empty : (ds : List Bool) → exponent (drop (length ds) ds) ≡ 1
exponent-empty ds = exponent-none (drop (length ds) ds) (drop_all (length ds) ds (le_refl _))

exponent-more : (d : Bool) (ds : List Bool) → exponent ds ≤ exponent (d ∷ ds)
exponent-more true ds = omega (arith, exponent-twice ds (true ∷ ds) refl)
exponent-more false ds = omega (arith, exponent-once ds (false ∷ ds) refl)

-- the exponent of the digits from a place on is at most that of all
pub exponent-dropped : (ds : List Bool) (k : ℕ) → exponent (drop k ds) ≤ exponent ds
exponent-dropped ds zero = le_refl _
exponent-dropped [] (suc k) = le_refl _
exponent-dropped (d ∷ ds) (suc k) = le_trans (exponent-dropped ds k) (exponent-more d ds)

-- the digits from the place before
pub dropped_before : (ds : List Bool) (p : ℕ) (d b : Bool) → 1 ≤ p → p ≤ length ds → get_or ds (p - 1) d ≡ b
    → drop (p - 1) ds ≡ b ∷ drop p ds
dropped_before ds p d b some within is =
    let e : p - 1 + 1 ≡ p = omega (arith, some) in
    drop_more ds (p - 1) d (omega (arith, some, within)) ∙ ap₂ (λ c k. c ∷ drop k ds) is e
