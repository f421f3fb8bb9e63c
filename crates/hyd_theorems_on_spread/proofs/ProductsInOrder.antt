-- Products of a number by factors: their intervals hold each product, and narrower factors give a narrower interval.
use Rattle.std.proofs.Common.{◌≡◌, ℕ, suc, ◌*◌, ◌^◌, ◌<◌, ◌≤◌, ℤ, pos, negsuc, neg_ℤ, ◌*ℤ◌, ◌≤ℤ◌, arith}
use Rattle.std.proofs.lemmas.Int.{ints}
use Rattle.std.proofs.Math.Nat.{mul-le-mul_right}
use Rattle.hyd_num.proofs.Integers.{times_neg, times_reflects, times_rises, times_times}
use Rattle.hyd_num.specs.Rational.{Rational, floor, ceiling}
use Rattle.hyd_spec_spread.specs.Spreads.{Factors, Holds, IsNarrower, AreAmong, IsAroundOne, one_alone}
use Rattle.hyd_spec_spread.specs.IntervalsOfData.{times_factor, products}
use Rattle.hyd_lemmas.proofs.Integers.{exchanged, floor_low, ceiling_high, floor_greatest, ceiling_least}
use Rattle.hyd_lemmas.proofs.Integers.{floor_at_most_ceiling}
use Rattle.hyd_spec_certificates.specs.Interval.{Interval}

-- ---- a greater factor

grows : (a b n : ℕ) → a ≤ b → (pos a *ℤ pos n) ≤ℤ (pos b *ℤ pos n)
grows a b n le = let l = mul-le-mul_right n le in omega (arith, ints, l)

falls : (a b n : ℕ) → a ≤ b → (pos b *ℤ negsuc n) ≤ℤ (pos a *ℤ negsuc n)
falls a b n le =
    let l = grows a b (suc n) le in
    let e : pos a *ℤ negsuc n ≡ neg_ℤ (pos a *ℤ pos (suc n)) = times_neg a (pos (suc n)) in
    let f : pos b *ℤ negsuc n ≡ neg_ℤ (pos b *ℤ pos (suc n)) = times_neg b (pos (suc n)) in
    omega (arith, ints, l, e, f)

floors : (a b : ℕ) (y z : ℤ) → (pos a *ℤ y) ≤ℤ (pos b *ℤ z) → floor (times_factor a y) ≤ℤ floor (times_factor b z)
floors a b y z le = floor_greatest (times_factor b z) (floor (times_factor a y)) (omega arith)
    (let l = floor_low (times_factor a y) (omega arith) in omega (arith, ints, l, le))

ceilings : (a b : ℕ) (y z : ℤ) → (pos a *ℤ y) ≤ℤ (pos b *ℤ z)
    → ceiling (times_factor a y) ≤ℤ ceiling (times_factor b z)
ceilings a b y z le = ceiling_least (times_factor a y) (ceiling (times_factor b z)) (omega arith)
    (let l = ceiling_high (times_factor b z) (omega arith) in omega (arith, ints, l, le))

pub products-inside : (inner outer : Factors) → AreAmong inner outer → (z : ℤ)
    → IsNarrower (products inner z) (products outer z)
products-inside inner outer among (pos n) = record {
  low = floors outer.least inner.least (pos n) (pos n) (grows outer.least inner.least n among.least);
  high = ceilings inner.greatest outer.greatest (pos n) (pos n) (grows inner.greatest outer.greatest n among.greatest);
}
products-inside inner outer among (negsuc n) = record {
  low = floors outer.greatest inner.greatest (negsuc n) (negsuc n)
      (falls inner.greatest outer.greatest n among.greatest);
  high = ceilings inner.least outer.least (negsuc n) (negsuc n) (falls outer.least inner.least n among.least);
}

-- ---- what an interval of products holds

floor-at-most : (k : ℕ) (y z : ℤ) → (pos k *ℤ y) ≤ℤ (pos (10 ^ 9) *ℤ z) → floor (times_factor k y) ≤ℤ z
floor-at-most k y z le = times_reflects (10 ^ 9) (floor (times_factor k y)) z (omega arith)
    (let l = floor_low (times_factor k y) (omega arith) in omega (arith, ints, l, le))

ceiling-at-least : (k : ℕ) (y z : ℤ) → (pos (10 ^ 9) *ℤ z) ≤ℤ (pos k *ℤ y) → z ≤ℤ ceiling (times_factor k y)
ceiling-at-least k y z le = times_reflects (10 ^ 9) z (ceiling (times_factor k y)) (omega arith)
    (let l = ceiling_high (times_factor k y) (omega arith) in omega (arith, ints, l, le))

-- the number itself, where 1 is among the factors
pub products-hold : (factors : Factors) → IsAroundOne factors → (z : ℤ) → Holds (products factors z) z
products-hold factors one (pos n) = record {
  low = floor-at-most factors.least (pos n) (pos n) (grows factors.least (10 ^ 9) n one.least);
  high = ceiling-at-least factors.greatest (pos n) (pos n) (grows (10 ^ 9) factors.greatest n one.greatest);
}
products-hold factors one (negsuc n) = record {
  low = floor-at-most factors.greatest (negsuc n) (negsuc n) (falls (10 ^ 9) factors.greatest n one.greatest);
  high = ceiling-at-least factors.least (negsuc n) (negsuc n) (falls factors.least (10 ^ 9) n one.least);
}

-- and nothing else where it is the only factor
least-itself : (z : ℤ) → z ≤ℤ floor (times_factor (10 ^ 9) z)
least-itself z = floor_greatest (times_factor (10 ^ 9) z) z (omega arith) (omega (arith, ints))

greatest-itself : (z : ℤ) → ceiling (times_factor (10 ^ 9) z) ≤ℤ z
greatest-itself z = ceiling_least (times_factor (10 ^ 9) z) z (omega arith) (omega (arith, ints))

pub products-least : (z : ℤ) → (products one_alone z).lo ≡ z
products-least (pos n) =
    let a = least-itself (pos n) in
    let b = (products-hold one_alone (record { least = omega arith; greatest = omega arith }) (pos n)).low in
    omega (arith, ints, a, b)
products-least (negsuc n) =
    let a = least-itself (negsuc n) in
    let b = (products-hold one_alone (record { least = omega arith; greatest = omega arith }) (negsuc n)).low in
    omega (arith, ints, a, b)

pub products-greatest : (z : ℤ) → (products one_alone z).hi ≡ z
products-greatest (pos n) =
    let a = greatest-itself (pos n) in
    let b = (products-hold one_alone (record { least = omega arith; greatest = omega arith }) (pos n)).high in
    omega (arith, ints, a, b)
products-greatest (negsuc n) =
    let a = greatest-itself (negsuc n) in
    let b = (products-hold one_alone (record { least = omega arith; greatest = omega arith }) (negsuc n)).high in
    omega (arith, ints, a, b)

-- ---- products by any factor between the two

-- the product of a number by n / d
abbrev product_by : ℕ → ℕ → ℤ → Rational
product_by n d z = record { num = pos n *ℤ z; den = d }

floor-crossed : (a n d : ℕ) (z : ℤ) → 0 < d → (pos (d * a) *ℤ z) ≤ℤ (pos (10 ^ 9 * n) *ℤ z)
    → floor (times_factor a z) ≤ℤ floor (product_by n d z)
floor-crossed a n d z some le = floor_greatest (product_by n d z) (floor (times_factor a z)) some
    (times_reflects (10 ^ 9) (pos d *ℤ floor (times_factor a z)) (pos n *ℤ z) (omega arith)
    (let l = times_rises d (pos (10 ^ 9) *ℤ floor (times_factor a z)) (pos a *ℤ z)
    (floor_low (times_factor a z) (omega arith)) in
    omega (
      arith,
      ints,
      l,
      le,
      times_times d a z,
      times_times (10 ^ 9) n z,
      exchanged d (10 ^ 9) (floor (times_factor a z)),
    )))

ceiling-crossed : (b n d : ℕ) (z : ℤ) → 0 < d → (pos (10 ^ 9 * n) *ℤ z) ≤ℤ (pos (d * b) *ℤ z)
    → ceiling (product_by n d z) ≤ℤ ceiling (times_factor b z)
ceiling-crossed b n d z some le = ceiling_least (product_by n d z) (ceiling (times_factor b z)) some
    (times_reflects (10 ^ 9) (pos n *ℤ z) (pos d *ℤ ceiling (times_factor b z)) (omega arith)
    (let l = times_rises d (pos b *ℤ z) (pos (10 ^ 9) *ℤ ceiling (times_factor b z))
    (ceiling_high (times_factor b z) (omega arith)) in
    omega (
      arith,
      ints,
      l,
      le,
      times_times d b z,
      times_times (10 ^ 9) n z,
      exchanged d (10 ^ 9) (ceiling (times_factor b z)),
    )))

both-ends : (interval : Interval) (x : Rational) → 0 < x.den → interval.lo ≤ℤ floor x → ceiling x ≤ℤ interval.hi
    → Holds interval (floor x) × Holds interval (ceiling x)
both-ends interval x some low high =
    let l = floor_at_most_ceiling x some in (
      record { low = low; high = omega (arith, ints, high, l) },
      record { low = omega (arith, ints, low, l); high = high },
    )

-- the product by n / d, rounded down and rounded up
pub products-enclose : (factors : Factors) (z : ℤ) (n d : ℕ) → 0 < d → factors.least * d ≤ n * 10 ^ 9
    → n * 10 ^ 9 ≤ factors.greatest * d
    → Holds (products factors z) (floor (product_by n d z)) × Holds (products factors z) (ceiling (product_by n d z))
products-enclose factors (pos m) n d some least greatest =
    both-ends (products factors (pos m)) (product_by n d (pos m)) some
    (floor-crossed factors.least n d (pos m) some (grows (d * factors.least) (10 ^ 9 * n) m (omega (arith, least))))
    (ceiling-crossed factors.greatest n d (pos m) some
    (grows (10 ^ 9 * n) (d * factors.greatest) m (omega (arith, greatest))))
products-enclose factors (negsuc m) n d some least greatest =
    both-ends (products factors (negsuc m)) (product_by n d (negsuc m)) some
    (floor-crossed factors.greatest n d (negsuc m) some
    (falls (10 ^ 9 * n) (d * factors.greatest) m (omega (arith, greatest))))
    (ceiling-crossed factors.least n d (negsuc m) some
    (falls (d * factors.least) (10 ^ 9 * n) m (omega (arith, least))))
