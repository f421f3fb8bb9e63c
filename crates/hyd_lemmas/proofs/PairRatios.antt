-- Each fraction above 0 has a pair, and so has each quotient of pairs.
use Rattle.std.proofs.Common.{◌≡◌, ℕ, zero, suc, ◌+◌, ◌*◌, ◌/◌, ◌%◌, ◌^◌, ◌<◌, ◌≤◌, pos, ◌-ℤ◌, Bool, nat_eq, refl}
use Rattle.std.proofs.Common.{ap, arith, mul-pos, inl, inr, div-lt_iff_lt-mul, le-div_iff_mul-le, mod-lt, div-add-mod'}
use Rattle.std.proofs.Math.Nat.{mul-le-mul_left, mul-le-mul_right, two-pow-succ}
use Rattle.std.proofs.lemmas.Nat.{pow_pos, pow-add}
use Rattle.std.proofs.lemmas.Bool.{cases_lt}
use Rattle.std.proofs.lemmas.Int.{ints}
use borrow.Author.Differences.{up, down}
use Rattle.hyd_num.specs.declared.binary.Scaled.{Scaled}
use Rattle.hyd_num.specs.declared.pairs.Pair.{Pair}
use Rattle.hyd_num.specs.BinaryNumbers.{numerator, denominator}
use Rattle.hyd_num.specs.CutsOfBinaryNumbers.{IsCut}
use Rattle.hyd_num.specs.Pairs.{IsRatio, IsQuotient}
use Rattle.hyd_num.proofs.RoundingLemmas.{IsCut-ratio, IsDown-from_cut}
use Rattle.hyd_num.proofs.EndsInOrder.{ordered, quotients_ordered, numerator_positive, denominator_positive}
use Rattle.hyd_lemmas.proofs.PairProducts.{raised}

-- ---- cuts

pub record Cut (p q : ℕ) : Type 0 where
  pub number : Scaled
  pub exact : Bool
  pub cut : IsCut p q number exact

grown : (n : ℕ) → n < 2 ^ n
grown zero = omega arith
grown (suc n) = let g = grown n in let d = two-pow-succ n in omega (arith, g, d)

-- how often q is doubled for n to have 63 binary digits over it
record Fits (n q : ℕ) : Type 0 where
  doublings : ℕ
  least : 2 ^ 62 * (q * 2 ^ doublings) ≤ n
  most : n < 2 ^ 63 * (q * 2 ^ doublings)

twice : (q b : ℕ) → q * 2 ^ suc b ≡ q * 2 ^ b + q * 2 ^ b
twice q b = let d = ap (λ (x : ℕ). q * x) (two-pow-succ b) in omega (arith, d)

fit : (n q b : ℕ) → 2 ^ 62 * q ≤ n → n < 2 ^ 63 * (q * 2 ^ b) → Fits n q
fit n q zero base most = record { doublings = 0; least = omega (arith, base); most = most }
fit n q (suc b) base most = elim (cases_lt n (2 ^ 63 * (q * 2 ^ b))) [
  | inl less ↦ fit n q b base less
  | inr more ↦ record { doublings = suc b; least = (let d = twice q b in omega (arith, d, more)); most = most }
]

pub cut_of : (p q : ℕ) → 0 < p → 0 < q → Cut p q
cut_of p q some above =
    let digits = 62 + q in
    let n = p * 2 ^ digits in
    let base : 2 ^ 62 * q ≤ n =
    (let g = grown q in let e : 2 ^ digits ≡ 2 ^ 62 * 2 ^ q = pow-add 2 62 q in
    let l : 2 ^ 62 * q ≤ 2 ^ 62 * 2 ^ q = mul-le-mul_left (2 ^ 62) (omega (arith, g)) in
    let m : 1 * 2 ^ digits ≤ p * 2 ^ digits = mul-le-mul_right (2 ^ digits) some in
    omega (arith, l, m, e)) in
    let most : n < 2 ^ 63 * (q * 2 ^ n) =
    (let g = grown n in let m : 1 * 2 ^ n ≤ q * 2 ^ n = mul-le-mul_right (2 ^ n) above in omega (arith, g, m)) in
    let fits = fit n q n base most in
    let d = q * 2 ^ fits.doublings in
    let d_some : 0 < d = mul-pos above (pow_pos fits.doublings) in
    let s : Scaled = record {
      mant = n / d;
      exp = pos fits.doublings -ℤ pos digits;
      normal = (le-div_iff_mul-le d_some).1 fits.least;
      short = (div-lt_iff_lt-mul d_some).1 fits.most;
    } in
    record {
      number = s;
      exact = nat_eq (n % d) 0;
      cut = IsCut-ratio digits fits.doublings p q (n % d) s (nat_eq (n % d) 0) (div-add-mod' n d) (mod-lt n d_some) refl
          (omega (arith, ints));
    }

-- ---- pairs

pub record Ratio (p q : ℕ) : Type 0 where
  pub pair : Pair
  pub made : IsRatio p q pair

pub ratio_of : (p q : ℕ) → 0 < p → 0 < q → Ratio p q
ratio_of p q some above =
    let c = cut_of p q some above in
    let low = IsDown-from_cut p q c.number c.exact c.cut in
    let over = raised p q c.number c.exact above c.cut in
    record {
      pair = record {
        lo = c.number;
        hi = over.number;
        ordered = ordered p q p q c.number over.number above above
            (omega arith) low over.up;
      };
      made = record { low = low; high = over.up };
    }

pub record Quotient (x y : Pair) : Type 0 where
  pub pair : Pair
  pub made : IsQuotient x y pair

pub quotient_of : (x y : Pair) → Quotient x y
quotient_of x y =
    let low = cut_of (numerator x.lo * denominator y.hi) (denominator x.lo * numerator y.hi)
    (mul-pos (numerator_positive x.lo) (denominator_positive y.hi))
    (mul-pos (denominator_positive x.lo) (numerator_positive y.hi)) in
    let high = cut_of (numerator x.hi * denominator y.lo) (denominator x.hi * numerator y.lo)
    (mul-pos (numerator_positive x.hi) (denominator_positive y.lo))
    (mul-pos (denominator_positive x.hi) (numerator_positive y.lo)) in
    let down = IsDown-from_cut _ _ low.number low.exact low.cut in
    let over = raised _ _ high.number high.exact (mul-pos (denominator_positive x.hi) (numerator_positive y.lo))
    high.cut in
    record {
      pair = record {
        lo = low.number;
        hi = over.number;
        ordered =
            quotients_ordered x y low.number over.number down over.up;
      };
      made = record { low = down; high = over.up };
    }
