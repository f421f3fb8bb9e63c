-- The capacity of the pipe of 1000 feet is the one that its numbers stand for. The diameter is one foot, whose
-- powers and roots are 1.
use Rattle.std.proofs.Common.{◌≡◌, ℕ, ◌+◌, ◌*◌, ◌^◌, ◌<◌, ◌≤◌, neg_ℤ, pos, Bool, true, inl, inr, refl, sym, subst}
use Rattle.std.proofs.Common.{arith, lit≤}
use Rattle.std.proofs.Common.{lit<, mul-le-mul_right, mul-lt-mul_of_pos_right, lt_of_mul-lt-mul_right}
use Rattle.std.proofs.lemmas.Bool.{cases_lt}
use Rattle.std.proofs.lemmas.Nat.{pow_pos}
use borrow.Author.Differences.{up, down}
use Rattle.hyd_num.specs.declared.binary.Scaled.{Scaled}
use Rattle.hyd_num.specs.declared.pairs.Pair.{Pair}
use Rattle.hyd_num.specs.BinaryNumbers.{numerator, denominator, IsUp}
use Rattle.hyd_num.specs.Pairs.{IsProduct, IsPower, once as power_once, even, odd, IsOwnPower, RootsBelow, RootsAbove}
use Rattle.hyd_num.specs.Pairs.{IsRoot533}
use Rattle.hyd_num.specs.declared.decimals.Decimal.{Decimal}
use Rattle.hyd_num.specs.declared.link_capacities.Origin.TheVariants.{Pipe}
use Rattle.hyd_num.specs.FileQuantity.{billionths, feet, feet_across}
use Rattle.hyd_num.specs.CapacityPairs.{IsPairOf, IsMade}
use Rattle.hyd_num.proofs.RoundingLemmas.{IsUp-exact, IsUp-next}
use Rattle.hyd_cases_of_histories.specs.Spurs.{long_pipe}
use Rattle.hyd_lemmas.proofs.PairOperations.{IsDown-near}
use Rattle.hyd_cases_of_histories.proofs.RoundPairs.{IsDown-exact, twice, ratio, product}

-- ---- rounding

-- what lies above a number and below the next one, t
IsUp-near : (p q : ℕ) (s t : Scaled) → 0 < q → numerator s * q < p * denominator s
    → p * denominator s < (s.mant + 1) * 2 ^ up s.exp * q
    → numerator t * denominator s ≡ (s.mant + 1) * 2 ^ up s.exp * denominator t → IsUp p q t
IsUp-near p q s t above lost below next = IsUp-next p q s t above lost below (record { one_more = next })

-- ---- one

abbrev pub one : Scaled
one = record { mant = 4611686018427387904; exp = neg_ℤ (pos 62); normal = lit≤ tt; short = lit< tt }

abbrev pub ones : Pair
ones = twice one

ones_product : IsProduct ones ones ones
ones_product = product one one one (lit< tt) refl

doubled : (n k : ℕ) → k ≡ 2 * n → IsPower ones n ones → IsPower ones k ones
doubled n k is power = even n k ones ones is power ones_product

doubled_more : (n k : ℕ) → k ≡ 2 * n + 1 → IsPower ones n ones → IsPower ones k ones
doubled_more n k is power = odd n k ones ones ones is power ones_product ones_product

power_100 : IsPower ones 100 ones
power_100 = doubled 50 100 refl (doubled 25 50 refl (doubled_more 12 25 refl (doubled 6 12 refl
    (doubled 3 6 refl (doubled_more 1 3 refl power_once)))))

power_533 : IsPower ones 533 ones
power_533 =
    doubled_more 266 533 refl (doubled 133 266 refl (doubled_more 66 133 refl (doubled 33 66 refl
    (doubled_more 16 33 refl
    (doubled 8 16 refl (doubled 4 8 refl (doubled 2 4 refl (doubled 1 2 refl power_once))))))))

own_power : IsOwnPower one 100 ones
own_power = record { base = ones; low = refl; high = refl; made = power_100 }

-- ---- powers above and below 1

-- a product of two numbers above 1, rounded up
up_above : (a b c d n e : ℕ) → a < c → b < d → 0 < e → (c * d) * e ≤ n * (a * b) → e < n
up_above a b c d n e first second some le =
    let f : a * b ≤ c * b = mul-le-mul_right b (omega (arith, first)) in
    let g : b * c < d * c = mul-lt-mul_of_pos_right second (omega (arith, first)) in
    let h : a * b < c * d = omega (arith, f, g) in
    let i : (a * b) * e < (c * d) * e = mul-lt-mul_of_pos_right h some in
    let j : e * (a * b) < n * (a * b) = omega (arith, i, le) in
    lt_of_mul-lt-mul_right (a * b) j

product_above : (x y r : Pair) → denominator x.hi < numerator x.hi → denominator y.hi < numerator y.hi
    → IsProduct x y r → denominator r.hi < numerator r.hi
product_above x y r first second is =
    up_above (denominator x.hi) (denominator y.hi) (numerator x.hi) (numerator y.hi) (numerator r.hi)
    (denominator r.hi) first second (pow_pos (down r.hi.exp)) is.high.at_least

power_above : (x : Pair) (n : ℕ) (r : Pair) → denominator x.hi < numerator x.hi → IsPower x n r
    → denominator r.hi < numerator r.hi
power_above x _ _ above power_once = above
power_above x _ _ above (even n k r s is power squared) =
    let l = power_above x n r above power in product_above r r s l l squared
power_above x _ _ above (odd n k r s t is power squared multiplied) =
    let l = power_above x n r above power in product_above s x t (product_above r r s l l squared) above multiplied

-- a product of two numbers below 1, rounded down
down_below : (a b c d n e : ℕ) → c < a → d < b → 0 < e → n * (a * b) ≤ (c * d) * e → n < e
down_below a b c d n e first second some le =
    let f : c * d ≤ a * d = mul-le-mul_right d (omega (arith, first)) in
    let g : d * a < b * a = mul-lt-mul_of_pos_right second (omega (arith, first)) in
    let h : c * d < a * b = omega (arith, f, g) in
    let i : (c * d) * e < (a * b) * e = mul-lt-mul_of_pos_right h some in
    let j : n * (a * b) < e * (a * b) = omega (arith, i, le) in
    lt_of_mul-lt-mul_right (a * b) j

product_below : (x y r : Pair) → numerator x.lo < denominator x.lo → numerator y.lo < denominator y.lo
    → IsProduct x y r → numerator r.lo < denominator r.lo
product_below x y r first second is =
    down_below (denominator x.lo) (denominator y.lo) (numerator x.lo) (numerator y.lo) (numerator r.lo)
    (denominator r.lo) first second (pow_pos (down r.lo.exp)) is.low.at_most

power_below : (x : Pair) (n : ℕ) (r : Pair) → numerator x.lo < denominator x.lo → IsPower x n r
    → numerator r.lo < denominator r.lo
power_below x _ _ below power_once = below
power_below x _ _ below (even n k r s is power squared) =
    let l = power_below x n r below power in product_below r r s l l squared
power_below x _ _ below (odd n k r s t is power squared multiplied) =
    let l = power_below x n r below power in product_below s x t (product_below r r s l l squared) below multiplied

-- what has a root below 1 is at most 1
root_most : (t : Scaled) → RootsBelow t one → numerator t * denominator one ≤ numerator one * denominator t
root_most t roots = elim (cases_lt (denominator t) (numerator t)) [
  | inl above ↦ absurd (
      let own = roots.made in
      let l : denominator own.base.hi < numerator own.base.hi =
      subst (λ (s : Scaled). denominator s < numerator s) (sym own.high) above in
      let m : denominator roots.result.hi < numerator roots.result.hi =
      power_above own.base 100 roots.result l own.made in
      let k = roots.at_most in omega (arith, m, k))
  | inr le ↦ omega (arith, le)
]

root_least : (t : Scaled) → RootsAbove t one → numerator one * denominator t ≤ numerator t * denominator one
root_least t roots = elim (cases_lt (numerator t) (denominator t)) [
  | inl below ↦ absurd (
      let own = roots.made in
      let l : numerator own.base.lo < denominator own.base.lo =
      subst (λ (s : Scaled). numerator s < denominator s) (sym own.low) below in
      let m : numerator roots.result.lo < denominator roots.result.lo =
      power_below own.base 100 roots.result l own.made in
      let k = roots.at_least in omega (arith, m, k))
  | inr le ↦ omega (arith, le)
]

root_of_one : IsRoot533 ones ones
root_of_one = record {
  raised = ones;
  made = power_533;
  low = record { below = record { result = ones; made = own_power; at_most = lit≤ tt }; greatest = root_most };
  high = record { above = record { result = ones; made = own_power; at_least = lit≤ tt }; least = root_least };
}

-- ---- the pairs

abbrev factor_low : Scaled
factor_low = record { mant = 5372614211467906908; exp = neg_ℤ (pos 60); normal = lit≤ tt; short = lit< tt }

abbrev factor_back : Scaled
factor_back = record { mant = 5372614211467906908; exp = neg_ℤ (pos 60); normal = lit≤ tt; short = lit< tt }

abbrev factor_high : Scaled
factor_high = record { mant = 5372614211467906909; exp = neg_ℤ (pos 60); normal = lit≤ tt; short = lit< tt }

abbrev factor : Pair
factor = record { lo = factor_low; hi = factor_high; ordered = lit≤ tt }

abbrev rough_low : Scaled
rough_low = record { mant = 5902958103587056517; exp = neg_ℤ (pos 69); normal = lit≤ tt; short = lit< tt }

abbrev rough_back : Scaled
rough_back = record { mant = 5902958103587056517; exp = neg_ℤ (pos 69); normal = lit≤ tt; short = lit< tt }

abbrev rough_high : Scaled
rough_high = record { mant = 5902958103587056518; exp = neg_ℤ (pos 69); normal = lit≤ tt; short = lit< tt }

abbrev rough : Pair
rough = record { lo = rough_low; hi = rough_high; ordered = lit≤ tt }

abbrev once_low : Scaled
once_low = record { mant = 6876946190678920842; exp = neg_ℤ (pos 67); normal = lit≤ tt; short = lit< tt }

abbrev once_back : Scaled
once_back = record { mant = 6876946190678920844; exp = neg_ℤ (pos 67); normal = lit≤ tt; short = lit< tt }

abbrev once_high : Scaled
once_high = record { mant = 6876946190678920845; exp = neg_ℤ (pos 67); normal = lit≤ tt; short = lit< tt }

abbrev once : Pair
once = record { lo = once_low; hi = once_high; ordered = lit≤ tt }

abbrev again_low : Scaled
again_low = record { mant = 8802491124069018677; exp = neg_ℤ (pos 74); normal = lit≤ tt; short = lit< tt }

abbrev again_back : Scaled
again_back = record { mant = 8802491124069018682; exp = neg_ℤ (pos 74); normal = lit≤ tt; short = lit< tt }

abbrev again_high : Scaled
again_high = record { mant = 8802491124069018683; exp = neg_ℤ (pos 74); normal = lit≤ tt; short = lit< tt }

abbrev again : Pair
again = record { lo = again_low; hi = again_high; ordered = lit≤ tt }

abbrev along_low : Scaled
along_low = record { mant = 8596182738348651051; exp = neg_ℤ (pos 64); normal = lit≤ tt; short = lit< tt }

abbrev along_back : Scaled
along_back = record { mant = 8596182738348651057; exp = neg_ℤ (pos 64); normal = lit≤ tt; short = lit< tt }

abbrev along_high : Scaled
along_high = record { mant = 8596182738348651058; exp = neg_ℤ (pos 64); normal = lit≤ tt; short = lit< tt }

abbrev along : Pair
along = record { lo = along_low; hi = along_high; ordered = lit≤ tt }

abbrev unit_low : Scaled
unit_low = record { mant = 6747643767311393360; exp = neg_ℤ (pos 35); normal = lit≤ tt; short = lit< tt }

abbrev unit_back : Scaled
unit_back = record { mant = 6747643767311393360; exp = neg_ℤ (pos 35); normal = lit≤ tt; short = lit< tt }

abbrev unit_high : Scaled
unit_high = record { mant = 6747643767311393361; exp = neg_ℤ (pos 35); normal = lit≤ tt; short = lit< tt }

abbrev unit : Pair
unit = record { lo = unit_low; hi = unit_high; ordered = lit≤ tt }

abbrev capacity_back : Scaled
capacity_back = record { mant = 7239961123724670989; exp = neg_ℤ (pos 34); normal = lit≤ tt; short = lit< tt }

abbrev pub thousand : Scaled
thousand = record { mant = 9007199254740992000; exp = neg_ℤ (pos 53); normal = lit≤ tt; short = lit< tt }

-- ---- the capacity

abbrev pub smooth : Decimal
smooth = record { nano = pos 10000000; bounded = lit≤ tt }

abbrev pub unfitted : Decimal
unfitted = record { nano = pos 0; bounded = lit≤ tt }

-- that of any pipe as rough, a thousand feet long and one foot across, in feet and inches or in metres and millimetres
pub made_of : (length diameter : Decimal) (us : Bool) → IsPairOf (feet us (billionths length)) (twice thousand)
    → IsPairOf (feet_across us (billionths diameter)) ones
    → IsMade (record long_pipe { origin = Pipe us length diameter smooth unfitted })
made_of length diameter us long_is across_is = record {
  pair = record { lo = long_pipe.lo; hi = long_pipe.hi; ordered = lit≤ tt };
  low = refl;
  high = refl;
  made = record {
    friction = along;
    friction_is = record {
      factor = factor;
      factor_is = record {
        low = IsDown-near _ _ factor_low (lit< tt) (lit< tt);
        high = IsUp-near _ _ factor_back factor_high (lit< tt) (lit< tt) (lit< tt) refl;
      };
      rough = rough;
      rough_is = record {
        low = IsDown-near _ _ rough_low (lit< tt) (lit< tt);
        high = IsUp-near _ _ rough_back rough_high (lit< tt) (lit< tt) (lit< tt) refl;
      };
      long = twice thousand;
      long_is = long_is;
      across = ones;
      across_is = across_is;
      root = ones;
      root_is = root_of_one;
      once_rough = once;
      once_rough_is = record {
        low = IsDown-near _ _ once_low (lit< tt) (lit< tt);
        high = IsUp-near _ _ once_back once_high (lit< tt) (lit< tt) (lit< tt) refl;
      };
      twice_rough = again;
      twice_rough_is = record {
        low = IsDown-near _ _ again_low (lit< tt) (lit< tt);
        high = IsUp-near _ _ again_back again_high (lit< tt) (lit< tt) (lit< tt) refl;
      };
      along = along;
      along_is = record {
        low = IsDown-near _ _ along_low (lit< tt) (lit< tt);
        high = IsUp-near _ _ along_back along_high (lit< tt) (lit< tt) (lit< tt) refl;
      };
      friction_is = record {
        low = IsDown-exact _ _ along_low (lit< tt) refl;
        high = IsUp-exact _ _ along_high (lit< tt) refl;
      };
    };
    capacity_is = record {
      unit = unit;
      unit_is = record {
        low = IsDown-near _ _ unit_low (lit< tt) (lit< tt);
        high = IsUp-near _ _ unit_back unit_high (lit< tt) (lit< tt) (lit< tt) refl;
      };
      capacity_is = record {
        low = IsDown-near _ _ long_pipe.lo (lit< tt) (lit< tt);
        high = IsUp-near _ _ capacity_back long_pipe.hi (lit< tt) (lit< tt) (lit< tt) refl;
      };
    };
  };
}

pub pipe_made : IsMade long_pipe
pipe_made = made_of (record { nano = pos 1000000000000; bounded = lit≤ tt })
    (record { nano = pos 12000000000; bounded = lit≤ tt }) true (ratio _ _ thousand (lit< tt) refl)
    (ratio _ _ one (lit< tt) refl)
