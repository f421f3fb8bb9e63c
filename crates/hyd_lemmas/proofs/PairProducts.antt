-- Each product of pairs is a pair, and so is each power.
use Rattle.std.proofs.Common.{◌≡◌, ℕ, ◌+◌, ◌*◌, ◌/◌, ◌%◌, ◌^◌, ◌<◌, ◌≤◌, ℤ, pos, ◌+ℤ◌, Bool, true, false, nat_eq, refl}
use Rattle.std.proofs.Common.{arith, mul-pos, inl, inr, div-lt_iff_lt-mul, le-div_iff_mul-le}
use Rattle.std.proofs.lemmas.Nat.{pow_pos, mul-le, mul-lt}
use Rattle.std.proofs.lemmas.Bool.{cases_lt}
use Rattle.std.proofs.lemmas.Int.{ints}
use borrow.Author.Differences.{up, down}
use Rattle.hyd_num.specs.declared.binary.Scaled.{Scaled}
use Rattle.hyd_num.specs.declared.pairs.Pair.{Pair}
use Rattle.hyd_num.specs.BinaryNumbers.{numerator, denominator, IsDown, IsUp}
use Rattle.hyd_num.specs.CutsOfBinaryNumbers.{IsCut}
use Rattle.hyd_num.specs.Pairs.{IsProduct, IsPower, once, even, odd, IsOwnPower}
use Rattle.hyd_num.proofs.RoundingLemmas.{IsCut-product, IsDown-from_cut, IsUp-exact, IsUp-next}
use Rattle.hyd_num.proofs.EndsInOrder.{products_ordered, denominator_positive}
use Rattle.hyd_lemmas.proofs.RoundingErrors.{above_of}

record ProductCut (a b : Scaled) : Type 0 where
  pub number : Scaled
  pub exact : Bool
  pub cut : IsCut (numerator a * numerator b) (denominator a * denominator b) number exact

cut_at : (k : ℕ) (e : ℤ) (a b : Scaled) → 2 ^ 62 * 2 ^ k ≤ a.mant * b.mant → a.mant * b.mant < 2 ^ 63 * 2 ^ k
    → up e + down a.exp + down b.exp ≡ k + down e + up a.exp + up b.exp → ProductCut a b
cut_at k e a b least most balance =
    let some : 0 < 2 ^ k = pow_pos k in
    let s : Scaled = record {
      mant = a.mant * b.mant / 2 ^ k;
      exp = e;
      normal = (le-div_iff_mul-le some).1 least;
      short = (div-lt_iff_lt-mul some).1 most;
    } in
    record {
      number = s;
      exact = nat_eq (a.mant * b.mant % 2 ^ k) 0;
      cut = IsCut-product k a b s (nat_eq (a.mant * b.mant % 2 ^ k) 0) refl refl balance;
    }

product_cut : (a b : Scaled) → ProductCut a b
product_cut a b =
    let least : 2 ^ 62 * 2 ^ 62 ≤ a.mant * b.mant = mul-le (2 ^ 62) (2 ^ 62) a.mant b.mant a.normal b.normal in
    let most : a.mant * b.mant < 2 ^ 63 * 2 ^ 63 = mul-lt a.mant b.mant (2 ^ 63) (2 ^ 63) a.short b.short in
    elim (cases_lt (a.mant * b.mant) (2 ^ 125)) [
      | inl l ↦ cut_at 62 ((a.exp +ℤ b.exp) +ℤ pos 62) a b least (omega (arith, l)) (omega (arith, ints))
      | inr g ↦ cut_at 63 ((a.exp +ℤ b.exp) +ℤ pos 63) a b (omega (arith, g)) most (omega (arith, ints))
    ]

pub record Rounded (p q : ℕ) : Type 0 where
  pub number : Scaled
  pub up : IsUp p q number

pub raised : (p q : ℕ) (s : Scaled) (exact : Bool) → 0 < q → IsCut p q s exact → Rounded p q
raised p q s true above cut = record { number = s; up = IsUp-exact p q s above (cut.whole refl) }
raised p q s false above cut =
    let next = above_of s in
    record {
      number = next.number;
      up = IsUp-next p q s next.number above (cut.lost refl) cut.below (record {
        one_more = next.one_more;
      });
    }

pub record Product (x y : Pair) : Type 0 where
  pub pair : Pair
  pub made : IsProduct x y pair

pub product_of : (x y : Pair) → Product x y
product_of x y =
    let low = product_cut x.lo y.lo in
    let high = product_cut x.hi y.hi in
    let down : IsDown (numerator x.lo * numerator y.lo) (denominator x.lo * denominator y.lo) low.number =
    IsDown-from_cut _ _ low.number low.exact low.cut in
    let over = raised (numerator x.hi * numerator y.hi) (denominator x.hi * denominator y.hi) high.number high.exact
    (mul-pos (denominator_positive x.hi) (denominator_positive y.hi)) high.cut in
    record {
      pair = record {
        lo = low.number;
        hi = over.number;
        ordered = products_ordered x y low.number over.number down over.up;
      };
      made = record { low = down; high = over.up };
    }

record Power (x : Pair) (n : ℕ) : Type 0 where
  pub pair : Pair
  pub made : IsPower x n pair

doubled : (x : Pair) (n k : ℕ) → k ≡ 2 * n → Power x n → Power x k
doubled x n k e half =
    let square = product_of half.pair half.pair in
    record { pair = square.pair; made = even n k half.pair square.pair e half.made square.made }

doubled_more : (x : Pair) (n k : ℕ) → k ≡ 2 * n + 1 → Power x n → Power x k
doubled_more x n k e half =
    let square = product_of half.pair half.pair in
    let more = product_of square.pair x in
    record { pair = more.pair; made = odd n k half.pair square.pair more.pair e half.made square.made more.made }

hundredth : (x : Pair) → Power x 100
hundredth x =
    doubled x 50 100 refl (doubled x 25 50 refl (doubled_more x 12 25 refl (doubled x 6 12 refl (doubled x 3 6 refl
    (doubled_more x 1 3 refl (record { pair = x; made = once }))))))

-- the 100th power of a number on its own
pub record OwnPower (s : Scaled) : Type 0 where
  pub pair : Pair
  pub made : IsOwnPower s 100 pair

pub own_power : (s : Scaled) → OwnPower s
own_power s =
    let base : Pair = record { lo = s; hi = s; ordered = omega arith } in
    let power = hundredth base in
    record { pair = power.pair; made = record { base = base; low = refl; high = refl; made = power.made } }
