-- Capacities of numbers at which nothing is rounded: those of the pump and of the emitter.
use Rattle.std.proofs.Common.{◌≡◌, ℕ, ◌*◌, ◌<◌, ◌≤◌, neg_ℤ, pos, refl, ap, arith, lit≤, lit<, mul-le-mul_right}
use Rattle.std.proofs.Common.{le_of_mul-le-mul_right}
use Rattle.hyd_num.specs.declared.binary.Scaled.{Scaled}
use Rattle.hyd_num.specs.declared.pairs.Pair.{Pair}
use Rattle.hyd_num.specs.BinaryNumbers.{numerator, denominator, IsDown}
use Rattle.hyd_num.specs.Pairs.{IsRatio, IsProduct, IsQuotient}
use Rattle.hyd_num.specs.CapacityPairs.{IsMade}
use Rattle.hyd_num.proofs.RoundingLemmas.{IsUp-exact}
use Rattle.hyd_cases_of_histories.specs.Spurs.{round_pump, hole}

-- a number that is met exactly is the greatest below
pub IsDown-exact : (p q : ℕ) (s : Scaled) → 0 < q → numerator s * q ≡ p * denominator s → IsDown p q s
IsDown-exact p q s above e = record {
  at_most = omega (arith, e);
  greatest = λ t h.
      let a : numerator t * q * denominator s ≤ p * denominator t * denominator s =
      mul-le-mul_right (denominator s) h in
      let b : numerator s * q * denominator t ≡ p * denominator s * denominator t = ap (λ x. x * denominator t) e in
      let l : numerator t * denominator s * q ≤ numerator s * denominator t * q = omega (arith, a, b) in
      le_of_mul-le-mul_right l above;
}

-- both ends are one number
abbrev pub twice : Scaled → Pair
twice s = record { lo = s; hi = s; ordered = omega arith }

pub ratio : (p q : ℕ) (s : Scaled) → 0 < q → numerator s * q ≡ p * denominator s → IsRatio p q (twice s)
ratio p q s above e = record { low = IsDown-exact p q s above e; high = IsUp-exact p q s above e }

pub product : (x y s : Scaled) → 0 < denominator x * denominator y
    → numerator s * (denominator x * denominator y) ≡ (numerator x * numerator y) * denominator s
    → IsProduct (twice x) (twice y) (twice s)
product x y s above e = record { low = IsDown-exact _ _ s above e; high = IsUp-exact _ _ s above e }

pub quotient : (x y s : Scaled) → 0 < denominator x * numerator y
    → numerator s * (denominator x * numerator y) ≡ (numerator x * denominator y) * denominator s
    → IsQuotient (twice x) (twice y) (twice s)
quotient x y s above e = record { low = IsDown-exact _ _ s above e; high = IsUp-exact _ _ s above e }

abbrev pump_flow : Scaled
pump_flow = record { mant = 5368709120000000000; exp = neg_ℤ (pos 29); normal = lit≤ tt; short = lit< tt }

abbrev pump_head : Scaled
pump_head = record { mant = 6553600000000000000; exp = neg_ℤ (pos 16); normal = lit≤ tt; short = lit< tt }

abbrev pump_square : Scaled
pump_square = record { mant = 6250000000000000000; exp = pos 4; normal = lit≤ tt; short = lit< tt }

abbrev hole_flow : Scaled
hole_flow = record { mant = 8589934592000000000; exp = neg_ℤ (pos 33); normal = lit≤ tt; short = lit< tt }

abbrev hole_head : Scaled
hole_head = record { mant = 5242880000000000000; exp = neg_ℤ (pos 19); normal = lit≤ tt; short = lit< tt }

abbrev hole_square : Scaled
hole_square = record { mant = 8000000000000000000; exp = neg_ℤ (pos 3); normal = lit≤ tt; short = lit< tt }

pub pump_made : IsMade round_pump
pump_made = record {
  pair = twice round_pump.lo;
  low = refl;
  high = refl;
  made = record {
    flows = twice pump_flow;
    flows_is = ratio _ _ pump_flow (lit< tt) refl;
    head = twice pump_head;
    head_is = ratio _ _ pump_head (lit< tt) refl;
    capacity_is = record {
      square = twice pump_square;
      square_is = product pump_flow pump_flow pump_square (lit< tt) refl;
      capacity_is = quotient pump_square pump_head round_pump.lo (lit< tt) refl;
    };
  };
}

pub hole_made : IsMade hole
hole_made = record {
  pair = twice hole.lo;
  low = refl;
  high = refl;
  made = record {
    flows = twice hole_flow;
    flows_is = ratio _ _ hole_flow (lit< tt) refl;
    head = twice hole_head;
    head_is = ratio _ _ hole_head (lit< tt) refl;
    capacity_is = record {
      square = twice hole_square;
      square_is = product hole_flow hole_flow hole_square (lit< tt) refl;
      capacity_is = quotient hole_square hole_head hole.lo (lit< tt) refl;
    };
  };
}
