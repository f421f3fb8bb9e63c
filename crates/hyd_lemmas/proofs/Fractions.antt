-- The order of fractions, and what rises with it.
use Rattle.std.proofs.Common.{ℕ, ◌*◌, ◌<◌, ◌≤◌, arith}
use Rattle.std.proofs.Math.Nat.{mul-le-mul_right, le_of_mul-le-mul_right, pow-le-pow_left}
use Rattle.std.proofs.lemmas.Nat.{mul-pow, mul-le}
use Rattle.hyd_num.specs.Fraction.{Fraction, times, plus, over, power, AtMost}

pub AtMost-itself : (x : Fraction) → AtMost x x
AtMost-itself x = record { crossed = omega arith }

pub AtMost-along : (x y z : Fraction) → 0 < y.den → AtMost x y → AtMost y z → AtMost x z
AtMost-along x y z above below over =
    record {
      crossed =
          let both : (x.num * z.den) * y.den ≤ (z.num * x.den) * y.den
          = omega (arith, mul-le-mul_right z.den below.crossed, mul-le-mul_right x.den over.crossed) in
          le_of_mul-le-mul_right both above;
    }

pub times-rises : (a b c d : Fraction) → AtMost a b → AtMost c d → AtMost (times a c) (times b d)
times-rises a b c d p q =
    record {
      crossed = omega (
        arith,
        mul-le (a.num * b.den) (c.num * d.den) (b.num * a.den) (d.num * c.den) p.crossed
            q.crossed,
      );
    }

-- a quotient rises with its first part and falls with its second
pub over-rises : (a b c d : Fraction) → AtMost a b → AtMost d c → AtMost (over a c) (over b d)
over-rises a b c d p q =
    record {
      crossed = omega (
        arith,
        mul-le (a.num * b.den) (d.num * c.den) (b.num * a.den) (c.num * d.den) p.crossed
            q.crossed,
      );
    }

pub plus-rises : (a b c d : Fraction) → AtMost a b → AtMost c d → AtMost (plus a c) (plus b d)
plus-rises a b c d p q =
    record {
      crossed = omega (
        arith,
        mul-le-mul_right (c.den * d.den) p.crossed,
        mul-le-mul_right (a.den * b.den)
            q.crossed,
      );
    }

pub power-rises : (a b : Fraction) (n : ℕ) → AtMost a b → AtMost (power a n) (power b n)
power-rises a b n p =
    record { crossed = rw (← mul-pow a.num b.den n, ← mul-pow b.num a.den n) (pow-le-pow_left p.crossed n) }
