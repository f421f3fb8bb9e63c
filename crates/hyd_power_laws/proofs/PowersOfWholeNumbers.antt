-- Cut powers of whole numbers against the exact ones.
use Rattle.std.proofs.Common.{ℕ, ◌+◌, ◌*◌, ◌^◌, ◌<◌, ◌≤◌, Bool, List, arith, le_trans, mul-le-mul_right}
use Rattle.std.proofs.Math.Nat.{pow-le-pow_left}
use Rattle.std.proofs.lemmas.Nat.{mul-pow, pow-add}
use Rattle.hyd_spec_power_laws.specs.CutPowers.{value, cut_power, exponent, in_63_digits}
use Rattle.hyd_spec_power_laws.specs.CutPowers.{roundings}
use Rattle.hyd_power_laws.proofs.CutNumbers.{cut-near}
use Rattle.hyd_power_laws.proofs.CutPowers.{power-at_most, power-near}
use Rattle.hyd_power_laws.proofs.WholeNumbers.{whole-cut}

-- at most the exact power
pub whole-power-at_most : (n : ℕ) (ds : List Bool) → 1 ≤ n → n < 2 ^ 128
    → value (cut_power (in_63_digits n) ds) ≤ n ^ exponent ds * (2 ^ 62) ^ exponent ds
whole-power-at_most n ds some short =
    let c = whole-cut n some short in
    let a = power-at_most (in_63_digits n) ds c.normal in
    let b : value (in_63_digits n) ^ exponent ds ≤ (n * 2 ^ 62) ^ exponent ds = pow-le-pow_left c.at_most
    (exponent ds) in
    rw (← mul-pow n (2 ^ 62) (exponent ds)) (le_trans a b)

-- p near a power of a number that is near: with e its exponent and r the roundings of the power
near_both : (x v p e r n N : ℕ) → x * N * N ≤ v * n → v ^ e * N ^ r ≤ p * n ^ r
    → x ^ e * N ^ e * N ^ (e + r) ≤ p * n ^ (e + r)
near_both x v p e r n N g h =
    let a : (x * N * N) ^ e ≤ (v * n) ^ e = pow-le-pow_left g e in
    let b : x ^ e * N ^ e * N ^ e ≤ v ^ e * n ^ e = (rw (mul-pow (x * N) N e, mul-pow x N e, mul-pow v n e) at a) in
    let c : x ^ e * N ^ e * N ^ e * N ^ r ≤ v ^ e * n ^ e * N ^ r = mul-le-mul_right (N ^ r) b in
    let d : v ^ e * N ^ r * n ^ e ≤ p * n ^ r * n ^ e = mul-le-mul_right (n ^ e) h in
    rw (pow-add N e r, pow-add n e r) (omega (arith, c, d))

-- and near it
pub whole-power-near : (n : ℕ) (ds : List Bool) → 1 ≤ n → n < 2 ^ 128
    → n ^ exponent ds * (2 ^ 62) ^ exponent ds * (2 ^ 62) ^ (exponent ds + roundings ds)
    ≤ value (cut_power (in_63_digits n) ds) * (2 ^ 62 + 1) ^ (exponent ds + roundings ds)
whole-power-near n ds some short =
    let c = whole-cut n some short in
    near_both n (value (in_63_digits n)) (value (cut_power (in_63_digits n) ds)) (exponent ds) (roundings ds)
    (2 ^ 62 + 1)
    (2 ^ 62) (cut-near (n * 2 ^ 62) (in_63_digits n) c) (power-near (in_63_digits n) ds c.normal)
