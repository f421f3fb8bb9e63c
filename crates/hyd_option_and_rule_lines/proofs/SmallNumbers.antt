-- Numbers of few digits.
use Rattle.std.proofs.Common.{◌≡◌, ℕ, ◌^◌, ◌<◌, ◌≤◌, ◌&&◌, true, List, length, nat_le, min, arith, lit≤, leb-true}
use Rattle.std.proofs.Common.{lt_of_lt_of_le}
use Rattle.std.specs.List.{list_all}
use Rattle.std.proofs.Math.Nat.{pow-le-pow_right}
use Rattle.std.proofs.lemmas.Bool.{and_parts}
use Rattle.hyd_num.specs.Numeral.{is_digit, number}
use Rattle.hyd_num.proofs.Digits.{below_power}
use Rattle.hyd_spec_input.specs.TimesAndClockTimes.{are_digits}

-- six digits write a number below a million
pub below_million : (part : List ℕ) → are_digits 6 part ≡ true → number part < 1000000
below_million part h =
    let p : (list_all is_digit part ≡ true) × ((nat_le 1 (length part) && nat_le (length part) 6) ≡ true) =
    and_parts (list_all is_digit part) (nat_le 1 (length part) && nat_le (length part) 6) h in
    let q : (nat_le 1 (length part) ≡ true) × (nat_le (length part) 6 ≡ true) =
    and_parts (nat_le 1 (length part)) (nat_le (length part) 6) p.1 in
    let l : length part ≤ 6 = leb-true (length part) 6 q.1 in
    let m : 10 ^ length part ≤ 10 ^ 6 = pow-le-pow_right (lit≤ tt) l in
    lt_of_lt_of_le (below_power part p.0) m

-- a number that is kept up to a million is the number of six digits
pub kept_million : (part : List ℕ) (n : ℕ) → are_digits 6 part ≡ true → n ≡ min (number part) 1000000
    → (n ≡ number part) × (n < 1000000)
kept_million part n h e = let l : number part < 1000000 = below_million part h in
    (omega (arith, e, l), omega (arith, e, l))
