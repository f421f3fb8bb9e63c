-- What a flow in ticks, divided by the ticks in a ten-thousandth of a unit, says of the flow in units.
use Rattle.std.proofs.Common.{◌≡◌, ℕ, ◌*◌, ◌^◌, ℤ, pos, ◌*ℤ◌, ◌≤ℤ◌, arith}
use Rattle.std.proofs.lemmas.Int.{ints}
use Rattle.hyd_units.specs.declared.printed_quantities.Way.{Way}
use Rattle.hyd_units.specs.declared.printed_quantities.Way.TheVariants.{Down, Up}
use Rattle.hyd_units.specs.PrintedText.{IsWhole, IsRounded}

crossed : (d : ℕ) (k : ℤ) → k *ℤ pos (10 ^ 7 * d) ≡ pos (10 ^ 4) *ℤ (k *ℤ pos (1000 * d))
crossed d k = omega (arith, ints)

pub IsRounded-quotient : (way : Way) (n : ℤ) (d : ℕ) (count : ℤ) → IsWhole way n (pos (1000 * d)) count
    → IsRounded way (record { num = n; den = 10 ^ 7 * d }) count
IsRounded-quotient Down n d count f = record {
  at_most = rw (crossed d count) (omega (arith, ints, f.at_most));
  greatest = λ k h. let below : (k *ℤ pos (1000 * d)) ≤ℤ n = omega (arith, ints, crossed d k) in f.greatest k below;
}
IsRounded-quotient Up n d count f = record {
  at_least = rw (crossed d count) (omega (arith, ints, f.at_least));
  least = λ k h. let above : n ≤ℤ (k *ℤ pos (1000 * d)) = omega (arith, ints, crossed d k) in f.least k above;
}
