-- There are capacities with given ends, whatever numbers they are made of.
use Rattle.std.proofs.Common.{◌≡◌, ℕ, suc, ◌*◌, ◌^◌, ◌<◌, ◌≤◌, ℤ, Bool, true, ◌&&◌, refl}
use Rattle.std.specs.Prelude.{nat_le}
use Rattle.std.proofs.lemmas.Bool.{and_parts, leb-true}
use borrow.Author.Differences.{up, down}
use Rattle.hyd_num.specs.declared.binary.Scaled.{Scaled}
use Rattle.hyd_spec.specs.ProgramTypes.{Capacity, Origin}
use Rattle.hyd_cases_of_definitions.specs.Capacities.{HasEnds}

is_normal : ℕ → Bool
is_normal mantissa = nat_le (2 ^ 62) mantissa && nat_le (suc mantissa) (2 ^ 63)

-- the lower end isn't above the upper one, and both are in the range of capacities
are_ends : ℕ → ℤ → ℕ → ℤ → Bool
are_ends m e n f = nat_le ((m * 2 ^ up e) * 2 ^ down f) ((n * 2 ^ up f) * 2 ^ down e)
    && (nat_le (2 ^ down e) ((m * 2 ^ up e) * 2 ^ 61) && nat_le (suc (n * 2 ^ up f)) (2 ^ 66 * 2 ^ down f))

unfoldable pub can_be : ℕ → ℤ → ℕ → ℤ → Bool
unfolding is_normal are_ends
can_be m e n f = (is_normal m && is_normal n) && are_ends m e n f

scaled : (m : ℕ) (e : ℤ) → 2 ^ 62 ≤ m → m < 2 ^ 63 → Scaled
scaled m e normal short = record { mant = m; exp = e; normal = normal; short = short }

pub with_ends : (origin : Origin) (m : ℕ) (e : ℤ) (n : ℕ) (f : ℤ) → can_be m e n f ≡ true
    → (capacity : Capacity) × HasEnds capacity m e n f
unfolding can_be is_normal are_ends scaled
with_ends origin m e n f can =
    let parts = and_parts _ _ can in
    let normal = and_parts _ _ parts.0 in
    let low = and_parts _ _ normal.0 in
    let high = and_parts _ _ normal.1 in
    let ends = and_parts _ _ parts.1 in
    let range = and_parts _ _ ends.1 in (
      record {
        lo = scaled m e (leb-true _ _ low.0) (leb-true _ _ low.1);
        hi = scaled n f (leb-true _ _ high.0) (leb-true _ _ high.1);
        origin = origin;
        ordered = leb-true _ _ ends.0;
        least = leb-true _ _ range.0;
        greatest = leb-true _ _ range.1;
      },
      record { low_mantissa_is = refl; low_exponent_is = refl; high_mantissa_is = refl; high_exponent_is = refl },
    )
