-- Worked examples.
use Rattle.std.proofs.Common.{◌≡◌, ℕ, ◌*◌, ◌^◌, ◌<◌, ◌≤◌, ℤ, pos, ◌+ℤ◌, ◌*ℤ◌, ◌≤ℤ◌, refl, sym, ap, subst, arith, Bool}
use Rattle.std.proofs.Common.{true, false, inl, inr, [], ◌∷◌, IsTrue}
use Rattle.std.specs.Prelude.{Some, int_le, unsigned_abs}
use Rattle.std.proofs.Math.Nat.{mul-le-mul_right, pow-le-pow_left}
use Rattle.std.proofs.lemmas.Nat.{mul-pow}
use Rattle.std.proofs.lemmas.Int.{ints}
use Rattle.std.proofs.lemmas.Bool.{cases_Bool, cases_lt}
use borrow.Author.Differences.{up}
use Rattle.hyd_num.specs.Fraction.{Fraction, fraction, times, minus, over, power, AtMost}
use Rattle.hyd_num.specs.FileQuantity.{ordinary, feet, feet_across}
use Rattle.hyd_spec.specs.ProgramTypes.{Project, Decimal, Tank, Demand}
use Rattle.hyd_spec.specs.Scale.{at_scale}
use Rattle.hyd_spec.specs.DemandsHeadsAndPumpLifts.{category_demand, multipliers_of}
use Rattle.hyd_spec.specs.Loss.{head_in_feet, flow_in_cfs, PipeLossAtMost, PipeLossAtLeast, ValveLossAtMost}
use Rattle.hyd_spec.specs.Loss.{ValveLossAtLeast}
use Rattle.hyd_spec.specs.Law.{Law, Capped, flow_at_least, flow_at_most}
use Rattle.hyd_spec.specs.Tank.{Cylinder, exact_content, reaches}
use Rattle.hyd_spec.specs.PeriodLength.{IsLeast}
use Rattle.hyd_lemmas.proofs.BooleanTests.{le-yes}

-- the minor loss of a diameter and a coefficient
abbrev lost : ℕ → ℕ → Fraction
lost d k = times (over (times (record { num = 2517; den = 100000 }) (ordinary k)) (power (feet_across false d) 4))
    (power (flow_in_cfs 1 (10 ^ 10)) 2)

valve_low : AtMost (head_in_feet 1 (12816835 * 10 ^ 5)) (lost (3048 * 10 ^ 8) (100 * 10 ^ 9))
valve_low = record { crossed = omega arith }

valve_high : AtMost (lost (3048 * 10 ^ 8) (100 * 10 ^ 9)) (head_in_feet 1 (12816845 * 10 ^ 5))
valve_high = record { crossed = omega arith }

pub valve_at_least : (diameter k : Decimal) → diameter.nano ≡ pos (3048 * 10 ^ 8) → k.nano ≡ pos (100 * 10 ^ 9)
    → ValveLossAtLeast false diameter k 1 (10 ^ 10) (12816835 * 10 ^ 5)
valve_at_least diameter k wide coefficient =
    subst (λ (d : ℤ). AtMost (head_in_feet 1 (12816835 * 10 ^ 5)) (lost (up d) (up k.nano))) (sym wide)
    (subst (λ (c : ℤ). AtMost (head_in_feet 1 (12816835 * 10 ^ 5)) (lost (up (pos (3048 * 10 ^ 8))) (up c)))
    (sym coefficient) valve_low)

pub valve_at_most : (diameter k : Decimal) → diameter.nano ≡ pos (3048 * 10 ^ 8) → k.nano ≡ pos (100 * 10 ^ 9)
    → ValveLossAtMost false diameter k 1 (10 ^ 10) (12816845 * 10 ^ 5)
valve_at_most diameter k wide coefficient =
    subst (λ (d : ℤ). AtMost (lost (up d) (up k.nano)) (head_in_feet 1 (12816845 * 10 ^ 5))) (sym wide)
    (subst (λ (c : ℤ). AtMost (lost (up (pos (3048 * 10 ^ 8))) (up c)) (head_in_feet 1 (12816845 * 10 ^ 5)))
    (sym coefficient) valve_high)

-- the level after some seconds, over an area
abbrev filled : ℤ → ℕ → Bool
filled area s = int_le ((pos 1 *ℤ pos (5 * 10 ^ 13)) *ℤ pos (86400 * unsigned_abs area))
    (((pos (86400 * unsigned_abs area) *ℤ pos 0) +ℤ (pos (s * 10 ^ 15) *ℤ pos (5 * 10 ^ 10))) *ℤ pos 1)

early : (s : ℕ) → s < 27144 → filled (pos 314159265400) s ≡ false
early s le = elim (cases_Bool (filled (pos 314159265400) s)) [
  | inl held ↦ absurd (let a = le-yes ((pos 1 *ℤ pos (5 * 10 ^ 13)) *ℤ pos (86400 * 314159265400))
      (((pos (86400 * 314159265400) *ℤ pos 0) +ℤ (pos (s * 10 ^ 15) *ℤ pos (5 * 10 ^ 10))) *ℤ pos 1) held in
      omega (arith, ints, a))
  | inr fails ↦ fails
]

pub first_filled : (tank : Tank) → tank.area ≡ pos 314159265400
    → IsLeast (λ s. IsTrue (reaches 1 true (pos (5 * 10 ^ 13))
    (exact_content (Cylinder (unsigned_abs tank.area)) (record {
      level = pos 0;
      volume = pos 0;
    }) (pos (5 * 10 ^ 10)) s))) 27144
first_filled tank area = record {
  holds = subst (λ (z : ℤ). IsTrue (filled z 27144)) (sym area) refl;
  least = λ k held. elim (cases_lt k 27144) [
    | inl lt ↦ absurd (
        let no : filled (pos 314159265400) k ≡ false = early k lt in
        let yes : filled (pos 314159265400) k ≡ true = subst (λ (z : ℤ). filled z k ≡ true) area held in cc)
    | inr ge ↦ ge
  ];
}

pub capped_at_most : (setting : ℤ) (valve : Law) (S : ℕ) (x : ℤ)
    → flow_at_most (Capped setting valve) S x (at_scale S setting)
capped_at_most setting valve S x = inl (let l : (pos S *ℤ setting) ≤ℤ (pos S *ℤ setting) = omega (arith, ints) in l)

pub capped_at_least : (setting : ℤ) (valve : Law) (S : ℕ) (x : ℤ) → flow_at_least valve S x (at_scale S setting)
    → flow_at_least (Capped setting valve) S x (at_scale S setting)
capped_at_least setting valve S x passes = (
  let l : (pos S *ℤ setting) ≤ℤ (pos S *ℤ setting) = omega (arith, ints) in
      l,
  passes,
)

pub pattern_demands : (project : Project) (category : Demand) → category.base ≡ pos (10 ^ 8) → category.pattern ≡ Some 0
    → project.options.multiplier.nano ≡ pos (5 * 10 ^ 8) → project.times.pattern ≡ 3600
    → project.times.pattern_start ≡ 0
    → multipliers_of project 0 ≡ pos (10 ^ 9) ∷ (pos (2 * 10 ^ 9) ∷ (pos 0 ∷ []))
    → (category_demand project 0 category ≡ pos 50000000) × ((category_demand project 3600 category ≡ pos 100000000)
    × ((category_demand project 7200 category ≡ pos 0) × (category_demand project 10800 category ≡ pos 50000000)))
pattern_demands project category base pattern multiplier step start multipliers = (
  rw (base, pattern, multiplier, step, start, multipliers) refl,
  (
    rw (base, pattern, multiplier, step, start, multipliers) refl,
    (
      rw (base, pattern, multiplier, step, start, multipliers) refl,
      rw (base, pattern, multiplier, step, start, multipliers) refl,
    ),
  ),
)

-- ---- the pipe

-- a loss z / w of a flow whose friction is a / b, where the diameter is one foot
powers_below : (n k a b z w d : ℕ) → a * w ≤ z * b → a ^ n * (w ^ n * d ^ k) ≤ (z ^ n * d ^ k) * b ^ n
powers_below n k a b z w d le =
    let l : a ^ n * w ^ n ≤ z ^ n * b ^ n = rw (← mul-pow a w n, ← mul-pow z b n) (pow-le-pow_left le n) in
    let m : a ^ n * w ^ n * d ^ k ≤ z ^ n * b ^ n * d ^ k = mul-le-mul_right (d ^ k) l in omega (arith, m)

powers_above : (n k a b z w d : ℕ) → z * b ≤ a * w → (z ^ n * d ^ k) * b ^ n ≤ a ^ n * (w ^ n * d ^ k)
powers_above n k a b z w d le =
    let l : z ^ n * b ^ n ≤ a ^ n * w ^ n = rw (← mul-pow a w n, ← mul-pow z b n) (pow-le-pow_left le n) in
    let m : z ^ n * b ^ n * d ^ k ≤ a ^ n * w ^ n * d ^ k = mul-le-mul_right (d ^ k) l in omega (arith, m)

-- the diameter in feet is e / e
below_foot : (n k : ℕ) (f z : Fraction) (d e : ℕ) → d ≡ e → AtMost f z
    → AtMost (power f n) (times (power z n) (power (fraction d e) k))
below_foot n k f z d e same le = subst (λ (x : ℕ). AtMost (power f n) (times (power z n) (power (fraction x e) k)))
    (sym same)
    (record { crossed = powers_below n k f.num f.den z.num z.den e le.crossed })

above_foot : (n k : ℕ) (f z : Fraction) (d e : ℕ) → d ≡ e → AtMost z f
    → AtMost (times (power z n) (power (fraction d e) k)) (power f n)
above_foot n k f z d e same le = subst (λ (x : ℕ). AtMost (times (power z n) (power (fraction x e) k)) (power f n))
    (sym same)
    (record { crossed = powers_above n k f.num f.den z.num z.den e le.crossed })

-- a pipe of 1000 feet, one foot across, with a roughness of 0.01 and no minor loss, at a cubic foot a second, at scale
-- 125
abbrev worn : ℤ → ℤ → Fraction
worn length roughness = times (times (times (record {
  num = 466;
  den = 100;
}) (power (ordinary (up roughness)) 2)) (feet true (up length))) (power (flow_in_cfs 125 3058219431936) 2)

abbrev minor_lost : ℤ → ℤ → Fraction
minor_lost diameter minor =
    times (over (times (record {
      num = 2517;
      den = 100000;
    }) (ordinary (up minor))) (power (feet_across true (up diameter)) 4))
    (power (flow_in_cfs 125 3058219431936) 2)

abbrev head : Fraction
head = head_in_feet 125 (466 * 3048 * 125 * 10 ^ 6)

no_minor : (diameter minor : ℤ) → diameter ≡ pos (12 * 10 ^ 9) → minor ≡ pos 0 → AtMost (minor_lost diameter minor) head
no_minor diameter minor wide none = rw (wide, none) (record { crossed = omega arith })

worn_most : (length diameter roughness minor : ℤ) → length ≡ pos (1000 * 10 ^ 9) → diameter ≡ pos (12 * 10 ^ 9)
    → roughness ≡ pos (10 ^ 7) → minor ≡ pos 0
    → AtMost (worn length roughness) (minus head (minor_lost diameter minor))
worn_most length diameter roughness minor long wide rough none = rw (long, wide, rough, none) (record {
  crossed = omega arith;
})

worn_least : (length diameter roughness minor : ℤ) → length ≡ pos (1000 * 10 ^ 9) → diameter ≡ pos (12 * 10 ^ 9)
    → roughness ≡ pos (10 ^ 7) → minor ≡ pos 0
    → AtMost (minus head (minor_lost diameter minor)) (worn length roughness)
worn_least length diameter roughness minor long wide rough none = rw (long, wide, rough, none) (record {
  crossed = omega arith;
})

pub pipe_at_most : (length diameter roughness minor : Decimal) → length.nano ≡ pos (1000 * 10 ^ 9)
    → diameter.nano ≡ pos (12 * 10 ^ 9) → roughness.nano ≡ pos (10 ^ 7)
    → minor.nano ≡ pos 0 → PipeLossAtMost true length diameter roughness minor 125 3058219431936
    (466 * 3048 * 125 * 10 ^ 6)
pipe_at_most length diameter roughness minor long wide rough none = record {
  minor_within = no_minor diameter.nano minor.nano wide none;
  friction_within = below_foot 100 533 (worn length.nano roughness.nano)
      (minus head (minor_lost diameter.nano minor.nano)) (up diameter.nano) (12 * 10 ^ 9) (ap up wide)
      (worn_most length.nano diameter.nano roughness.nano minor.nano long wide rough none);
}

pub pipe_at_least : (length diameter roughness minor : Decimal) → length.nano ≡ pos (1000 * 10 ^ 9)
    → diameter.nano ≡ pos (12 * 10 ^ 9) → roughness.nano ≡ pos (10 ^ 7)
    → minor.nano ≡ pos 0 → PipeLossAtLeast true length diameter roughness minor 125 3058219431936
    (466 * 3048 * 125 * 10 ^ 6)
pipe_at_least length diameter roughness minor long wide rough none =
    above_foot 100 533 (worn length.nano roughness.nano) (minus head (minor_lost diameter.nano minor.nano))
    (up diameter.nano) (12 * 10 ^ 9) (ap up wide)
    (worn_least length.nano diameter.nano roughness.nano minor.nano long wide rough none)
