-- Hazen-Williams losses in feet are the loss by powers in ticks whose constant and minor loss the pipe's numbers give.
use Rattle.std.proofs.Common.{◌≡◌, ℕ, ◌-◌, ◌*◌, ◌^◌, ◌<◌, ◌≤◌, Bool, true, false, sym, ap, ap₂, ◌∙◌, arith, mul-pos}
use Rattle.std.proofs.Common.{lit<}
use Rattle.std.proofs.Common.{pow-suc, mul-one}
use Rattle.std.proofs.Math.Nat.{pow-zero}
use Rattle.std.proofs.lemmas.Nat.{mul-pow}
use Rattle.hyd_num.specs.declared.decimals.Decimal.{Decimal}
use Rattle.hyd_num.specs.Fraction.{Fraction, fraction, times, over, power}
use Rattle.hyd_num.specs.FileQuantity.{billionths, ordinary, feet, feet_across, ten_thousandths_of_metre_in_foot}
use Rattle.hyd_spec_power_laws.specs.PowerLosses.{minor_ticks, driven, PowerLossAtMost, PowerLossAtLeast}
use Rattle.hyd_spec_power_laws.specs.HazenWilliamsLosses.{head_in_feet, drag, minor_loss}
use Rattle.hyd_spec_power_laws.specs.HazenWilliamsLosses.{friction, left_to_friction, HazenWilliamsAtMost}
use Rattle.hyd_spec_power_laws.specs.HazenWilliamsLosses.{HazenWilliamsAtLeast}
use Rattle.hyd_power_laws.proofs.ExactFromTests.{positive_power}

-- a cubic foot a second in flow ticks, and a foot in head ticks
abbrev pub flow_unit : Fraction
flow_unit = fraction 24465755455488 1000

abbrev pub foot : Fraction
foot = fraction (ten_thousandths_of_metre_in_foot * 10 ^ 9) 1

-- the feet that one cubic foot a second loses to fittings
abbrev pub minor_feet : Bool → Decimal → Decimal → Fraction
minor_feet us diameter k =
    over (times (fraction 2517 100000) (ordinary (billionths k))) (power (feet_across us (billionths diameter)) 4)

-- the minor loss in ticks
abbrev pub exact_minor : Bool → Decimal → Decimal → Fraction
exact_minor us diameter k = over (times (minor_feet us diameter k) foot) (times flow_unit flow_unit)

-- the constant of powers
abbrev pub carried : Bool → Decimal → Decimal → Fraction
carried us diameter c =
    times (power (times flow_unit (ordinary (billionths c))) 1852) (power (feet_across us (billionths diameter)) 4871)

abbrev pub exact_constant : Bool → Decimal → Decimal → Decimal → Fraction
exact_constant us length diameter c = over (carried us diameter c) (power (times (drag us length) foot) 1000)

-- ---- both sides of the friction, with e and f for the exponents

-- n, a: the numerator and denominator of the flow in its unit over the coefficient; A, l: those of the drag; N, D:
-- those of the power of the diameter; W, V: those of what is left
flow_sides : (A B g V Vf a q e f D : ℕ) → B ≡ a * q → Vf ≡ g * V
    → A ^ f * B ^ e * (Vf ^ f * D) ≡ q ^ e * (a ^ e * D * (A * g) ^ f * V ^ f)
flow_sides A B g V Vf a q e f D b v =
    rw (b, v, mul-pow a q e, mul-pow g V f, mul-pow A g f) (omega arith)

head_sides : (W N l s n S e f : ℕ) → s ≡ S * n → W ^ f * N * (l ^ f * s ^ e) ≡ n ^ e * N * l ^ f * W ^ f * S ^ e
head_sides W N l s n S e f h = rw (h, mul-pow S n e) (omega arith)

two : (a : ℕ) → a ^ 2 ≡ a * a
two a = pow-suc a 1 ∙ ap (λ x. x * a) (pow-suc a 0 ∙ ap (λ x. x * a) (pow-zero a)) ∙ omega arith

-- what fittings take, in feet and in ticks: x, z stand for the numerator and denominator of the minor loss in feet
taken_is : (x S q g F : ℕ) → x * (1000 * q) ^ 2 * (S * g) ≡ x * g * (1000 * 1000) * q ^ 2 * S
taken_is x S q g F = rw (two (1000 * q), two q) (omega arith)

parts_are : (z S F : ℕ) → z * (S * F) ^ 2 ≡ z * 1 * (F * F) * S ^ 2
parts_are z S F = rw (two (S * F), two S) (omega arith)

whole_is : (z S g F : ℕ) → S * g * (z * (S * F) ^ 2) ≡ g * (S * (z * 1 * (F * F) * S ^ 2))
whole_is z S g F = rw (two (S * F), two S) (omega arith)

left_is : (y x z S q g F : ℕ) → y * (z * (S * F) ^ 2) - x * (1000 * q) ^ 2 * (S * g)
    ≡ y * (z * 1 * (F * F) * S ^ 2) - x * g * (1000 * 1000) * q ^ 2 * S
left_is y x z S q g F = ap₂ (λ a b. y * a - b) (parts_are z S F) (taken_is x S q g F)

-- ---- both relations

friction_flow : (us : Bool) (length diameter c minor : Decimal) (S q y : ℕ)
    → (friction us length c S q).num * (left_to_friction us diameter minor S q y).den
    ≡ (power (fraction q S) 1852).num * (driven (exact_constant us length diameter c)
    (exact_minor us diameter minor) S q
    y).den
friction_flow us length diameter c minor S q y =
    flow_sides (4727 * (feet us (billionths length)).num) (1000 * q * 10 ^ 9)
    (ten_thousandths_of_metre_in_foot * 10 ^ 9)
    (S * ((exact_minor us diameter minor).den * S ^ 2))
    (S * (ten_thousandths_of_metre_in_foot * 10 ^ 9) * ((minor_feet us diameter minor).den * (S * 24465755455488) ^ 2))
    (1000 * 10 ^ 9) q 1852 1000 ((feet_across us (billionths diameter)).den ^ 4871) (omega arith)
    (whole_is (minor_feet us diameter minor).den S (ten_thousandths_of_metre_in_foot * 10 ^ 9) 24465755455488)

friction_head : (us : Bool) (length diameter c minor : Decimal) (S q y : ℕ)
    → (left_to_friction us diameter minor S q y).num * (friction us length c S q).den
    ≡ (driven (exact_constant us length diameter c) (exact_minor us diameter minor) S q y).num
    * (power (fraction q S) 1852).den
friction_head us length diameter c minor S q y =
    ap (λ w. w ^ 1000 * (feet_across us (billionths diameter)).num ^ 4871
    * ((1000 * (feet us (billionths length)).den) ^ 1000 * (S * 24465755455488 * billionths c) ^ 1852))
    (left_is y (minor_feet us diameter minor).num (minor_feet us diameter minor).den S q
    (ten_thousandths_of_metre_in_foot * 10 ^ 9) 24465755455488)
    ∙ head_sides (y * ((exact_minor us diameter minor).den * S ^ 2) - (exact_minor us diameter minor).num * q ^ 2 * S)
    ((feet_across us (billionths diameter)).num ^ 4871) (1000 * (feet us (billionths length)).den)
    (S * 24465755455488 * billionths c) (24465755455488 * billionths c) S 1852 1000 (omega arith)
    ∙ ap (λ l. (24465755455488 * billionths c) ^ 1852 * (feet_across us (billionths diameter)).num ^ 4871 * l ^ 1000
    * (y * ((exact_minor us diameter minor).den * S ^ 2) - (exact_minor us diameter minor).num * q ^ 2 * S) ^ 1000
    * S ^ 1852) (sym (mul-one (1000 * (feet us (billionths length)).den)))

minor_flow : (us : Bool) (diameter minor : Decimal) (S q y : ℕ)
    → (minor_loss us diameter minor S q).num * (head_in_feet S y).den
    ≡ (minor_ticks (exact_minor us diameter minor) S q).num * S
minor_flow us diameter minor S q y = taken_is (minor_feet us diameter minor).num S q
    (ten_thousandths_of_metre_in_foot * 10 ^ 9) 24465755455488

minor_head : (us : Bool) (diameter minor : Decimal) (S q y : ℕ)
    → (head_in_feet S y).num * (minor_loss us diameter minor S q).den
    ≡ y * (minor_ticks (exact_minor us diameter minor) S q).den
minor_head us diameter minor S q y = ap (λ a. y * a) (parts_are (minor_feet us diameter minor).den S 24465755455488)

along : (a b c d : ℕ) → a ≡ b → c ≡ d → b ≤ d → a ≤ c
along a b c d e f h = omega (arith, e, f, h)

back : (a b c d : ℕ) → a ≡ b → c ≡ d → a ≤ c → b ≤ d
back a b c d e f h = omega (arith, e, f, h)

pub at_most_in_feet : (us : Bool) (length diameter c minor : Decimal) (S q y : ℕ)
    → PowerLossAtMost (exact_constant us length diameter c) (exact_minor us diameter minor) S q y
    → HazenWilliamsAtMost us length diameter c minor S q y
at_most_in_feet us length diameter c minor S q y h = record {
  minor_within = record {
    crossed = along _ _ _ _ (minor_flow us diameter minor S q y) (minor_head us diameter minor S q y)
        h.minor_within.crossed;
  };
  friction_within = record {
    crossed = along _ _ _ _ (friction_flow us length diameter c minor S q y)
        (friction_head us length diameter c minor S q y) h.friction_within.crossed;
  };
}

pub at_most_in_ticks : (us : Bool) (length diameter c minor : Decimal) (S q y : ℕ)
    → HazenWilliamsAtMost us length diameter c minor S q y
    → PowerLossAtMost (exact_constant us length diameter c) (exact_minor us diameter minor) S q y
at_most_in_ticks us length diameter c minor S q y h = record {
  minor_within = record {
    crossed = back _ _ _ _ (minor_flow us diameter minor S q y) (minor_head us diameter minor S q y)
        h.minor_within.crossed;
  };
  friction_within = record {
    crossed = back _ _ _ _ (friction_flow us length diameter c minor S q y)
        (friction_head us length diameter c minor S q y) h.friction_within.crossed;
  };
}

pub at_least_in_feet : (us : Bool) (length diameter c minor : Decimal) (S q y : ℕ)
    → PowerLossAtLeast (exact_constant us length diameter c) (exact_minor us diameter minor) S q y
    → HazenWilliamsAtLeast us length diameter c minor S q y
at_least_in_feet us length diameter c minor S q y h = record {
  crossed = along _ _ _ _ (friction_head us length diameter c minor S q y)
      (friction_flow us length diameter c minor S q y) h.crossed;
}

pub at_least_in_ticks : (us : Bool) (length diameter c minor : Decimal) (S q y : ℕ)
    → HazenWilliamsAtLeast us length diameter c minor S q y
    → PowerLossAtLeast (exact_constant us length diameter c) (exact_minor us diameter minor) S q y
at_least_in_ticks us length diameter c minor S q y h = record {
  crossed = back _ _ _ _ (friction_head us length diameter c minor S q y)
      (friction_flow us length diameter c minor S q y) h.crossed;
}

-- ---- their denominators are above 0

feet_above : (us : Bool) (v : ℕ) → 0 < (feet us v).den
feet_above true v = lit< tt
feet_above false v = lit< tt

across_above : (us : Bool) (v : ℕ) → 0 < (feet_across us v).den
across_above true v = lit< tt
across_above false v = lit< tt

feet_some : (us : Bool) (v : ℕ) → 0 < v → 0 < (feet us v).num
feet_some true v some = some
feet_some false v some = mul-pos (lit< tt) some

across_some : (us : Bool) (v : ℕ) → 0 < v → 0 < (feet_across us v).num
across_some true v some = some
across_some false v some = mul-pos (lit< tt) some

constant_parts : (a A g D : ℕ) (e f : ℕ) → 0 < a → 0 < A → 0 < g → 0 < D → 0 < a ^ e * D * (A * g) ^ f
constant_parts a A g D e f p q r s =
    mul-pos (mul-pos (positive_power a e p) s) (positive_power (A * g) f (mul-pos q r))

pub constant_above : (us : Bool) (length diameter c : Decimal) → 0 < billionths length
    → 0 < (exact_constant us length diameter c).den
constant_above us length diameter c some =
    constant_parts (1000 * 10 ^ 9) (4727 * (feet us (billionths length)).num)
    (ten_thousandths_of_metre_in_foot * 10 ^ 9)
    ((feet_across us (billionths diameter)).den ^ 4871) 1852 1000 (lit< tt)
    (mul-pos (lit< tt) (feet_some us (billionths length) some)) (lit< tt)
    (positive_power (feet_across us (billionths diameter)).den 4871 (across_above us (billionths diameter)))

pub minor_above : (us : Bool) (diameter minor : Decimal) → 0 < billionths diameter
    → 0 < (exact_minor us diameter minor).den
minor_above us diameter minor some =
    mul-pos (mul-pos (mul-pos (lit< tt)
    (positive_power (feet_across us (billionths diameter)).num 4 (across_some us (billionths diameter) some)))
    (lit< tt))
    (lit< tt)
