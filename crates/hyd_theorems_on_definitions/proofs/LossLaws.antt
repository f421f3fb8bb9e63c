-- The losses behind capacities are laws of a loss.
use Rattle.std.proofs.Common.{◌≡◌, ◌≢◌, ℕ, zero, suc, ◌-◌, ◌*◌, ◌^◌, ◌<◌, ◌≤◌, Bool, true, false, ℤ, pos, ◌-ℤ◌}
use Rattle.std.proofs.Common.{unsigned_abs, refl, ap, ◌∙◌, arith, mul-pos, pow-suc, inl, inr}
use Rattle.std.proofs.Math.Nat.{mul-le-mul_right, mul-le-mul_left, le_of_mul-le-mul_right, one-le-pow, pow-lt-pow_left}
use Rattle.std.proofs.lemmas.Nat.{mul-pow, mul-le}
use Rattle.std.proofs.lemmas.Bool.{cases_lt}
use Rattle.hyd_num.specs.Fraction.{Fraction, fraction, times, minus, power, AtMost}
use Rattle.std.proofs.lemmas.Int.{unsigned_abs-mul}
use Rattle.hyd_num.specs.declared.decimals.Decimal.{Decimal}
use Rattle.hyd_num.specs.declared.flow_units.FlowUnit.{FlowUnit}
use Rattle.hyd_num.specs.declared.flow_units.FlowUnit.TheVariants.{Cfs, Gpm, Mgd, Imgd, Afd, Lps, Lpm, Mld, Cmh, Cmd}
use Rattle.hyd_num.specs.FileQuantity.{billionths, feet, feet_across, is_us_unit, head_ticks, flow_factor}
use Rattle.hyd_num.specs.FileQuantity.{ten_thousandths_of_metre_in_foot, head_ticks_in_billionth_of_metre}
use Rattle.hyd_num.specs.FileQuantity.{flow_fraction}
use Rattle.hyd_spec.specs.ProgramTypes.{Origin, Pipe, Valve, Pump, Emitter, PressureDemand}
use Rattle.hyd_spec.specs.Law.{loss_at_most, loss_at_least, pump_resistance, emitter_resistance, pressure_resistance}
use Rattle.hyd_lemmas.proofs.Fractions.{AtMost-along, times-rises, power-rises, AtMost-itself}
use Rattle.hyd_theorems_on_definitions.specs.SoundLawsAndGrids.{IsLossLaw, HasPositiveNumbers}
use Rattle.hyd_lemmas.proofs.Losses.{difference_times}
use Rattle.hyd_lemmas.proofs.PipeAndValvePairs.{feet_above}
use Rattle.hyd_lemmas.proofs.PressurePairs.{pressure-some}
use Rattle.hyd_theorems_on_definitions.proofs.Roots.{square_reflects}
use Rattle.hyd_spec.specs.Loss.{SquareLossAtMost, SquareLossAtLeast, ValveLossAtMost, ValveLossAtLeast, PipeLossAtMost}
use Rattle.hyd_spec.specs.Loss.{PipeLossAtLeast, head_in_feet, flow_in_cfs, friction, minor_loss}

reflect_product : (a p q : ℕ) → 0 < a → a * (p * p) ≤ a * (q * q) → p ≤ q
reflect_product a p q above h = square_reflects p q (le_of_mul-le-mul_right (let l : (p * p) * a ≤ (q * q)
    * a = omega (arith, h) in l) above)

pub IsLossLaw-square : (r : Fraction) → 0 < r.num → IsLossLaw (SquareLossAtMost r) (SquareLossAtLeast r)
IsLossLaw-square r above = record {
  falls = λ S p q y some le loses. let l : r.num * (p * p) ≤ r.num * (q * q) = mul-le-mul_left r.num
      (mul-le p p q q le le) in omega (arith, l, loses);
  rises = λ S p q y some le loses. let l : r.num * (p * p) ≤ r.num * (q * q) = mul-le-mul_left r.num
      (mul-le p p q q le le) in omega (arith, l, loses);
  consistent = λ S p q y some most least. reflect_product r.num p q above (omega (arith, most, least));
  without_head = λ S q some. omega arith;
}

-- ---- powers and products of fractions

some_times : (n : ℕ) → 0 < n → n ≢ 0
some_times n above e = absurd (omega arith)

pub powers_reflect : (n a b : ℕ) → 0 < n → a ^ n ≤ b ^ n → a ≤ b
powers_reflect n a b above h = elim (cases_lt b a) [
  | inl lt ↦ absurd (let l : b ^ n < a ^ n = pow-lt-pow_left lt (some_times n above) in omega arith)
  | inr ge ↦ ge
]

power-reflects : (n : ℕ) (a b : Fraction) → 0 < n → AtMost (power a n) (power b n) → AtMost a b
power-reflects n a b above h = record {
  crossed = powers_reflect n (a.num * b.den) (b.num * a.den) above
      (rw (mul-pow a.num b.den n, mul-pow b.num a.den n) h.crossed);
}

factor-reflects : (m f g : Fraction) → 0 < m.num → 0 < m.den → AtMost (times m f) (times m g) → AtMost f g
factor-reflects m f g some above h = record {
  crossed =
      le_of_mul-le-mul_right (let l : (f.num * g.den) * (m.num * m.den) ≤ (g.num * f.den) * (m.num * m.den) =
      omega (arith, h.crossed) in l)
      (mul-pos some above);
}

minus-falls : (h m f g : Fraction) → AtMost f g → AtMost (minus h (times m g)) (minus h (times m f))
minus-falls h m f g le = record {
  crossed =
      let l : f.num * g.den * (m.num * h.den * h.den * m.den) ≤ g.num * f.den * (m.num * h.den * h.den * m.den) =
      mul-le-mul_right (m.num * h.den * h.den * m.den) le.crossed in
      rw (
        difference_times (h.num * (m.den * g.den)) ((m.num * g.num) * h.den) (h.den * (m.den * f.den)),
        difference_times (h.num * (m.den * f.den)) ((m.num * f.num) * h.den) (h.den * (m.den * g.den)),
      )
      (omega (arith, l));
}

-- ---- valves, at squared flows f and g

valve-falls : (m h f g : Fraction) → 0 < m.den → 0 < g.den → AtMost f g → AtMost (times m g) h → AtMost (times m f) h
valve-falls m h f g some above le loses = AtMost-along (times m f) (times m g) h (mul-pos some above)
    (times-rises m m f g (AtMost-itself m) le) loses

valve-rises : (m h f g : Fraction) → 0 < m.den → 0 < f.den → AtMost f g → AtMost h (times m f) → AtMost h (times m g)
valve-rises m h f g some above le loses = AtMost-along h (times m f) (times m g) (mul-pos some above) loses
    (times-rises m m f g (AtMost-itself m) le)

valve-consistent : (m h f g : Fraction) → 0 < m.num → 0 < m.den → 0 < h.den → AtMost (times m f) h
    → AtMost h (times m g) → AtMost f g
valve-consistent m h f g any some above most least = factor-reflects m f g any some
    (AtMost-along (times m f) h (times m g) above most least)

-- ---- pipes, at squared flows f and g, with their friction c, minor loss m and diameter d

-- what the head leaves to friction, raised
abbrev left : (n k : ℕ) (m h d f : Fraction) → Fraction
left n k m h d f = times (power (minus h (times m f)) n) (power d k)

abbrev rubbed : (n : ℕ) (c f : Fraction) → Fraction
rubbed n c f = power (times c f) n

left-falls : (n k : ℕ) (m h d f g : Fraction) → AtMost f g → AtMost (left n k m h d g) (left n k m h d f)
left-falls n k m h d f g le = times-rises (power (minus h (times m g)) n) (power (minus h (times m f)) n) (power d k)
    (power d k)
    (power-rises (minus h (times m g)) (minus h (times m f)) n (minus-falls h m f g le)) (AtMost-itself (power d k))

rubbed-rises : (n : ℕ) (c f g : Fraction) → AtMost f g → AtMost (rubbed n c f) (rubbed n c g)
rubbed-rises n c f g le = power-rises (times c f) (times c g) n (times-rises c c f g (AtMost-itself c) le)

left-above : (n k : ℕ) (m h d f : Fraction) → 0 < m.den → 0 < h.den → 0 < d.den → 0 < f.den → 0 < (left n k m h d f).den
left-above n k m h d f pm ph pd pf = mul-pos (one-le-pow n (h.den * (m.den * f.den)) (mul-pos ph (mul-pos pm pf)))
    (one-le-pow k d.den pd)

rubbed-above : (n : ℕ) (c f : Fraction) → 0 < c.den → 0 < f.den → 0 < (rubbed n c f).den
rubbed-above n c f pc pf = one-le-pow n (c.den * f.den) (mul-pos pc pf)

pipe-falls : (n k : ℕ) (c m h d f g : Fraction) → 0 < c.den → 0 < m.den → 0 < h.den → 0 < d.den → 0 < g.den → AtMost f g
    → AtMost (rubbed n c g) (left n k m h d g) → AtMost (rubbed n c f) (left n k m h d f)
pipe-falls n k c m h d f g pc pm ph pd pg le loses =
    AtMost-along (rubbed n c f) (rubbed n c g) (left n k m h d f) (rubbed-above n c g pc pg) (rubbed-rises n c f g le)
    (AtMost-along (rubbed n c g) (left n k m h d g) (left n k m h d f) (left-above n k m h d g pm ph pd pg) loses
    (left-falls n k m h d f g le))

pipe-rises : (n k : ℕ) (c m h d f g : Fraction) → 0 < c.den → 0 < m.den → 0 < h.den → 0 < d.den → 0 < f.den → AtMost f g
    → AtMost (left n k m h d f) (rubbed n c f) → AtMost (left n k m h d g) (rubbed n c g)
pipe-rises n k c m h d f g pc pm ph pd pf le loses =
    AtMost-along (left n k m h d g) (left n k m h d f) (rubbed n c g) (left-above n k m h d f pm ph pd pf)
    (left-falls n k m h d f g le)
    (AtMost-along (left n k m h d f) (rubbed n c f) (rubbed n c g) (rubbed-above n c f pc pf) loses
    (rubbed-rises n c f g le))

-- a greater flow g that loses at least h has as much friction as f, which loses at most h
pipe-consistent : (n k : ℕ) (c m h d f g : Fraction) → 0 < n → 0 < c.num → 0 < c.den → 0 < m.den → 0 < h.den
    → 0 < d.den → 0 < f.den → 0 < g.den → AtMost g f
    → AtMost (rubbed n c f) (left n k m h d f) → AtMost (left n k m h d g) (rubbed n c g) → AtMost f g
pipe-consistent n k c m h d f g pn cn pc pm ph pd pf pg le most least =
    factor-reflects c f g cn pc (power-reflects n (times c f) (times c g) pn
    (AtMost-along (rubbed n c f) (left n k m h d f) (rubbed n c g) (left-above n k m h d f pm ph pd pf) most
    (AtMost-along (left n k m h d f) (left n k m h d g) (rubbed n c g) (left-above n k m h d g pm ph pd pg)
    (left-falls n k m h d g f le) least)))

nothing_raised : (n x : ℕ) → x ≡ 0 → 0 < n → x ^ n ≡ 0
nothing_raised zero x none above = absurd (omega arith)
nothing_raised (suc n) x none above = pow-suc x n ∙ ap (λ y. x ^ n * y) none ∙ omega arith

nothing_less : (a x y : ℕ) → a ≡ 0 → a * x - y ≡ 0
nothing_less a x y none = let l : a * x ≡ 0 * x = ap (λ z. z * x) none in omega (arith, l)

-- without head nothing is left to friction
nothing_left : (n k : ℕ) (m h d f e : Fraction) → h.num ≡ 0 → 0 < n → AtMost (left n k m h d f) e
nothing_left n k m h d f e none above = record {
  crossed =
      let r = nothing_raised n (h.num * (m.den * f.den) - (m.num * f.num) * h.den)
      (nothing_less h.num (m.den * f.den) ((m.num * f.num) * h.den) none) above in
      let l : (h.num * (m.den * f.den) - (m.num * f.num) * h.den) ^ n * d.num ^ k * e.den ≡ 0 * d.num ^ k
      * e.den = ap (λ z. z * d.num ^ k * e.den) r in
      omega (arith, l);
}

-- ---- the flow in cubic feet a second, squared

squared-rises : (S c K p q : ℕ) → p ≤ q → AtMost (power (fraction (c * p) (S * K)) 2)
    (power (fraction (c * q) (S * K)) 2)
squared-rises S c K p q le = power-rises (fraction (c * p) (S * K)) (fraction (c * q) (S * K)) 2
    (record { crossed = mul-le-mul_right (S * K) (mul-le-mul_left c le) })

squared-reflects : (S c K p q : ℕ) → 0 < S → 0 < K → 0 < c → AtMost (power (fraction (c * p) (S * K)) 2)
    (power (fraction (c * q) (S * K)) 2) → p ≤ q
squared-reflects S c K p q some above any h =
    let flat : AtMost (fraction (c * p) (S * K)) (fraction (c * q) (S * K)) = power-reflects 2
    (fraction (c * p) (S * K)) (fraction (c * q) (S * K)) (omega arith) h in
    le_of_mul-le-mul_right (let l : p * (c * (S * K)) ≤ q * (c * (S * K)) = omega (arith, flat.crossed) in
    l) (mul-pos any (mul-pos some above))

squared-above : (S K : ℕ) → 0 < S → 0 < K → 0 < (S * K) ^ 2
squared-above S K some above = one-le-pow 2 (S * K) (mul-pos some above)

-- ---- the losses of the file's numbers

minor-above : (us : Bool) (diameter k : Decimal) → 0 < billionths diameter → 0 < (minor_loss us diameter k).den
minor-above true diameter k above = mul-pos (omega arith) (one-le-pow 4 (billionths diameter) above)
minor-above false diameter k above = mul-pos (omega arith) (one-le-pow 4 (10 * billionths diameter) (omega arith))

minor-any : (us : Bool) (diameter k : Decimal) → 0 < billionths k → 0 < (minor_loss us diameter k).num
minor-any true diameter k above = mul-pos (omega arith) (one-le-pow 4 (12 * 10 ^ 9) (omega arith))
minor-any false diameter k above =
    mul-pos (omega arith) (one-le-pow 4 (ten_thousandths_of_metre_in_foot * 10 ^ 9) (omega arith))

across-above : (us : Bool) (v : ℕ) → 0 < (feet_across us v).den
across-above true v = omega arith
across-above false v = omega arith

feet-any : (us : Bool) (v : ℕ) → 0 < v → 0 < (feet us v).num
feet-any true v above = above
feet-any false v above = omega arith

friction-above : (us : Bool) (length roughness : Decimal) → 0 < (friction us length roughness).den
friction-above us length roughness = mul-pos (let a : 0 < 100 * (10 ^ 9) ^ 2 = omega arith in
    a) (feet_above us (billionths length))

friction-any : (us : Bool) (length roughness : Decimal) → 0 < billionths length → 0 < billionths roughness
    → 0 < (friction us length roughness).num
friction-any us length roughness long rough = mul-pos (mul-pos (omega arith)
    (one-le-pow 2 (billionths roughness) rough)) (feet-any us (billionths length) long)

pub IsLossLaw-valve : (us : Bool) (diameter k : Decimal) → 0 < billionths diameter → 0 < billionths k
    → IsLossLaw (ValveLossAtMost us diameter k) (ValveLossAtLeast us diameter k)
IsLossLaw-valve us diameter k wide any = record {
  falls = λ S p q y some le loses. valve-falls (minor_loss us diameter k) (head_in_feet S y)
      (power (flow_in_cfs S p) 2) (power (flow_in_cfs S q) 2)
      (minor-above us diameter k wide) (squared-above S 24465755455488 some (omega arith))
      (squared-rises S 1000 24465755455488 p q le) loses;
  rises = λ S p q y some le loses. valve-rises (minor_loss us diameter k) (head_in_feet S y)
      (power (flow_in_cfs S p) 2) (power (flow_in_cfs S q) 2)
      (minor-above us diameter k wide) (squared-above S 24465755455488 some (omega arith))
      (squared-rises S 1000 24465755455488 p q le) loses;
  consistent = λ S p q y some most least. squared-reflects S 1000 24465755455488 p q some (omega arith) (omega arith)
      (valve-consistent (minor_loss us diameter k) (head_in_feet S y) (power (flow_in_cfs S p) 2)
      (power (flow_in_cfs S q) 2)
      (minor-any us diameter k any) (minor-above us diameter k wide) (mul-pos some (omega arith)) most least);
  without_head = λ S q some. record { crossed = omega arith };
}

pub IsLossLaw-pipe : (us : Bool) (length diameter roughness minor : Decimal) → 0 < billionths length
    → 0 < billionths diameter → 0 < billionths roughness
    → IsLossLaw (PipeLossAtMost us length diameter roughness minor) (PipeLossAtLeast us length diameter roughness minor)
IsLossLaw-pipe us length diameter roughness minor long wide rough = record {
  falls = λ S p q y some le loses. record {
    minor_within = valve-falls (minor_loss us diameter minor) (head_in_feet S y) (power (flow_in_cfs S p) 2)
        (power (flow_in_cfs S q) 2)
        (minor-above us diameter minor wide) (squared-above S 24465755455488 some (omega arith))
        (squared-rises S 1000 24465755455488 p q le) loses.minor_within;
    friction_within = pipe-falls 100 533 (friction us length roughness) (minor_loss us diameter minor)
        (head_in_feet S y) (feet_across us (billionths diameter))
        (power (flow_in_cfs S p) 2) (power (flow_in_cfs S q) 2)
        (friction-above us length roughness) (minor-above us diameter minor wide) (mul-pos some (omega arith))
        (across-above us (billionths diameter))
        (squared-above S 24465755455488 some (omega arith)) (squared-rises S 1000 24465755455488 p q le)
        loses.friction_within;
  };
  rises = λ S p q y some le loses. pipe-rises 100 533 (friction us length roughness) (minor_loss us diameter minor)
      (head_in_feet S y) (feet_across us (billionths diameter))
      (power (flow_in_cfs S p) 2) (power (flow_in_cfs S q) 2)
      (friction-above us length roughness) (minor-above us diameter minor wide) (mul-pos some (omega arith))
      (across-above us (billionths diameter))
      (squared-above S 24465755455488 some (omega arith)) (squared-rises S 1000 24465755455488 p q le) loses;
  consistent = λ S p q y some most least. elim (cases_lt q p) [
    | inl lt ↦ squared-reflects S 1000 24465755455488 p q some (omega arith) (omega arith)
        (pipe-consistent 100 533 (friction us length roughness) (minor_loss us diameter minor) (head_in_feet S y)
        (feet_across us (billionths diameter))
        (power (flow_in_cfs S p) 2) (power (flow_in_cfs S q) 2) (omega arith)
        (friction-any us length roughness long rough)
        (friction-above us length roughness) (minor-above us diameter minor wide) (mul-pos some (omega arith))
        (across-above us (billionths diameter))
        (squared-above S 24465755455488 some (omega arith)) (squared-above S 24465755455488 some (omega arith))
        (squared-rises S 1000 24465755455488 q p (omega arith)) most.friction_within least)
    | inr ge ↦ ge
  ];
  without_head = λ S q some. nothing_left 100 533 (minor_loss us diameter minor) (head_in_feet S 0)
      (feet_across us (billionths diameter))
      (power (flow_in_cfs S q) 2) (power (times (friction us length roughness) (power (flow_in_cfs S q) 2)) 100) refl
      (omega arith);
}

ticks-any : (us : Bool) (z : ℤ) → 0 < unsigned_abs z → 0 < unsigned_abs (head_ticks us z)
ticks-any true z above = rw (unsigned_abs-mul (pos ten_thousandths_of_metre_in_foot) z) (omega arith)
ticks-any false z above = rw (unsigned_abs-mul (pos head_ticks_in_billionth_of_metre) z) (omega arith)

factor-above : (unit : FlowUnit) → 0 < (flow_factor unit).den
factor-above Cfs = omega arith
factor-above Gpm = omega arith
factor-above Mgd = omega arith
factor-above Imgd = omega arith
factor-above Afd = omega arith
factor-above Lps = omega arith
factor-above Lpm = omega arith
factor-above Mld = omega arith
factor-above Cmh = omega arith
factor-above Cmd = omega arith

flow-above : (unit : FlowUnit) (v : ℕ) → 0 < (power (flow_fraction unit v) 2).den
flow-above unit v = one-le-pow 2 (100 * (flow_factor unit).den) (mul-pos (omega arith) (factor-above unit))

-- the loss of numbers that are above 0 where they have to be
pub IsLossLaw-origin : (origin : Origin) → HasPositiveNumbers origin
    → IsLossLaw (loss_at_most origin) (loss_at_least origin)
IsLossLaw-origin (Pipe us length diameter roughness minor) h = IsLossLaw-pipe us length diameter roughness minor h.0
    h.1.0 h.1.1
IsLossLaw-origin (Valve diameter k us) h = IsLossLaw-valve us diameter k h.0 h.1
IsLossLaw-origin (Pump flow drop thirds unit) h = IsLossLaw-square (pump_resistance flow drop thirds unit)
    (mul-pos (ticks-any (is_us_unit unit) drop.nano h) (flow-above unit (billionths flow)))
IsLossLaw-origin (Emitter coefficient unit) h = IsLossLaw-square (emitter_resistance coefficient unit)
    (mul-pos (pressure-some (is_us_unit unit) (10 ^ 9) (omega arith)) (flow-above unit (billionths coefficient)))
IsLossLaw-origin (PressureDemand demand minimum required us) h = IsLossLaw-square
    (pressure_resistance demand minimum required us)
    (mul-pos (pressure-some us (unsigned_abs (required.nano -ℤ minimum.nano)) h) (omega arith))
