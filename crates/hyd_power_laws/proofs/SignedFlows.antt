-- The enclosing flows with their signs.
use Rattle.std.proofs.Common.{◌≡◌, ℕ, zero, suc, ◌*◌, ◌≤◌, ℤ, pos, negsuc, neg_ℤ, ◌≤ℤ◌, sym, refl, ap, arith}
use Rattle.std.proofs.lemmas.Int.{ints}
use Rattle.hyd_num.specs.Fraction.{Fraction}
use Rattle.hyd_spec_power_laws.specs.declared.power_capacities.PowerCapacity.{PowerCapacity}
use Rattle.hyd_spec_power_laws.specs.EnclosingFlows.{power_low, power_high}
use Rattle.hyd_spec_power_laws.specs.PowerLosses.{PowerLossAtMost, PowerLossAtLeast}
use Rattle.hyd_spec_power_laws.specs.WholeFlows.{flow_down, flow_up}
use Rattle.hyd_power_laws.specs.LawsOfPowers.{EnclosesLaw}
use Rattle.hyd_power_laws.proofs.FlowTests.{down-rises, up-rises}
use Rattle.hyd_power_laws.proofs.FoundFlows.{none_down}
use Rattle.hyd_power_laws.proofs.FlowsEnclose.{down-encloses, up-encloses}
use Rattle.hyd_power_laws.proofs.LossesAtScale.{loss-consistent}

pub low-rises : (capacity : PowerCapacity) (c d : ℤ) → c ≤ℤ d → power_low capacity c ≤ℤ power_low capacity d
low-rises x (pos a) (pos b) le =
    let l = down-rises x.low x.minor a b (omega (arith, ints, le)) in omega (arith, ints, l)
low-rises x (negsuc a) (pos b) le = omega (arith, ints)
low-rises x (pos a) (negsuc b) le = absurd (omega (arith, ints, le))
low-rises x (negsuc a) (negsuc b) le =
    let l = up-rises x.high x.minor (suc b) (suc a) (omega (arith, ints, le)) in omega (arith, ints, l)

pub high-rises : (capacity : PowerCapacity) (c d : ℤ) → c ≤ℤ d → power_high capacity c ≤ℤ power_high capacity d
high-rises x (pos a) (pos b) le =
    let l = up-rises x.high x.minor a b (omega (arith, ints, le)) in omega (arith, ints, l)
high-rises x (negsuc a) (pos b) le = omega (arith, ints)
high-rises x (pos a) (negsuc b) le = absurd (omega (arith, ints, le))
high-rises x (negsuc a) (negsuc b) le =
    let l = down-rises x.low x.minor (suc b) (suc a) (omega (arith, ints, le)) in omega (arith, ints, l)

neg_neg : (n : ℕ) → pos n ≡ neg_ℤ (neg_ℤ (pos n))
neg_neg zero = refl
neg_neg (suc n) = refl

pub low-odd : (capacity : PowerCapacity) (d : ℤ) → power_low capacity (neg_ℤ d) ≡ neg_ℤ (power_high capacity d)
low-odd x (pos zero) = ap pos (sym (none_down x.low x.minor 0 refl))
low-odd x (pos (suc n)) = refl
low-odd x (negsuc n) = neg_neg (flow_down x.low x.minor (suc n))

pub high-odd : (capacity : PowerCapacity) (d : ℤ) → power_high capacity (neg_ℤ d) ≡ neg_ℤ (power_low capacity d)
high-odd x (pos zero) = ap (λ n. neg_ℤ (pos n)) (none_down x.low x.minor 0 refl)
high-odd x (pos (suc n)) = refl
high-odd x (negsuc n) = neg_neg (flow_up x.high x.minor (suc n))

pub below : (capacity : PowerCapacity) (k r : Fraction) (S d y : ℕ) → EnclosesLaw capacity k r → S * d ≤ y
    → PowerLossAtMost k r S (S * flow_down capacity.low capacity.minor d) y
below x k r S d y e le = down-encloses e.constant x.minor k r e.encloses e.fittings x.low S d y e.low_is le

pub above : (capacity : PowerCapacity) (k r : Fraction) (S d y : ℕ) → EnclosesLaw capacity k r → y ≤ S * d
    → PowerLossAtLeast k r S (S * flow_up capacity.high capacity.minor d) y
above x k r S d y e le = up-encloses e.constant x.minor k r e.encloses e.fittings x.high S d y e.high_is x.covers le

in_order : (capacity : PowerCapacity) (k r : Fraction) (d : ℕ) → EnclosesLaw capacity k r
    → flow_down capacity.low capacity.minor d ≤ flow_up capacity.high capacity.minor d
in_order x k r d e =
    let l : 1 * flow_down x.low x.minor d ≤ 1 * flow_up x.high x.minor d = loss-consistent k r 1
    (1 * flow_down x.low x.minor d) (1 * flow_up x.high x.minor d) d (omega arith) e.constant_above e.fittings_above
    (below x k r 1 d d e (omega arith)) (above x k r 1 d d e (omega arith)) in
    omega (arith, l)

pub ordered : (capacity : PowerCapacity) (k r : Fraction) (d : ℤ) → EnclosesLaw capacity k r
    → power_low capacity d ≤ℤ power_high capacity d
ordered x k r (pos d) e = let l = in_order x k r d e in omega (arith, ints, l)
ordered x k r (negsuc d) e = let l = in_order x k r (suc d) e in omega (arith, ints, l)
