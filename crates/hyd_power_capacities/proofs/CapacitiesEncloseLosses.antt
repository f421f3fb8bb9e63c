-- What a pipe's numbers make encloses the constant and the minor loss of its exact law.
use Rattle.std.proofs.Common.{◌≡◌, ℕ, zero, suc, ◌*◌, ◌<◌, Bool, refl, sym, ap, ◌∙◌, subst, arith}
use Rattle.std.specs.Prelude.{Option}
use Rattle.hyd_num.specs.declared.pairs.Pair.{Pair}
use Rattle.hyd_num.specs.declared.decimals.Decimal.{Decimal}
use Rattle.hyd_num.specs.Fraction.{times, power}
use Rattle.hyd_num.specs.FileQuantity.{billionths, ordinary, feet_across}
use Rattle.hyd_num.specs.Pairs.{Encloses}
use Rattle.hyd_num.specs.CapacityPairs.{IsMinorPair}
use Rattle.hyd_spec_power_laws.specs.declared.power_capacities.PowerCapacity.{PowerCapacity}
use Rattle.hyd_spec_power_laws.specs.PowerCapacities.{IsCarried, IsDragged, IsConstant, IsMinorTicks, IsMinorWith}
use Rattle.hyd_spec_power_laws.specs.PowerCapacities.{IsMade}
use Rattle.hyd_spec_power_laws.specs.PowerLosses.{EnclosesMinor}
use Rattle.hyd_spec_power_laws.specs.HazenWilliamsLosses.{drag}
use Rattle.hyd_power_laws.specs.LawsOfPowers.{EnclosesLaw}
use Rattle.hyd_lemmas.proofs.PairOperations.{ratio-encloses, product-encloses, quotient-encloses, power-encloses}
use Rattle.hyd_power_capacities.proofs.LossesInTicks.{flow_unit, foot, minor_feet, exact_minor, carried, exact_constant}
use Rattle.hyd_power_capacities.proofs.LossesInTicks.{constant_above, minor_above}

carried-encloses : (diameter c : Decimal) (us : Bool) (r : Pair) → IsCarried diameter c us r
    → Encloses r (carried us diameter c)
carried-encloses diameter c us r m =
    product-encloses m.flows m.widths r _ _ m.carried_is
    (power-encloses m.flow m.flows 1852 (times flow_unit (ordinary (billionths c)))
    (product-encloses m.unit m.coefficient m.flow _ _ m.flow_is (ratio-encloses _ _ m.unit m.unit_is)
    (ratio-encloses _ _ m.coefficient m.coefficient_is)) m.flows_is)
    (power-encloses m.across m.widths 4871 (feet_across us (billionths diameter))
    (ratio-encloses _ _ m.across m.across_is) m.widths_is)

dragged-encloses : (length : Decimal) (us : Bool) (r : Pair) → IsDragged length us r
    → Encloses r (power (times (drag us length) foot) 1000)
dragged-encloses length us r m =
    power-encloses m.ticks r 1000 (times (drag us length) foot)
    (product-encloses m.drag m.foot m.ticks _ _ m.ticks_is
    (product-encloses m.factor m.long m.drag _ _ m.drag_is (ratio-encloses _ _ m.factor m.factor_is)
    (ratio-encloses _ _ m.long m.long_is))
    (ratio-encloses _ _ m.foot m.foot_is)) m.dragged_is

constant-encloses : (length diameter c : Decimal) (us : Bool) (r : Pair) → IsConstant length diameter c us r
    → Encloses r (exact_constant us length diameter c)
constant-encloses length diameter c us r m =
    quotient-encloses m.carried m.dragged r _ _ m.constant_is
    (carried-encloses diameter c us m.carried m.carried_is) (dragged-encloses length us m.dragged m.dragged_is)

minor_feet-encloses : (diameter k : Decimal) (us : Bool) (r : Pair) → IsMinorPair diameter k us r
    → Encloses r (minor_feet us diameter k)
minor_feet-encloses diameter k us r made =
    quotient-encloses made.scaled made.fourth r _ _ made.minor_is
    (product-encloses made.factor made.coefficient made.scaled _ _ made.scaled_is
    (ratio-encloses 2517 100000 made.factor made.factor_is) (ratio-encloses _ _ made.coefficient made.coefficient_is))
    (power-encloses made.across made.fourth 4 (feet_across us (billionths diameter))
    (ratio-encloses _ _ made.across made.across_is) made.fourth_is)

minor_ticks-encloses : (diameter k : Decimal) (us : Bool) (r : Pair) → IsMinorTicks diameter k us r
    → Encloses r (exact_minor us diameter k)
minor_ticks-encloses diameter k us r m =
    let unit = ratio-encloses _ _ m.unit m.unit_is in
    quotient-encloses m.ticks m.square r _ _ m.minor_is
    (product-encloses m.lost m.foot m.ticks _ _ m.ticks_is (minor_feet-encloses diameter k us m.lost m.lost_is)
    (ratio-encloses _ _ m.foot m.foot_is))
    (product-encloses m.unit m.unit m.square _ _ m.square_is unit unit)

-- a coefficient of 0 loses nothing
no_minor : (v n g : ℕ) → v ≡ 0 → 2517 * v * n * g * (1000 * 1000) ≡ 0
no_minor v n g e = ap (λ x. 2517 * x * n * g * (1000 * 1000)) e ∙ omega arith

minor-encloses : (n : ℕ) (diameter minor : Decimal) (us : Bool) (made : Option Pair) → billionths minor ≡ n
    → IsMinorWith n diameter minor us made → EnclosesMinor made (exact_minor us diameter minor)
minor-encloses zero diameter minor us made e is =
    subst (λ (m : Option Pair). EnclosesMinor m (exact_minor us diameter minor)) (sym is)
    (no_minor (billionths minor) _ _ e)
minor-encloses (suc n) diameter minor us made e is =
    subst (λ (m : Option Pair). EnclosesMinor m (exact_minor us diameter minor)) (sym is.1)
    (minor_ticks-encloses diameter minor us is.0 is.2)

pub encloses_law : (c : PowerCapacity) → IsMade c → 0 < billionths c.pipe.length → 0 < billionths c.pipe.diameter
    → EnclosesLaw c (exact_constant c.pipe.us c.pipe.length c.pipe.diameter c.pipe.coefficient)
    (exact_minor c.pipe.us c.pipe.diameter c.pipe.minor)
encloses_law c made long wide = record {
  constant = made.constant;
  low_is = made.low_is;
  high_is = made.high_is;
  encloses = constant-encloses c.pipe.length c.pipe.diameter c.pipe.coefficient c.pipe.us made.constant
      made.constant_is;
  fittings = minor-encloses (billionths c.pipe.minor) c.pipe.diameter c.pipe.minor c.pipe.us c.minor refl made.minor_is;
  constant_above = constant_above c.pipe.us c.pipe.length c.pipe.diameter c.pipe.coefficient long;
  fittings_above = minor_above c.pipe.us c.pipe.diameter c.pipe.minor wide;
}
