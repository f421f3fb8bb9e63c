-- Hazen-Williams losses of pipes, by those in ticks.
use Rattle.std.proofs.Common.{ℕ, ◌*◌, ◌<◌, ◌≤◌, ℤ, ◌≤ℤ◌, Bool}
use Rattle.hyd_num.specs.declared.decimals.Decimal.{Decimal}
use Rattle.hyd_num.specs.FileQuantity.{billionths}
use Rattle.hyd_spec_power_laws.specs.declared.power_capacities.PowerCapacity.{PowerCapacity}
use Rattle.hyd_spec_power_laws.specs.EnclosingFlows.{power_low, power_high}
use Rattle.hyd_spec_power_laws.specs.HazenWilliamsLosses.{HazenWilliamsAtMost, HazenWilliamsAtLeast}
use Rattle.hyd_spec_power_laws.specs.PowerCapacities.{IsMade}
use Rattle.hyd_spec_power_laws.specs.WholeFlows.{flow_down, flow_up}
use Rattle.hyd_power_laws.proofs.LossesAtScale as loss
use Rattle.hyd_power_laws.proofs.SignedFlows as flow
use Rattle.hyd_power_capacities.proofs.LossesInTicks.{exact_constant, exact_minor, constant_above, minor_above}
use Rattle.hyd_power_capacities.proofs.LossesInTicks.{at_most_in_feet, at_most_in_ticks, at_least_in_feet}
use Rattle.hyd_power_capacities.proofs.LossesInTicks.{at_least_in_ticks}
use Rattle.hyd_power_capacities.proofs.CapacitiesEncloseLosses.{encloses_law}

module _ (us : Bool) (length diameter c minor : Decimal) where
  pub falls : (S p q y : ℕ) → p ≤ q → HazenWilliamsAtMost us length diameter c minor S q y
      → HazenWilliamsAtMost us length diameter c minor S p y
  falls S p q y le h =
      at_most_in_feet us length diameter c minor S p y
      (loss.loss-falls (exact_constant us length diameter c) (exact_minor us diameter minor) S p q y le
      (at_most_in_ticks us length diameter c minor S q y h))

  pub rises : (S p q y : ℕ) → p ≤ q → HazenWilliamsAtLeast us length diameter c minor S p y
      → HazenWilliamsAtLeast us length diameter c minor S q y
  rises S p q y le h =
      at_least_in_feet us length diameter c minor S q y
      (loss.loss-rises (exact_constant us length diameter c) (exact_minor us diameter minor) S p q y le
      (at_least_in_ticks us length diameter c minor S p y h))

  pub consistent : (S p q y : ℕ) → 0 < S → 0 < billionths length → 0 < billionths diameter
      → HazenWilliamsAtMost us length diameter c minor S p y → HazenWilliamsAtLeast us length diameter c minor S q y
      → p ≤ q
  consistent S p q y scale long wide most least =
      loss.loss-consistent (exact_constant us length diameter c) (exact_minor us diameter minor) S p q y scale
      (constant_above us length diameter c long) (minor_above us diameter minor wide)
      (at_most_in_ticks us length diameter c minor S p y most)
      (at_least_in_ticks us length diameter c minor S q y least)

  pub without_head : (S q : ℕ) → HazenWilliamsAtLeast us length diameter c minor S q 0
  without_head S q =
      at_least_in_feet us length diameter c minor S q 0
      (loss.without_head (exact_constant us length diameter c) (exact_minor us diameter minor) S q)

module _ (x : PowerCapacity) (made : IsMade x) (long : 0 < billionths x.pipe.length)
    (wide : 0 < billionths x.pipe.diameter)
  where
    pub below : (S d y : ℕ) → S * d ≤ y
        → HazenWilliamsAtMost x.pipe.us x.pipe.length x.pipe.diameter x.pipe.coefficient x.pipe.minor S
        (S * flow_down x.low x.minor d) y
    below S d y le =
        at_most_in_feet x.pipe.us x.pipe.length x.pipe.diameter x.pipe.coefficient x.pipe.minor S
        (S * flow_down x.low x.minor d) y
        (flow.below x (exact_constant x.pipe.us x.pipe.length x.pipe.diameter x.pipe.coefficient)
        (exact_minor x.pipe.us x.pipe.diameter x.pipe.minor) S d y (encloses_law x made long wide) le)

    pub above : (S d y : ℕ) → y ≤ S * d
        → HazenWilliamsAtLeast x.pipe.us x.pipe.length x.pipe.diameter x.pipe.coefficient x.pipe.minor S
        (S * flow_up x.high x.minor d) y
    above S d y le =
        at_least_in_feet x.pipe.us x.pipe.length x.pipe.diameter x.pipe.coefficient x.pipe.minor S
        (S * flow_up x.high x.minor d) y
        (flow.above x (exact_constant x.pipe.us x.pipe.length x.pipe.diameter x.pipe.coefficient)
        (exact_minor x.pipe.us x.pipe.diameter x.pipe.minor) S d y (encloses_law x made long wide) le)

    pub ordered : (d : ℤ) → power_low x d ≤ℤ power_high x d
    ordered d = flow.ordered x (exact_constant x.pipe.us x.pipe.length x.pipe.diameter x.pipe.coefficient)
        (exact_minor x.pipe.us x.pipe.diameter x.pipe.minor) d (encloses_law x made long wide)
