-- A pipe with Hazen-Williams losses has a law of a loss, and its capacity's flows in whole ticks make a law of it.
use Rattle.std.proofs.Common.{◌≡◌, ℕ, suc, ◌-◌, ◌*◌, ◌^◌, ◌<◌, Bool, true, false, ℤ, pos, negsuc, refl}
use Rattle.std.proofs.Common.{subst, arith, mul-pos}
use Rattle.std.proofs.lemmas.Bool.{cond_both}
use Rattle.std.specs.Prelude.{nat_le, Option}
use Rattle.hyd_num.specs.declared.binary.Scaled.{Scaled}
use Rattle.hyd_num.specs.declared.pairs.Pair.{Pair}
use Rattle.hyd_num.specs.FileQuantity.{billionths, feet, feet_across}
use Rattle.hyd_spec.specs.Law.{Relation, PowerLaw, flow_at_least, flow_at_most, pipe_loses_at_most}
use Rattle.hyd_spec.specs.Law.{pipe_loses_at_least}
use Rattle.hyd_spec_power_laws.specs.declared.power_capacities.HazenWilliamsPipe.{HazenWilliamsPipe}
use Rattle.hyd_spec_power_laws.specs.declared.power_capacities.PowerCapacity.{PowerCapacity}
use Rattle.hyd_spec_power_laws.specs.CutPowers.{least}
use Rattle.hyd_spec_power_laws.specs.EnclosingFlows.{power_low, power_high}
use Rattle.hyd_spec_power_laws.specs.PowerCapacities.{IsMade}
use Rattle.hyd_spec_power_laws.specs.WholeFlows.{flow_down, flow_up, passes_high, greatest_head, greatest_flow}
use Rattle.hyd_lemmas.proofs.PumpEmitterAndDemandPairs.{ratio-above}
use Rattle.hyd_power_laws.proofs.FlowTests as whole
use Rattle.hyd_power_laws.proofs.GreatestAndLeast.{least_is}
use Rattle.hyd_power_capacities.proofs.PipeLaws as pipe
use Rattle.hyd_theorems_on_definitions.specs.SoundLawsAndGrids.{IsLaw, IsLossLaw, HasPositivePipe}
use Rattle.hyd_theorems_on_definitions.proofs.SignedLaws.{signed, EncloseLoss, IsLaw-signed}

-- ---- the loss

pub IsLossLaw-pipe : (p : HazenWilliamsPipe) → HasPositivePipe p
    → IsLossLaw (pipe_loses_at_most p) (pipe_loses_at_least p)
IsLossLaw-pipe p numbers = record {
  falls = λ S q r y some le h. pipe.falls p.us p.length p.diameter p.coefficient p.minor S q r y le h;
  rises = λ S q r y some le h. pipe.rises p.us p.length p.diameter p.coefficient p.minor S q r y le h;
  consistent = λ S q r y some most least. pipe.consistent p.us p.length p.diameter p.coefficient p.minor S q r y some
      numbers.0 numbers.1 most least;
  without_head = λ S q some. pipe.without_head p.us p.length p.diameter p.coefficient p.minor S q;
}

-- ---- what its numbers make stands for numbers above 0

length-above : (us : Bool) (v : ℕ) → 0 < (feet us v).num → 0 < v
length-above true v h = h
length-above false v h = let l : 0 < 10 ^ 4 * v = h in omega (arith, l)

width-above : (us : Bool) (v : ℕ) → 0 < (feet_across us v).num → 0 < v
width-above true v h = h
width-above false v h = let l : 0 < 10 * v = h in omega (arith, l)

pub positive-made : (c : PowerCapacity) → IsMade c → HasPositivePipe c.pipe
positive-made c made =
    let dragged = made.constant_is.dragged_is in
    let carried = made.constant_is.carried_is in (
      length-above c.pipe.us (billionths c.pipe.length) (ratio-above _ _ dragged.long dragged.long_is),
      width-above c.pipe.us (billionths c.pipe.diameter) (ratio-above _ _ carried.across carried.across_is),
    )

-- ---- in whole ticks

flow_up-some : (k : Scaled) (minor : Option Pair) (d : ℕ) → 0 < flow_up k minor (suc d)
flow_up-some k minor d = cond_both (nat_le (suc d) greatest_head)
    (least (passes_high k minor (suc d)) 1 (greatest_flow - 1)) (suc d * greatest_flow) (λ (n : ℕ). 0 < n)
    (λ yes. let l = (least_is (passes_high k minor (suc d)) 1 (greatest_flow - 1)).at_least in omega (arith, l))
    (λ no. mul-pos (omega arith) (omega arith))

whole_flows : (c : PowerCapacity) → IsMade c → EncloseLoss (pipe_loses_at_most c.pipe) (pipe_loses_at_least c.pipe)
    (λ k. k) (flow_down c.low c.minor) (flow_up c.high c.minor)
whole_flows c made =
    let numbers = positive-made c made in
    record {
      down_rises = λ a b le. whole.down-rises c.low c.minor a b le;
      up_rises = λ a b le. whole.up-rises c.high c.minor a b le;
      some = λ d. flow_up-some c.high c.minor d;
      below = λ k d y some le. pipe.below c made numbers.0 numbers.1 k d y le;
      above = λ k d y some le. pipe.above c made numbers.0 numbers.1 k d y le;
      positive = λ k some. some;
    }

low-signed : (c : PowerCapacity) (d : ℤ) → signed (flow_down c.low c.minor) (flow_up c.high c.minor) d ≡ power_low c d
low-signed c (pos d) = refl
low-signed c (negsuc d) = refl

high-signed : (c : PowerCapacity) (d : ℤ) → signed (flow_up c.high c.minor) (flow_down c.low c.minor) d ≡ power_high c d
high-signed c (pos d) = refl
high-signed c (negsuc d) = refl

-- a law by other names of its enclosing functions
pub renamed : (A B : Relation) (l h m n : ℤ → ℤ) → ((d : ℤ) → l d ≡ m d) → ((d : ℤ) → h d ≡ n d) → IsLaw A B l h
    → IsLaw A B m n
renamed A B l h m n low high law =
    subst (λ (f : ℤ → ℤ). IsLaw A B m f) (λ i d. high d i)
    (subst (λ (f : ℤ → ℤ). IsLaw A B f h) (λ i d. low d i) law)

pub IsLaw-power : (c : PowerCapacity) → IsMade c
    → IsLaw (flow_at_least (PowerLaw c)) (flow_at_most (PowerLaw c)) (power_low c) (power_high c)
IsLaw-power c made =
    renamed (flow_at_least (PowerLaw c)) (flow_at_most (PowerLaw c))
    (signed (flow_down c.low c.minor) (flow_up c.high c.minor))
    (signed (flow_up c.high c.minor) (flow_down c.low c.minor)) (power_low c) (power_high c) (low-signed c)
    (high-signed c)
    (IsLaw-signed (pipe_loses_at_most c.pipe) (pipe_loses_at_least c.pipe) (λ k. k) (flow_down c.low c.minor)
    (flow_up c.high c.minor) (IsLossLaw-pipe c.pipe (positive-made c made)) (whole_flows c made))
