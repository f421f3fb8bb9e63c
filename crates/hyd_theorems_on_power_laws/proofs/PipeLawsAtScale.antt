-- At each scale the flows of a pipe's capacity make a law of its loss at the scales that S divides.
use Rattle.std.proofs.Common.{◌≡◌, ℕ, ◌*◌, ◌<◌, ◌≤◌, ℤ, pos, negsuc, refl, mul-pos}
use Rattle.hyd_spec_power_laws.specs.declared.power_capacities.PowerCapacity.{PowerCapacity}
use Rattle.hyd_spec_power_laws.specs.PowerCapacities.{IsMade}
use Rattle.hyd_spec.specs.Law.{PowerLaw, flow_at_least, flow_at_most, pipe_loses_at_most, pipe_loses_at_least}
use Rattle.hyd_spec_pipe_laws.specs.FlowsAtScale.{flow_down_at, flow_up_at, power_low_at, power_high_at}
use Rattle.hyd_power_laws.specs.LawsOfPowers.{EnclosesLaw}
use Rattle.hyd_power_capacities.proofs.CapacitiesEncloseLosses.{encloses_law}
use Rattle.hyd_power_capacities.proofs.LossesInTicks.{exact_constant, exact_minor, at_most_in_feet, at_least_in_feet}
use Rattle.hyd_theorems_on_definitions.specs.SoundLawsAndGrids.{IsLaw}
use Rattle.hyd_theorems_on_power_laws.proofs.EnclosingAtScale.{down-encloses, up-encloses}
use Rattle.hyd_theorems_on_definitions.proofs.PipeLaws.{IsLossLaw-pipe, positive-made, renamed}
use Rattle.hyd_theorems_on_definitions.proofs.SignedLaws.{signed, EncloseLoss, IsLaw-signed}
use Rattle.hyd_theorems_on_power_laws.proofs.TestsAtScale as at

module _ (S : ℕ) (positive : 0 < S) (c : PowerCapacity) (made : IsMade c) where
  encloses : EnclosesLaw c (exact_constant c.pipe.us c.pipe.length c.pipe.diameter c.pipe.coefficient)
      (exact_minor c.pipe.us c.pipe.diameter c.pipe.minor)
  encloses = let numbers = positive-made c made in encloses_law c made numbers.0 numbers.1

  pub below_at : (T d y : ℕ) → T * d ≤ y
      → pipe_loses_at_most c.pipe (S * T) (T * flow_down_at S c.low c.minor d) y
  below_at T d y le =
      at_most_in_feet c.pipe.us c.pipe.length c.pipe.diameter c.pipe.coefficient c.pipe.minor (S * T)
      (T * flow_down_at S c.low c.minor d) y
      (down-encloses S positive encloses.constant c.minor
      (exact_constant c.pipe.us c.pipe.length c.pipe.diameter c.pipe.coefficient)
      (exact_minor c.pipe.us c.pipe.diameter c.pipe.minor) encloses.encloses encloses.fittings c.low T d y
      encloses.low_is le)

  pub above_at : (T d y : ℕ) → y ≤ T * d
      → pipe_loses_at_least c.pipe (S * T) (T * flow_up_at S c.high c.minor d) y
  above_at T d y le =
      at_least_in_feet c.pipe.us c.pipe.length c.pipe.diameter c.pipe.coefficient c.pipe.minor (S * T)
      (T * flow_up_at S c.high c.minor d) y
      (up-encloses S positive encloses.constant c.minor
      (exact_constant c.pipe.us c.pipe.length c.pipe.diameter c.pipe.coefficient)
      (exact_minor c.pipe.us c.pipe.diameter c.pipe.minor) encloses.encloses encloses.fittings c.high T d y
      encloses.high_is c.covers le)

  flows_at : EncloseLoss (pipe_loses_at_most c.pipe) (pipe_loses_at_least c.pipe) (λ k. S * k)
      (flow_down_at S c.low c.minor) (flow_up_at S c.high c.minor)
  flows_at = record {
    down_rises = λ a b le. at.down-rises S positive c.low c.minor a b le;
    up_rises = λ a b le. at.up-rises S positive c.high c.minor a b le;
    some = λ d. at.flow_up-some S positive c.high c.minor d;
    below = λ k d y some le. below_at k d y le;
    above = λ k d y some le. above_at k d y le;
    positive = λ k some. mul-pos positive some;
  }

  low-signed_at : (d : ℤ) → signed (flow_down_at S c.low c.minor) (flow_up_at S c.high c.minor) d
      ≡ power_low_at S c d
  low-signed_at (pos d) = refl
  low-signed_at (negsuc d) = refl

  high-signed_at : (d : ℤ) → signed (flow_up_at S c.high c.minor) (flow_down_at S c.low c.minor) d
      ≡ power_high_at S c d
  high-signed_at (pos d) = refl
  high-signed_at (negsuc d) = refl

  pub IsLaw-power_at : IsLaw (λ k. flow_at_least (PowerLaw c) (S * k)) (λ k. flow_at_most (PowerLaw c) (S * k))
      (power_low_at S c) (power_high_at S c)
  IsLaw-power_at =
      renamed (λ k. flow_at_least (PowerLaw c) (S * k)) (λ k. flow_at_most (PowerLaw c) (S * k))
      (signed (flow_down_at S c.low c.minor) (flow_up_at S c.high c.minor))
      (signed (flow_up_at S c.high c.minor) (flow_down_at S c.low c.minor)) (power_low_at S c) (power_high_at S c)
      low-signed_at high-signed_at
      (IsLaw-signed (pipe_loses_at_most c.pipe) (pipe_loses_at_least c.pipe) (λ k. S * k)
      (flow_down_at S c.low c.minor) (flow_up_at S c.high c.minor)
      (IsLossLaw-pipe c.pipe (positive-made c made)) flows_at)
