-- A capacity that stands for the numbers of a file encloses their exact loss.
use Rattle.std.proofs.Common.{ℕ, ◌*◌, ◌≤◌, subst, sym}
use Rattle.hyd_num.specs.declared.binary.Scaled.{Scaled}
use Rattle.hyd_num.specs.declared.pairs.Pair.{Pair}
use Rattle.hyd_num.specs.BinaryNumbers.{numerator, denominator}
use Rattle.hyd_num.specs.CapacityPairs.{StandsFor, IsMade}
use Rattle.hyd_spec.specs.ProgramTypes.{Origin, Pipe, Valve, Pump, Emitter, PressureDemand, Capacity}
use Rattle.hyd_spec.specs.Law.{loss_at_most, loss_at_least}
use Rattle.hyd_spec.specs.CapacityEnclosure.{IsEnclosure}
use Rattle.hyd_lemmas.proofs.PipeAndValvePairs.{valve-at_most, valve-at_least, pipe-at_most, pipe-at_least}
use Rattle.hyd_lemmas.proofs.PumpEmitterAndDemandPairs.{pump-at_most, pump-at_least, emitter-at_most, emitter-at_least}
use Rattle.hyd_lemmas.proofs.PumpEmitterAndDemandPairs.{pressure-at_most, pressure-at_least}

pub pair-at_most : (origin : Origin) (r : Pair) (S q y : ℕ) → StandsFor origin r
    → (q * q) * denominator r.lo ≤ numerator r.lo * (S * y) → loss_at_most origin S q y
pair-at_most (Pipe us length diameter roughness minor) r S q y made h = pipe-at_most length diameter roughness minor
    us r S q y made h
pair-at_most (Valve diameter k us) r S q y made h = valve-at_most diameter k us r S q y made h
pair-at_most (Pump flow drop thirds unit) r S q y made h = pump-at_most flow drop thirds unit r S q y made h
pair-at_most (Emitter coefficient unit) r S q y made h = emitter-at_most coefficient unit r S q y made h
pair-at_most (PressureDemand demand minimum required us) r S q y made h = pressure-at_most demand minimum required us
    r S q y made h

pub pair-at_least : (origin : Origin) (r : Pair) (S q y : ℕ) → StandsFor origin r
    → numerator r.hi * (S * y) ≤ (q * q) * denominator r.hi → loss_at_least origin S q y
pair-at_least (Pipe us length diameter roughness minor) r S q y made h = pipe-at_least length diameter roughness minor
    us r S q y made h
pair-at_least (Valve diameter k us) r S q y made h = valve-at_least diameter k us r S q y made h
pair-at_least (Pump flow drop thirds unit) r S q y made h = pump-at_least flow drop thirds unit r S q y made h
pair-at_least (Emitter coefficient unit) r S q y made h = emitter-at_least coefficient unit r S q y made h
pair-at_least (PressureDemand demand minimum required us) r S q y made h = pressure-at_least demand minimum required
    us r S q y made h

pub IsEnclosure-made : (c : Capacity) → IsMade c → IsEnclosure c
IsEnclosure-made c made = record {
  at_most = λ S q y h. pair-at_most c.origin made.pair S q y made.made
      (subst (λ (s : Scaled). (q * q) * denominator s ≤ numerator s * (S * y)) (sym made.low) h);
  at_least = λ S q y h. pair-at_least c.origin made.pair S q y made.made
      (subst (λ (s : Scaled). numerator s * (S * y) ≤ (q * q) * denominator s) (sym made.high) h);
}
