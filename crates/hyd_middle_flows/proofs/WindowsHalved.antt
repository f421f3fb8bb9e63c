-- Flows halfway between the ends of windows.
use Rattle.std.proofs.Common.{◌≡◌, ℤ, pos, Option, Some, None, ap, ◌∙◌}
use Rattle.std.specs.Prelude.{IfSome, IfNone}
use Rattle.hyd_spec.specs.Law.{Law}
use Rattle.hyd_spec_certificates.specs.EnclosingFunctions.{DemandLaw}
use Rattle.hyd_spec_witnesses.specs.DemandsAtScale.{demand_low_at, demand_high_at, IsDemandInRange}
use Rattle.hyd_spec_witnesses.specs.EnclosingFunctionsAtScale.{low_at, high_at, IsInRange}
use Rattle.hyd_spec_witnesses.specs.MiddleCandidate.{halves, halfway, IsHalfway}
use Rattle.hyd_laws_at_scale.specs.declared.windows.Window.{Window}
use Rattle.hyd_laws_at_scale.specs.Windows.{IsAnswer, IsDemandAnswer}

-- a flow by its window
pub record IsBetween (window : Option Window) (q : ℤ) : Type 0 where
  pub some : IfSome window (λ w. q ≡ halfway w.low w.high)
  pub none : IfNone window (q ≡ pos 0)

between : (a b low high q : ℤ) → q ≡ halfway a b → a ≡ low → b ≡ high → q ≡ halfway low high
between a b low high q is e f = is ∙ (ap (λ (z : ℤ). halfway z b) e ∙ ap (λ (z : ℤ). halfway low z) f)

-- a link's or an emitter's
pub law_halfway : (law : Law) (d : ℤ) (window : Option Window) (q : ℤ) → IsBetween window q → IsAnswer halves law d window
    → IsHalfway (IsInRange halves law d) (low_at halves law d) (high_at halves law d) q
law_halfway law d (Some w) q is answer = record {
  inside = λ r. between w.low w.high (low_at halves law d) (high_at halves law d) q is.some answer.low_is answer.high_is;
  outside = λ out. absurd (out answer.in_range);
}
law_halfway law d None q is answer = record { inside = λ r. absurd (answer r); outside = λ out. is.none }

-- a demand's
pub demand_halfway : (law : DemandLaw) (p : ℤ) (window : Option Window) (q : ℤ) → IsBetween window q
    → IsDemandAnswer halves law p window
    → IsHalfway (IsDemandInRange halves law p) (demand_low_at halves law p) (demand_high_at halves law p) q
demand_halfway law p (Some w) q is answer = record {
  inside = λ r. between w.low w.high (demand_low_at halves law p) (demand_high_at halves law p) q is.some answer.low_is
      answer.high_is;
  outside = λ out. absurd (out answer.in_range);
}
demand_halfway law p None q is answer = record { inside = λ r. absurd (answer r); outside = λ out. is.none }
