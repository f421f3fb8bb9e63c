-- Close vectors on both networks, and narrow records for a spread.
use Rattle.std.proofs.Common.{◌≡◌, ℕ, ℤ, Bool, List, sym, subst}
use Rattle.hyd_spec_certificates.specs.declared.Problem.TheVariants.{Main}
use Rattle.hyd_spec_certificates.specs.declared.Side.{Side}
use Rattle.hyd_spec_certificates.specs.declared.Side.TheVariants.{Upper, Lower}
use Rattle.hyd_spec_certificates.specs.Interval.{Interval}
use Rattle.hyd_spec_certificates.specs.RecordAndStanding.{Record}
use Rattle.hyd_spec_spread_runs.specs.OutermostPairs.{Pair}
use Rattle.hyd_period_vectors.specs.SoughtVectors.{OfEach}
use Rattle.hyd_period_vectors.proofs.SoughtVectors.{sought-certificate}
use Rattle.hyd_spec_spread_promises.specs.SharpOverSpreads.{AreClose, IsNarrowOver}
use Rattle.hyd_spread_vectors.specs.NarrowForSpreads.{HoldsClose}
use Rattle.hyd_spread_vectors.specs.VectorsOfBothNetworks.{Told, Held, held_on, AreFoundOn, IsHeldIn}

-- the same vectors, and the same width
pub close-again : (W w : ℤ) (levels : List Interval) (upper lower u v : List ℤ) → W ≡ w → upper ≡ u → lower ≡ v
    → AreClose W levels upper lower → AreClose w levels u v
close-again W w levels upper lower u v e f g close =
    subst (λ (x : List ℤ). AreClose w levels u x) g
    (subst (λ (x : List ℤ). AreClose w levels x lower) f (subst (λ (x : ℤ). AreClose x levels upper lower) e close))

pub holds-again : (W w : ℤ) (levels : List Interval) (one other : Held) → W ≡ w → one ≡ other
    → HoldsClose W levels one → HoldsClose w levels other
holds-again W w levels one other e f holds =
    subst (λ (h : Held). HoldsClose w levels h) f (subst (λ (x : ℤ). HoldsClose x levels one) e holds)

-- certificates of each network that are close there
pub narrow-over : (W : ℤ) (levels : List Interval) (tight : Bool) (told : Told) (pair : Pair) (tanks rounds : ℕ)
    (held : Held) (row : Record)
    → ((network : Side) → AreFoundOn tight told pair tanks rounds network (held_on network held))
    → OfEach (IsHeldIn held) tanks row → HoldsClose W levels held → IsNarrowOver W levels pair row
narrow-over W levels tight told pair tanks rounds held row found same close = record {
  lower = held.above.main.lower;
  is_lower = sought-certificate tight told.above pair.upper tanks Main Lower held.above.main.lower
      ((found Upper).found Main Lower tt);
  upper_close = subst (λ (u : List ℤ). AreClose W levels u held.above.main.lower) (sym (same Main Upper tt))
      close.above;
  upper = held.below.main.upper;
  is_upper = sought-certificate tight told.below pair.lower tanks Main Upper held.below.main.upper
      ((found Lower).found Main Upper tt);
  lower_close = subst (λ (v : List ℤ). AreClose W levels held.below.main.upper v) (sym (same Main Lower tt))
      close.below;
}
