-- The vectors of a link whose first node is held: they exist, where a search for them begins, and how near they are.
use Rattle.std.proofs.Common.{ℕ, ◌<◌, ℤ, pos, sym, subst, arith, List, length}
use Rattle.std.specs.Prelude.{Some, None, slice_set}
use Rattle.hyd_spec.specs.Assignment.{head_at}
use Rattle.hyd_spec_certificates.specs.declared.Problem.TheVariants.{Main}
use Rattle.hyd_spec_certificates.specs.declared.Side.{Side}
use Rattle.hyd_spec_certificates.specs.declared.Side.TheVariants.{Upper, Lower}
use Rattle.hyd_spec_certificates.specs.PeriodNetwork.{Grid, GridLink, opposite}
use Rattle.hyd_spec_certificates.specs.Certificate.{IsCertificate, IsTightHolding, AreRoundsHolding, IsBeyond}
use Rattle.hyd_spec_certificates.specs.RecordAndStanding.{Record, vector_of}
use Rattle.hyd_spec_certificates.specs.StartsRaisesAndLeaps.{IsStart, LiesBeyond}
use Rattle.hyd_spec_flows.specs.FlowParts.{held_for, IsHeldVector, IsSharpVector}
use Rattle.hyd_theorems_on_raises.proofs.SearchStarts.{start-other, main-fixed, drawn}
use Rattle.hyd_theorems_on_raises.proofs.RaisesAndTightVector.{beyond-self, set-there}
use Rattle.hyd_theorems_on_flows.specs.RecordOnGrid.{IsCertified}

module _ (grid : Grid) (row : Record) (is : IsCertified grid row) where
  pub both : (side : Side) → IsCertificate grid Main side (vector_of row Main side)
  both Upper = is.upper
  both Lower = is.lower

  -- where a search begins
  pub held_start : (link : GridLink) (side : Side)
      → IsStart (Some (held_for row link side)) grid Main side (vector_of row Main (opposite side))
  held_start link side =
      start-other grid is.steady side (Some (held_for row link side)) Main Main (main-fixed grid side Main is.tanks)
      (vector_of row Main (opposite side)) (both (opposite side))
      (beyond-self side (head_at (vector_of row Main (opposite side)) link.from))

  -- a vector lies beyond that of the other side
  pub ordered : (side : Side) → LiesBeyond side (vector_of row Main (opposite side)) (vector_of row Main side)
  ordered side = (start-other grid is.steady side None Main Main (main-fixed grid side Main is.tanks)
      (vector_of row Main (opposite side)) (both (opposite side)) tt).nearer (vector_of row Main side) (both side)

  module _ (link : GridLink) (side : Side) where
    pub held_drawn : link.from < length grid.junctions
        → IsHeldVector grid row link side (slice_set (vector_of row Main side) link.from
        (head_at (vector_of row Main (opposite side)) link.from))
    held_drawn inside =
        let here = (both side).one_each in
        let there = (both (opposite side)).one_each in
        drawn grid is.steady Main side link.from (head_at (vector_of row Main (opposite side)) link.from)
        (vector_of row Main side) (both side) (omega (arith, inside, here))
        ((both (opposite side)).in_box link.from (pos 0) (omega (arith, inside, there)))
        (ordered side link.from (omega (arith, inside, there)))

    pub tight_near : (rounds : ℕ) (u : List ℤ) → link.from < length grid.junctions
        → IsTightHolding (Some (held_for row link side)) grid Main side u
        → IsSharpVector rounds grid row link side u
    tight_near rounds u inside tight = record {
      least = λ reached by_rounds held. tight;
      inside = λ i junction at apart. subst (λ (h : ℤ). IsBeyond side (head_at u i) h)
          (set-there (vector_of row Main side) link.from i
          (head_at (vector_of row Main (opposite side)) link.from) apart)
          (tight.nearest _ (held_drawn inside) i junction at);
    }

    pub spent_near : (rounds : ℕ) → ((reached : List ℤ)
        → AreRoundsHolding (Some (held_for row link side)) grid Main side rounds
        (vector_of row Main (opposite side)) reached → IsHeldVector grid row link side reached → ⊥)
        → IsSharpVector rounds grid row link side (slice_set (vector_of row Main side) link.from
        (head_at (vector_of row Main (opposite side)) link.from))
    spent_near rounds none = record {
      least = λ reached by_rounds held. absurd (none reached by_rounds held);
      inside = λ i junction at apart. subst (λ (h : ℤ). IsBeyond side h (head_at (vector_of row Main side) i))
          (sym (set-there (vector_of row Main side) link.from i
          (head_at (vector_of row Main (opposite side)) link.from) apart))
          (beyond-self side (head_at (vector_of row Main side) i));
    }
