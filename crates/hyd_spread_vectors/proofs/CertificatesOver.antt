-- Certificates for a spread from what was found.
use Rattle.std.proofs.Common.{◌≡◌, ℕ, ◌<◌, Bool, true, sym, subst, ◌∙◌}
use Rattle.hyd_spec.specs.ProgramTypes.{Project}
use Rattle.hyd_spec.specs.NodeNumbers.{tank_count}
use Rattle.hyd_spec_certificates.specs.declared.Problem.{Problem}
use Rattle.hyd_spec_certificates.specs.declared.Problem.TheVariants.{Main, Pinned}
use Rattle.hyd_spec_certificates.specs.declared.Side.{Side}
use Rattle.hyd_spec_certificates.specs.Certificate.{IsTight}
use Rattle.hyd_spec_certificates.specs.RecordAndStanding.{vector_of}
use Rattle.hyd_spec_certificates.specs.Valid.{IsProblem}
use Rattle.hyd_spec_spread_runs.specs.OutermostPairs.{Pair, grid_on}
use Rattle.hyd_spec_spread_runs.specs.RunsForSpreads.{AreCertificatesOver}
use Rattle.hyd_cert.specs.RecordView.{row_of, IsProblemOf}
use Rattle.hyd_cert.specs.VectorsOfRecord.{behind_two}
use Rattle.hyd_cert.specs.declared.record.Record.{Record}
use Rattle.hyd_cert.proofs.VectorLemmas.{problems_length}
use Rattle.hyd_period_vectors.specs.SoughtVectors.{OfEach}
use Rattle.hyd_period_vectors.proofs.SoughtVectors.{sought-certificate}
use Rattle.hyd_spread_vectors.specs.VectorsOfBothNetworks.{Told, told_on, IsSoughtOver}

-- a problem of the network is one of a record with as many tanks
pub problem-of : (project : Project) (tanks : ℕ) (problem : Problem) → tanks ≡ tank_count project
    → IsProblem project problem → IsProblemOf tanks problem
problem-of project tanks Main each is = tt
problem-of project tanks (Pinned tank) each is = subst (λ (n : ℕ). tank < n) (sym each) is

pub are-certificates : (project : Project) (tight : Bool) (told : Told) (pair : Pair) (tanks : ℕ) (row : Record)
    → tanks ≡ tank_count project → row.tanks ≡ tanks
    → OfEach (IsSoughtOver tight told pair tanks) tanks (row_of row) → AreCertificatesOver project pair (row_of row)
are-certificates project tight told pair tanks row each counts found = record {
  pinned_each = problems_length row.junctions row.tanks (behind_two row.junctions row.vectors.list) ∙ (counts ∙ each);
  each = λ problem side is.
      sought-certificate tight (told_on side told) (grid_on side pair) tanks problem side
      (vector_of (row_of row) problem side) (found problem side (problem-of project tanks problem each is));
}

pub are-tight : (project : Project) (told : Told) (pair : Pair) (tanks : ℕ) (row : Record)
    → tanks ≡ tank_count project → OfEach (IsSoughtOver true told pair tanks) tanks (row_of row)
    → (problem : Problem) (side : Side) → IsProblem project problem
    → IsTight (grid_on side pair) problem side (vector_of (row_of row) problem side)
are-tight project told pair tanks row each found problem side is =
    found problem side (problem-of project tanks problem each is)
