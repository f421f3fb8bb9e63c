-- Vectors that are handed in for a spread, of which one isn't a certificate on the grid of its side.
-- Source: this program's.
use Rattle.std.specs.Prelude.{ℕ, ℤ, List, None}
use Rattle.hyd_spec_certificates.specs.declared.Problem.{Problem}
use Rattle.hyd_spec_certificates.specs.declared.Side.{Side}
use Rattle.hyd_spec_certificates.specs.Certificate.{IsCertificate, FailsFirst}
use Rattle.hyd_spec_certificates.specs.RecordAndStanding.{Record, vector_of}
use Rattle.hyd_spec_certificates.specs.TurnsOfProblems.{turn}
use Rattle.hyd_spec_spread_runs.specs.OutermostPairs.{Pair, grid_on}
use Rattle.hyd_cert.specs.RecordView.{IsProblemOf}
use Rattle.hyd_period_vectors.specs.SoughtVectors.{EachBefore}
use Rattle.hyd_open_sim_start.specs.declared.given_vectors.Failing.{Failing}

-- A vector is a certificate on the grid of its side.
abbrev pub IsCertificateOn : Pair → Problem → Side → List ℤ → Type 0
IsCertificateOn pair problem side u = IsCertificate (grid_on side pair) problem side u

-- The first vector of a record, in the order of problems and sides, that isn't one, and the junction at which it fails
-- first.
pub record FailsAtOver (pair : Pair) (tanks : ℕ) (row : Record) (failing : Failing) : Type 0 where
  pub is_problem : IsProblemOf tanks failing.problem
  pub earlier : EachBefore (IsCertificateOn pair) tanks (turn failing.problem failing.side) row
  pub fails : FailsFirst None (grid_on failing.side pair) failing.problem failing.side
      (vector_of row failing.problem failing.side) failing.junction
