-- Vectors that are handed in, of which one isn't a certificate.
-- Source: this program's.
use Rattle.std.specs.Prelude.{ℕ, None}
use Rattle.hyd_spec_certificates.specs.PeriodNetwork.{Grid}
use Rattle.hyd_spec_certificates.specs.Certificate.{IsCertificate, FailsFirst}
use Rattle.hyd_spec_certificates.specs.RecordAndStanding.{Record, vector_of}
use Rattle.hyd_spec_certificates.specs.TurnsOfProblems.{turn}
use Rattle.hyd_cert.specs.RecordView.{IsProblemOf}
use Rattle.hyd_period_vectors.specs.SoughtVectors.{EachBefore}
use Rattle.hyd_open_sim_start.specs.declared.given_vectors.Failing.{Failing}

-- The first vector of a record, in the order of problems and sides, that isn't a certificate, and the junction at which
-- it fails first.
pub record FailsAt (grid : Grid) (tanks : ℕ) (row : Record) (failing : Failing) : Type 0 where
  pub is_problem : IsProblemOf tanks failing.problem
  pub earlier : EachBefore (IsCertificate grid) tanks (turn failing.problem failing.side) row
  pub fails : FailsFirst None grid failing.problem failing.side (vector_of row failing.problem failing.side)
      failing.junction
