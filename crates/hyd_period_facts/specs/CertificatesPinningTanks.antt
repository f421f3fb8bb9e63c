-- Records whose vectors that pin a tank are certificates, and so bound the inflows of tanks.
use Rattle.std.specs.Prelude.{◌≡◌, ℕ, ◌<◌, length}
use Rattle.hyd_spec_certificates.specs.declared.Problem.TheVariants.{Pinned}
use Rattle.hyd_spec_certificates.specs.declared.Side.{Side}
use Rattle.hyd_spec_certificates.specs.PeriodNetwork.{Grid}
use Rattle.hyd_spec_certificates.specs.Certificate.{IsCertificate}
use Rattle.hyd_spec_certificates.specs.RecordAndStanding.{vector_of}
use Rattle.hyd_cert.specs.RecordView.{row_of}
use Rattle.hyd_cert.specs.declared.record.Record.{Record}

-- the record was opened for as many tanks as the grid has, and both its vectors that pin a tank are certificates
pub record ArePinned (grid : Grid) (row : Record) : Type 0 where
  pub tanks : row.tanks ≡ length grid.tanks
  pub each : (tank : ℕ) (side : Side) → tank < length grid.tanks
      → IsCertificate grid (Pinned tank) side (vector_of (row_of row) (Pinned tank) side)
