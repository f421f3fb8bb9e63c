-- A record on the grid of its period, as far as named links ask for it.
use Rattle.hyd_spec_certificates.specs.declared.Problem.TheVariants.{Main}
use Rattle.hyd_spec_certificates.specs.declared.Side.TheVariants.{Upper, Lower}
use Rattle.hyd_spec_certificates.specs.PeriodNetwork.{Grid}
use Rattle.hyd_spec_certificates.specs.Certificate.{IsCertificate}
use Rattle.hyd_spec_certificates.specs.RecordAndStanding.{Record}
use Rattle.hyd_theorems_on_definitions.specs.SoundLawsAndGrids.{IsSteady, TanksInOrder}

-- The laws of the grid are sound and its tanks' intervals in order, and the record's vectors with all tanks alike are
-- certificates.
pub record IsCertified (grid : Grid) (row : Record) : Type 0 where
  pub steady : IsSteady grid
  pub tanks : TanksInOrder grid
  pub upper : IsCertificate grid Main Upper row.main.upper
  pub lower : IsCertificate grid Main Lower row.main.lower
