-- What a stop names that says that no vector is a certificate.
-- Source: this program's.
use Rattle.std.specs.Prelude.{◌≡◌, ℕ}
use Rattle.hyd_spec.specs.ProgramTypes.{Project}
use Rattle.hyd_spec_certificates.specs.declared.Problem.{Problem}
use Rattle.hyd_spec_certificates.specs.declared.Side.{Side}
use Rattle.hyd_spec_certificates.specs.declared.StopCause.{StopCause}
use Rattle.hyd_spec_certificates.specs.declared.StopCause.TheVariants.{NoCertificate}
use Rattle.hyd_spec_certificates.specs.RecordAndStanding.{Standing}
use Rattle.hyd_spec_spread.specs.Spreads.{Spread}
use Rattle.hyd_spec_spread_runs.specs.OutermostPairs.{Pair, grid_on}
use Rattle.hyd_spec_spread_runs.specs.RunsForSpreads.{ArePairAt}
use Rattle.hyd_period_vectors.specs.SoughtVectors.{IsStuck}

-- at a standing, on one of the outermost grids of its period, a junction has no value at heads that were reached
pub record IsStuckOver (project : Project) (spread : Spread) (standing : Standing) (problem : Problem) (side : Side)
    (rounds junction : ℕ) : Type 0 where
  pub pair : Pair
  pub are_pair : ArePairAt project spread standing pair
  pub network : Side
  pub stuck : IsStuck (grid_on network pair) problem side rounds junction

-- where a stop says that no vector is a certificate, it names a junction that has no value at heads that were reached
pub record NamesStuckOver (project : Project) (spread : Spread) (standing : Standing) (rounds : ℕ) (cause : StopCause)
    : Type 0 where
  pub stuck : (period : ℕ) (problem : Problem) (side : Side) (junction : ℕ)
      → cause ≡ NoCertificate period problem side junction
      → IsStuckOver project spread standing problem side rounds junction
