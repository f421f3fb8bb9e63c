-- A certificate of the other side as a start.
use Rattle.std.proofs.Common.{List, ℤ}
use Rattle.std.specs.Prelude.{None}
use Rattle.hyd_spec_certificates.specs.declared.Problem.{Problem}
use Rattle.hyd_spec_certificates.specs.declared.Problem.TheVariants.{Main}
use Rattle.hyd_spec_certificates.specs.declared.Side.{Side}
use Rattle.hyd_spec_certificates.specs.PeriodNetwork.{Grid, opposite}
use Rattle.hyd_spec_certificates.specs.Certificate.{IsCertificate}
use Rattle.hyd_spec_certificates.specs.StartsRaisesAndLeaps.{IsStart}
use Rattle.hyd_theorems_on_definitions.specs.SoundLawsAndGrids.{IsSteady, TanksInOrder}
use Rattle.hyd_theorems_on_raises.proofs.SearchStarts.{start-other, main-fixed}

pub start-across : (grid : Grid) → IsSteady grid → TanksInOrder grid → (problem : Problem) (side : Side) (u : List ℤ)
    → IsCertificate grid Main (opposite side) u → IsStart None grid problem side u
start-across grid steady order problem side u is =
    start-other grid steady side None problem Main (main-fixed grid side problem order) u is tt
