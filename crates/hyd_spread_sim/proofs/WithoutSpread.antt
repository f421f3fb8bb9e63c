-- Without a spread both outermost grids of a period are the network's.
use Rattle.std.proofs.Common.{◌≡◌, true, subst}
use Rattle.hyd_net.specs.Sound.{IsSound}
use Rattle.hyd_spec.specs.ProgramTypes.{Project}
use Rattle.hyd_spec_certificates.specs.RecordAndStanding.{Standing}
use Rattle.hyd_spec_spread.specs.Spreads.{Spread}
use Rattle.hyd_spec_spread_reports.specs.TextsOfSpreadReports.{says_nothing}
use Rattle.hyd_spec_spread_runs.specs.OutermostPairs.{Pair}
use Rattle.hyd_spec_spread_runs.specs.RunsForSpreads.{ArePairAt}
use Rattle.hyd_theorems_on_spread_promises.proofs.OneNetwork.{nothing_said, alike as alike-alone}

pub alike : (project : Project) → IsSound project → (spread : Spread) → says_nothing spread ≡ true
    → (standing : Standing) (pair : Pair) → ArePairAt project spread standing pair → pair.lower ≡ pair.upper
alike project sound spread says standing pair are =
    alike-alone project sound standing pair
    (subst (λ (s : Spread). ArePairAt project s standing pair) (nothing_said spread says) are)
