-- Standings of runs for spreads are firm.
use Rattle.hyd_net.specs.Sound.{IsSound}
use Rattle.hyd_spec.specs.ProgramTypes.{Project}
use Rattle.hyd_spec_certificates.specs.declared.Side.{Side}
use Rattle.hyd_spec_open_ends.specs.OpenStandings.{OpenStanding, OpenRecord}
use Rattle.hyd_spec_open_spreads.specs.OpenRunsForSpreads.{IsValidOpenlyOver, spanning_openly}
use Rattle.hyd_spec_spread.specs.Spreads.{Spread, IsSpread}
use Rattle.hyd_spec_spread_runs.specs.OutermostPairs.{Pair, grid_on, spanned}
use Rattle.hyd_theorems_on_definitions.specs.SoundLawsAndGrids.{IsSteady}
use Rattle.hyd_theorems_on_open_standings.specs.FirmStandings.{IsFirm}
use Rattle.hyd_theorems_on_open_standings.proofs.StandingsByFlows.{firm-by-lead}
use Rattle.hyd_theorems_on_spread_standings.proofs.FlowsOverPairs.{flows-over}

pub firm-over : (project : Project) → IsSound project → (spread : Spread) → IsSpread project spread
    → (standing : OpenStanding) (pair : Pair) (found : OpenRecord) (next : OpenStanding) → IsFirm project standing
    → ((side : Side) → IsSteady (grid_on side pair)) → IsValidOpenlyOver project spread standing pair found next
    → IsFirm project next
firm-over project sound spread is standing pair found next firm steady valid =
    firm-by-lead project sound (spanned pair) standing (spanning_openly pair found) next firm
    (flows-over project spread is standing.known firm.tidy pair valid.are_pair steady found.row valid.certificates)
    valid.leads_on
