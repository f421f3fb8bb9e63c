-- Without a spread a stop names a junction that has no value on the grid of the network.
use Rattle.std.proofs.Common.{ℕ}
use Rattle.hyd_net.specs.Sound.{IsSound}
use Rattle.hyd_spec.specs.ProgramTypes.{Project}
use Rattle.hyd_spec_certificates.specs.declared.StopCause.{StopCause}
use Rattle.hyd_spec_certificates.specs.Decided.{links_at}
use Rattle.hyd_spec_certificates.specs.RecordAndStanding.{Standing}
use Rattle.hyd_spec_spread.specs.Spreads.{no_spread}
use Rattle.hyd_spec_spread_runs.specs.OutermostPairs.{grid_on}
use Rattle.hyd_sim.specs.NarrowRecordsAndStops.{NamesStuck}
use Rattle.hyd_spread_stops.specs.StuckOverSpreads.{NamesStuckOver}
use Rattle.hyd_theorems_on_spread.proofs.OwnNetwork.{grid-alone}

pub stuck-alone : (project : Project) → IsSound project → (standing : Standing) (rounds : ℕ) (cause : StopCause)
    → NamesStuckOver project no_spread standing rounds cause → NamesStuck project standing rounds cause
stuck-alone project sound standing rounds cause over = record {
  stuck = λ period problem side junction is.
      let there = over.stuck period problem side junction is in
      record {
        grid = grid_on there.network there.pair;
        is_grid = grid-alone project sound there.network standing.time standing.levels standing.tanks
            (links_at project standing) (grid_on there.network there.pair) (there.are_pair there.network);
        stuck = there.stuck;
      };
}
