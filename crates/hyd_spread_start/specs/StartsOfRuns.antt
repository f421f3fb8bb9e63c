-- What a run for a spread begins with.
use Rattle.std.specs.Prelude.{◌≡◌}
use Rattle.hyd_spec.specs.ProgramTypes.{Project}
use Rattle.hyd_spec_spread.specs.Spreads.{IsSpread}
use Rattle.hyd_spec_spread_runs.specs.RunsForSpreads.{StartIsDecided}
use Rattle.hyd_spec_open_spreads.specs.OpenRunsForSpreads.{open_standing_within}
use Rattle.hyd_open_sim_start.specs.StandingsOfOpenRuns.{IsStanding, standing_for}
use Rattle.hyd_spread_rows.specs.SpreadsRead.{AreInRange, spread_of}
use Rattle.hyd_spread_start.specs.declared.start_of_text.SpreadStart.{SpreadStart}

-- A run can begin so: its spread is one of the network and leaves no doubt at the start, and the standing is that of
-- the start.
pub record BeginsRun (project : Project) (start : SpreadStart) : Type 0 where
  pub spread : IsSpread project (spread_of start.rows)
  pub range : AreInRange start.rows
  pub decided : StartIsDecided project (spread_of start.rows)
  pub initial : standing_for start.standing ≡ open_standing_within project (spread_of start.rows)
  pub standing : IsStanding project start.standing
