-- Standings of runs whose ends of periods may be open, as the program keeps them.
use Rattle.std.specs.Prelude.{◌≡◌, ◌≤◌, ◌+◌, false, map}
use Rattle.hyd_spec.specs.ProgramTypes.{Project}
use Rattle.hyd_spec_certificates.specs.SpansAsIntervals.{levels_of}
use Rattle.hyd_spec_certificates.specs.RecordAndStanding.{Standing}
use Rattle.hyd_spec_open_ends.specs.OpenStandings.{OpenStanding}
use Rattle.hyd_tank.specs.StockIntervals.{volumes_of}
use Rattle.hyd_period_facts.specs.RoomForStocks.{HasRoom}
use Rattle.hyd_period_end.specs.EndOfPeriod.{AreKeptIn}
use Rattle.hyd_theorems_on_open_standings.specs.FirmStandings.{IsFirm}
use Rattle.hyd_open_sim_start.specs.declared.standing.Standing.{Standing as Here}

-- What is known at a standing, as of its first second.
abbrev pub known_for : Here → Standing
known_for here = record {
  number = here.number;
  time = here.time;
  levels = map levels_of here.stocks.levels.list;
  volumes = map volumes_of here.stocks.volumes.list;
  tanks = here.stocks.tanks.list;
  commanded = here.commanded.items;
  finished = here.finished;
}

-- The standing that one of the program stands for.
abbrev pub standing_for : Here → OpenStanding
standing_for here = record { known = known_for here; late = here.late }

-- A standing of a run: it is firm, its stocks lie within the bounds of their tanks, there is room for the next one's,
-- and as each period before the end lasts a second at least, no more were done than seconds are over, but for the last.
pub record IsStanding (project : Project) (here : Here) : Type 0 where
  pub firm : IsFirm project (standing_for here)
  pub held : AreKeptIn project here.stocks
  pub room : HasRoom project here.stocks
  pub few : here.number ≤ here.time + 1
  pub unfinished : here.finished ≡ false → here.number ≤ here.time
