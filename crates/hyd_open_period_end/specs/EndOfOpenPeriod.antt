-- What the end of a period brings whose start or end may be open by some seconds.
-- Source: this program's.
use Rattle.std.specs.Prelude.{◌≡◌, ℕ, suc, ◌+◌, ◌<◌, ◌≤◌, false, length, map}
use Rattle.hyd_spec.specs.ProgramTypes.{Project}
use Rattle.hyd_spec.specs.NodeNumbers.{tank_count}
use Rattle.hyd_spec_certificates.specs.SpansAsIntervals.{levels_of}
use Rattle.hyd_spec_certificates.specs.PeriodNetwork.{Grid}
use Rattle.hyd_spec_open_ends.specs.OpenStandings.{OpenStanding, OpenRecord}
use Rattle.hyd_spec_open_ends.specs.OpenRecords.{ContinuesOpenly}
use Rattle.hyd_tank.specs.StockIntervals.{volumes_of}
use Rattle.hyd_period_facts.specs.declared.facts.Facts.{Facts}
use Rattle.hyd_period_facts.specs.ReservedMemory.{Takes}
use Rattle.hyd_period_facts.specs.RoomForStocks.{HasRoom as HasNextRoom}
use Rattle.hyd_period_length.specs.ReservedMemory.{HasRoom as HasReadingsRoom}
use Rattle.hyd_period_end.specs.FactsBeforeVectors.{AreBegun}
use Rattle.hyd_open_facts.specs.FactsOfOpenPeriod.{AreOpenFacts}
use Rattle.hyd_open_period_end.specs.declared.open_period_end.OpenPeriodEnd.{OpenPeriodEnd}

-- facts are those of a period that begins at some standing, whose start is open by so many seconds
pub record AreOfSomeStart (project : Project) (late : ℕ) (facts : Facts) : Type 0 where
  pub standing : OpenStanding
  pub late_is : standing.late ≡ late
  pub begun : AreBegun project standing.known facts

-- there is room for each period of a network
pub record HasRoom (project : Project) (close : OpenPeriodEnd) : Type 0 where
  pub readings : HasReadingsRoom project close.readings
  pub carried : Takes close.carried (tank_count project)
  pub values : length close.values.items ≡ length project.rules.list
  pub commanded : length close.commanded.items ≡ length project.links.list
  pub next : HasNextRoom project close.next
  pub opened : Takes close.opened (tank_count project + length project.controls.list)

-- the standing that a period leaves which begins at another and isn't the last
abbrev pub standing_left : OpenStanding → OpenPeriodEnd → OpenStanding
standing_left standing close = record {
  known = record {
    number = suc standing.known.number;
    time = standing.known.time + close.first;
    levels = map levels_of close.next.levels.list;
    volumes = map volumes_of close.next.volumes.list;
    tanks = close.next.tanks.list;
    commanded = close.commanded.items;
    finished = false;
  };
  late = close.late;
}

-- a period that begins at a standing is over: its record leads on to what is left, which begins a second later at least
-- and in no second after the end of the run, and the facts are its own
pub record IsClosedOpenly (project : Project) (grid : Grid) (standing : OpenStanding) (found : OpenRecord)
    (facts : Facts) (close : OpenPeriodEnd) : Type 0 where
  pub continues : ContinuesOpenly project grid standing found (standing_left standing close)
  pub later : 0 < close.first
  pub in_time : (standing.known.time + close.first) + close.late ≤ project.times.duration
  pub facts_are : AreOpenFacts project grid standing found close.first close.late close.opened.list facts
