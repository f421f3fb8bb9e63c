-- What a run holds, as it is given back: room for each period of its network.
-- Source: this program's.
use Rattle.std.specs.Prelude.{◌≡◌, ℕ, length}
use Rattle.hyd_net.specs.Sound.{IsSound}
use Rattle.hyd_spec.specs.ProgramTypes.{Project}
use Rattle.hyd_cert.specs.RecordView.{header_of}
use Rattle.hyd_period_facts.specs.ReservedMemory.{HasRoom}
use Rattle.hyd_period_facts.specs.RoomForStocks.{HasRoom as HasNextRoom}
use Rattle.hyd_period_network.specs.NetsSetToPeriods.{IsNetOf}
use Rattle.hyd_period_end.specs.EndOfPeriod.{HasRoom as HasCloseRoom}
use Rattle.hyd_sim.specs.RunView.{header_for}
use Rattle.hyd_sim.specs.declared.closing_of_run.SimParts.{SimParts}

-- The parts are those of a run of the network, which was asked for at most so many rounds toward a vector.
pub record HasParts (project : Project) (rounds : ℕ) (parts : SimParts) : Type 0 where
  pub sound : IsSound project
  pub net : IsNetOf project parts.net
  pub search : parts.search ≡ record { junctions = length project.junctions.list; rounds = rounds }
  pub header : header_of parts.row ≡ header_for project
  pub facts : HasRoom project parts.facts
  pub stocks : HasNextRoom project parts.stocks
  pub commanded : length parts.commanded.items ≡ length project.links.list
  pub close : HasCloseRoom project parts.close
