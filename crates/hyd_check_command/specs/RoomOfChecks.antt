-- The memory that a check takes besides its run.
-- Source: this program's.
use Rattle.std.specs.Prelude.{◌≡◌}
use Rattle.hyd_spec.specs.ProgramTypes.{Project}
use Rattle.hyd_cert.specs.RecordView.{header_of}
use Rattle.hyd_sim.specs.RunView.{header_for}
use Rattle.hyd_open_check.specs.OpenRunsChecked.{HasEventRoom}
use Rattle.hyd_check_command.specs.declared.room.CheckRoom.{CheckRoom}

-- There is room for the records of a network, for the flows behind one, and for the events at an end that is open.
pub record IsRoomFor (project : Project) (room : CheckRoom) : Type 0 where
  pub header : header_of room.row ≡ header_for project
  pub part : room.part.junctions ≡ room.row.junctions
  pub events : HasEventRoom project room.opened
