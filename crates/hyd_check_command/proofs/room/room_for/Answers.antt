-- The parts that were taken are those of the network.
use Rattle.hyd_check_command.proofs.room.room_for.Goals as goal

pub returns : goal.returns
returns c = record {
  room = record {
    header = c.in_ok-row.ensures;
    part = c.in_ok-part.ensures.junctions;
    events = c.in_ok-opened.ensures.room;
  };
}
