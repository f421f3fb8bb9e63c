-- The room is of the run's network, and want of memory leaves all as it was.
use Rattle.std.proofs.Common.{sym, subst}
use Rattle.hyd_net.specs.Sound.{IsSound}
use Rattle.hyd_spec.specs.ProgramTypes.{Project}
use Rattle.hyd_check_command.specs.RoomOfChecks.{IsRoomFor}
use Rattle.hyd_check_command.proofs.CheckLemmas.{prints_nothing}
use Rattle.hyd_check_command.proofs.whole_check.check_in_room.Goals as goal

pub room_for-requires : goal.room_for-requires
room_for-requires g c = subst IsSound (sym c.project.ensures.project) c.project.ensures.is_sim.sound

pub check_opened-requires-clause-room : goal.check_opened-requires-clause-room
check_opened-requires-clause-room g c =
    subst (λ (p : Project). IsRoomFor p c.in-Ok.room) c.project.ensures.project c.in-Ok.ensures.room

pub returns-in-Err-clause-only_prints : goal.returns-in-Err-clause-only_prints
returns-in-Err-clause-only_prints g c = prints_nothing _
