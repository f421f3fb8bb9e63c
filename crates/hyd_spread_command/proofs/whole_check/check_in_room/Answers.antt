-- Want of memory leaves all as it was.
use Rattle.hyd_check_command.proofs.CheckLemmas.{prints_nothing}
use Rattle.hyd_spread_command.proofs.whole_check.check_in_room.Goals as goal

pub returns-in-Err-clause-only_prints : goal.returns-in-Err-clause-only_prints
returns-in-Err-clause-only_prints g c = prints_nothing _
