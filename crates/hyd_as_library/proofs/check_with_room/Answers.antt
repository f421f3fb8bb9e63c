-- Behind the opening no memory is taken.
use Rattle.hyd_as_library.proofs.check_with_room.Goals as goal

pub returns-in-Ok-clause-untouched : goal.returns-in-Ok-clause-untouched
returns-in-Ok-clause-untouched c = λ e. absurd (c.check_with.ensures.takes_no_memory e)
