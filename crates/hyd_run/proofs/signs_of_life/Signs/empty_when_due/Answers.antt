-- Where it isn't due nothing is put in.
use Rattle.hyd_io.proofs.PutLemmas.{puts_nothing}
use Rattle.hyd_run.proofs.signs_of_life.Signs.empty_when_due.Goals as goal

pub returns : goal.returns
returns g c = puts_nothing _ _ c.requires.unbroken
