use Rattle.std.proofs.Common.{refl}
use Rattle.hyd_cases_of_definitions.proofs.losses.pump_three_points.Goals as goal
use Rattle.std.proofs.lemmas.Bool.{leb-true}

pub returns-clause-below : goal.returns-clause-below
returns-clause-below c = λ flow drop delivered lost. rw (delivered, lost) (leb-true _ _ refl)

pub returns-clause-above : goal.returns-clause-above
returns-clause-above c = λ flow drop delivered lost. rw (delivered, lost) (leb-true _ _ refl)
