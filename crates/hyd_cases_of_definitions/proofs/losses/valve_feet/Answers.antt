use Rattle.std.proofs.Common.{refl}
use Rattle.hyd_cases_of_definitions.proofs.losses.valve_feet.Goals as goal
use Rattle.std.proofs.lemmas.Bool.{leb-true}

pub returns-clause-below : goal.returns-clause-below
returns-clause-below c = λ diameter k wide coefficient. rw (wide, coefficient) (record { crossed = leb-true _ _ refl })

pub returns-clause-above : goal.returns-clause-above
returns-clause-above c = λ diameter k wide coefficient. rw (wide, coefficient) (record { crossed = leb-true _ _ refl })
