use Rattle.std.proofs.Common.{refl}
use Rattle.hyd_cases_of_definitions.proofs.losses.demand_pounds.Goals as goal
use Rattle.std.proofs.lemmas.Bool.{leb-true}

pub returns-clause-below : goal.returns-clause-below
returns-clause-below c = λ minimum required least whole. rw (least, whole) (leb-true _ _ refl)

pub returns-clause-above : goal.returns-clause-above
returns-clause-above c = λ minimum required least whole. rw (least, whole) (leb-true _ _ refl)
