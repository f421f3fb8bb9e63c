use Rattle.hyd_theorems_on_definitions.proofs.laws.status_words.Goals as goal
use Rattle.hyd_theorems_on_definitions.proofs.StatusWords.{status_holds}

pub returns : goal.returns
returns c = record { each = status_holds }
