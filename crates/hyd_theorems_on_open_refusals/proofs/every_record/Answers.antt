use Rattle.hyd_theorems_on_open_refusals.proofs.RefusedOrValid.{valid_or_refused}
use Rattle.hyd_theorems_on_open_refusals.proofs.every_record.Goals as goal

pub returns : goal.returns
returns c = valid_or_refused
