use Rattle.hyd_theorems_on_open_refusals.proofs.OneOpenRefusal.{one_refusal, refused_invalid}
use Rattle.hyd_theorems_on_open_refusals.proofs.refusals.Goals as goal

pub returns-clause-one : goal.returns-clause-one
returns-clause-one c = one_refusal

pub returns-clause-invalid : goal.returns-clause-invalid
returns-clause-invalid c = refused_invalid
