use Rattle.hyd_theorems_on_spread_refusals.proofs.OneSpreadRefusal.{one_refusal, refused_invalid}
use Rattle.hyd_theorems_on_spread_refusals.proofs.refusals.Goals as goal

pub returns-clause-one : goal.returns-clause-one
returns-clause-one c = one_refusal

pub returns-clause-invalid : goal.returns-clause-invalid
returns-clause-invalid c = refused_invalid
