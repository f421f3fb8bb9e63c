use Rattle.hyd_theorems_on_spread_promises.proofs.RefusalsAlone.{refused_alone}
use Rattle.hyd_theorems_on_spread_promises.proofs.refusals.Goals as goal

pub returns : goal.returns
returns c = refused_alone
