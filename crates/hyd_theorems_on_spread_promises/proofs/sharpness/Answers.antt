use Rattle.hyd_theorems_on_spread_promises.proofs.SharpAlone.{sharp_alone}
use Rattle.hyd_theorems_on_spread_promises.proofs.sharpness.Goals as goal

pub returns : goal.returns
returns c = sharp_alone
