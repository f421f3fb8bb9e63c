use Rattle.hyd_theorems_on_definitions.proofs.SoundTankLemmas.{vessels}
use Rattle.hyd_theorems_on_definitions.proofs.tanks.vessels.Goals as goal

pub returns : goal.returns
returns c = vessels
