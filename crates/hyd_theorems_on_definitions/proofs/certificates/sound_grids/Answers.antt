use Rattle.hyd_theorems_on_definitions.proofs.LawsOfGrids.{IsSoundGrid-made}
use Rattle.hyd_theorems_on_definitions.proofs.certificates.sound_grids.Goals as goal

pub returns : goal.returns
returns c = record { sound = IsSoundGrid-made }
