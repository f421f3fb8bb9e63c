-- The tank with a volume curve that the tests fill and empty.
use Rattle.std.specs.Prelude.{◌≡◌, pos, List, [], ◌∷◌, Some, slice_get}
use Rattle.hyd_net.specs.declared.curves.VolumePoint.{VolumePoint}
use Rattle.hyd_spec.specs.ProgramTypes.{Project, Tank}
use Rattle.hyd_spec.specs.Tank.{shape_points}

-- its curve: levels in head ticks, volumes in volume ticks
abbrev pub knees : List VolumePoint
knees =
    record { level = pos 0; volume = pos 0 }
    ∷ (record { level = pos 20000000000000; volume = pos 50000000000 }
    ∷ (record { level = pos 40000000000000; volume = pos 120500000000 }
    ∷ (record { level = pos 80000000000000; volume = pos 500000000000 }
    ∷ (record { level = pos 100000000000000; volume = pos 1000000000000 } ∷ []))))

-- it goes from 2 to 9 metres, and has the network's first curve
pub record IsBasin (tank : Tank) : Type 0 where
  pub minimum : tank.minimum ≡ pos 20000000000000
  pub maximum : tank.maximum ≡ pos 90000000000000
  pub shape : tank.shape ≡ Some 0

-- a network's first tank is it, and the first curve its curve
pub record HasBasin (project : Project) : Type 0 where
  pub tank : (each : Tank) → slice_get project.tanks.list 0 ≡ Some each → IsBasin each
  pub curve : shape_points project 0 ≡ knees
