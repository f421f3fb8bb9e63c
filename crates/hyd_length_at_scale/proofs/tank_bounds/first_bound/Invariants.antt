use Rattle.hyd_laws_at_scale.specs.Scales.{parts_of}
use Rattle.hyd_length_at_scale.specs.MetPeriods.{told}
use Rattle.hyd_length_at_scale.specs.LevelEnds.{IsFirst, IsBoundReached}
use Rattle.hyd_length_at_scale.proofs.tank_bounds.first_bound.Given as goal

abbrev pub invariant-loop-tank : goal.invariant-loop-tank
invariant-loop-tank l =
    IsFirst (IsBoundReached l.period.project.now (parts_of l.period.scale) (told l.period) l.tank) l.cap l.first
