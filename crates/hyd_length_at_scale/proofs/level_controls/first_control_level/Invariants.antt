use Rattle.std.proofs.Common.{take}
use Rattle.hyd_laws_at_scale.specs.Scales.{parts_of}
use Rattle.hyd_length_at_scale.specs.MetPeriods.{told}
use Rattle.hyd_length_at_scale.specs.LevelEnds.{IsFirst, IsSomeReached}
use Rattle.hyd_length_at_scale.proofs.level_controls.first_control_level.Given as goal

abbrev pub invariant-loop-control : goal.invariant-loop-control
invariant-loop-control l =
    IsFirst (IsSomeReached l.period.project.now (parts_of l.period.scale) (told l.period)
    (take l.control-index l.control-items)) l.cap l.first
