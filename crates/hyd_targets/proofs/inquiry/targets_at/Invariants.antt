use Rattle.std.proofs.Common.{◌≡◌, map, take}
use Rattle.hyd_spec.specs.DemandsHeadsAndPumpLifts.{is_us}
use Rattle.hyd_targets.specs.Inquiries.{target_of, target_pressure}
use Rattle.hyd_targets.proofs.inquiry.targets_at.Given as goal

abbrev pub invariant-loop-place : goal.invariant-loop-place
invariant-loop-place l = l.targets.items
    ≡ map (target_of (target_pressure (is_us l.project) l.fn.pressure.nano)) (take l.place l.junctions)
