use Rattle.std.proofs.Common.{◌≡◌, ◌-◌, ◌%◌, ◌<◌}
use Rattle.hyd_laws_at_scale.specs.Scales.{parts_of}
use Rattle.hyd_length_at_scale.specs.MetPeriods.{told}
use Rattle.hyd_length_at_scale.specs.ReservedMemory.{IsTrialRoomFor}
use Rattle.hyd_length_at_scale.proofs.LeastEnd.{NoneBefore}
use Rattle.hyd_length_at_scale.proofs.trials.first_by_rules.Given as goal

abbrev pub invariant-loop-instant : goal.invariant-loop-instant
invariant-loop-instant l = record {
  later : l.period.moment.now.time < l.instant;
  multiple : l.instant % l.period.project.now.times.rule ≡ 0;
  before : NoneBefore l.period.project.now (parts_of l.period.scale) (told l.period) l.instant;
  links : l.room.links.items ≡ l.period.links.now;
  trial : IsTrialRoomFor l.period.project.now l.room.trial;
}

abbrev pub decreases-loop-instant : goal.decreases-loop-instant
decreases-loop-instant l = l.cap - l.instant
