use Rattle.std.proofs.Common.{w64}
use Rattle.std.proofs.lemmas.Int.{to_z-of_z}
use Rattle.hyd_period_network.proofs.LawsStandForExactLaws.{pump_represents}
use Rattle.hyd_period_network.proofs.pumps.pump_law.Goals as goal

pub returns : goal.returns
returns c = rw (to_z-of_z w64 c.args.speed c.ranges.speed)
    (pump_represents c.args.us c.args.cap.now c.args.head.now c.args.speed c.lift_of.result c.requires.made
    (rw (to_z-of_z w64 c.args.speed c.ranges.speed) at c.lift_of.ensures.rounded) c.lift_of.ensures.least
    c.lift_of.ensures.greatest)
