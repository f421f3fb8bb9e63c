use Rattle.std.proofs.Common.{arith}
use Rattle.hyd_laws_at_scale.specs.Scales.{parts_of}
use Rattle.hyd_length_at_scale.specs.MetPeriods.{told}
use Rattle.hyd_met_flows.proofs.Tests.{also_false}
use Rattle.hyd_course.proofs.LengthsOfPeriods.{length_before}
use Rattle.hyd_course.proofs.trial.has_its_length.Goals as goal

pub returns-clause-no : goal.returns-clause-no
returns-clause-no c =
    let period = c.args.period.now in
    also_false c.is_same-2.result _ _ c.is_same-2.ensures.no (λ has.
    let sum = length_before period.project.now (parts_of period.scale) (told period) c.least_end-least.result
    c.if-moment-period.false c.least_end-least.ensures.least has in
    omega (arith, sum))
