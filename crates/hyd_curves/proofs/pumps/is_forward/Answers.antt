use Rattle.std.proofs.Common.{◌∙◌}
use Rattle.hyd_curves.proofs.PumpAndValveCurveTestLemmas.{ends_are}
use Rattle.hyd_curves.proofs.pumps.is_forward.Goals as goal

pub returns : goal.returns
returns c =
    c.are_ends.ensures ∙ simp (c.head_point.ensures.place, c.head_point-2.ensures.value)
    (ends_are c.args.unit c.args.points.now c.in-Some.field-0-1.now c.in-Some-split_last.field-0-1.now
    c.in-Some.first.now c.in-Some-split_last.last.now c.in-Some.ensures.cases.0 c.in-Some-split_last.ensures.cases.0)
