use Rattle.std.proofs.Common.{◌∙◌}
use Rattle.std.specs.Int.{w128}
use Rattle.std.proofs.lemmas.Int.{to_z-of_z}
use Rattle.hyd_curves.proofs.TankCurveTestLemmas.{ends_are}
use Rattle.hyd_curves.proofs.tanks.spans.Goals as goal

pub returns : goal.returns
returns c =
    c.are_ends.ensures ∙ simp (
      c.volume_point.ensures.place,
      c.volume_point.ensures.value,
      c.volume_point-2.ensures.place,
      c.volume_point-2.ensures.value,
      to_z-of_z w128 c.args.minimum c.ranges.minimum,
      to_z-of_z w128 c.args.maximum c.ranges.maximum,
    )
    (ends_are c.args.us c.args.minimum c.args.maximum c.args.points.now c.in-Some.field-0-1.now
    c.in-Some-split_last.field-0-1.now c.in-Some.first.now c.in-Some-split_last.last.now c.in-Some.ensures.cases.0
    c.in-Some-split_last.ensures.cases.0)
