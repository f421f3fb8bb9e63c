use Rattle.std.proofs.Common.{◌∙◌}
use Rattle.hyd_num.specs.FileQuantity.{is_us_unit}
use Rattle.hyd_spec_input.specs.Curves.{head_point}
use Rattle.hyd_curves.specs.Points.{point_in}
use Rattle.hyd_curves.proofs.PumpAndValveCurveTestLemmas.{AreTicks, bend, FirstTwoPoints, two_begin}
use Rattle.hyd_curves.proofs.pumps.is_bend.Goals as goal

begins : (c : goal.After-head_point-2) → FirstTwoPoints (bend c.args.unit c.args.points.now) c.head_point.result
    c.head_point-2.result
begins c =
    let p : AreTicks (head_point c.args.unit (is_us_unit c.args.unit) (point_in c.index-points-0.result))
    c.head_point.result =
    record {
      place = c.head_point.ensures.place;
      value = c.head_point.ensures.value;
      heads =
          c.head_point.ensures.heads;
    } in
    let q : AreTicks (head_point c.args.unit (is_us_unit c.args.unit) (point_in c.index-points-1.result))
    c.head_point-2.result =
    record {
      place = c.head_point-2.ensures.place;
      value = c.head_point-2.ensures.value;
      heads =
          c.head_point-2.ensures.heads;
    } in
    two_begin c.args.unit c.args.points.now c.index-points-0.result c.index-points-1.result c.head_point.result
    c.head_point-2.result c.requires c.index-points-0.is c.index-points-1.is p q c.if-not-fall_in_turn.ensures
    c.if-not-is_forward.ensures

pub begins_low-requires-clause-first : goal.begins_low-requires-clause-first
begins_low-requires-clause-first c = (begins c).first

pub begins_low-requires-clause-second : goal.begins_low-requires-clause-second
begins_low-requires-clause-second c = (begins c).second

pub begins_low-requires-clause-rises : goal.begins_low-requires-clause-rises
begins_low-requires-clause-rises c = (begins c).rises

pub begins_low-requires-clause-falls : goal.begins_low-requires-clause-falls
begins_low-requires-clause-falls c = (begins c).falls

pub returns : goal.returns
returns c =
    let p : AreTicks (head_point c.args.unit (is_us_unit c.args.unit) (point_in c.index-points-0.result))
    c.head_point.result =
    record {
      place = c.head_point.ensures.place;
      value = c.head_point.ensures.value;
      heads =
          c.head_point.ensures.heads;
    } in
    let q : AreTicks (head_point c.args.unit (is_us_unit c.args.unit) (point_in c.index-points-1.result))
    c.head_point-2.result =
    record {
      place = c.head_point-2.ensures.place;
      value = c.head_point-2.ensures.value;
      heads =
          c.head_point-2.ensures.heads;
    } in
    c.begins_low.ensures ∙ (two_begin c.args.unit c.args.points.now c.index-points-0.result c.index-points-1.result
    c.head_point.result c.head_point-2.result c.requires c.index-points-0.is c.index-points-1.is p q
    c.if-not-fall_in_turn.ensures c.if-not-is_forward.ensures).bend
