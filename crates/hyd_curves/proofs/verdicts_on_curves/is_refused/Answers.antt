use Rattle.std.proofs.Common.{arith}
use Rattle.std.proofs.lemmas.Int.{ints}
use Rattle.hyd_curves.specs.Points.{points_in}
use Rattle.hyd_curves.proofs.CapacityLemmas.{three_right}
use Rattle.hyd_curves.proofs.verdicts_on_curves.is_refused.Goals as goal

pub drop_between-requires-clause-falls : goal.drop_between-requires-clause-falls
drop_between-requires-clause-falls c =
    (three_right c.args.unit c.args.points.now c.a-item-then-points-lt4.result c.b-item.result (omega arith)
    c.a-item-then-points-lt4.is c.b-item.is c.requires).falls

pub drop_between-requires-clause-small : goal.drop_between-requires-clause-small
drop_between-requires-clause-small c =
    (three_right c.args.unit c.args.points.now c.a-item-then-points-lt4.result c.b-item.result (omega arith)
    c.a-item-then-points-lt4.is c.b-item.is c.requires).small

pub makes_refused-requires-in-len3-clause-flow : goal.makes_refused-requires-in-len3-clause-flow
makes_refused-requires-in-len3-clause-flow c =
    (three_right c.args.unit c.args.points.now c.a-item-then-points-lt4.result c.b-item.result (omega arith)
    c.a-item-then-points-lt4.is c.b-item.is c.requires).flow

pub makes_refused-requires-in-len3-clause-drop : goal.makes_refused-requires-in-len3-clause-drop
makes_refused-requires-in-len3-clause-drop c =
    omega (
      arith,
      ints,
      (three_right c.args.unit c.args.points.now c.a-item-then-points-lt4.result c.b-item.result (omega arith)
          c.a-item-then-points-lt4.is c.b-item.is c.requires).falls,
      c.drop_between.ensures,
    )

pub returns-in-len3-clause-refused : goal.returns-in-len3-clause-refused
returns-in-len3-clause-refused c =
    let three = three_right c.args.unit c.args.points.now c.a-item-then-points-lt4.result c.b-item.result (omega arith)
    c.a-item-then-points-lt4.is c.b-item.is c.requires in
    c.makes_refused-in-len3.ensures.refused (points_in c.args.points.now) three.straight
    (rw c.drop_between.ensures three.drop)

pub returns-in-len3-clause-accepted : goal.returns-in-len3-clause-accepted
returns-in-len3-clause-accepted c =
    let three = three_right c.args.unit c.args.points.now c.a-item-then-points-lt4.result c.b-item.result (omega arith)
    c.a-item-then-points-lt4.is c.b-item.is c.requires in
    c.makes_refused-in-len3.ensures.accepted (points_in c.args.points.now) three.straight
    (rw c.drop_between.ensures three.drop)
