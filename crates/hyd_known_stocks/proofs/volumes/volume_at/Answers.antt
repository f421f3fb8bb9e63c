use Rattle.std.proofs.Common.{◌≡◌, ◌+◌, ◌-◌, length, sym, ap, ◌∙◌, arith, w64, FitsSigned}
use Rattle.std.proofs.lemmas.Int.{to_z-of_z}
use Rattle.hyd_num.specs.Rational.{floor}
use Rattle.hyd_open_stocks.proofs.NumbersOfCode.{less_so, not_less_so}
use Rattle.hyd_open_stocks.proofs.LevelsOnCurve.{point_at, neighbours, last_neighbours, come_on, line_here, line_last}
use Rattle.hyd_known_stocks.proofs.volumes.volume_at.Goals as goal

pub on_line-requires-clause-neighbours : goal.on_line-requires-clause-neighbours
on_line-requires-clause-neighbours c = neighbours c.args.points.now c.loop-i.i c.requires.curve (omega arith)

pub returns-then-level-next : goal.returns-then-level-next
returns-then-level-next c =
    let points = c.args.points.now in
    let i = c.loop-i.i in
    let e = to_z-of_z w64 c.args.level c.ranges.level in
    let near = neighbours points i c.requires.curve (omega arith) in
    let less = less_so c.args.level (point_at points (i + 1)).level c.ranges.level near.high c.if-level-next.true in
    let fits : FitsSigned w64 c.on_line.result = record { sfits = c.on_line.type_inv } in
    to_z-of_z w64 c.on_line.result fits ∙ rw e at c.on_line.ensures
    ∙ ap floor (sym (line_here points c.args.level i c.requires.curve (rw e at c.loop-i.invariant) (omega arith) less))

pub loop-i-preserved : goal.loop-i-preserved
loop-i-preserved c =
    let points = c.args.points.now in
    let i = c.loop-i.i in
    let e = to_z-of_z w64 c.args.level c.ranges.level in
    let near = neighbours points i c.requires.curve (omega arith) in
    let from = not_less_so c.args.level (point_at points (i + 1)).level c.ranges.level near.high c.if-level-next.false
    in
    rw e (come_on points c.args.level i (rw e at c.loop-i.invariant) (omega arith) from)

pub on_line-requires-2-clause-neighbours : goal.on_line-requires-2-clause-neighbours
on_line-requires-2-clause-neighbours c =
    let points = c.args.points.now in
    last_neighbours points (length points - 1 - 1) (length points - 1) c.requires.curve (omega arith) (omega arith)

pub returns : goal.returns
returns c =
    let points = c.args.points.now in
    let e = to_z-of_z w64 c.args.level c.ranges.level in
    let i : c.loop-i.i ≡ length points - 1 - 1 = omega arith in
    let fits : FitsSigned w64 c.on_line-2.result = record { sfits = c.on_line-2.type_inv } in
    to_z-of_z w64 c.on_line-2.result fits ∙ rw e at c.on_line-2.ensures
    ∙ ap floor (sym (line_last points c.args.level (length points - 1 - 1) (length points - 1) c.requires.curve
    (rw (e, i) at c.loop-i.invariant) (omega arith) (omega arith)))
