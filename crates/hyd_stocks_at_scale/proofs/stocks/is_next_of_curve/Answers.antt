use Rattle.std.proofs.Common.{sym, to_z, of_z}
use Rattle.std.specs.Int.{w128}
use Rattle.std.proofs.lemmas.Int.{to_z-of_z}
use Rattle.std.proofs.Common.{SFits, rules}
use Rattle.hyd_spec.specs.Tank.{Curve, exact_content, content_bounds, IsPlaced, IsLevelAt, IsNextStock}
use Rattle.hyd_laws_at_scale.specs.Scales.{parts_of}
use Rattle.hyd_stocks_at_scale.specs.Contents.{bounds_of}
use Rattle.hyd_stocks_at_scale.specs.Motions.{stock_of}
use Rattle.hyd_stocks_at_scale.proofs.Tests.{also_true, also_false}
use Rattle.hyd_stocks_at_scale.proofs.NextStocks.{level_along, content_along}
use Rattle.hyd_stocks_at_scale.proofs.stocks.is_next_of_curve.Goals as goal

pub returns-then-is_next_content-clause-yes : goal.returns-then-is_next_content-clause-yes
returns-then-is_next_content-clause-yes c = λ stock q moves.
    let S = parts_of c.args.scale in
    let points = c.args.points.now in
    let tank = c.args.tank.now in
    let volume : SFits w128 c.args.next.volume = search rules in
    let level : SFits w128 c.args.next.level = search rules in
    let v = to_z-of_z w128 c.args.next.volume volume in
    let l = to_z-of_z w128 c.args.next.level level in
    let x = exact_content (Curve points) stock q c.args.seconds in
    let content = content_along S (bounds_of c.volume_bounds-volumes.result) (content_bounds (Curve points) tank) x
    (to_z w128 (of_z w128 c.args.next.volume)) c.args.next.volume c.volume_bounds-volumes.ensures.value v
    (c.if-is_next_content.ensures.yes x (moves.exact c.args.seconds)) in
    also_true c.is_level_at.result
    (IsLevelAt S points tank (to_z w128 (of_z w128 c.args.next.volume)) (to_z w128 (of_z w128 c.args.next.level)))
    (IsNextStock S (Curve points) tank stock q c.args.seconds (stock_of c.args.next))
    c.is_level_at.ensures.yes
    (λ at. (
      content,
      level_along S points tank (to_z w128 (of_z w128 c.args.next.volume)) c.args.next.volume
          (to_z w128 (of_z w128 c.args.next.level)) c.args.next.level v l at,
    ))

pub returns-then-is_next_content-clause-no : goal.returns-then-is_next_content-clause-no
returns-then-is_next_content-clause-no c = λ stock q moves.
    let S = parts_of c.args.scale in
    let points = c.args.points.now in
    let tank = c.args.tank.now in
    let volume : SFits w128 c.args.next.volume = search rules in
    let level : SFits w128 c.args.next.level = search rules in
    let v = to_z-of_z w128 c.args.next.volume volume in
    let l = to_z-of_z w128 c.args.next.level level in
    also_false c.is_level_at.result
    (IsLevelAt S points tank (to_z w128 (of_z w128 c.args.next.volume)) (to_z w128 (of_z w128 c.args.next.level)))
    (IsNextStock S (Curve points) tank stock q c.args.seconds (stock_of c.args.next))
    c.is_level_at.ensures.no
    (λ p. level_along S points tank c.args.next.volume (to_z w128 (of_z w128 c.args.next.volume))
    c.args.next.level (to_z w128 (of_z w128 c.args.next.level)) (sym v) (sym l) p.1)

pub returns-else-is_next_content-clause-no : goal.returns-else-is_next_content-clause-no
returns-else-is_next_content-clause-no c = λ stock q moves.
    let S = parts_of c.args.scale in
    let points = c.args.points.now in
    let tank = c.args.tank.now in
    let volume : SFits w128 c.args.next.volume = search rules in
    let v = to_z-of_z w128 c.args.next.volume volume in
    let x = exact_content (Curve points) stock q c.args.seconds in
    also_false c.is_next_content.result
    (IsPlaced S (bounds_of c.volume_bounds-volumes.result) (bounds_of c.volume_bounds-volumes.result) x x
    (to_z w128 (of_z w128 c.args.next.volume)))
    (IsNextStock S (Curve points) tank stock q c.args.seconds (stock_of c.args.next))
    (c.is_next_content.ensures.no x (moves.exact c.args.seconds))
    (λ p. content_along S (content_bounds (Curve points) tank) (bounds_of c.volume_bounds-volumes.result) x
    c.args.next.volume (to_z w128 (of_z w128 c.args.next.volume)) (sym c.volume_bounds-volumes.ensures.value) (sym v)
    p.0)
