use Rattle.std.proofs.Common.{◌≡◌, pos, sym, subst, to_z, of_z, SFits, rules, arith}
use Rattle.std.specs.Int.{w128}
use Rattle.std.specs.Bool.{OnTrue, OnFalse}
use Rattle.std.proofs.lemmas.Int.{ints, to_z-of_z}
use Rattle.hyd_spec.specs.Tank.{Walls, level_bounds, exact_content, IsPlaced, IsNextStock}
use Rattle.hyd_tank.specs.StockIntervals.{cylinder}
use Rattle.hyd_tank.proofs.TanksOfSoundNetworks.{walls_without}
use Rattle.hyd_laws_at_scale.specs.Scales.{parts_of}
use Rattle.hyd_stocks_at_scale.specs.Contents.{bounds_of}
use Rattle.hyd_stocks_at_scale.specs.Motions.{stock_of, Moves}
use Rattle.hyd_stocks_at_scale.proofs.Tests.{also_true, also_false}
use Rattle.hyd_stocks_at_scale.proofs.NextStocks.{content_along}
use Rattle.hyd_stocks_at_scale.proofs.stocks.is_next_of.Goals as goal

pub returns-then-next-eq0-clause-yes : goal.returns-then-next-eq0-clause-yes
returns-then-next-eq0-clause-yes c = λ stock q moves.
    let S = parts_of c.args.scale in
    let tank = c.args.tank.now in
    let walls = walls_without c.args.project.now tank c.in-None.is in
    let own = subst (λ (w : Walls). Moves w stock q c.args.motion) walls moves in
    let level : SFits w128 c.args.next.level = search rules in
    let l = to_z-of_z w128 c.args.next.level level in
    let none : c.args.next.volume ≡ pos 0 = omega (arith, ints, c.if-next-eq0.true) in
    let x = exact_content (cylinder tank) stock q c.args.seconds in
    subst (λ (w : Walls). OnTrue c.is_next_content.result (IsNextStock S w tank stock q c.args.seconds
    (stock_of c.args.next))) (sym walls)
    (also_true c.is_next_content.result
    (IsPlaced S (bounds_of c.level_bounds.result) (bounds_of c.level_bounds.result) x x
    (to_z w128 (of_z w128 c.args.next.level)))
    (IsNextStock S (cylinder tank) tank stock q c.args.seconds (stock_of c.args.next))
    (c.is_next_content.ensures.yes x (own.exact c.args.seconds))
    (λ is. (
      content_along S (bounds_of c.level_bounds.result) (level_bounds tank) x
          (to_z w128 (of_z w128 c.args.next.level)) c.args.next.level c.level_bounds.ensures.value l is,
      none,
    )))

pub returns-then-next-eq0-clause-no : goal.returns-then-next-eq0-clause-no
returns-then-next-eq0-clause-no c = λ stock q moves.
    let S = parts_of c.args.scale in
    let tank = c.args.tank.now in
    let walls = walls_without c.args.project.now tank c.in-None.is in
    let own = subst (λ (w : Walls). Moves w stock q c.args.motion) walls moves in
    let level : SFits w128 c.args.next.level = search rules in
    let l = to_z-of_z w128 c.args.next.level level in
    let x = exact_content (cylinder tank) stock q c.args.seconds in
    subst (λ (w : Walls). OnFalse c.is_next_content.result (IsNextStock S w tank stock q c.args.seconds
    (stock_of c.args.next) → ⊥)) (sym walls)
    (also_false c.is_next_content.result
    (IsPlaced S (bounds_of c.level_bounds.result) (bounds_of c.level_bounds.result) x x
    (to_z w128 (of_z w128 c.args.next.level)))
    (IsNextStock S (cylinder tank) tank stock q c.args.seconds (stock_of c.args.next))
    (c.is_next_content.ensures.no x (own.exact c.args.seconds))
    (λ p. content_along S (level_bounds tank) (bounds_of c.level_bounds.result) x c.args.next.level
    (to_z w128 (of_z w128 c.args.next.level)) (sym c.level_bounds.ensures.value) (sym l) p.0))
