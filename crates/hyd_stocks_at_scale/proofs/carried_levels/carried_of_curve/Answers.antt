use Rattle.std.proofs.Common.{◌≡◌, ◌*◌, ℤ, pos, ◌+ℤ◌, ◌*ℤ◌, ap, subst, ◌∙◌, arith, to_z, of_z, w64}
use Rattle.std.specs.Int.{w128}
use Rattle.std.proofs.lemmas.Int.{ints, to_z-of_z}
use Rattle.hyd_num.specs.Rational.{Rational, whole}
use Rattle.hyd_lemmas.proofs.BooleanTests.{le-yes, le-no}
use Rattle.hyd_net.specs.Curves.{volume_at}
use Rattle.hyd_spec.specs.Scale.{at_scale}
use Rattle.hyd_spec.specs.Tank.{Bounds, Curve, level_bounds, content_bounds, exact_content, placed}
use Rattle.hyd_spec.specs.Tank.{level_at_volume}
use Rattle.hyd_num.proofs.Integers.{times_times}
use Rattle.hyd_laws_at_scale.specs.Scales.{parts_of}
use Rattle.hyd_laws_at_scale.proofs.Scales.{power_small}
use Rattle.hyd_stocks_at_scale.specs.ExactLevels.{IsLevel, in_parts_of}
use Rattle.hyd_stocks_at_scale.specs.Motions.{exact_shares}
use Rattle.hyd_stocks_at_scale.proofs.CurveVolumes.{on_curve_volume}
use Rattle.hyd_stocks_at_scale.proofs.NextContents.{at_least_from, at_most_from, less_from, more_from}
use Rattle.hyd_stocks_at_scale.proofs.TargetsMet.{shares_are}
use Rattle.hyd_stocks_at_scale.proofs.ExactLevels.{placed_most, placed_least, placed_inside, exactly, fine_read}
use Rattle.hyd_stocks_at_scale.proofs.carried_levels.carried_of_curve.Goals as goal

pub returns-then-shares-filled : goal.returns-then-shares-filled
returns-then-shares-filled c = λ stock q moves.
    let S = parts_of c.args.scale in
    let tank = c.args.tank.now in
    let points = c.args.points.now in
    let volumes = c.volume_bounds-volumes.result in
    let are = c.volume_bounds-volumes.ensures in
    let lb = c.level_bounds-levels.ensures.value in
    let lr = c.level_bounds-levels.ensures.range in
    let shares = c.shares_after-shares.result in
    let exact = exact_shares c.args.motion c.args.seconds in
    let z = to_z-of_z w128 c.shares_after-shares.result (record { sfits = c.shares_after-shares.type_inv }) in
    let filled-kept : to_z w64 (of_z w64 c.volume_bounds-volumes.result.most) ≡ c.volume_bounds-volumes.result.most =
    omega (arith, ints, are.range.from, are.range.apart, are.range.up_to) in
    let filled : c.volume_in_shares-filled.result
    ≡ pos 864 *ℤ (pos (parts_of c.args.scale) *ℤ volume_at c.args.points.now c.args.tank.now.maximum) =
    c.volume_in_shares-filled.ensures.value
    ∙ (ap (λ (y : ℤ). pos 864 *ℤ (pos (parts_of c.args.scale) *ℤ y)) filled-kept
    ∙ ap (λ (k : Bounds). pos 864 *ℤ (pos (parts_of c.args.scale) *ℤ k.most)) are.value) in
    let filled-is = to_z-of_z w128 c.volume_in_shares-filled.result
    (record { sfits = c.volume_in_shares-filled.type_inv }) in
    let filled-at = pos 864 *ℤ (pos S *ℤ volume_at points tank.maximum) in
    let kept : to_z w64 (of_z w64 c.level_bounds-levels.result.most) ≡ c.level_bounds-levels.result.most =
    omega (arith, ints, lr.from, lr.apart, lr.up_to) in
    let level : to_z w128 (of_z w128 c.in_parts.result) ≡ at_scale (parts_of c.args.scale) c.args.tank.now.maximum =
    to_z-of_z w128 c.in_parts.result (record { sfits = c.in_parts.type_inv })
    ∙ (c.in_parts.ensures.value ∙ (ap (λ (y : ℤ). at_scale (parts_of c.args.scale) y) kept
    ∙ ap (λ (k : Bounds). at_scale (parts_of c.args.scale) k.most) lb)) in
    let full = le-yes (to_z w128 (of_z w128 c.volume_in_shares-filled.result))
    (to_z w128 (of_z w128 c.shares_after-shares.result)) c.if-shares-filled.true in
    let h = at_least_from exact shares c.volume_in_shares-filled.result filled-at
    (to_z w128 (of_z w128 c.volume_in_shares-filled.result)) (to_z w128 (of_z w128 c.shares_after-shares.result))
    c.shares_after-shares.ensures filled-is z filled (omega (arith, c.volume_in_shares-filled.ensures.small)) full in
    let x = exact_content (Curve points) stock q c.args.seconds in
    let is = shares_are points stock q c.args.motion c.args.seconds moves in
    let inside = level_at_volume S points tank x in
    placed_most (λ (v : Rational). IsLevel c.whole_level.result v) S (content_bounds (Curve points) tank)
    (level_bounds tank) x inside (omega (arith, ints, h, is))
    (subst (λ (y : ℤ). IsLevel c.whole_level.result (whole y)) level c.whole_level.ensures)

pub returns-then-shares-emptied : goal.returns-then-shares-emptied
returns-then-shares-emptied c = λ stock q moves.
    let S = parts_of c.args.scale in
    let tank = c.args.tank.now in
    let points = c.args.points.now in
    let volumes = c.volume_bounds-volumes.result in
    let are = c.volume_bounds-volumes.ensures in
    let lb = c.level_bounds-levels.ensures.value in
    let lr = c.level_bounds-levels.ensures.range in
    let shares = c.shares_after-shares.result in
    let exact = exact_shares c.args.motion c.args.seconds in
    let z = to_z-of_z w128 c.shares_after-shares.result (record { sfits = c.shares_after-shares.type_inv }) in
    let filled-kept : to_z w64 (of_z w64 c.volume_bounds-volumes.result.most) ≡ c.volume_bounds-volumes.result.most =
    omega (arith, ints, are.range.from, are.range.apart, are.range.up_to) in
    let filled : c.volume_in_shares-filled.result
    ≡ pos 864 *ℤ (pos (parts_of c.args.scale) *ℤ volume_at c.args.points.now c.args.tank.now.maximum) =
    c.volume_in_shares-filled.ensures.value
    ∙ (ap (λ (y : ℤ). pos 864 *ℤ (pos (parts_of c.args.scale) *ℤ y)) filled-kept
    ∙ ap (λ (k : Bounds). pos 864 *ℤ (pos (parts_of c.args.scale) *ℤ k.most)) are.value) in
    let filled-is = to_z-of_z w128 c.volume_in_shares-filled.result
    (record { sfits = c.volume_in_shares-filled.type_inv }) in
    let filled-at = pos 864 *ℤ (pos S *ℤ volume_at points tank.maximum) in
    let emptied-kept : to_z w64 (of_z w64 c.volume_bounds-volumes.result.least) ≡ c.volume_bounds-volumes.result.least =
    omega (arith, ints, are.range.from, are.range.apart, are.range.up_to) in
    let emptied : c.volume_in_shares-emptied.result
    ≡ pos 864 *ℤ (pos (parts_of c.args.scale) *ℤ volume_at c.args.points.now c.args.tank.now.minimum) =
    c.volume_in_shares-emptied.ensures.value
    ∙ (ap (λ (y : ℤ). pos 864 *ℤ (pos (parts_of c.args.scale) *ℤ y)) emptied-kept
    ∙ ap (λ (k : Bounds). pos 864 *ℤ (pos (parts_of c.args.scale) *ℤ k.least)) are.value) in
    let emptied-is = to_z-of_z w128 c.volume_in_shares-emptied.result
    (record { sfits = c.volume_in_shares-emptied.type_inv }) in
    let emptied-at = pos 864 *ℤ (pos S *ℤ volume_at points tank.minimum) in
    let kept : to_z w64 (of_z w64 c.level_bounds-levels.result.least) ≡ c.level_bounds-levels.result.least =
    omega (arith, ints, lr.from, lr.apart, lr.up_to) in
    let level : to_z w128 (of_z w128 c.in_parts-then-shares-emptied.result)
    ≡ at_scale (parts_of c.args.scale) c.args.tank.now.minimum =
    to_z-of_z w128 c.in_parts-then-shares-emptied.result (record { sfits = c.in_parts-then-shares-emptied.type_inv })
    ∙ (c.in_parts-then-shares-emptied.ensures.value ∙ (ap (λ (y : ℤ). at_scale (parts_of c.args.scale) y) kept
    ∙ ap (λ (k : Bounds). at_scale (parts_of c.args.scale) k.least) lb)) in
    let short = le-no (to_z w128 (of_z w128 c.volume_in_shares-filled.result))
    (to_z w128 (of_z w128 c.shares_after-shares.result)) c.if-shares-filled.false in
    let low = le-yes (to_z w128 (of_z w128 c.shares_after-shares.result))
    (to_z w128 (of_z w128 c.volume_in_shares-emptied.result)) c.if-shares-emptied.true in
    let s = less_from exact shares c.volume_in_shares-filled.result filled-at
    (to_z w128 (of_z w128 c.volume_in_shares-filled.result)) (to_z w128 (of_z w128 c.shares_after-shares.result))
    c.shares_after-shares.ensures filled-is z filled (omega (arith, c.volume_in_shares-filled.ensures.small)) short in
    let h = at_most_from exact shares c.volume_in_shares-emptied.result emptied-at
    (to_z w128 (of_z w128 c.volume_in_shares-emptied.result)) (to_z w128 (of_z w128 c.shares_after-shares.result))
    c.shares_after-shares.ensures emptied-is z emptied (omega (arith, c.volume_in_shares-emptied.ensures.small)) low in
    let x = exact_content (Curve points) stock q c.args.seconds in
    let is = shares_are points stock q c.args.motion c.args.seconds moves in
    let inside = level_at_volume S points tank x in
    placed_least (λ (v : Rational). IsLevel c.whole_level-then-shares-emptied.result v) S
    (content_bounds (Curve points) tank) (level_bounds tank) x inside (omega (arith, ints, s, is))
    (omega (arith, ints, h, is))
    (subst (λ (y : ℤ). IsLevel c.whole_level-then-shares-emptied.result (whole y)) level
    c.whole_level-then-shares-emptied.ensures)

pub value_at-exact-requires-clause-scale : goal.value_at-exact-requires-clause-scale
value_at-exact-requires-clause-scale c =
    let few = power_small c.args.scale.power c.args.scale.small in
    omega (arith, c.shares_of_tick.ensures, few)

pub value_at-exact-requires-clause-on_curve : goal.value_at-exact-requires-clause-on_curve
value_at-exact-requires-clause-on_curve c =
    let S = parts_of c.args.scale in
    let tank = c.args.tank.now in
    let points = c.args.points.now in
    let volumes = c.volume_bounds-volumes.result in
    let are = c.volume_bounds-volumes.ensures in
    let lb = c.level_bounds-levels.ensures.value in
    let lr = c.level_bounds-levels.ensures.range in
    let shares = c.shares_after-shares.result in
    let exact = exact_shares c.args.motion c.args.seconds in
    let z = to_z-of_z w128 c.shares_after-shares.result (record { sfits = c.shares_after-shares.type_inv }) in
    let filled-kept : to_z w64 (of_z w64 c.volume_bounds-volumes.result.most) ≡ c.volume_bounds-volumes.result.most =
    omega (arith, ints, are.range.from, are.range.apart, are.range.up_to) in
    let filled : c.volume_in_shares-filled.result
    ≡ pos 864 *ℤ (pos (parts_of c.args.scale) *ℤ volume_at c.args.points.now c.args.tank.now.maximum) =
    c.volume_in_shares-filled.ensures.value
    ∙ (ap (λ (y : ℤ). pos 864 *ℤ (pos (parts_of c.args.scale) *ℤ y)) filled-kept
    ∙ ap (λ (k : Bounds). pos 864 *ℤ (pos (parts_of c.args.scale) *ℤ k.most)) are.value) in
    let filled-is = to_z-of_z w128 c.volume_in_shares-filled.result
    (record { sfits = c.volume_in_shares-filled.type_inv }) in
    let filled-at = pos 864 *ℤ (pos S *ℤ volume_at points tank.maximum) in
    let emptied-kept : to_z w64 (of_z w64 c.volume_bounds-volumes.result.least) ≡ c.volume_bounds-volumes.result.least =
    omega (arith, ints, are.range.from, are.range.apart, are.range.up_to) in
    let emptied : c.volume_in_shares-emptied.result
    ≡ pos 864 *ℤ (pos (parts_of c.args.scale) *ℤ volume_at c.args.points.now c.args.tank.now.minimum) =
    c.volume_in_shares-emptied.ensures.value
    ∙ (ap (λ (y : ℤ). pos 864 *ℤ (pos (parts_of c.args.scale) *ℤ y)) emptied-kept
    ∙ ap (λ (k : Bounds). pos 864 *ℤ (pos (parts_of c.args.scale) *ℤ k.least)) are.value) in
    let emptied-is = to_z-of_z w128 c.volume_in_shares-emptied.result
    (record { sfits = c.volume_in_shares-emptied.type_inv }) in
    let emptied-at = pos 864 *ℤ (pos S *ℤ volume_at points tank.minimum) in
    let short = le-no (to_z w128 (of_z w128 c.volume_in_shares-filled.result))
    (to_z w128 (of_z w128 c.shares_after-shares.result)) c.if-shares-filled.false in
    let past = le-no (to_z w128 (of_z w128 c.shares_after-shares.result))
    (to_z w128 (of_z w128 c.volume_in_shares-emptied.result)) c.if-shares-emptied.false in
    let least : pos 864 *ℤ (pos (parts_of c.args.scale) *ℤ c.volume_bounds-volumes.result.least)
    ≡ pos (864 * parts_of c.args.scale) *ℤ c.volume_bounds-volumes.result.least =
    times_times 864 (parts_of c.args.scale) c.volume_bounds-volumes.result.least in
    let most : pos 864 *ℤ (pos (parts_of c.args.scale) *ℤ c.volume_bounds-volumes.result.most)
    ≡ pos (864 * parts_of c.args.scale) *ℤ c.volume_bounds-volumes.result.most =
    times_times 864 (parts_of c.args.scale) c.volume_bounds-volumes.result.most in
    let low-is = rw emptied-kept at c.volume_in_shares-emptied.ensures.value in
    let high-is = rw filled-kept at c.volume_in_shares-filled.ensures.value in
    rw c.shares_of_tick.ensures (on_curve_volume tank points volumes (864 * parts_of c.args.scale)
    (to_z w128 (of_z w128 c.shares_after-shares.result)) are (omega (arith, ints, past, emptied-is, low-is, least))
    (omega (arith, ints, short, filled-is, high-is, most)))

pub returns : goal.returns
returns c = λ stock q moves.
    let S = parts_of c.args.scale in
    let tank = c.args.tank.now in
    let points = c.args.points.now in
    let volumes = c.volume_bounds-volumes.result in
    let are = c.volume_bounds-volumes.ensures in
    let lb = c.level_bounds-levels.ensures.value in
    let lr = c.level_bounds-levels.ensures.range in
    let shares = c.shares_after-shares.result in
    let exact = exact_shares c.args.motion c.args.seconds in
    let z = to_z-of_z w128 c.shares_after-shares.result (record { sfits = c.shares_after-shares.type_inv }) in
    let filled-kept : to_z w64 (of_z w64 c.volume_bounds-volumes.result.most) ≡ c.volume_bounds-volumes.result.most =
    omega (arith, ints, are.range.from, are.range.apart, are.range.up_to) in
    let filled : c.volume_in_shares-filled.result
    ≡ pos 864 *ℤ (pos (parts_of c.args.scale) *ℤ volume_at c.args.points.now c.args.tank.now.maximum) =
    c.volume_in_shares-filled.ensures.value
    ∙ (ap (λ (y : ℤ). pos 864 *ℤ (pos (parts_of c.args.scale) *ℤ y)) filled-kept
    ∙ ap (λ (k : Bounds). pos 864 *ℤ (pos (parts_of c.args.scale) *ℤ k.most)) are.value) in
    let filled-is = to_z-of_z w128 c.volume_in_shares-filled.result
    (record { sfits = c.volume_in_shares-filled.type_inv }) in
    let filled-at = pos 864 *ℤ (pos S *ℤ volume_at points tank.maximum) in
    let emptied-kept : to_z w64 (of_z w64 c.volume_bounds-volumes.result.least) ≡ c.volume_bounds-volumes.result.least =
    omega (arith, ints, are.range.from, are.range.apart, are.range.up_to) in
    let emptied : c.volume_in_shares-emptied.result
    ≡ pos 864 *ℤ (pos (parts_of c.args.scale) *ℤ volume_at c.args.points.now c.args.tank.now.minimum) =
    c.volume_in_shares-emptied.ensures.value
    ∙ (ap (λ (y : ℤ). pos 864 *ℤ (pos (parts_of c.args.scale) *ℤ y)) emptied-kept
    ∙ ap (λ (k : Bounds). pos 864 *ℤ (pos (parts_of c.args.scale) *ℤ k.least)) are.value) in
    let emptied-is = to_z-of_z w128 c.volume_in_shares-emptied.result
    (record { sfits = c.volume_in_shares-emptied.type_inv }) in
    let emptied-at = pos 864 *ℤ (pos S *ℤ volume_at points tank.minimum) in
    let short = le-no (to_z w128 (of_z w128 c.volume_in_shares-filled.result))
    (to_z w128 (of_z w128 c.shares_after-shares.result)) c.if-shares-filled.false in
    let past = le-no (to_z w128 (of_z w128 c.shares_after-shares.result))
    (to_z w128 (of_z w128 c.volume_in_shares-emptied.result)) c.if-shares-emptied.false in
    let s = less_from exact shares c.volume_in_shares-filled.result filled-at
    (to_z w128 (of_z w128 c.volume_in_shares-filled.result)) (to_z w128 (of_z w128 c.shares_after-shares.result))
    c.shares_after-shares.ensures filled-is z filled (omega (arith, c.volume_in_shares-filled.ensures.small)) short in
    let h = more_from exact shares c.volume_in_shares-emptied.result emptied-at
    (to_z w128 (of_z w128 c.volume_in_shares-emptied.result)) (to_z w128 (of_z w128 c.shares_after-shares.result))
    c.shares_after-shares.ensures emptied-is z emptied (omega (arith, c.volume_in_shares-emptied.ensures.small)) past in
    let x = exact_content (Curve points) stock q c.args.seconds in
    let is = shares_are points stock q c.args.motion c.args.seconds moves in
    let inside = level_at_volume S points tank x in
    let same = exactly exact shares c.shares_after-shares.ensures
    (omega (
      arith,
      ints,
      past,
      short,
      filled-is,
      emptied-is,
      z,
      c.volume_in_shares-filled.ensures.small,
      c.volume_in_shares-emptied.ensures.small,
    )) in
    let read = fine_read S c.shares_of_tick.result points ((pos 864 *ℤ stock.volume) +ℤ (pos c.args.seconds *ℤ q))
    (to_z w128 (of_z w128 c.shares_after-shares.result)) c.value_at-exact.result c.shares_of_tick.ensures
    (z ∙ (same ∙ is)) c.value_at-exact.ensures.value in
    placed_inside (λ (v : Rational). IsLevel c.held_level.result v) S (content_bounds (Curve points) tank)
    (level_bounds tank) x inside (omega (arith, ints, s, is)) (omega (arith, ints, h, is))
    (subst (λ (r : Rational). IsLevel c.held_level.result (placed S (level_bounds tank) (level_bounds tank) r r)) read
    (subst (λ (k : Bounds). IsLevel c.held_level.result (placed S k k (in_parts_of c.value_at-exact.result)
    (in_parts_of c.value_at-exact.result))) lb c.held_level.ensures))
