use Rattle.std.proofs.Common.{◌≡◌, ℤ, pos, ◌*ℤ◌, sym, ap, ◌∙◌, arith, to_z, of_z, w64}
use Rattle.std.specs.Int.{w128}
use Rattle.std.proofs.lemmas.Int.{ints, to_z-of_z}
use Rattle.hyd_lemmas.proofs.BooleanTests.{le-yes, le-no}
use Rattle.hyd_net.specs.Curves.{volume_at}
use Rattle.hyd_spec.specs.Scale.{at_scale}
use Rattle.hyd_spec.specs.Tank.{Bounds, IsNear, IsLevelAt, placed, level_bounds, level_on_curve}
use Rattle.hyd_num.specs.Rational.{whole}
use Rattle.hyd_laws_at_scale.specs.Scales.{parts_of}
use Rattle.hyd_stocks_at_scale.specs.Contents.{bounds_of}
use Rattle.hyd_stocks_at_scale.specs.VolumeCurves.{value_of}
use Rattle.std.proofs.Common.{unsigned_abs, ◌≤◌}
use Rattle.hyd_stocks_at_scale.specs.Motions.{content_limit}
use Rattle.hyd_stocks_at_scale.proofs.Tests.{also_true, also_false}
use Rattle.hyd_stocks_at_scale.proofs.CurveVolumes.{on_curve_volume}
use Rattle.hyd_stocks_at_scale.proofs.LevelsAtVolumes.{level_full, level_empty, level_near, level_read}
use Rattle.hyd_stocks_at_scale.proofs.LevelsAtVolumes.{near_held_along}
use Rattle.hyd_stocks_at_scale.proofs.tanks_with_curve.is_level_at.Goals as goal

pub returns-then-volume-filled-clause-yes : goal.returns-then-volume-filled-clause-yes
returns-then-volume-filled-clause-yes c =
    let S = parts_of c.args.scale in
    let tank = c.args.tank.now in
    let points = c.args.points.now in
    let range = c.requires.volumes.range in
    let levels = c.requires.tank.levels in
    let lb = c.level_bounds-levels.ensures.value in
    let lr = c.level_bounds-levels.ensures.range in
    let v = to_z-of_z w128 c.args.volume c.ranges.volume in
    let n = to_z-of_z w128 c.args.level c.ranges.level in
    let filled-kept : to_z w64 (of_z w64 c.args.volumes.most) ≡ c.args.volumes.most =
    omega (arith, ints, range.from, range.apart, range.up_to) in
    let filled : to_z w128 (of_z w128 c.in_parts-filled.result)
    ≡ at_scale (parts_of c.args.scale) (volume_at c.args.points.now c.args.tank.now.maximum) =
    to_z-of_z w128 c.in_parts-filled.result (record { sfits = c.in_parts-filled.type_inv })
    ∙ (c.in_parts-filled.ensures.value ∙ (ap (λ (y : ℤ). at_scale (parts_of c.args.scale) y) filled-kept
    ∙ ap (λ (k : Bounds). at_scale (parts_of c.args.scale) k.most) c.requires.volumes.value)) in
    let most-kept : to_z w64 (of_z w64 c.level_bounds-levels.result.most) ≡ c.level_bounds-levels.result.most =
    omega (arith, ints, lr.from, lr.apart, lr.up_to) in
    let most : to_z w128 (of_z w128 c.in_parts-most.result)
    ≡ at_scale (parts_of c.args.scale) c.args.tank.now.maximum =
    to_z-of_z w128 c.in_parts-most.result (record { sfits = c.in_parts-most.type_inv })
    ∙ (c.in_parts-most.ensures.value ∙ (ap (λ (y : ℤ). at_scale (parts_of c.args.scale) y) most-kept
    ∙ ap (λ (k : Bounds). at_scale (parts_of c.args.scale) k.most) lb)) in
    let a = le-yes (to_z w128 (of_z w128 c.in_parts-filled.result)) (to_z w128 (of_z w128 c.args.volume))
    c.if-volume-filled.true in
    let is = level_full S points tank c.args.volume c.args.level (omega (arith, ints, a, filled, v)) in
    also_true c.is_same.result (to_z w128 (of_z w128 c.args.level) ≡ to_z w128 (of_z w128 c.in_parts-most.result))
    (IsLevelAt (parts_of c.args.scale) c.args.points.now c.args.tank.now c.args.volume c.args.level)
    c.is_same.ensures.yes (λ e. is.1 (sym n ∙ (e ∙ most)))

pub returns-then-volume-filled-clause-no : goal.returns-then-volume-filled-clause-no
returns-then-volume-filled-clause-no c =
    let S = parts_of c.args.scale in
    let tank = c.args.tank.now in
    let points = c.args.points.now in
    let range = c.requires.volumes.range in
    let levels = c.requires.tank.levels in
    let lb = c.level_bounds-levels.ensures.value in
    let lr = c.level_bounds-levels.ensures.range in
    let v = to_z-of_z w128 c.args.volume c.ranges.volume in
    let n = to_z-of_z w128 c.args.level c.ranges.level in
    let filled-kept : to_z w64 (of_z w64 c.args.volumes.most) ≡ c.args.volumes.most =
    omega (arith, ints, range.from, range.apart, range.up_to) in
    let filled : to_z w128 (of_z w128 c.in_parts-filled.result)
    ≡ at_scale (parts_of c.args.scale) (volume_at c.args.points.now c.args.tank.now.maximum) =
    to_z-of_z w128 c.in_parts-filled.result (record { sfits = c.in_parts-filled.type_inv })
    ∙ (c.in_parts-filled.ensures.value ∙ (ap (λ (y : ℤ). at_scale (parts_of c.args.scale) y) filled-kept
    ∙ ap (λ (k : Bounds). at_scale (parts_of c.args.scale) k.most) c.requires.volumes.value)) in
    let most-kept : to_z w64 (of_z w64 c.level_bounds-levels.result.most) ≡ c.level_bounds-levels.result.most =
    omega (arith, ints, lr.from, lr.apart, lr.up_to) in
    let most : to_z w128 (of_z w128 c.in_parts-most.result)
    ≡ at_scale (parts_of c.args.scale) c.args.tank.now.maximum =
    to_z-of_z w128 c.in_parts-most.result (record { sfits = c.in_parts-most.type_inv })
    ∙ (c.in_parts-most.ensures.value ∙ (ap (λ (y : ℤ). at_scale (parts_of c.args.scale) y) most-kept
    ∙ ap (λ (k : Bounds). at_scale (parts_of c.args.scale) k.most) lb)) in
    let a = le-yes (to_z w128 (of_z w128 c.in_parts-filled.result)) (to_z w128 (of_z w128 c.args.volume))
    c.if-volume-filled.true in
    let is = level_full S points tank c.args.volume c.args.level (omega (arith, ints, a, filled, v)) in
    also_false c.is_same.result (to_z w128 (of_z w128 c.args.level) ≡ to_z w128 (of_z w128 c.in_parts-most.result))
    (IsLevelAt (parts_of c.args.scale) c.args.points.now c.args.tank.now c.args.volume c.args.level)
    c.is_same.ensures.no (λ p. n ∙ (is.0 p ∙ sym most))

pub returns-then-volume-emptied-clause-yes : goal.returns-then-volume-emptied-clause-yes
returns-then-volume-emptied-clause-yes c =
    let S = parts_of c.args.scale in
    let tank = c.args.tank.now in
    let points = c.args.points.now in
    let range = c.requires.volumes.range in
    let levels = c.requires.tank.levels in
    let lb = c.level_bounds-levels.ensures.value in
    let lr = c.level_bounds-levels.ensures.range in
    let v = to_z-of_z w128 c.args.volume c.ranges.volume in
    let n = to_z-of_z w128 c.args.level c.ranges.level in
    let filled-kept : to_z w64 (of_z w64 c.args.volumes.most) ≡ c.args.volumes.most =
    omega (arith, ints, range.from, range.apart, range.up_to) in
    let filled : to_z w128 (of_z w128 c.in_parts-filled.result)
    ≡ at_scale (parts_of c.args.scale) (volume_at c.args.points.now c.args.tank.now.maximum) =
    to_z-of_z w128 c.in_parts-filled.result (record { sfits = c.in_parts-filled.type_inv })
    ∙ (c.in_parts-filled.ensures.value ∙ (ap (λ (y : ℤ). at_scale (parts_of c.args.scale) y) filled-kept
    ∙ ap (λ (k : Bounds). at_scale (parts_of c.args.scale) k.most) c.requires.volumes.value)) in
    let emptied-kept : to_z w64 (of_z w64 c.args.volumes.least) ≡ c.args.volumes.least =
    omega (arith, ints, range.from, range.apart, range.up_to) in
    let emptied : to_z w128 (of_z w128 c.in_parts-emptied.result)
    ≡ at_scale (parts_of c.args.scale) (volume_at c.args.points.now c.args.tank.now.minimum) =
    to_z-of_z w128 c.in_parts-emptied.result (record { sfits = c.in_parts-emptied.type_inv })
    ∙ (c.in_parts-emptied.ensures.value ∙ (ap (λ (y : ℤ). at_scale (parts_of c.args.scale) y) emptied-kept
    ∙ ap (λ (k : Bounds). at_scale (parts_of c.args.scale) k.least) c.requires.volumes.value)) in
    let least-kept : to_z w64 (of_z w64 c.level_bounds-levels.result.least) ≡ c.level_bounds-levels.result.least =
    omega (arith, ints, lr.from, lr.apart, lr.up_to) in
    let least : to_z w128 (of_z w128 c.in_parts-least.result)
    ≡ at_scale (parts_of c.args.scale) c.args.tank.now.minimum =
    to_z-of_z w128 c.in_parts-least.result (record { sfits = c.in_parts-least.type_inv })
    ∙ (c.in_parts-least.ensures.value ∙ (ap (λ (y : ℤ). at_scale (parts_of c.args.scale) y) least-kept
    ∙ ap (λ (k : Bounds). at_scale (parts_of c.args.scale) k.least) lb)) in
    let s = le-no (to_z w128 (of_z w128 c.in_parts-filled.result)) (to_z w128 (of_z w128 c.args.volume))
    c.if-volume-filled.false in
    let a = le-yes (to_z w128 (of_z w128 c.args.volume)) (to_z w128 (of_z w128 c.in_parts-emptied.result))
    c.if-volume-emptied.true in
    let is = level_empty S points tank c.args.volume c.args.level (omega (arith, ints, s, filled, v))
    (omega (arith, ints, a, emptied, v)) in
    also_true c.is_same-then-volume-emptied.result (to_z w128 (of_z w128 c.args.level)
    ≡ to_z w128 (of_z w128 c.in_parts-least.result))
    (IsLevelAt (parts_of c.args.scale) c.args.points.now c.args.tank.now c.args.volume c.args.level)
    c.is_same-then-volume-emptied.ensures.yes (λ e. is.1 (sym n ∙ (e ∙ least)))

pub returns-then-volume-emptied-clause-no : goal.returns-then-volume-emptied-clause-no
returns-then-volume-emptied-clause-no c =
    let S = parts_of c.args.scale in
    let tank = c.args.tank.now in
    let points = c.args.points.now in
    let range = c.requires.volumes.range in
    let levels = c.requires.tank.levels in
    let lb = c.level_bounds-levels.ensures.value in
    let lr = c.level_bounds-levels.ensures.range in
    let v = to_z-of_z w128 c.args.volume c.ranges.volume in
    let n = to_z-of_z w128 c.args.level c.ranges.level in
    let filled-kept : to_z w64 (of_z w64 c.args.volumes.most) ≡ c.args.volumes.most =
    omega (arith, ints, range.from, range.apart, range.up_to) in
    let filled : to_z w128 (of_z w128 c.in_parts-filled.result)
    ≡ at_scale (parts_of c.args.scale) (volume_at c.args.points.now c.args.tank.now.maximum) =
    to_z-of_z w128 c.in_parts-filled.result (record { sfits = c.in_parts-filled.type_inv })
    ∙ (c.in_parts-filled.ensures.value ∙ (ap (λ (y : ℤ). at_scale (parts_of c.args.scale) y) filled-kept
    ∙ ap (λ (k : Bounds). at_scale (parts_of c.args.scale) k.most) c.requires.volumes.value)) in
    let emptied-kept : to_z w64 (of_z w64 c.args.volumes.least) ≡ c.args.volumes.least =
    omega (arith, ints, range.from, range.apart, range.up_to) in
    let emptied : to_z w128 (of_z w128 c.in_parts-emptied.result)
    ≡ at_scale (parts_of c.args.scale) (volume_at c.args.points.now c.args.tank.now.minimum) =
    to_z-of_z w128 c.in_parts-emptied.result (record { sfits = c.in_parts-emptied.type_inv })
    ∙ (c.in_parts-emptied.ensures.value ∙ (ap (λ (y : ℤ). at_scale (parts_of c.args.scale) y) emptied-kept
    ∙ ap (λ (k : Bounds). at_scale (parts_of c.args.scale) k.least) c.requires.volumes.value)) in
    let least-kept : to_z w64 (of_z w64 c.level_bounds-levels.result.least) ≡ c.level_bounds-levels.result.least =
    omega (arith, ints, lr.from, lr.apart, lr.up_to) in
    let least : to_z w128 (of_z w128 c.in_parts-least.result)
    ≡ at_scale (parts_of c.args.scale) c.args.tank.now.minimum =
    to_z-of_z w128 c.in_parts-least.result (record { sfits = c.in_parts-least.type_inv })
    ∙ (c.in_parts-least.ensures.value ∙ (ap (λ (y : ℤ). at_scale (parts_of c.args.scale) y) least-kept
    ∙ ap (λ (k : Bounds). at_scale (parts_of c.args.scale) k.least) lb)) in
    let s = le-no (to_z w128 (of_z w128 c.in_parts-filled.result)) (to_z w128 (of_z w128 c.args.volume))
    c.if-volume-filled.false in
    let a = le-yes (to_z w128 (of_z w128 c.args.volume)) (to_z w128 (of_z w128 c.in_parts-emptied.result))
    c.if-volume-emptied.true in
    let is = level_empty S points tank c.args.volume c.args.level (omega (arith, ints, s, filled, v))
    (omega (arith, ints, a, emptied, v)) in
    also_false c.is_same-then-volume-emptied.result (to_z w128 (of_z w128 c.args.level)
    ≡ to_z w128 (of_z w128 c.in_parts-least.result))
    (IsLevelAt (parts_of c.args.scale) c.args.points.now c.args.tank.now c.args.volume c.args.level)
    c.is_same-then-volume-emptied.ensures.no (λ p. n ∙ (is.0 p ∙ sym least))

pub value_at-exact-requires-clause-on_curve : goal.value_at-exact-requires-clause-on_curve
value_at-exact-requires-clause-on_curve c =
    let S = parts_of c.args.scale in
    let tank = c.args.tank.now in
    let points = c.args.points.now in
    let range = c.requires.volumes.range in
    let levels = c.requires.tank.levels in
    let lb = c.level_bounds-levels.ensures.value in
    let lr = c.level_bounds-levels.ensures.range in
    let v = to_z-of_z w128 c.args.volume c.ranges.volume in
    let n = to_z-of_z w128 c.args.level c.ranges.level in
    let filled-kept : to_z w64 (of_z w64 c.args.volumes.most) ≡ c.args.volumes.most =
    omega (arith, ints, range.from, range.apart, range.up_to) in
    let filled : to_z w128 (of_z w128 c.in_parts-filled.result)
    ≡ at_scale (parts_of c.args.scale) (volume_at c.args.points.now c.args.tank.now.maximum) =
    to_z-of_z w128 c.in_parts-filled.result (record { sfits = c.in_parts-filled.type_inv })
    ∙ (c.in_parts-filled.ensures.value ∙ (ap (λ (y : ℤ). at_scale (parts_of c.args.scale) y) filled-kept
    ∙ ap (λ (k : Bounds). at_scale (parts_of c.args.scale) k.most) c.requires.volumes.value)) in
    let emptied-kept : to_z w64 (of_z w64 c.args.volumes.least) ≡ c.args.volumes.least =
    omega (arith, ints, range.from, range.apart, range.up_to) in
    let emptied : to_z w128 (of_z w128 c.in_parts-emptied.result)
    ≡ at_scale (parts_of c.args.scale) (volume_at c.args.points.now c.args.tank.now.minimum) =
    to_z-of_z w128 c.in_parts-emptied.result (record { sfits = c.in_parts-emptied.type_inv })
    ∙ (c.in_parts-emptied.ensures.value ∙ (ap (λ (y : ℤ). at_scale (parts_of c.args.scale) y) emptied-kept
    ∙ ap (λ (k : Bounds). at_scale (parts_of c.args.scale) k.least) c.requires.volumes.value)) in
    let s = le-no (to_z w128 (of_z w128 c.in_parts-filled.result)) (to_z w128 (of_z w128 c.args.volume))
    c.if-volume-filled.false in
    let a = le-no (to_z w128 (of_z w128 c.args.volume)) (to_z w128 (of_z w128 c.in_parts-emptied.result))
    c.if-volume-emptied.false in
    let least = ap (λ (k : Bounds). pos (parts_of c.args.scale) *ℤ k.least) c.requires.volumes.value in
    let most = ap (λ (k : Bounds). pos (parts_of c.args.scale) *ℤ k.most) c.requires.volumes.value in
    rw c.parts.ensures.value (on_curve_volume tank points c.args.volumes S (to_z w128 (of_z w128 c.args.volume))
    c.requires.volumes (omega (arith, ints, a, emptied, least)) (omega (arith, ints, s, filled, most)))

pub returns-clause-yes : goal.returns-clause-yes
returns-clause-yes c =
    let S = parts_of c.args.scale in
    let tank = c.args.tank.now in
    let points = c.args.points.now in
    let range = c.requires.volumes.range in
    let levels = c.requires.tank.levels in
    let lb = c.level_bounds-levels.ensures.value in
    let lr = c.level_bounds-levels.ensures.range in
    let v = to_z-of_z w128 c.args.volume c.ranges.volume in
    let n = to_z-of_z w128 c.args.level c.ranges.level in
    let filled-kept : to_z w64 (of_z w64 c.args.volumes.most) ≡ c.args.volumes.most =
    omega (arith, ints, range.from, range.apart, range.up_to) in
    let filled : to_z w128 (of_z w128 c.in_parts-filled.result)
    ≡ at_scale (parts_of c.args.scale) (volume_at c.args.points.now c.args.tank.now.maximum) =
    to_z-of_z w128 c.in_parts-filled.result (record { sfits = c.in_parts-filled.type_inv })
    ∙ (c.in_parts-filled.ensures.value ∙ (ap (λ (y : ℤ). at_scale (parts_of c.args.scale) y) filled-kept
    ∙ ap (λ (k : Bounds). at_scale (parts_of c.args.scale) k.most) c.requires.volumes.value)) in
    let emptied-kept : to_z w64 (of_z w64 c.args.volumes.least) ≡ c.args.volumes.least =
    omega (arith, ints, range.from, range.apart, range.up_to) in
    let emptied : to_z w128 (of_z w128 c.in_parts-emptied.result)
    ≡ at_scale (parts_of c.args.scale) (volume_at c.args.points.now c.args.tank.now.minimum) =
    to_z-of_z w128 c.in_parts-emptied.result (record { sfits = c.in_parts-emptied.type_inv })
    ∙ (c.in_parts-emptied.ensures.value ∙ (ap (λ (y : ℤ). at_scale (parts_of c.args.scale) y) emptied-kept
    ∙ ap (λ (k : Bounds). at_scale (parts_of c.args.scale) k.least) c.requires.volumes.value)) in
    let s = le-no (to_z w128 (of_z w128 c.in_parts-filled.result)) (to_z w128 (of_z w128 c.args.volume))
    c.if-volume-filled.false in
    let a = le-no (to_z w128 (of_z w128 c.args.volume)) (to_z w128 (of_z w128 c.in_parts-emptied.result))
    c.if-volume-emptied.false in
    let is = level_near S points tank c.args.volume c.args.level (omega (arith, ints, s, filled, v))
    (omega (arith, ints, a, emptied, v)) in
    let read = level_read S c.parts.result points c.args.volume (to_z w128 (of_z w128 c.args.volume))
    (value_of c.value_at-exact.result) c.parts.ensures.value v c.value_at-exact.ensures.value in
    also_true c.is_near_level.result
    (IsNear (parts_of c.args.scale) (bounds_of c.level_bounds-levels.result)
    (placed (parts_of c.args.scale) (bounds_of c.level_bounds-levels.result) (bounds_of c.level_bounds-levels.result)
    (value_of c.value_at-exact.result) (value_of c.value_at-exact.result)) (to_z w128 (of_z w128 c.args.level)))
    (IsLevelAt (parts_of c.args.scale) c.args.points.now c.args.tank.now c.args.volume c.args.level)
    c.is_near_level.ensures.yes
    (λ near. is.1 (near_held_along S (bounds_of c.level_bounds-levels.result) (level_bounds tank)
    (value_of c.value_at-exact.result) (level_on_curve S points (whole c.args.volume))
    (to_z w128 (of_z w128 c.args.level)) c.args.level lb read n near))

pub returns-clause-no : goal.returns-clause-no
returns-clause-no c =
    let S = parts_of c.args.scale in
    let tank = c.args.tank.now in
    let points = c.args.points.now in
    let range = c.requires.volumes.range in
    let levels = c.requires.tank.levels in
    let lb = c.level_bounds-levels.ensures.value in
    let lr = c.level_bounds-levels.ensures.range in
    let v = to_z-of_z w128 c.args.volume c.ranges.volume in
    let n = to_z-of_z w128 c.args.level c.ranges.level in
    let filled-kept : to_z w64 (of_z w64 c.args.volumes.most) ≡ c.args.volumes.most =
    omega (arith, ints, range.from, range.apart, range.up_to) in
    let filled : to_z w128 (of_z w128 c.in_parts-filled.result)
    ≡ at_scale (parts_of c.args.scale) (volume_at c.args.points.now c.args.tank.now.maximum) =
    to_z-of_z w128 c.in_parts-filled.result (record { sfits = c.in_parts-filled.type_inv })
    ∙ (c.in_parts-filled.ensures.value ∙ (ap (λ (y : ℤ). at_scale (parts_of c.args.scale) y) filled-kept
    ∙ ap (λ (k : Bounds). at_scale (parts_of c.args.scale) k.most) c.requires.volumes.value)) in
    let emptied-kept : to_z w64 (of_z w64 c.args.volumes.least) ≡ c.args.volumes.least =
    omega (arith, ints, range.from, range.apart, range.up_to) in
    let emptied : to_z w128 (of_z w128 c.in_parts-emptied.result)
    ≡ at_scale (parts_of c.args.scale) (volume_at c.args.points.now c.args.tank.now.minimum) =
    to_z-of_z w128 c.in_parts-emptied.result (record { sfits = c.in_parts-emptied.type_inv })
    ∙ (c.in_parts-emptied.ensures.value ∙ (ap (λ (y : ℤ). at_scale (parts_of c.args.scale) y) emptied-kept
    ∙ ap (λ (k : Bounds). at_scale (parts_of c.args.scale) k.least) c.requires.volumes.value)) in
    let s = le-no (to_z w128 (of_z w128 c.in_parts-filled.result)) (to_z w128 (of_z w128 c.args.volume))
    c.if-volume-filled.false in
    let a = le-no (to_z w128 (of_z w128 c.args.volume)) (to_z w128 (of_z w128 c.in_parts-emptied.result))
    c.if-volume-emptied.false in
    let is = level_near S points tank c.args.volume c.args.level (omega (arith, ints, s, filled, v))
    (omega (arith, ints, a, emptied, v)) in
    let read = level_read S c.parts.result points c.args.volume (to_z w128 (of_z w128 c.args.volume))
    (value_of c.value_at-exact.result) c.parts.ensures.value v c.value_at-exact.ensures.value in
    also_false c.is_near_level.result
    (IsNear (parts_of c.args.scale) (bounds_of c.level_bounds-levels.result)
    (placed (parts_of c.args.scale) (bounds_of c.level_bounds-levels.result) (bounds_of c.level_bounds-levels.result)
    (value_of c.value_at-exact.result) (value_of c.value_at-exact.result)) (to_z w128 (of_z w128 c.args.level)))
    (IsLevelAt (parts_of c.args.scale) c.args.points.now c.args.tank.now c.args.volume c.args.level)
    c.is_near_level.ensures.no
    (λ p. near_held_along S (level_bounds tank) (bounds_of c.level_bounds-levels.result)
    (level_on_curve S points (whole c.args.volume)) (value_of c.value_at-exact.result) c.args.level
    (to_z w128 (of_z w128 c.args.level)) (sym lb) (sym read) (sym n) (is.0 p))

pub returns-then-volume-filled-clause-small : goal.returns-then-volume-filled-clause-small
returns-then-volume-filled-clause-small c =
    let n = to_z-of_z w128 c.args.level c.ranges.level in
    let m = to_z-of_z w128 c.in_parts-most.result (record { sfits = c.in_parts-most.type_inv }) in
    also_true c.is_same.result (to_z w128 (of_z w128 c.args.level) ≡ to_z w128 (of_z w128 c.in_parts-most.result))
    (unsigned_abs c.args.level ≤ content_limit) c.is_same.ensures.yes
    (λ e. omega (arith, ints, e, n, m, c.in_parts-most.ensures.small))

pub returns-then-volume-emptied-clause-small : goal.returns-then-volume-emptied-clause-small
returns-then-volume-emptied-clause-small c =
    let n = to_z-of_z w128 c.args.level c.ranges.level in
    let m = to_z-of_z w128 c.in_parts-least.result (record { sfits = c.in_parts-least.type_inv }) in
    also_true c.is_same-then-volume-emptied.result (to_z w128 (of_z w128 c.args.level)
    ≡ to_z w128 (of_z w128 c.in_parts-least.result))
    (unsigned_abs c.args.level ≤ content_limit) c.is_same-then-volume-emptied.ensures.yes
    (λ e. omega (arith, ints, e, n, m, c.in_parts-least.ensures.small))
