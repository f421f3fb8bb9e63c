use Rattle.std.proofs.Common.{◌≡◌, ◌∙◌, ℤ, pos, ◌≤ℤ◌, ap, ap₂, subst, arith}
use Rattle.std.specs.Int.{w128}
use Rattle.std.proofs.lemmas.Int.{ints, to_z-of_z}
use Rattle.hyd_num.specs.Rational.{floor}
use Rattle.hyd_net.specs.Curves.{volume_at}
use Rattle.hyd_spec.specs.Tank.{Walls, Curve, Stock, walls_of, carried_level, kept_volume}
use Rattle.hyd_spec_witnesses.specs.MiddleCandidate.{halves, content_below, level_below}
use Rattle.hyd_theorems_on_definitions.specs.SoundTanks.{IsVessel}
use Rattle.hyd_theorems_on_definitions.proofs.SoundTankLemmas.{vessels}
use Rattle.hyd_stocks_at_scale.specs.Motions.{stock_of}
use Rattle.hyd_stocks_below.proofs.FlooredLevels.{level_at_once}
use Rattle.hyd_stocks_below.proofs.stocks.below_on_curve.Goals as goal

pub returns-clause-value : goal.returns-clause-value
returns-clause-value c = λ each points at curve.
    let project = c.args.project.now in
    let lo = c.kept_volumes.result.lo in
    let hi = c.kept_volumes.result.hi in
    let v = c.volume_below-volume.result in
    let r = c.level_below.result in
    let stock = stock_of c.args.stock in
    let exact = content_below (Curve points) each stock c.args.inflow c.args.seconds in
    let vessel = subst (λ (w : Walls). IsVessel w each) curve (vessels project c.requires.sound c.args.tank each at) in
    let low : lo ≡ volume_at points each.minimum = c.kept_volumes.ensures.least each at
    ∙ ap (λ (w : Walls). kept_volume w each.minimum) curve in
    let high : hi ≡ volume_at points each.maximum = c.kept_volumes.ensures.most each at
    ∙ ap (λ (w : Walls). kept_volume w each.maximum) curve in
    let order : lo ≤ℤ hi = (let o = vessel.contents_ordered in omega (arith, ints, o, low, high)) in
    let kept = to_z-of_z w128 v (record { sfits = c.volume_below-volume.type_inv }) in
    let kept-level = to_z-of_z w128 r (record { sfits = c.level_below.type_inv }) in
    let kept-flow = to_z-of_z w128 c.args.inflow c.ranges.inflow in
    let volume : v ≡ exact = rw kept-flow at (c.volume_below-volume.ensures.value points each low high order) in
    let read : r ≡ floor (carried_level halves (walls_of project each) each (record {
      level = pos 0;
      volume = v;
    }) (pos 0) 0) = rw kept at (c.level_below.ensures.value each at) in
    let level : r ≡ level_below points each exact = read
    ∙ (ap (λ (w : Walls). floor (carried_level halves w each (record { level = pos 0; volume = v }) (pos 0) 0)) curve
    ∙ (level_at_once points each vessel (pos 0) v ∙ ap (level_below points each) volume)) in
    ap₂ (λ (x y : ℤ). (let s : Stock = record { level = x; volume = y } in s)) (kept-level ∙ level) (kept ∙ volume)
