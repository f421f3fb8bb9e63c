use Rattle.std.proofs.Common.{◌≡◌, ◌∙◌, ap, arith, to_z, of_z, w64, ℤ}
use Rattle.std.specs.Int.{w128}
use Rattle.std.proofs.lemmas.Int.{ints, to_z-of_z}
use Rattle.hyd_num.specs.Rational.{floor}
use Rattle.hyd_net.specs.Curves.{value_at, volume_knots}
use Rattle.hyd_tank.proofs.TanksWithVolumeCurve.{one_value}
use Rattle.hyd_tank.proofs.volume_curve_tanks.kept_at.Goals as goal

pub floor_of-requires-clause-small : goal.floor_of-requires-clause-small
floor_of-requires-clause-small c = c.volume_at.ensures.small 1 (omega arith)

pub returns : goal.returns
returns c =
    let whole : to_z w64 (of_z w64 (to_z w128 (of_z w128 c.floor_of.result))) ≡ c.floor_of.result =
    omega (arith, ints, c.floor_of.ensures.small) in
    whole ∙ c.floor_of.ensures.value ∙ ap floor (one_value c.volume_at.result ∙ c.volume_at.ensures.value
    ∙ ap (λ (z : ℤ). value_at 1 (volume_knots c.args.points.now) z) (to_z-of_z w64 c.args.level c.ranges.level))
