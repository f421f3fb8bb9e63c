use Rattle.std.proofs.Common.{◌≤◌, ℤ, unsigned_abs, ◌-ℤ◌, to_z, of_z, FitsSigned, arith, ◌∙◌}
use Rattle.std.specs.Int.{w128}
use Rattle.std.proofs.lemmas.Int.{ints, to_z-of_z}
use Rattle.hyd_curves.specs.PointsAsKnots.{knot_of}
use Rattle.hyd_curves.proofs.LinesBetweenKnots.{floor_is, quotient_small}
use Rattle.hyd_curves.proofs.volume_at_level.volume_between.Goals as goal

pub returns-clause-value : goal.returns-clause-value
returns-clause-value c =
    let fits : FitsSigned w128 c.div_euclid.result = record { sfits = c.div_euclid.type_inv } in
    let line : FitsSigned w128 c.on_line.result = record { sfits = c.on_line.type_inv } in
    rw (to_z-of_z w128 c.div_euclid.result fits)
    (floor_is (knot_of c.args.first) (knot_of c.args.second) c.args.level (to_z w128 (of_z w128 c.on_line.result))
    (to_z w128 (of_z w128 (to_z w128 (of_z w128 c.args.second.place) -ℤ to_z w128 (of_z w128 c.args.first.place))))
    c.div_euclid.result c.requires.apart (to_z-of_z w128 c.on_line.result line
    ∙ rw (to_z-of_z w128 c.args.level c.ranges.level) at c.on_line.ensures.value)
    (omega (arith, ints, c.requires.first, c.requires.second)) c.div_euclid.ensures)

pub returns-clause-small : goal.returns-clause-small
returns-clause-small c =
    let fits : FitsSigned w128 c.div_euclid.result = record { sfits = c.div_euclid.type_inv } in
    let line : FitsSigned w128 c.on_line.result = record { sfits = c.on_line.type_inv } in
    let w : ℤ = to_z w128 (of_z w128 (to_z w128 (of_z w128 c.args.second.place) -ℤ to_z w128 (of_z w128
    c.args.first.place))) in
    let less : unsigned_abs c.div_euclid.result ≤ unsigned_abs (to_z w128 (of_z w128 c.on_line.result)) =
    quotient_small (to_z w128 (of_z w128 c.on_line.result)) w c.div_euclid.result
    (omega (arith, ints, c.requires.first, c.requires.second, c.requires.apart)) c.div_euclid.ensures in
    rw (to_z-of_z w128 c.div_euclid.result fits)
    (omega (arith, rw (to_z-of_z w128 c.on_line.result line) at less, c.on_line.ensures.small))
