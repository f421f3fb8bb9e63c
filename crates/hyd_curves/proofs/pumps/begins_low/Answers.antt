use Rattle.std.proofs.Common.{FitsSigned, ◌^◌, ◌-ℤ◌, ◌*ℤ◌, pos, refl, arith}
use Rattle.std.specs.Int.{w128}
use Rattle.std.proofs.lemmas.Int.{ints, to_z-of_z}
use Rattle.hyd_curves.specs.PointsAsKnots.{knot_of}
use Rattle.hyd_lemmas.proofs.BooleanTests.{lt_z-yes}
use Rattle.hyd_curves.proofs.LinesBetweenKnots.{low_is, high_is}
use Rattle.hyd_curves.proofs.pumps.begins_low.Goals as goal

pub returns-then-first-gt-GREATEST_SHUTOFF_HEAD : goal.returns-then-first-gt-GREATEST_SHUTOFF_HEAD
returns-then-first-gt-GREATEST_SHUTOFF_HEAD c =
    let fits : FitsSigned w128 c.args.first.value = omega (
      arith,
      ints,
      c.requires.first.lifts,
      c.requires.first.heads,
    ) in
    high_is (knot_of c.args.first) (knot_of c.args.second) (pos (10 ^ 16)) c.requires.rises c.requires.first.forward
    (omega (arith, ints, c.requires.falls))
    (lt_z-yes (pos (10 ^ 16)) c.args.first.value (rw (to_z-of_z w128 c.args.first.value fits) at
    c.if-first-gt-GREATEST_SHUTOFF_HEAD.true))

pub returns : goal.returns
returns c =
    let line : FitsSigned w128 c.on_line.result = record { sfits = c.on_line.type_inv } in
    let near : FitsSigned w128 c.args.first.place = omega (
      arith,
      ints,
      c.requires.first.forward,
      c.requires.first.flow,
    ) in
    let far : FitsSigned w128 c.args.second.place = omega (
      arith,
      ints,
      c.requires.second.forward,
      c.requires.second.flow,
    ) in
    let width : FitsSigned w128 (c.args.second.place -ℤ c.args.first.place) =
    omega (
      arith,
      ints,
      c.requires.first.forward,
      c.requires.first.flow,
      c.requires.second.forward,
      c.requires.second.flow,
    ) in
    let product : FitsSigned w128 (pos (10 ^ 16) *ℤ (c.args.second.place -ℤ c.args.first.place)) =
    omega (
      arith,
      ints,
      c.requires.first.forward,
      c.requires.first.flow,
      c.requires.second.forward,
      c.requires.second.flow,
    ) in
    rw (
      to_z-of_z w128 c.on_line.result line,
      to_z-of_z w128 c.args.first.place near,
      to_z-of_z w128 c.args.second.place far,
      to_z-of_z w128 (c.args.second.place -ℤ c.args.first.place) width,
      to_z-of_z w128 (pos (10 ^ 16) *ℤ (c.args.second.place -ℤ c.args.first.place)) product,
    )
    (low_is (knot_of c.args.first) (knot_of c.args.second) (pos (10 ^ 16)) c.on_line.result
    (c.args.second.place -ℤ c.args.first.place) c.requires.rises c.on_line.ensures.value refl)
