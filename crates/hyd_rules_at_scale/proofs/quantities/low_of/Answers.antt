use Rattle.std.proofs.Common.{◌≡◌, ◌<◌, pos, arith, to_z, of_z}
use Rattle.std.specs.Int.{w128}
use Rattle.std.proofs.lemmas.Int.{ints, to_z-of_z}
use Rattle.hyd_rules_at_scale.specs.Quantities.{numerator_of}
use Rattle.hyd_rules_at_scale.proofs.Roundings.{floor_over}
use Rattle.hyd_rules_at_scale.proofs.quantities.low_of.Goals as goal

pub returns : goal.returns
returns c = λ x is.
    let q = c.args.quantity in
    let some : 0 < q.value.of = (let p = c.requires.value.part in omega (arith, p)) in
    let value = to_z-of_z w128 c.floor_of-value.result (record { sfits = c.floor_of-value.type_inv }) in
    let parts : to_z w128 (of_z w128 c.from.result) ≡ pos q.parts = omega (arith, ints) in
    rw (to_z-of_z w128 c.mul_div_floor.result (record { sfits = c.mul_div_floor.type_inv }))
    (floor_over q.value.of q.parts x.den c.args.count x.num (numerator_of q.value) some c.requires.parts is.some is.same
    c.floor_of-value.result c.mul_div_floor.result c.floor_of-value.ensures.floor
    (rw (value, parts) at c.mul_div_floor.ensures))
