use Rattle.std.proofs.Common.{◌+ℤ◌, ◌-ℤ◌, sym, arith, to_z, of_z, w64}
use Rattle.std.proofs.lemmas.Int.{ints}
use Rattle.hyd_lemmas.proofs.BooleanTests.{le-yes, le-no}
use Rattle.hyd_spec.specs.Tank.{state_band}
use Rattle.hyd_tank.proofs.FullEmptyOrBetween.{empty_is, between_is}
use Rattle.hyd_tank.proofs.states.state_at.Goals as goal

pub returns-then-level-tank-2 : goal.returns-then-level-tank-2
returns-then-level-tank-2 c =
    let tank = c.args.tank.now in
    let a = le-no (to_z w64 (of_z w64 (to_z w64 (of_z w64 tank.maximum) -ℤ state_band)))
    (to_z w64 (of_z w64 c.args.level)) c.if-level-tank.false in
    let b = le-yes (to_z w64 (of_z w64 c.args.level)) (to_z w64
    (of_z w64 (to_z w64 (of_z w64 tank.minimum) +ℤ state_band))) c.if-level-tank-2.true in
    sym (empty_is tank c.args.level (omega (arith, ints, a)) (omega (arith, ints, b)))

pub returns-else-level-tank-2 : goal.returns-else-level-tank-2
returns-else-level-tank-2 c =
    let tank = c.args.tank.now in
    let a = le-no (to_z w64 (of_z w64 (to_z w64 (of_z w64 tank.maximum) -ℤ state_band)))
    (to_z w64 (of_z w64 c.args.level)) c.if-level-tank.false in
    let b = le-no (to_z w64 (of_z w64 c.args.level)) (to_z w64
    (of_z w64 (to_z w64 (of_z w64 tank.minimum) +ℤ state_band))) c.if-level-tank-2.false in
    sym (between_is tank c.args.level (omega (arith, ints, a)) (omega (arith, ints, b)))
