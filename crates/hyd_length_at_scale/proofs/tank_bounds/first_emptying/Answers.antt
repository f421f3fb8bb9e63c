use Rattle.std.proofs.Common.{◌≡◌, ◌<◌, ℤ, false, length, subst, arith, to_z, of_z}
use Rattle.std.specs.Int.{w64}
use Rattle.std.proofs.lemmas.Int.{ints}
use Rattle.hyd_spec_certificates.specs.FirstSeconds.{IsFirstSecond}
use Rattle.hyd_spec.specs.PeriodLength.{reached_after}
use Rattle.hyd_laws_at_scale.specs.Scales.{parts_of}
use Rattle.hyd_length_at_scale.specs.MetPeriods.{told}
use Rattle.hyd_length_at_scale.specs.LevelEnds.{Empties}
use Rattle.hyd_length_at_scale.proofs.CarriedLevels.{range_of}
use Rattle.hyd_length_at_scale.proofs.FirstSecondsOfLevels.{never, empty_there, not_empty_there, empties_first}
use Rattle.hyd_length_at_scale.proofs.tank_bounds.first_emptying.Goals as goal

pub first_reached-requires-clause-level : goal.first_reached-requires-clause-level
first_reached-requires-clause-level c =
    let range = range_of c.args.period.now.project.now c.requires.period.sound c.args.tank c.tank_at-minimum.result
    c.tank_at-minimum.ensures in
    let lowest = range.lowest in
    let apart = range.apart in
    let highest = range.highest in
    omega (arith, ints, lowest, apart, highest)

pub returns-then-is_empty : goal.returns-then-is_empty
returns-then-is_empty c =
    let period = c.args.period.now in
    let each = c.requires.period.tank_each in
    let given = c.requires.there in
    let there : c.args.tank < length period.tanks.now = omega (arith, each, given) in
    never (Empties period.project.now (parts_of period.scale) (told period) c.args.tank) c.args.cap
    (λ s f. f.not_empty (empty_there period.tanks.now c.args.tank there c.is_empty.result c.is_empty.ensures
    c.if-is_empty.true))

pub returns : goal.returns
returns c =
    let period = c.args.period.now in
    let project = period.project.now in
    let S = parts_of period.scale in
    let each = c.requires.period.tank_each in
    let given = c.requires.there in
    let there : c.args.tank < length period.tanks.now = omega (arith, each, given) in
    let tank = c.tank_at-minimum.result in
    let range = range_of project c.requires.period.sound c.args.tank tank c.tank_at-minimum.ensures in
    let lowest = range.lowest in
    let apart = range.apart in
    let highest = range.highest in
    let kept : to_z w64 (of_z w64 tank.minimum) ≡ tank.minimum = omega (arith, ints, lowest, apart, highest) in
    empties_first project S (told period) c.args.tank tank c.args.cap c.first_reached.result c.tank_at-minimum.ensures
    (not_empty_there period.tanks.now c.args.tank there c.is_empty.result c.is_empty.ensures c.if-is_empty.false)
    (subst (λ (z : ℤ). IsFirstSecond (reached_after project S (told period) c.args.tank tank false z) c.args.cap
    c.first_reached.result) kept (c.first_reached.ensures tank c.tank_at-minimum.ensures))
