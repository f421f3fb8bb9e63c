use Rattle.std.proofs.Common.{◌≡◌, ℕ, length, subst, arith}
use Rattle.hyd_laws_at_scale.specs.Scales.{parts_of}
use Rattle.hyd_length_at_scale.specs.MetPeriods.{told}
use Rattle.hyd_length_at_scale.specs.LevelEnds.{IsFirst, IsBoundReached}
use Rattle.hyd_length_at_scale.proofs.FirstSecondsOfLevels.{no_bound, one_tank_more}
use Rattle.hyd_length_at_scale.proofs.tank_bounds.first_bound.Goals as goal

pub loop-tank-init : goal.loop-tank-init
loop-tank-init c =
    let period = c.args.period.now in
    no_bound period.project.now (parts_of period.scale) (told period) c.args.cap

pub loop-tank-preserved : goal.loop-tank-preserved
loop-tank-preserved c =
    let period = c.args.period.now in
    one_tank_more period.project.now (parts_of period.scale) (told period) c.loop-tank.tank c.args.cap c.loop-tank.first
    c.first_filling-first.result c.first_emptying-first.result c.loop-tank.invariant c.first_filling-first.ensures
    c.first_emptying-first.ensures

pub returns : goal.returns
returns c =
    let period = c.args.period.now in
    let end = c.len-tank-end.ensures in
    let test = c.loop-tank-test.false in
    let within = c.loop-tank.auto in
    let all : c.loop-tank.tank ≡ length period.project.now.tanks.list = omega (arith, end, test) in
    subst (λ (n : ℕ). IsFirst (IsBoundReached period.project.now (parts_of period.scale) (told period) n) c.args.cap
    c.loop-tank.first) all c.loop-tank.invariant
