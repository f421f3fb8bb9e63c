use Rattle.std.proofs.Common.{◌≡◌, ◌+◌, ◌<◌, ◌∙◌, sym, subst, arith, ℕ, length, suc, false}
use Rattle.hyd_period_network.specs.NetAsPeriodNetwork.{grid_of}
use Rattle.hyd_sweep.specs.Sweeps.{IsFollowing, numbers}
use Rattle.hyd_sweep.proofs.RaisesRoundsAndSweeps.{following-begins, following-either}
use Rattle.hyd_sweep.proofs.rounds.round.Goals as goal

pub loop-i-init : goal.loop-i-init
loop-i-init c = (
  false,
  following-begins c.args.held (grid_of c.args.net.now) c.junctions-i-end.ensures.steady
      c.args.problem c.args.side c.args.u.now (c.requires.one_each ∙ sym c.junctions-i-end.ensures.each)
      c.requires.in_box,
)

pub loop-i-preserved : goal.loop-i-preserved
loop-i-preserved c =
    let held = c.args.held in
    let grid = grid_of c.args.net.now in
    let problem = c.args.problem in
    let side = c.args.side in
    let i = c.loop-i.i in
    let inside : i < length grid.junctions = (let a = c.loop-i-test.true in let b = c.junctions-i-end.ensures.each in
    let e = c.junctions-i-end.ensures.count in omega (arith, a, b, e)) in
    let on = following-either held grid c.junctions-i-end.ensures.steady problem side (numbers i) c.args.u.now
    c.loop-i.u c.raise.new.u c.loop-i.invariant.0 i c.raise.result inside
    (c.requires.one_each ∙ sym c.junctions-i-end.ensures.each) c.loop-i.invariant.1 c.raise.ensures
    c.in_default.not-NoValue in (
      on.0,
      subst (λ (n : ℕ). IsFollowing held grid problem side (numbers n) c.args.u.now c.raise.new.u on.0)
          (let e : suc i ≡ i + 1 = omega arith in e) on.1,
    )
