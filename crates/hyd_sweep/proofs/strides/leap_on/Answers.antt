use Rattle.std.proofs.Common.{◌≡◌, ◌+◌, ◌-◌, ◌≤◌, ℕ, suc, sym, subst, arith}
use Rattle.hyd_period_network.specs.NetAsPeriodNetwork.{grid_of}
use Rattle.hyd_sweep.specs.Strides.{reach}
use Rattle.hyd_sweep.proofs.LeapsInTurn.{leads-self, leads-more}
use Rattle.hyd_sweep.proofs.ReachOfStrides.{within-self, within-more, strides-more}
use Rattle.hyd_sweep.proofs.strides.leap_on.Goals as goal

pub loop-tried-init : goal.loop-tried-init
loop-tried-init c = record {
  leads = leads-self c.args.held (grid_of c.args.net.now) c.junctions-junctions.ensures.steady c.args.problem
      c.args.side c.args.u.now;
  stride = c.new-stride.ensures.stride;
  far = (
    0,
    (
      let r = c.new-stride.ensures.reach in omega (arith, r),
      within-self c.args.side 0 c.args.ways.now
          c.args.u.now,
    ),
  );
}

pub loop-tried-preserved : goal.loop-tried-preserved
loop-tried-preserved c =
    let inv = c.loop-tried.invariant in
    let left = 40 - (c.loop-tried.tried + 1) in
    let one_more : 40 - c.loop-tried.tried ≡ suc left = (let lt = c.loop-tried-test.true in omega (arith, lt)) in
    let most = subst (λ (n : ℕ). inv.far.0 + reach c.loop-tried.stride n ≤ 1048575) one_more inv.far.1.0 in
    record {
      leads = leads-more c.args.held (grid_of c.args.net.now) c.junctions-junctions.ensures.steady c.args.problem
          c.args.side c.args.u.now c.loop-tried.u c.propose.new.to
          c.leap-leapt.new.u c.leap-leapt.result inv.leads c.leap-leapt.ensures.leaps.0 c.leap-leapt.ensures.new;
      stride = c.after-stride.ensures.stride;
      far = strides-more c.args.side c.leap-leapt.result c.args.ways.now c.args.u.now c.loop-tried.u c.propose.new.to
          c.leap-leapt.new.u c.loop-tried.stride c.after-stride.result left inv.far.0
          (sym inv.leads.one_each) inv.far.1.1 c.propose.ensures.near c.leap-leapt.ensures.new
          (c.after-stride.ensures.reach left) most;
    }

pub returns-then-stride-gt-PARTS-clause-near : goal.returns-then-stride-gt-PARTS-clause-near
returns-then-stride-gt-PARTS-clause-near c =
    let far = c.loop-tried.invariant.far in
    within-more c.args.side far.0 1048575 c.args.ways.now c.args.u.now c.loop-tried.u (let m = far.1.0 in omega (
      arith,
      m,
    )) far.1.1

pub returns-clause-near : goal.returns-clause-near
returns-clause-near c =
    let far = c.loop-tried.invariant.far in
    within-more c.args.side far.0 1048575 c.args.ways.now c.args.u.now c.loop-tried.u (let m = far.1.0 in omega (
      arith,
      m,
    )) far.1.1
