use Rattle.std.proofs.Common.{◌++◌, take, arith}
use Rattle.hyd_spec_certificates.specs.Decided.{tank_watches}
use Rattle.hyd_period_facts.specs.Watched.{most_of}
use Rattle.hyd_lemmas.proofs.ListsOptionsAndResults.{item_there}
use Rattle.hyd_period_facts.proofs.WatchedLevelsSoFar.{tank_further}
use Rattle.hyd_period_facts.proofs.tank_bounds.bound_ends.Goals as goal

pub loop-tank-preserved : goal.loop-tank-preserved
loop-tank-preserved c =
    let project = c.args.project.now in
    let facts = c.args.facts.now in
    let i = c.loop-tank.tank in
    let end = c.len-tank-end.ensures in
    let test = c.loop-tank-test.true in
    let states = c.requires.tanks.tanks in
    let tank = item_there project.tanks.list i (omega (arith, end, test)) in
    let state = item_there facts.tanks.list i (omega (arith, end, test, states)) in
    let before = tank_watches 0 (take i project.tanks.list) (take i facts.tanks.list) in
    tank_further project facts c.args.cap i tank.0 state.0 c.with_least-ends.result tank.1 state.1
    (c.with_least-ends.ensures (before ++ most_of i tank.0 state.0) tank.0 state.0 tank.1 state.1
    (c.with_most-ends.ensures before tank.0 state.0 tank.1 state.1 c.loop-tank.invariant))
