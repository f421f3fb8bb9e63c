use Rattle.std.proofs.Common.{List, ◌++◌, take, arith}
use Rattle.hyd_spec_certificates.specs.Decided.{Watch, tank_watches}
use Rattle.hyd_period_facts.specs.Watched.{most_of}
use Rattle.hyd_lemmas.proofs.ListsOptionsAndResults.{item_there}
use Rattle.hyd_open_watches.specs.Candidates.{AreNearest}
use Rattle.hyd_open_watches.proofs.NearestSoFar.{tank_further, all_tanks}
use Rattle.hyd_open_watches.proofs.tank_bounds.among_bounds.Goals as goal

pub loop-tank-preserved : goal.loop-tank-preserved
loop-tank-preserved c =
    let project = c.args.project.now in
    let facts = c.args.facts.now in
    let i = c.loop-tank.tank in
    let end = c.len-tank-end.ensures in
    let test = c.loop-tank-test.true in
    let states = c.requires.tanks.tanks in
    let tank = item_there project.tanks.list i (omega (arith, end, test)) in
    let state = item_there facts.tanks.list i (omega (arith, end, test, states)) in
    let before = tank_watches 0 (take i project.tanks.list) (take i facts.tanks.list) in
    tank_further (λ (ws : List Watch). AreNearest project facts c.args.latest ws c.with_least-all.result)
    project.tanks.list facts.tanks.list i tank.0 state.0 tank.1 state.1
    (c.with_least-all.ensures (before ++ most_of i tank.0 state.0) tank.0 state.0 tank.1 state.1
    (c.with_most-all.ensures before tank.0 state.0 tank.1 state.1 c.loop-tank.invariant))

pub returns : goal.returns
returns c =
    let project = c.args.project.now in
    let facts = c.args.facts.now in
    let end = c.len-tank-end.ensures in
    let test = c.loop-tank-test.false in
    let states = c.requires.tanks.tanks in
    all_tanks (λ (ws : List Watch). AreNearest project facts c.args.latest ws c.loop-tank.all)
    project.tanks.list facts.tanks.list c.loop-tank.tank (omega (arith, end, test)) (omega (arith, end, test, states))
    c.loop-tank.invariant
