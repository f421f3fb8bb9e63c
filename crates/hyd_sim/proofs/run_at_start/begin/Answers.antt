use Rattle.hyd_sim.proofs.LinkStatesAtStart.{zip-length}
use Rattle.hyd_sim.proofs.RunAtStartLemmas.{first-is, first-stands}
use Rattle.hyd_sim.proofs.run_at_start.begin.Goals as goal

pub put_start-requires-clause-each : goal.put_start-requires-clause-each
put_start-requires-clause-each c =
    zip-length c.args.project.now c.args.project.now.links.list c.args.standing.now.commanded.items
    c.requires.standing.kept.states

pub returns-clause-initial : goal.returns-clause-initial
returns-clause-initial c =
    let start = c.put_start.ensures in
    first-is c.args.project.now c.put_start.new.standing start.number start.time start.levels start.volumes start.tanks
    start.commanded start.finished

pub returns-clause-standing : goal.returns-clause-standing
returns-clause-standing c =
    let start = c.put_start.ensures in
    first-stands c.args.project.now c.put_start.new.standing start.number start.time start.levels start.volumes
    start.tanks start.commanded start.finished c.requires.sound start.held start.room
