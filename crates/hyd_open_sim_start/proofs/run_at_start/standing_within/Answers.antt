use Rattle.hyd_open_sim_start.proofs.StandingsAtStarts.{first-is, first-stands}
use Rattle.hyd_open_sim_start.proofs.run_at_start.standing_within.Goals as goal

pub returns-clause-initial : goal.returns-clause-initial
returns-clause-initial c =
    let start = c.put_start.ensures in
    first-is c.args.project.now c.put_start.new.standing start.number start.time start.late start.levels start.volumes
    start.tanks start.commanded start.finished

pub returns-clause-standing : goal.returns-clause-standing
returns-clause-standing c =
    let start = c.put_start.ensures in
    first-stands c.args.project.now c.put_start.new.standing start.number start.time start.late start.levels
    start.volumes start.tanks start.commanded start.finished c.requires.sound start.held start.room
