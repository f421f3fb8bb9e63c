use Rattle.hyd_period_network.proofs.RoomOfKnots.{room_kept}
use Rattle.hyd_period_network.proofs.laws.set_law.Goals as goal

pub returns-clause-stands : goal.returns-clause-stands
returns-clause-stands c = c.restricted.ensures.stands _ c.own_law.ensures.represents.stands

pub returns-clause-room : goal.returns-clause-room
returns-clause-room c = room_kept c.args.project.now.bends.list c.args.kind.now c.own_law.result c.restricted.result
    c.restricted.ensures.room c.own_law.ensures.room
