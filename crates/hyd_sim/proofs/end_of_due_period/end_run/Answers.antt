use Rattle.std.proofs.Common.{refl}
use Rattle.hyd_period_network.specs.NetAsPeriodNetwork.{grid_of}
use Rattle.hyd_period_end.proofs.FactsByVectors.{pinned-of}
use Rattle.hyd_sim.proofs.PeriodsByFoundVectors.{last-over}
use Rattle.hyd_sim.proofs.end_of_due_period.end_run.Goals as goal

pub put_inflows-requires-clause-pinned : goal.put_inflows-requires-clause-pinned
put_inflows-requires-clause-pinned c =
    pinned-of c.args.project.now c.args.net.now c.args.row.now c.requires.of c.requires.certificates c.requires.tanks

pub returns-clause-over : goal.returns-clause-over
returns-clause-over c = λ close.
    last-over c.args.project.now c.args.standing.now (grid_of c.args.net.now) _ c.args.facts.now _ close
    c.requires.last c.requires.begun c.requires.ready refl refl c.put_inflows.ensures.inflows
    c.put_inflows.ensures.small c.clear.ensures.empty
