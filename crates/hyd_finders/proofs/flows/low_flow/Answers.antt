use Rattle.std.proofs.Common.{arith}
use Rattle.std.proofs.lemmas.Int.{ints}
use Rattle.hyd_period_network.specs.NetAsPeriodNetwork.{grid_of}
use Rattle.hyd_tight_starts.proofs.PassedOn.{stands-for}
use Rattle.hyd_finders.proofs.flows.low_flow.Goals as goal

pub low-requires-clause-accepted : goal.low-requires-clause-accepted
low-requires-clause-accepted c =
    let each = c.links-links.ensures.each in
    let given = c.requires in
    let there = stands-for (grid_of c.args.net.now).links c.args.link c.law-law.result.now (omega (arith, each, given))
    c.law-law.ensures.stands in
    let small = c.within_reach-near.ensures in
    there.stands.accepts _ (omega (arith, ints, small))
