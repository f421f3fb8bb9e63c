use Rattle.std.proofs.Common.{arith}
use Rattle.std.proofs.lemmas.Int.{ints}
use Rattle.hyd_period_network.specs.NetAsPeriodNetwork.{grid_of}
use Rattle.hyd_tight_starts.proofs.PassedOn.{stands-for}
use Rattle.hyd_finders.proofs.flows.high_flow.Goals as goal

pub high-requires-clause-sound : goal.high-requires-clause-sound
high-requires-clause-sound c =
    let each = c.links-links.ensures.each in
    let given = c.requires in
    (stands-for (grid_of c.args.net.now).links c.args.link c.law-law.result.now (omega (arith, each, given))
    c.law-law.ensures.stands).stands.sound

pub high-requires-clause-accepted : goal.high-requires-clause-accepted
high-requires-clause-accepted c =
    let each = c.links-links.ensures.each in
    let given = c.requires in
    let there = stands-for (grid_of c.args.net.now).links c.args.link c.law-law.result.now (omega (arith, each, given))
    c.law-law.ensures.stands in
    let small = c.within_reach-near.ensures in
    there.stands.accepts _ (omega (arith, ints, small))
