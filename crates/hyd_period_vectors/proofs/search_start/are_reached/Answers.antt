use Rattle.std.proofs.Common.{◌∙◌, sym}
use Rattle.hyd_period_network.specs.NetAsPeriodNetwork.{grid_of}
use Rattle.hyd_period_vectors.proofs.CertificatesBeyondProposedHeads.{turns-begin, turns-end, turns-come}
use Rattle.hyd_period_vectors.proofs.search_start.are_reached.Goals as goal

pub take_turns-requires-clause-turns : goal.take_turns-requires-clause-turns
take_turns-requires-clause-turns c =
    let done = c.if-not-put_nearer.false in
    turns-begin (grid_of c.args.net.now) c.args.problem c.args.side c.args.to.now c.put_nearer.new.heads
    (c.put_nearer.ensures.each ∙ c.requires.heads_each) (c.put_nearer.ensures.in_box done)
    (c.put_nearer.ensures.to_in_box done)
    (c.put_nearer.ensures.nearer done)

pub returns-clause-start : goal.returns-clause-start
returns-clause-start c same =
    turns-end (grid_of c.args.net.now) c.args.problem c.args.side c.args.to.now c.take_turns.new.heads
    (c.requires.one_each ∙ sym c.junctions-junctions.ensures.each) c.take_turns.ensures (c.are_same.ensures same)

pub returns-clause-comes : goal.returns-clause-comes
returns-clause-comes c same =
    turns-come (grid_of c.args.net.now) c.args.problem c.args.side c.args.to.now c.take_turns.new.heads
    c.take_turns.ensures (c.are_same.ensures same)
