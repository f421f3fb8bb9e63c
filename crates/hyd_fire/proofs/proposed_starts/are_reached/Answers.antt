use Rattle.std.proofs.Common.{◌∙◌, sym}
use Rattle.hyd_period_network.specs.NetAsPeriodNetwork.{grid_of}
use Rattle.hyd_fire.proofs.TurnsShowStarts.{turns-begin, turns-end, turns-stand}
use Rattle.hyd_fire.proofs.proposed_starts.are_reached.Goals as goal

pub take_turns-requires-clause-turns : goal.take_turns-requires-clause-turns
take_turns-requires-clause-turns c =
    turns-begin c.args.held (grid_of c.args.net.now) c.junctions-junctions.ensures.steady c.args.side c.args.to.now
    c.put_first_heads.new.heads (c.requires.one_each ∙ sym c.junctions-junctions.ensures.each)
    (c.put_first_heads.ensures.first c.if-not-put_first_heads.false)

pub returns-clause-start : goal.returns-clause-start
returns-clause-start c same =
    turns-end c.args.held (grid_of c.args.net.now) c.junctions-junctions.ensures.steady c.args.side c.args.to.now
    c.take_turns.new.heads (c.requires.one_each ∙ sym c.junctions-junctions.ensures.each) c.take_turns.ensures
    (c.are_same.ensures same)

pub returns-clause-stands : goal.returns-clause-stands
returns-clause-stands c same =
    turns-stand c.args.held (grid_of c.args.net.now) c.junctions-junctions.ensures.steady c.args.side c.args.to.now
    c.take_turns.new.heads c.take_turns.ensures (c.are_same.ensures same)
