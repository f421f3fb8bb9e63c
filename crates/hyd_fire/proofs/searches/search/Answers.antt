use Rattle.std.proofs.Common.{sym, subst}
use Rattle.hyd_period_network.specs.NetAsPeriodNetwork.{grid_of}
use Rattle.hyd_fire.specs.TurnsWithHeldJunction.{HoldsBelow}
use Rattle.hyd_fire.proofs.SearchesGive.{sought-by}
use Rattle.hyd_fire.proofs.searches.search.Goals as goal

pub returns-clause-sought : goal.returns-clause-sought
returns-clause-sought c =
    sought-by c.args.held (grid_of c.args.net.now) c.junctions-junctions.ensures.steady c.args.side c.args.rounds
    c.put_start.new.heads c.tighten.new.u c.tighten.result c.put_start.ensures.start c.put_start.ensures.stands
    (subst (HoldsBelow c.args.held) (sym c.put_start.ensures.each) c.requires.held_below) c.tighten.ensures.sweep
