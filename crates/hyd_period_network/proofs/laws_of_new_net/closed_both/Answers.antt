use Rattle.hyd_period_network.specs.LawsInSettings.{IsClosedLaw}
use Rattle.hyd_period_network.proofs.LawsOfBoth.{first_has}
use Rattle.hyd_period_network.proofs.laws_of_new_net.closed_both.Goals as goal

pub returns-clause-closed : goal.returns-clause-closed
returns-clause-closed c = record {
  own = c.in_ok-own.ensures;
  law = first_has (IsClosedLaw c.args.project.now.bends.list c.args.link.now.kind) c.in_ok-own.own
      c.in_ok-between.between.items c.in_ok-own.ensures c.in_ok-between.ensures.closed;
}
