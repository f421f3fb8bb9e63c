use Rattle.std.proofs.Common.{take}
use Rattle.std.specs.Prelude.{Ok}
use Rattle.hyd_spec.specs.Lists.{map_from}
use Rattle.hyd_spec_certificates.specs.declared.Problem.TheVariants.{Main}
use Rattle.hyd_spec_spread_runs.specs.OutermostPairs.{spanned}
use Rattle.hyd_period_network.specs.NetAsPeriodNetwork.{states_of}
use Rattle.hyd_io.specs.TextPutIn.{Puts}
use Rattle.hyd_spread_bounds.specs.BothSides.{pair_of, all_below, all_above}
use Rattle.hyd_report.specs.NodeAndLinkLines.{texts, link_line}
use Rattle.hyd_spread_report.proofs.links.put_links.Given as goal

-- the lines of the links so far were put
abbrev pub invariant-loop-l : goal.invariant-loop-l
invariant-loop-l g l = Puts g.D.Desk.files g.D.Desk.rest g.D.Desk.written g.D.Desk.printed g.D.Desk.target
    g.D.Desk.ready g.D.Desk.counts g.D.Desk.openings
    (texts l.project (map_from (link_line l.project (spanned (pair_of l.upper l.lower))
    (all_below (pair_of l.upper l.lower) Main l.low) (all_above (pair_of l.upper l.lower) Main l.high)
    (states_of l.upper)) 0 (take l.l l.project.links.list)))
    (Ok tt) l.fn.pen l.pen l.fn.desk l.desk
