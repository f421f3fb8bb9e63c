use Rattle.std.proofs.Common.{sym, subst}
use Rattle.hyd_spec_spread.specs.Spreads.{Spread, IsSpread}
use Rattle.hyd_spread_vectors.specs.VectorsOfBothNetworks.{Told}
use Rattle.hyd_spread_sim.proofs.StandingsOverSpreads.{advanced-of}
use Rattle.hyd_spread_sim.proofs.DuePeriodsOver.{search-still}
use Rattle.hyd_spread_sim.proofs.advance.advance.Goals as goal

pub returns-clause-advanced : goal.returns-clause-advanced
returns-clause-advanced g c =
    let told : Told = record {
      above = g.F.Finder.told c.args.above.now;
      below = g.G.Finder.told c.args.below.now;
    } in
    advanced-of c.args.project.now c.args.standing.now c.do_period.new.nets c.do_period.new.found
    c.do_period.new.facts c.do_period.new.close c.go_on.new.standing c.go_on.new.close
    c.go_on.ensures.standing c.go_on.ensures.first c.go_on.ensures.late c.go_on.ensures.opened told
    c.args.settings c.in_ok-do_period.ensures.done

pub go_on-requires-clause-spread : goal.go_on-requires-clause-spread
go_on-requires-clause-spread g c =
    subst (λ (s : Spread). IsSpread c.args.project.now s) (sym c.do_period.ensures.spread) c.requires.spread

pub go_on-requires-clause-made : goal.go_on-requires-clause-made
go_on-requires-clause-made g c = (c.args.settings.slack, c.in_ok-do_period.ensures.done.made)

pub returns-clause-search : goal.returns-clause-search
returns-clause-search g c =
    search-still c.args.project.now c.args.settings.search.rounds c.args.search.now c.do_period.new.search
    c.do_period.ensures.search c.requires.search
