use Rattle.hyd_open_sim.proofs.DuePeriodLemmas.{advanced-of}
use Rattle.hyd_open_sim.proofs.StandingsBehindPeriods.{goes-on}
use Rattle.hyd_open_sim.proofs.due_period.advance.Goals as goal

pub returns-clause-advanced : goal.returns-clause-advanced
returns-clause-advanced g c =
    advanced-of (g.F.Finder.told c.args.finder.now) c.args.project.now c.args.settings c.args.standing.now
    c.do_period.new.net c.do_period.new.found c.do_period.new.facts c.do_period.new.close c.move_on.new.standing
    c.move_on.new.close c.move_on.ensures.standing c.move_on.ensures.first c.move_on.ensures.late
    c.move_on.ensures.opened c.in_ok-do_period.ensures.done

pub move_on-requires-clause-goes_on : goal.move_on-requires-clause-goes_on
move_on-requires-clause-goes_on g c =
    goes-on c.args.project.now c.requires.sound c.args.standing.now c.requires.standing c.do_period.new.net
    c.do_period.new.found c.do_period.new.facts c.do_period.new.close c.args.settings.slack
    c.in_ok-do_period.ensures.done.made
