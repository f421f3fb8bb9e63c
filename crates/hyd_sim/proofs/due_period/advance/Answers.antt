use Rattle.std.proofs.lemmas.Bool.{false≢true}
use Rattle.hyd_sim.proofs.DuePeriodLemmas.{advanced-of}
use Rattle.hyd_sim.proofs.due_period.advance.Goals as goal

pub returns-clause-advanced : goal.returns-clause-advanced
returns-clause-advanced g c =
    advanced-of (g.F.Finder.told c.args.finder.now) c.args.project.now c.args.settings c.args.standing.now
    c.do_period.new.net c.do_period.new.row c.do_period.new.facts c.do_period.new.close c.move_on.new.self
    c.move_on.ensures.standing
    c.in_ok-do_period.ensures.done

pub returns-in_err-do_period-clause-proposal : goal.returns-in_err-do_period-clause-proposal
returns-in_err-do_period-clause-proposal g c = λ w e p.
    absurd (false≢true (c.in_err-do_period.ensures.proposal w e p).0)
