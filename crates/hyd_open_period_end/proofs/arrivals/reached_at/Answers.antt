use Rattle.hyd_spec_open_ends.specs.Arrivals.{by_rules, by_instant}
use Rattle.hyd_open_period_end.proofs.arrivals.reached_at.Goals as goal

pub returns-in-ByRules-clause-arrives : goal.returns-in-ByRules-clause-arrives
returns-in-ByRules-clause-arrives c = λ grid standing row started.
    rw c.in-ByRules.is by_rules

pub returns-in-ByInstant-clause-arrives : goal.returns-in-ByInstant-clause-arrives
returns-in-ByInstant-clause-arrives c = λ grid standing row started.
    rw c.in-ByInstant.is by_instant

pub returns-in-ByWatched-clause-arrives : goal.returns-in-ByWatched-clause-arrives
returns-in-ByWatched-clause-arrives c = λ grid standing row started.
    rw c.in-ByWatched.is (c.just_reached.ensures.arrives grid standing row _ started)
