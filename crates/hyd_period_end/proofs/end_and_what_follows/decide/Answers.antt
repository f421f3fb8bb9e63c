use Rattle.hyd_period_end.specs.EndOfPeriod.{by_rules, by_clock}
use Rattle.hyd_period_end.proofs.end_and_what_follows.decide.Goals as goal

pub returns-in-ByRules-clause-decides : goal.returns-in-ByRules-clause-decides
returns-in-ByRules-clause-decides c = λ grid standing row started read. record {
  leaves = c.in-ByRules.ensures.leaves grid standing row started read;
  by_rules = _;
  ends = by_rules (c.in-ByRules.ensures.ends grid standing row started read);
  changes_are = c.in-ByRules.ensures.changes grid standing row started read;
}

pub returns-in-WithoutRules-clause-decides : goal.returns-in-WithoutRules-clause-decides
returns-in-WithoutRules-clause-decides c = λ grid standing row started read. record {
  leaves = c.in-WithoutRules.ensures.leaves grid standing row started read;
  by_rules = _;
  ends = by_clock (c.in-WithoutRules.ensures.ends grid standing row started read);
  changes_are = c.in-WithoutRules.ensures.changes grid standing row started read;
}
