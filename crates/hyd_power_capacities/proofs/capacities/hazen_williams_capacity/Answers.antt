use Rattle.std.proofs.Common.{sym, ◌∙◌}
use Rattle.std.proofs.lemmas.Bool.{both_ways}
use Rattle.hyd_power_capacities.proofs.OneCapacityOfNumbers.{not_refused}
use Rattle.hyd_power_capacities.proofs.capacities.hazen_williams_capacity.Goals as goal

pub returns-then-not-covers-clause-refused : goal.returns-then-not-covers-clause-refused
returns-then-not-covers-clause-refused c = record {
  low = c.lessened-low.result;
  high = c.raised-high.result;
  minor = c.minor-minor.result;
  made = record {
    constant = c.constant-constant.result;
    constant_is = c.constant-constant.ensures.value;
    low_is = c.lessened-low.ensures.value;
    high_is = c.raised-high.ensures.value;
    minor_is = c.minor-minor.ensures.value;
  };
  short = λ covers. both_ways c.covers.result c.if-not-covers.true (c.covers.ensures ∙ covers);
}

pub returns-clause-accepted : goal.returns-clause-accepted
returns-clause-accepted c = not_refused c.args.pipe c.lessened-low.result c.raised-high.result c.minor-minor.result
    (record {
      constant = c.constant-constant.result;
      constant_is = c.constant-constant.ensures.value;
      low_is = c.lessened-low.ensures.value;
      high_is = c.raised-high.ensures.value;
      minor_is = c.minor-minor.ensures.value;
    })
    (sym c.covers.ensures ∙ c.if-not-covers.false)
