use Rattle.hyd_spec_open_ends.specs.StocksOverLengths.{level_ends, content_ends}
use Rattle.hyd_theorems_on_open_ends.proofs.NarrowerStocks.{carried_narrower, contents_narrower, cut_narrower}
use Rattle.hyd_theorems_on_open_ends.proofs.NarrowerStocks.{level_ends_rise, content_ends_rise, kept_narrower}
use Rattle.hyd_theorems_on_open_ends.proofs.narrower_stocks.Goals as goal

pub returns-clause-carried : goal.returns-clause-carried
returns-clause-carried c = carried_narrower

pub returns-clause-contents : goal.returns-clause-contents
returns-clause-contents c = λ walls tank vessel stocks wider inflow more has flow at less first last shortest longest
    from
    order to. contents_narrower walls tank vessel stocks wider inflow more has flow at less first last shortest longest
    from order to

pub returns-clause-cut_levels : goal.returns-clause-cut_levels
returns-clause-cut_levels c = λ walls tank vessel widening positive.
    cut_narrower (level_ends widening walls tank) (level_ends_rise widening positive walls tank vessel) walls tank
    vessel

pub returns-clause-cut_contents : goal.returns-clause-cut_contents
returns-clause-cut_contents c = λ walls tank vessel widening positive.
    cut_narrower (content_ends widening walls tank) (content_ends_rise widening positive walls tank vessel) walls tank
    vessel

pub returns-clause-keeping : goal.returns-clause-keeping
returns-clause-keeping c = kept_narrower
