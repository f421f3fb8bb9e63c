use Rattle.std.proofs.Common.{arith}
use Rattle.hyd_met_flows.proofs.Tests.{also_true, also_false}
use Rattle.hyd_course.proofs.starts.begins.Goals as goal

pub returns-clause-yes : goal.returns-clause-yes
returns-clause-yes c =
    also_true c.are_initial.result _ _ c.are_initial.ensures.yes
    (λ stocks. record { at_time = omega arith; stocks = stocks })

pub returns-clause-no : goal.returns-clause-no
returns-clause-no c =
    also_false c.are_initial.result _ _ c.are_initial.ensures.no (λ begins. begins.stocks)
