use Rattle.hyd_spec_witnesses.specs.MetPeriods.{Moment, HasItsLists, at_start, periods_of}
use Rattle.hyd_theorems_on_histories.proofs.TruthsAndRuleValues.{each_of}
use Rattle.hyd_theorems_on_witnesses.proofs.MetHistories.{met-history, as-many}
use Rattle.hyd_theorems_on_witnesses.proofs.met_histories.Goals as goal

pub returns-clause-history : goal.returns-clause-history
returns-clause-history c = λ project sound S some moments lists met.
    met-history project sound S some moments (each_of Moment (HasItsLists project) moments lists) met

pub returns-clause-as_many : goal.returns-clause-as_many
returns-clause-as_many c = λ project S moments. as-many project S at_start moments

pub returns-clause-agrees : goal.returns-clause-agrees
returns-clause-agrees c = λ project sound S some moments lists met founds every.
    every S some (periods_of project S moments)
    (met-history project sound S some moments (each_of Moment (HasItsLists project) moments lists) met)
