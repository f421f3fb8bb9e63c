use Rattle.hyd_theorems_on_nesting.proofs.ClockLengthAndEndsExist.{clock_length_is, earliest_is, latest_is}
use Rattle.hyd_theorems_on_nesting.proofs.EveryPeriodEnds.{some_end}
use Rattle.hyd_theorems_on_nesting.proofs.ends.Goals as goal

pub returns-clause-lengths : goal.returns-clause-lengths
returns-clause-lengths c = λ project sound time. clock_length_is project time sound.times.hydraulic

pub returns-clause-earliest : goal.returns-clause-earliest
returns-clause-earliest c =
    λ project sound grid standing row. earliest_is project grid standing row sound.times.hydraulic

pub returns-clause-latest : goal.returns-clause-latest
returns-clause-latest c = λ project sound grid standing row. latest_is project grid standing row sound.times.hydraulic

pub returns-clause-some : goal.returns-clause-some
returns-clause-some c =
    λ project sound grid standing row other. some_end project grid standing row sound.times.hydraulic other
