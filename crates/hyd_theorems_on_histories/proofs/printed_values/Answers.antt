use Rattle.hyd_num.specs.PrintedDecimals.{head_quantity, pressure_quantity, flow_quantity}
use Rattle.hyd_theorems_on_histories.proofs.PrintedValues.{prints_hold, head_proportional, pressure_proportional}
use Rattle.hyd_theorems_on_histories.proofs.PrintedValues.{flow_proportional}
use Rattle.hyd_theorems_on_histories.proofs.printed_values.Goals as goal

pub returns-clause-heads : goal.returns-clause-heads
returns-clause-heads c = λ us S. prints_hold S (head_quantity us) (head_proportional us)

pub returns-clause-pressures : goal.returns-clause-pressures
returns-clause-pressures c = λ us S. prints_hold S (pressure_quantity us) (pressure_proportional us)

pub returns-clause-flows : goal.returns-clause-flows
returns-clause-flows c = λ unit S. prints_hold S (flow_quantity unit) (flow_proportional unit)
