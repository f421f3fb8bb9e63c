use Rattle.hyd_theorems_on_open_refusals.proofs.OpenTexts.{one_reading, first_records}
use Rattle.hyd_theorems_on_open_refusals.proofs.readings.Goals as goal

pub returns-clause-one : goal.returns-clause-one
returns-clause-one c = one_reading

pub returns-clause-front : goal.returns-clause-front
returns-clause-front c = first_records
