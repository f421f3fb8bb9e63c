use Rattle.hyd_theorems_on_open_spreads.proofs.KnownRecords.{valid-openly, runs-openly}
use Rattle.hyd_theorems_on_open_spreads.proofs.known_records.Goals as goal

pub returns-clause-records : goal.returns-clause-records
returns-clause-records c = valid-openly

pub returns-clause-runs : goal.returns-clause-runs
returns-clause-runs c = runs-openly
