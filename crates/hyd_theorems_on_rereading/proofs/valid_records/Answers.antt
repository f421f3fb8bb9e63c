use Rattle.hyd_theorems_on_rereading.proofs.ValidRecordsWithoutSpare.{valid_records}
use Rattle.hyd_theorems_on_rereading.proofs.valid_records.Goals as goal

pub returns : goal.returns
returns c = valid_records
