use Rattle.hyd_theorems_on_checks.proofs.RecordsNotRefused.{no_record_refused}
use Rattle.hyd_theorems_on_checks.proofs.refused_records.Goals as goal

pub returns : goal.returns
returns c = no_record_refused
