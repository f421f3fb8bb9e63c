use Rattle.hyd_spec_certificates.specs.RecordAndStanding.{initial_standing}
use Rattle.hyd_theorems_on_runs.proofs.RunRecords.{valid_from}
use Rattle.hyd_theorems_on_runs.proofs.runs.records.Goals as goal

pub returns : goal.returns
returns c = λ project founds last is. valid_from project (initial_standing project) founds last is
