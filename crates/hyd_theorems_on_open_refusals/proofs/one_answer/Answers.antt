use Rattle.hyd_theorems_on_open_refusals.proofs.RecordsOfRuns.{one_answer}
use Rattle.hyd_theorems_on_open_refusals.proofs.one_answer.Goals as goal

pub returns : goal.returns
returns c = one_answer
