use Rattle.hyd_theorems_on_witnesses.proofs.OneFaultyLine.{one-faulty-line, faulty-is-no-witness}
use Rattle.hyd_theorems_on_witnesses.proofs.faulty_lines.Goals as goal

pub returns-clause-one : goal.returns-clause-one
returns-clause-one c = one-faulty-line

pub returns-clause-none : goal.returns-clause-none
returns-clause-none c = faulty-is-no-witness
