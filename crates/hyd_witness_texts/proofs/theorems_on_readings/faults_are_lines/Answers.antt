use Rattle.hyd_witness_texts.proofs.RestOfWitness.{faulty_line}
use Rattle.hyd_witness_texts.proofs.theorems_on_readings.faults_are_lines.Goals as goal

pub returns : goal.returns
returns c = faulty_line
