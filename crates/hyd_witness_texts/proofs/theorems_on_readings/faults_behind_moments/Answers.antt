use Rattle.hyd_witness_texts.proofs.RestOfWitness.{faulty_behind_moments}
use Rattle.hyd_witness_texts.proofs.theorems_on_readings.faults_behind_moments.Goals as goal

pub returns : goal.returns
returns c = λ counts junctions links tanks. faulty_behind_moments counts (record {
  junctions = junctions;
  links = links;
  tanks = tanks;
})
