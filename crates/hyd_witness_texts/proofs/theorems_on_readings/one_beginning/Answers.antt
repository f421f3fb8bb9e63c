use Rattle.hyd_witness_texts.proofs.OneBeginning.{one_beginning}
use Rattle.hyd_witness_texts.proofs.theorems_on_readings.one_beginning.Goals as goal

pub returns : goal.returns
returns c = λ counts junctions links tanks. one_beginning counts (record {
  junctions = junctions;
  links = links;
  tanks = tanks;
})
