use Rattle.std.specs.Prelude.{All}
use Rattle.hyd_spec_witnesses.specs.WitnessText.{IsValue}
use Rattle.hyd_witness_search.proofs.values.put_each_emitter.Given as goal

-- they are values as far as they were
abbrev pub invariant-loop-junction : goal.invariant-loop-junction
invariant-loop-junction l = All IsValue l.initial.into → All IsValue l.into
