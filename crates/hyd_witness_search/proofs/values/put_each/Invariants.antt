use Rattle.std.specs.Prelude.{All}
use Rattle.hyd_spec_witnesses.specs.WitnessText.{IsValue}
use Rattle.hyd_witness_search.proofs.values.put_each.Given as goal

-- they are values as far as they were
abbrev pub invariant-loop-place : goal.invariant-loop-place
invariant-loop-place l = All IsValue l.initial.into → All IsValue l.into
