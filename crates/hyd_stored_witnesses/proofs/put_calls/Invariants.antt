use Rattle.hyd_witness_texts.specs.MomentView.{moment_of, HasCounts}
use Rattle.hyd_stored_witnesses.proofs.put_calls.Given as goal

-- the moment has the counts of the reader's network
abbrev pub invariant-loop : goal.invariant-loop
invariant-loop l = HasCounts l.reader.counts (moment_of l.into)
