-- The END line, and what the pen holds.
use Rattle.std.proofs.Common.{arith, append-nil}
use Rattle.hyd_io.proofs.PutLemmas.{puts_ready}
use Rattle.hyd_spec_witnesses.specs.WitnessText.{witness_end}
use Rattle.hyd_witness_stream.specs.declared.ending.SearchFault.TheVariants.{Output}
use Rattle.hyd_witness_stream.proofs.FoundLemmas.{end-broken, whole-there}
use Rattle.hyd_witness_stream.proofs.PenLemmas.{cut-as, cut-then, on-file, write-cut, written-in}
use Rattle.hyd_witness_stream.proofs.whole_search.put_end.Goals as goal

pub put_witness_end-requires : goal.put_witness_end-requires
put_witness_end-requires g c = on-file _ _ c.requires.ready

pub empty-requires : goal.empty-requires
empty-requires g c = puts_ready _ _ _ _ _ _ c.in-Ok.ensures (on-file _ _ c.requires.ready)

pub returns-in-Err : goal.returns-in-Err
returns-in-Err g c = λ S project start reader halted.
    end-broken c.args.end project S start _ halted (Output c.in-Err.fault) _ (omega arith)
    (write-cut _ c.in-Err.fault reader reader _ _ _ _ c.requires.writing c.in-Err.ensures)

pub returns-in-Ok-empty : goal.returns-in-Ok-empty
returns-in-Ok-empty g c = λ S project start reader halted.
    let end = written-in _ reader reader _ _ _ _ c.requires.writing c.in-Ok.ensures in
    whole-there c.args.end project S start _ _ _ halted end
    (written-in _ reader reader _ _ _ _ end.writing c.in-Ok-empty.ensures.puts) c.in-Ok-empty.ensures.empty
    (omega arith)

pub returns-in-Err-empty : goal.returns-in-Err-empty
returns-in-Err-empty g c = λ S project start reader halted.
    let why = Output c.in-Err-empty.fault in
    let end = written-in _ reader reader _ _ _ _ c.requires.writing c.in-Ok.ensures in
    end-broken c.args.end project S start _ halted why _ (omega arith)
    (cut-as why _ _ _ _ (append-nil (witness_end c.args.end.periods))
    (cut-then why _ _ _ _ _ end
    (write-cut _ c.in-Err-empty.fault reader reader _ _ _ _ end.writing c.in-Err-empty.ensures.puts)))
