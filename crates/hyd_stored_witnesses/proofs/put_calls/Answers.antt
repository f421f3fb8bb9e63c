use Rattle.std.proofs.Common.{subst, sym}
use Rattle.hyd_spec_witnesses.specs.WitnessText.{Counts}
use Rattle.hyd_witness_texts.specs.MomentView.{moment_of, HasCounts}
use Rattle.hyd_witness_texts.specs.ReaderView.{ReaderView}
use Rattle.hyd_stored_witnesses.proofs.put_calls.Goals as goal

pub loop-init : goal.loop-init
loop-init c = subst (λ (v : ReaderView). HasCounts v.counts (moment_of c.args.into.now)) (sym c.open-reader.ensures)
    c.requires

pub loop-preserved : goal.loop-preserved
loop-preserved c = subst (λ (k : Counts). HasCounts k (moment_of c.next-answer.new.into))
    (sym c.next-answer.ensures.counts) c.next-answer.ensures.lists
