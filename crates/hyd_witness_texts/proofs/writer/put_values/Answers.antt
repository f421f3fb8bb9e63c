use Rattle.std.proofs.lemmas.Result.{err_from_is_err_and}
use Rattle.std.proofs.Common.{◌∷◌, [], arith}
use Rattle.hyd_io.proofs.PutLemmas.{puts_then, puts_cut_off, puts_same}
use Rattle.hyd_witness_texts.proofs.WritingLemmas.{value_more, value_split}
use Rattle.hyd_witness_texts.proofs.writer.put_values.Goals as goal

pub loop-i-preserved : goal.loop-i-preserved
loop-i-preserved g c =
    puts_same _ _ _ _ _ _ _ (value_more (c.args.key ∷ []) c.loop-i.i c.args.values.now (omega arith))
    (puts_then _ _ _ _ _ _ _ _ _ c.loop-i.invariant c.in_ok-put_value_line.ensures)

pub returns-in_err-put_value_line : goal.returns-in_err-put_value_line
returns-in_err-put_value_line g c =
    let p = err_from_is_err_and c.from_residual.result c.from_residual.ensures.1 in
    rw (p.1, p.2) (puts_same _ _ _ _ _ _ _ (value_split (c.args.key ∷ []) c.loop-i.i c.args.values.now (omega arith))
    (puts_cut_off _ _ c.in_err-put_value_line.field-0.0 _ _ _ _ (puts_then _ _ _ _ _ _ _ _ _ c.loop-i.invariant c.in_err-put_value_line.ensures)))
