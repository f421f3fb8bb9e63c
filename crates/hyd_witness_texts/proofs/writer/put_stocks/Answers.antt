use Rattle.std.proofs.lemmas.Result.{err_from_is_err_and}
use Rattle.std.proofs.Common.{arith}
use Rattle.hyd_io.proofs.PutLemmas.{puts_then, puts_cut_off, puts_same}
use Rattle.hyd_witness_texts.proofs.WritingLemmas.{stock_more, stock_split}
use Rattle.hyd_witness_texts.proofs.writer.put_stocks.Goals as goal

pub loop-i-preserved : goal.loop-i-preserved
loop-i-preserved g c =
    puts_same _ _ _ _ _ _ _ (stock_more c.loop-i.i c.args.levels.now c.args.volumes.now c.requires.stocks (omega arith))
    (puts_then _ _ _ _ _ _ _ _ _ c.loop-i.invariant c.in_ok-put_stock_line.ensures)

pub returns-in_err-put_stock_line : goal.returns-in_err-put_stock_line
returns-in_err-put_stock_line g c =
    let p = err_from_is_err_and c.from_residual.result c.from_residual.ensures.1 in
    rw (p.1, p.2) (puts_same _ _ _ _ _ _ _ (stock_split c.loop-i.i c.args.levels.now c.args.volumes.now c.requires.stocks (omega
    arith))
    (puts_cut_off _ _ c.in_err-put_stock_line.field-0.0 _ _ _ _ (puts_then _ _ _ _ _ _ _ _ _ c.loop-i.invariant c.in_err-put_stock_line.ensures)))
