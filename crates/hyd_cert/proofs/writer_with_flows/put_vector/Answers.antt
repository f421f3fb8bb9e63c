use Rattle.std.proofs.lemmas.Result.{err_from_is_err_and}
use Rattle.std.proofs.Common.{arith}
use Rattle.hyd_io.proofs.PutLemmas.{puts_then, puts_cut_off, puts_same}
use Rattle.hyd_cert.proofs.FlowLineLemmas.{held_more, held_split}
use Rattle.hyd_cert.proofs.writer_with_flows.put_vector.Goals as goal

pub loop-i-preserved : goal.loop-i-preserved
loop-i-preserved g c =
    puts_same _ _ _ _ _ _ _ (held_more c.args.front.now c.loop-i.i c.args.heads.now (omega arith))
    (puts_then _ _ _ _ _ _ _ _ _ c.loop-i.invariant c.in_ok-put_head_line.ensures)

pub returns-in_err-put_head_line : goal.returns-in_err-put_head_line
returns-in_err-put_head_line g c =
    let p = err_from_is_err_and c.from_residual.result c.from_residual.ensures.1 in
    rw (p.1, p.2) (puts_same _ _ _ _ _ _ _ (held_split c.args.front.now c.loop-i.i c.args.heads.now (omega arith))
    (puts_cut_off _ _ c.in_err-put_head_line.field-0.0 _ _ _ _ (puts_then _ _ _ _ _ _ _ _ _ c.loop-i.invariant c.in_err-put_head_line.ensures)))
