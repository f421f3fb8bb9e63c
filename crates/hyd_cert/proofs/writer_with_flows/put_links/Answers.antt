use Rattle.std.proofs.lemmas.Result.{err_from_is_err_and}
use Rattle.std.proofs.Common.{arith}
use Rattle.hyd_io.proofs.PutLemmas.{puts_then, puts_cut_off, puts_same}
use Rattle.hyd_cert.proofs.FlowTextLemmas.{links_more, links_split}
use Rattle.hyd_cert.proofs.writer_with_flows.put_links.Goals as goal

pub loop-i-preserved : goal.loop-i-preserved
loop-i-preserved g c =
    puts_same _ _ _ _ _ _ _ (links_more c.loop-i.i c.args.links.now c.index-links-i.result (omega arith)
    c.index-links-i.is) (puts_then _ _ _ _ _ _ _ _ _ c.loop-i.invariant c.in_ok-put_link.ensures)

pub returns-in_err-put_link : goal.returns-in_err-put_link
returns-in_err-put_link g c =
    let p = err_from_is_err_and c.from_residual.result c.from_residual.ensures.1 in
    rw (p.1, p.2) (puts_same _ _ _ _ _ _ _ (links_split c.loop-i.i c.args.links.now c.index-links-i.result (omega arith)
    c.index-links-i.is)
    (puts_cut_off _ _ c.in_err-put_link.field-0.0 _ _ _ _ (puts_then _ _ _ _ _ _ _ _ _ c.loop-i.invariant c.in_err-put_link.ensures)))
