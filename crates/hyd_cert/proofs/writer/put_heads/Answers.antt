use Rattle.std.proofs.lemmas.Result.{err_from_is_err_and}
use Rattle.std.proofs.Common.{◌∷◌, ◌++◌, [], pos, get_or, ap, arith}
use Rattle.std.specs.Fmt.{signed_decimal}
use Rattle.hyd_io.proofs.PutLemmas.{puts_then, puts_cut_off, puts_same}
use Rattle.hyd_cert.proofs.WritingLemmas.{head_more, head_split}
use Rattle.hyd_cert.proofs.writer.put_heads.Goals as goal

pub loop-i-preserved : goal.loop-i-preserved
loop-i-preserved g c =
    puts_same _ _ _ _ _ _ _ (head_more c.args.junctions c.loop-i.i c.args.heads.now _ (omega arith)
    (ap (λ f. f ++ (signed_decimal (get_or c.args.heads.now c.loop-i.i (pos 0)) ++ (10 ∷ []))) c.front_of.ensures))
    (puts_then _ _ _ _ _ _ _ _ _ c.loop-i.invariant c.in_ok-put_head_line.ensures)

pub returns-in_err-put_head_line : goal.returns-in_err-put_head_line
returns-in_err-put_head_line g c =
    let p = err_from_is_err_and c.from_residual.result c.from_residual.ensures.1 in
    rw (p.1, p.2) (puts_same _ _ _ _ _ _ _ (head_split c.args.junctions c.loop-i.i c.args.heads.now _ (omega arith)
    (ap (λ f. f ++ (signed_decimal (get_or c.args.heads.now c.loop-i.i (pos 0)) ++ (10 ∷ []))) c.front_of.ensures))
    (puts_cut_off _ _ c.in_err-put_head_line.field-0.0 _ _ _ _ (puts_then _ _ _ _ _ _ _ _ _ c.loop-i.invariant c.in_err-put_head_line.ensures)))
