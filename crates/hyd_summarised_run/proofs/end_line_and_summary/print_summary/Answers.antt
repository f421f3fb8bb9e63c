-- The counts, and then the last line.
use Rattle.std.proofs.lemmas.Result.{err_from_is_err_and}
use Rattle.std.proofs.Common.{refl, append-nil}
use Rattle.hyd_io.proofs.PutLemmas.{puts_then, puts_cut_off, puts_same, puts_ready}
use Rattle.hyd_summarised_run.proofs.TextLemmas.{at_time}
use Rattle.hyd_summarised_run.proofs.end_line_and_summary.print_summary.Goals as goal

pub put_last_line-requires-clause-ready : goal.put_last_line-requires-clause-ready
put_last_line-requires-clause-ready g c = puts_ready _ _ _ _ _ _ c.in_ok-put_counts.ensures c.requires.ready

pub empty-requires : goal.empty-requires
empty-requires g c =
    puts_ready _ _ _ _ _ _ (c.in_ok-put_last_line.ensures (at_time c.args.time) refl)
    (puts_ready _ _ _ _ _ _ c.in_ok-put_counts.ensures c.requires.ready)

pub returns-in_err-put_counts-clause-puts : goal.returns-in_err-put_counts-clause-puts
returns-in_err-put_counts-clause-puts g c =
    let p = err_from_is_err_and c.from_residual.result c.from_residual.ensures.1 in
    rw (p.1, p.2) (λ standing at.
    rw (← c.len-junctions.ensures, ← c.len-links.ensures) (puts_cut_off _ _ c.in_err-put_counts.field-0.0 _ _ _ _ c.in_err-put_counts.ensures))

pub returns-in_err-put_last_line-clause-puts : goal.returns-in_err-put_last_line-clause-puts
returns-in_err-put_last_line-clause-puts g c =
    let p = err_from_is_err_and c.from_residual-in_err-put_last_line.result c.from_residual-in_err-put_last_line.ensures.1 in
    rw (p.1, p.2) (λ standing at.
    rw (← c.len-junctions.ensures, ← c.len-links.ensures)
    (puts_then _ _ _ _ _ _ _ _ _ c.in_ok-put_counts.ensures (c.in_err-put_last_line.ensures standing at)))

pub returns-clause-puts : goal.returns-clause-puts
returns-clause-puts g c = λ standing at.
    rw (← c.len-junctions.ensures, ← c.len-links.ensures)
    (puts_then _ _ _ _ _ _ _ _ _ c.in_ok-put_counts.ensures (puts_same _ _ _ _ _ _ _ (append-nil _)
    (puts_then _ _ _ _ _ _ _ _ _ (c.in_ok-put_last_line.ensures standing at) c.empty.ensures.puts)))
