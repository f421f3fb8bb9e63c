-- The pieces are the line.
use Rattle.std.proofs.lemmas.Result.{err_from_is_err_and}
use Rattle.hyd_io.proofs.PutLemmas.{puts_then, puts_cut_off, puts_same, puts_ready}
use Rattle.hyd_summarised_run.proofs.TextLemmas.{summary_is}
use Rattle.hyd_summarised_run.proofs.summary.put_counts.Goals as goal

pub put_run_counts-requires : goal.put_run_counts-requires
put_run_counts-requires g c = puts_ready _ _ _ _ _ _ c.in_ok-put_two_counted.ensures c.requires

pub returns-in_err-put_two_counted : goal.returns-in_err-put_two_counted
returns-in_err-put_two_counted g c =
    let p = err_from_is_err_and c.from_residual.result c.from_residual.ensures.1 in
    rw (p.1, p.2) (let counts = c.args.counts in
    puts_same _ _ _ _ _ _ _ (summary_is counts.junctions counts.links counts.periods counts.events)
    (puts_cut_off _ _ c.in_err-put_two_counted.field-0.0 _ _ _ _ c.in_err-put_two_counted.ensures))

pub returns : goal.returns
returns g c =
    let counts = c.args.counts in
    puts_same _ _ _ _ _ _ _ (summary_is counts.junctions counts.links counts.periods counts.events)
    (puts_then _ _ _ _ _ _ _ _ _ c.in_ok-put_two_counted.ensures c.put_run_counts.ensures)
