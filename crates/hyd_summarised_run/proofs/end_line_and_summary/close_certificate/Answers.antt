-- The END line, and then nothing is held.
use Rattle.std.proofs.lemmas.Result.{err_from_is_err_and}
use Rattle.std.proofs.Common.{append-nil}
use Rattle.hyd_run.proofs.PenLemmas.{on_any}
use Rattle.hyd_io.proofs.PutLemmas.{puts_then, puts_same, puts_ready}
use Rattle.hyd_summarised_run.proofs.PenLemmas.{cert-put}
use Rattle.hyd_summarised_run.proofs.end_line_and_summary.close_certificate.Goals as goal

pub put_end-requires : goal.put_end-requires
put_end-requires g c = on_any _ _ c.requires.ready

pub empty-requires : goal.empty-requires
empty-requires g c = puts_ready _ _ _ _ _ _ c.in_ok-put_end.ensures (on_any _ _ c.requires.ready)

pub returns-in_err-put_end-clause-puts : goal.returns-in_err-put_end-clause-puts
returns-in_err-put_end-clause-puts g c =
    let p = err_from_is_err_and c.from_residual.result c.from_residual.ensures.1 in
    rw (p.1, p.2) (cert-put _ _ _ _ _ _ _ c.requires c.in_err-put_end.ensures)

pub returns-clause-puts : goal.returns-clause-puts
returns-clause-puts g c =
    cert-put _ _ _ _ _ _ _ c.requires (puts_same _ _ _ _ _ _ _ (append-nil _)
    (puts_then _ _ _ _ _ _ _ _ _ c.in_ok-put_end.ensures c.empty.ensures.puts))
