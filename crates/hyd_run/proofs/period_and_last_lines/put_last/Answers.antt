-- The END line, and then the last line of the report.
use Rattle.std.proofs.lemmas.Result.{err_from_is_err_and}
use Rattle.std.proofs.Common.{subst, sym}
use Rattle.std.specs.Prelude.{IsTrue}
use Rattle.hyd_run.proofs.PenLemmas.{on_any, both-put-last, cut-off-at-end}
use Rattle.hyd_run.proofs.period_and_last_lines.put_last.Goals as goal

pub write_end-requires : goal.write_end-requires
write_end-requires g c = on_any _ _ c.requires.unbroken.ready

pub put_last_line-requires-clause-ready : goal.put_last_line-requires-clause-ready
put_last_line-requires-clause-ready g c = on_any _ _ (subst IsTrue (sym c.in_ok-write_end.ensures.puts.ready_stays)
    c.requires.unbroken.ready)

pub returns-in_err-write_end : goal.returns-in_err-write_end
returns-in_err-write_end g c =
    let p = err_from_is_err_and c.from_residual.result c.from_residual.ensures.1 in
    rw (p.1, p.2) (λ standing at.
    rw (← c.is_finished.ensures) (cut-off-at-end _ _ c.in_err-write_end.field-0.0 _ _ _ _ _ c.requires.unbroken
    c.in_err-write_end.ensures.puts))

pub returns : goal.returns
returns g c = λ standing at.
    rw (← c.is_finished.ensures) (both-put-last _ _ _ _ _ _ _ _ _ _ c.requires.unbroken c.in_ok-write_end.ensures.puts
    c.in_ok-write_end.ensures.empty
    (c.put_last_line.ensures standing at))
