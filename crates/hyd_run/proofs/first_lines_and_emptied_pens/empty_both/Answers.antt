-- One pen, and then the other.
use Rattle.std.proofs.lemmas.Result.{err_from_is_err_and}
use Rattle.std.proofs.Common.{subst, sym}
use Rattle.std.specs.Prelude.{IsTrue}
use Rattle.hyd_run.proofs.PenLemmas.{on_any, both-put, first-cut-off}
use Rattle.hyd_run.proofs.first_lines_and_emptied_pens.empty_both.Goals as goal

pub empty-requires : goal.empty-requires
empty-requires g c = on_any _ _ c.requires.ready

pub empty-requires-2 : goal.empty-requires-2
empty-requires-2 g c = on_any _ _ (subst IsTrue (sym c.in_ok-empty.ensures.puts.ready_stays) c.requires.ready)

pub returns-in_err-empty-clause-puts : goal.returns-in_err-empty-clause-puts
returns-in_err-empty-clause-puts g c =
    let p = err_from_is_err_and c.from_residual.result c.from_residual.ensures.1 in
    rw (p.1, p.2) (first-cut-off _ _ c.in_err-empty.field-0.0 _ _ _ _ _ c.requires c.in_err-empty.ensures.puts)

pub returns-clause-puts : goal.returns-clause-puts
returns-clause-puts g c = both-put _ _ _ _ _ _ _ _ _ _ c.requires c.in_ok-empty.ensures.puts c.empty-2.ensures.puts
