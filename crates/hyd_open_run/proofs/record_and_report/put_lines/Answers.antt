-- The report, and then nothing but what is held.
use Rattle.std.proofs.Common.{append-nil}
use Rattle.hyd_io.proofs.PutLemmas.{puts_then, puts_same, puts_ready}
use Rattle.hyd_open_run.proofs.record_and_report.put_lines.Goals as goal

pub empty_when_due-requires-clause-ready : goal.empty_when_due-requires-clause-ready
empty_when_due-requires-clause-ready g c = puts_ready _ _ _ _ _ _ c.in_ok-put_period_lines.ensures c.requires.ready

pub returns : goal.returns
returns g c =
    puts_same _ _ _ _ _ _ _ (append-nil _) (puts_then _ _ _ _ _ _ _ _ _ c.in_ok-put_period_lines.ensures c.empty_when_due.ensures)
