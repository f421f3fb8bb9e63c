-- The report, and then nothing but what is held.
use Rattle.std.proofs.Common.{append-nil}
use Rattle.hyd_io.proofs.PutLemmas.{puts_then, puts_same, puts_ready}
use Rattle.hyd_run.proofs.period_and_last_lines.put_lines.Goals as goal

pub empty_when_due-requires-clause-ready : goal.empty_when_due-requires-clause-ready
empty_when_due-requires-clause-ready g c = puts_ready _ _ _ _ _ _ c.in_ok-put_report.ensures.puts c.requires.ready

pub returns : goal.returns
returns g c =
    puts_same _ _ _ _ _ _ _ (append-nil _) (puts_then _ _ _ _ _ _ _ _ _ c.in_ok-put_report.ensures.puts
    c.empty_when_due.ensures)
