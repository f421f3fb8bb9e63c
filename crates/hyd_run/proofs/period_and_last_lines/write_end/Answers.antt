-- The END line, and then nothing is held.
use Rattle.std.proofs.Common.{append-nil}
use Rattle.hyd_io.proofs.PutLemmas.{puts_then, puts_same, puts_ready}
use Rattle.hyd_run.proofs.period_and_last_lines.write_end.Goals as goal

pub empty-requires : goal.empty-requires
empty-requires g c = puts_ready _ _ _ _ _ _ c.in_ok-put_end.ensures c.requires

pub returns-clause-puts : goal.returns-clause-puts
returns-clause-puts g c =
    puts_same _ _ _ _ _ _ _ (append-nil _) (puts_then _ _ _ _ _ _ _ _ _ c.in_ok-put_end.ensures c.empty.ensures.puts)
