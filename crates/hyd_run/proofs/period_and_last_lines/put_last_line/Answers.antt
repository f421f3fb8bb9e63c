-- The time is that of the standing.
use Rattle.hyd_run.proofs.period_and_last_lines.put_last_line.Goals as goal

pub returns-in-Stopped : goal.returns-in-Stopped
returns-in-Stopped g c = λ standing same. rw (same, c.in-Stopped.is) c.put_stop.ensures
