-- No period was done.
use Rattle.hyd_as_library.proofs.print_period.Goals as goal

pub returns-then-not-does_period-clause-fails : goal.returns-then-not-does_period-clause-fails
returns-then-not-does_period-clause-fails g c = c.does_period.ensures.no_period c.if-not-does_period.true
