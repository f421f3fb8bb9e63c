-- The answers of a run that wrote a certificate to its end.
-- Source: this program's.
use Rattle.std.specs.Prelude.{⊤}
use Rattle.hyd_command_answers.specs.declared.status.Status.{Status}
use Rattle.hyd_command_answers.specs.declared.status.Status.TheVariants.{Done, Undecided, RoundsSpent, Demand}

-- The run finished, or was stopped by a cause.
abbrev pub HasWritten : Status → Type 0
HasWritten Done = ⊤
HasWritten Undecided = ⊤
HasWritten RoundsSpent = ⊤
HasWritten Demand = ⊤
HasWritten status = ⊥
