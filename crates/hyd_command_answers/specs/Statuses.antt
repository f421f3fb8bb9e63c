-- The statuses of a command.
use Rattle.std.specs.Prelude.{ℕ}
use Rattle.hyd_spec_reports.specs.PromisesOfRunsAndChecks.{Outcome, Finished, Stopped}
use Rattle.hyd_spec_certificates.specs.declared.StopCause.TheVariants.{Demand as OutOfRange, RoundsSpent as Rounds}
use Rattle.hyd_command_answers.specs.declared.status.Status.{Status}
use Rattle.hyd_command_answers.specs.declared.status.Status.TheVariants.{Done, OutOfMemory, Usage, ReadFault}
use Rattle.hyd_command_answers.specs.declared.status.Status.TheVariants.{WriteFault}
use Rattle.hyd_command_answers.specs.declared.status.Status.TheVariants.{InputRefused, Undecided, RoundsSpent, Demand}
use Rattle.hyd_command_answers.specs.declared.status.Status.TheVariants.{CertificateRefused, Stalled}

-- how a run ends, as a status
abbrev pub status_of_outcome : Outcome → Status
status_of_outcome Finished = Done
status_of_outcome (Stopped (Rounds period problem side rounds)) = RoundsSpent
status_of_outcome (Stopped (OutOfRange period junction demand)) = Demand
status_of_outcome (Stopped cause) = Undecided

-- the exit status of the program
abbrev pub number_of : Status → ℕ
number_of Done = 0
number_of OutOfMemory = 1
number_of Usage = 2
number_of ReadFault = 3
number_of WriteFault = 4
number_of InputRefused = 5
number_of Undecided = 6
number_of RoundsSpent = 7
number_of Demand = 8
number_of CertificateRefused = 9
number_of Stalled = 10
