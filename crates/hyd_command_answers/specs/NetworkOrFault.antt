-- What the reading of NET gives: a network, or why there is none.
use Rattle.std.specs.Prelude.{◌≡◌, ⊤, Result, Ok, Err}
use Rattle.hyd_io.specs.declared.desk.Faults.{Faults}
use Rattle.hyd_inp.specs.declared.fault.InpFault.{InpFault}
use Rattle.hyd_command_answers.specs.FaultsAndRefusals.{HasCause}
use Rattle.hyd_command_answers.specs.declared.network_file.Unread.{Unread}
use Rattle.hyd_command_answers.specs.declared.network_file.Unread.TheVariants.{Fault, Ended}
use Rattle.hyd_command_answers.specs.declared.status.Status.{Status}

-- what holds of the fault of a text
abbrev pub IfFault : Unread → (InpFault → Type 0) → Type 0
IfFault (Fault fault) P = P fault
IfFault (Ended status) P = ⊤

-- what holds of a status that ends the command
abbrev pub IfEnded : Unread → (Status → Type 0) → Type 0
IfEnded (Fault fault) P = ⊤
IfEnded (Ended status) P = P status

-- The counts stay where there is a text, and have the cause of a status else.
abbrev pub HasReadCause : {A : Type 0} → Result A Unread → Faults → Faults → Type 0
HasReadCause (Ok project) before now = now ≡ before
HasReadCause (Err (Fault fault)) before now = now ≡ before
HasReadCause (Err (Ended status)) before now = HasCause status before now
