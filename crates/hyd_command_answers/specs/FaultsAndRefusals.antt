-- What is common to the answers of the commands: which call failed, and how texts are refused.
-- Source: this program's.

use Rattle.std.specs.Prelude.{◌≡◌, ℕ, ◌⊎◌, List}
use Rattle.hyd_io.specs.declared.desk.Faults.{Faults}
use Rattle.hyd_io.specs.declared.output.OutFault.{OutFault}
use Rattle.hyd_io.specs.declared.output.OutFault.TheVariants.{Fault, Stalled as Stall}
use Rattle.hyd_io.specs.DeskCounts.{with_read_fault, with_write_fault, with_print_fault, with_stall}
use Rattle.hyd_spec_lines.specs.Lines.{items_of, rows_in}
use Rattle.hyd_net.specs.declared.refusal_cause.Cause.{Cause}
use Rattle.hyd_spec.specs.ProgramTypes.{Project}
use Rattle.hyd_spec_input.specs.Project.{IsProject}
use Rattle.hyd_report.specs.RefusedText.{refused_text_line}
use Rattle.hyd_command_answers.specs.declared.status.Status.{Status}
use Rattle.hyd_command_answers.specs.declared.status.Status.TheVariants.{OutOfMemory, ReadFault, WriteFault}
use Rattle.hyd_command_answers.specs.declared.status.Status.TheVariants.{InputRefused, Stalled}
use Rattle.hyd_command_answers.specs.DeskContents.{Seen, IsUntouched, OnlyPrinted, OnlyPrintedFront}

-- ---- faults

-- A fault comes only where one call failed or stalled: its count is one more (or stands at its last value), the read
-- faults, the write or the print faults, or the stalls, and no other count changed. Else the counts stay.
abbrev pub HasCause : Status → Faults → Faults → Type 0
HasCause ReadFault before now = now ≡ with_read_fault before
HasCause WriteFault before now = (now ≡ with_write_fault before) ⊎ (now ≡ with_print_fault before)
HasCause Stalled before now = now ≡ with_stall before
HasCause status before now = now ≡ before

-- The answer of a fault of a channel.
abbrev pub status_of_fault : OutFault → Status
status_of_fault Fault = WriteFault
status_of_fault Stall = Stalled

-- ---- texts that are refused

-- Refused, and the line of the fault alone was printed; or want of memory, or a fault.
abbrev pub AnswersRefused : ℕ → Cause → Status → Seen → Seen → Type 0
AnswersRefused line cause InputRefused before now = OnlyPrinted (refused_text_line line cause) before now
AnswersRefused line cause OutOfMemory before now = IsUntouched before now
AnswersRefused line cause ReadFault before now = IsUntouched before now
AnswersRefused line cause WriteFault before now = OnlyPrintedFront (refused_text_line line cause) before now
AnswersRefused line cause Stalled before now = OnlyPrintedFront (refused_text_line line cause) before now
AnswersRefused line cause status before now = ⊥

-- This holds of a network that the rows of the text describe.
pub record OfNetwork (text : List ℕ) (P : Project → Type 0) : Type 0 where
  pub project : Project
  pub is_network : IsProject (rows_in (items_of text)) project
  pub holds : P project

-- One line of a refused text was printed, and nothing was created or written.
pub record PrintsRefusal (before now : Seen) : Type 0 where
  pub line : ℕ
  pub cause : Cause
  pub only : OnlyPrinted (refused_text_line line cause) before now
