-- What the answers of the command `check` mean where CERT doesn't begin with a header line of version 4, and what they
-- leave and open whatever CERT is.
-- Source: this program's.
use Rattle.std.specs.Prelude.{◌≡◌, ℕ, ◌⊎◌, List}
use Rattle.hyd_io.specs.declared.desk.Openings.{Openings}
use Rattle.hyd_io.specs.DeskCounts.{with_opened}
use Rattle.hyd_spec.specs.ProgramTypes.{Project}
use Rattle.hyd_cert_check.specs.Checks.{CheckEnds, CheckBreaksOff}
use Rattle.hyd_theorems_on_checks.specs.CertificateOfRun.{IsCertificateOfSomeRun}
use Rattle.hyd_cert_check.specs.RecordByRecord.{IsPrinted}
use Rattle.hyd_spec_check_ends.specs.declared.CheckEnd.{CheckEnd}
use Rattle.hyd_spec_check_ends.specs.declared.CheckEnd.TheVariants.{Accepted, Refused}
use Rattle.hyd_cert_check.specs.declared.outcome.CheckFault.{CheckFault}
use Rattle.hyd_cert_check.specs.declared.outcome.CheckFault.TheVariants.{Read, Output}
use Rattle.hyd_command_answers.specs.DeskContents.{Seen, IsUntouched, OnlyPrintedSome}
use Rattle.hyd_command_answers.specs.FaultsAndRefusals.{OfNetwork, PrintsRefusal, status_of_fault}
use Rattle.hyd_command_answers.specs.declared.status.Status.{Status}
use Rattle.hyd_command_answers.specs.declared.status.Status.TheVariants.{Done, OutOfMemory, Usage, ReadFault, WriteFault}
use Rattle.hyd_command_answers.specs.declared.status.Status.TheVariants.{InputRefused, Undecided, RoundsSpent, Demand}
use Rattle.hyd_command_answers.specs.declared.status.Status.TheVariants.{CertificateRefused, Stalled}

-- The answer of a check that came to its end.
abbrev pub status_of_check : CheckEnd → Status
status_of_check Accepted = Done
status_of_check Refused = CertificateRefused

-- The answer of a check that was broken off.
abbrev pub status_of_break : CheckFault → Status
status_of_break Read = ReadFault
status_of_break (Output fault) = status_of_fault fault

-- What an answer says of the text of CERT, which is checked against a network: it was accepted, and its report
-- printed, with its FLOW lines where it begins as one with flows; or it was refused, the report up to its refusal
-- printed, and it isn't the certificate of a run, with flows or without; or memory ran out before anything was printed;
-- or a fault broke the check off, and a front of such a report was printed.
abbrev pub AnswersCert : Project → List ℕ → Status → Seen → Seen → Type 0
AnswersCert project text Done before now =
    IsPrinted (λ printed. CheckEnds project text printed Accepted) before.printed now.printed
AnswersCert project text CertificateRefused before now =
    IsPrinted (λ printed. CheckEnds project text printed Refused) before.printed now.printed
    × (IsCertificateOfSomeRun project text → ⊥)
AnswersCert project text OutOfMemory before now = IsUntouched before now
AnswersCert project text ReadFault before now =
    IsUntouched before now ⊎ IsPrinted (CheckBreaksOff project text) before.printed now.printed
AnswersCert project text WriteFault before now = IsPrinted (CheckBreaksOff project text) before.printed now.printed
AnswersCert project text Stalled before now = IsPrinted (CheckBreaksOff project text) before.printed now.printed
AnswersCert project text status before now = ⊥

-- What an answer says of a text of NET without a fault and a text of CERT: want of memory and a fault in the reading of
-- NET leave all untouched.
abbrev pub AnswersCheck : (text certificate : List ℕ) → Status → Seen → Seen → Type 0
AnswersCheck text certificate OutOfMemory before now = IsUntouched before now
AnswersCheck text certificate ReadFault before now = IsUntouched before now
    ⊎ OfNetwork text (λ project. AnswersCert project certificate ReadFault before now)
AnswersCheck text certificate status before now =
    OfNetwork text (λ project. AnswersCert project certificate status before now)

-- What the answer of a check leaves, also where the desk tells no text: want of memory leaves all untouched, a refusal of
-- NET prints its one line, and every other answer leaves some text printed and nothing created or written.
abbrev pub LeavesCheck : Status → Seen → Seen → Type 0
LeavesCheck OutOfMemory before now = IsUntouched before now
LeavesCheck Usage before now = ⊥
LeavesCheck InputRefused before now = PrintsRefusal before now
LeavesCheck status before now = OnlyPrintedSome before now

-- How often a check opens CERT once NET was read: once at most, when all memory is taken that the check needs. It
-- creates nothing.
abbrev pub ReadsCert : Status → Openings → Openings → Type 0
ReadsCert Done before now = now ≡ with_opened before
ReadsCert OutOfMemory before now = now ≡ before
ReadsCert Usage before now = ⊥
ReadsCert ReadFault before now = now ≡ with_opened before
ReadsCert WriteFault before now = now ≡ with_opened before
ReadsCert InputRefused before now = ⊥
ReadsCert Undecided before now = ⊥
ReadsCert RoundsSpent before now = ⊥
ReadsCert Demand before now = ⊥
ReadsCert CertificateRefused before now = now ≡ with_opened before
ReadsCert Stalled before now = now ≡ with_opened before

-- How often a check opens NET and then CERT: each once at most, so what can be read only once is read whole.
abbrev pub ReadsBoth : Status → Openings → Openings → Type 0
ReadsBoth Done before now = now ≡ with_opened (with_opened before)
ReadsBoth OutOfMemory before now = (now ≡ before) ⊎ (now ≡ with_opened before)
ReadsBoth Usage before now = ⊥
ReadsBoth ReadFault before now = (now ≡ with_opened before) ⊎ (now ≡ with_opened (with_opened before))
ReadsBoth WriteFault before now = (now ≡ with_opened before) ⊎ (now ≡ with_opened (with_opened before))
ReadsBoth InputRefused before now = now ≡ with_opened before
ReadsBoth Undecided before now = ⊥
ReadsBoth RoundsSpent before now = ⊥
ReadsBoth Demand before now = ⊥
ReadsBoth CertificateRefused before now = now ≡ with_opened (with_opened before)
ReadsBoth Stalled before now = (now ≡ with_opened before) ⊎ (now ≡ with_opened (with_opened before))
