-- How what a check for a spread leaves follows from what the calls in it leave.
use Rattle.std.proofs.Common.{◌≡◌, ℕ, List, inl, inr, ◌∙◌, ap}
use Rattle.hyd_io.specs.DeskCounts.{with_opened}
use Rattle.hyd_io.specs.declared.desk.Openings.{Openings}
use Rattle.hyd_io.specs.declared.output.OutFault.TheVariants.{Fault, Stalled as Stall}
use Rattle.hyd_net.specs.declared.refusal_cause.Cause.{Cause}
use Rattle.hyd_spec.specs.ProgramTypes.{Project}
use Rattle.hyd_spec_spread.specs.Spreads.{Spread}
use Rattle.hyd_spec_spread_promises.specs.PromisesOfSpreadChecks.{CheckEndsOver, CheckBreaksOffOver}
use Rattle.hyd_theorems_on_spread_checks.proofs.NeverRefusedOver.{over_not_refused}
use Rattle.hyd_cert_check.specs.RecordByRecord.{IsPrinted}
use Rattle.hyd_spec_check_ends.specs.declared.CheckEnd.{CheckEnd}
use Rattle.hyd_spec_check_ends.specs.declared.CheckEnd.TheVariants.{Accepted, Refused}
use Rattle.hyd_cert_check.specs.declared.outcome.CheckFault.{CheckFault}
use Rattle.hyd_cert_check.specs.declared.outcome.CheckFault.TheVariants.{Read, Output}
use Rattle.hyd_command_answers.specs.DeskContents.{Seen}
use Rattle.hyd_command_answers.specs.declared.status.Status.{Status}
use Rattle.hyd_command_answers.specs.declared.status.Status.TheVariants.{Done, OutOfMemory, Usage, ReadFault}
use Rattle.hyd_command_answers.specs.declared.status.Status.TheVariants.{WriteFault}
use Rattle.hyd_command_answers.specs.declared.status.Status.TheVariants.{InputRefused, Undecided, RoundsSpent, Demand}
use Rattle.hyd_command_answers.specs.declared.status.Status.TheVariants.{CertificateRefused, Stalled}
use Rattle.hyd_check_command.specs.CheckAnswers.{status_of_check, status_of_break, LeavesCheck, ReadsCert, ReadsBoth}
use Rattle.hyd_spread_files.specs.RefusedSpreads.{AnswersSpreadRefused}
use Rattle.hyd_spread_command.specs.SpreadChecks.{AnswersCertOver, LeavesCertOver, ReadsCertOver}
use Rattle.hyd_spread_files.proofs.RefusalLemmas.{front_prints}

-- ---- the end of a check

pub answers_over_end : (project : Project) (spread : Spread) (text : List ℕ) (end : CheckEnd) (before now : Seen)
    → IsPrinted (λ printed. CheckEndsOver project spread text printed end) before.printed now.printed
    → AnswersCertOver project spread text (status_of_check end) before now
answers_over_end project spread text Accepted before now h = h
answers_over_end project spread text Refused before now h = (
  h,
  λ is. over_not_refused project spread text is h.report h.holds,
)

-- ---- a fault that breaks a check off

pub answers_over_break : (project : Project) (spread : Spread) (text : List ℕ) (fault : CheckFault) (before now : Seen)
    → IsPrinted (CheckBreaksOffOver project spread text) before.printed now.printed
    → AnswersCertOver project spread text (status_of_break fault) before now
answers_over_break project spread text Read before now h = inr h
answers_over_break project spread text (Output Fault) before now h = h
answers_over_break project spread text (Output Stall) before now h = h

-- ---- what a check leaves and reads

pub cert_leaves : (status : Status) (before now : Seen) (opened end : Openings) → ReadsCert status opened end
    → LeavesCheck status before now → LeavesCertOver status before now
cert_leaves Done before now opened end r h = h
cert_leaves OutOfMemory before now opened end r h = h
cert_leaves Usage before now opened end r h = h
cert_leaves ReadFault before now opened end r h = h
cert_leaves WriteFault before now opened end r h = h
cert_leaves InputRefused before now opened end r h = absurd r
cert_leaves Undecided before now opened end r h = h
cert_leaves RoundsSpent before now opened end r h = h
cert_leaves Demand before now opened end r h = h
cert_leaves CertificateRefused before now opened end r h = h
cert_leaves Stalled before now opened end r h = h

pub cert_reads : (status : Status) (opened end : Openings) → ReadsCert status opened end
    → ReadsCertOver status opened end
cert_reads Done opened end h = h
cert_reads OutOfMemory opened end h = h
cert_reads Usage opened end h = h
cert_reads ReadFault opened end h = h
cert_reads WriteFault opened end h = inr h
cert_reads InputRefused opened end h = absurd h
cert_reads Undecided opened end h = h
cert_reads RoundsSpent opened end h = h
cert_reads Demand opened end h = h
cert_reads CertificateRefused opened end h = h
cert_reads Stalled opened end h = inr h

-- ---- a spread that is refused

pub refusal_leaves_cert : (line : ℕ) (cause : Cause) (status : Status) (before now : Seen)
    → AnswersSpreadRefused line cause status before now → LeavesCertOver status before now
refusal_leaves_cert line cause Done before now h = absurd h
refusal_leaves_cert line cause OutOfMemory before now h = absurd h
refusal_leaves_cert line cause Usage before now h = h
refusal_leaves_cert line cause ReadFault before now h = absurd h
refusal_leaves_cert line cause WriteFault before now h = front_prints _ before now h
refusal_leaves_cert line cause InputRefused before now h = record { line = line; cause = cause; only = h }
refusal_leaves_cert line cause Undecided before now h = absurd h
refusal_leaves_cert line cause RoundsSpent before now h = absurd h
refusal_leaves_cert line cause Demand before now h = absurd h
refusal_leaves_cert line cause CertificateRefused before now h = absurd h
refusal_leaves_cert line cause Stalled before now h = front_prints _ before now h

pub refusal_reads_cert : (line : ℕ) (cause : Cause) (status : Status) (before now : Seen) (start end : Openings)
    → AnswersSpreadRefused line cause status before now → end ≡ start → ReadsCertOver status start end
refusal_reads_cert line cause Done before now start end h e = absurd h
refusal_reads_cert line cause OutOfMemory before now start end h e = absurd h
refusal_reads_cert line cause Usage before now start end h e = h
refusal_reads_cert line cause ReadFault before now start end h e = absurd h
refusal_reads_cert line cause WriteFault before now start end h e = inl e
refusal_reads_cert line cause InputRefused before now start end h e = e
refusal_reads_cert line cause Undecided before now start end h e = absurd h
refusal_reads_cert line cause RoundsSpent before now start end h e = absurd h
refusal_reads_cert line cause Demand before now start end h e = absurd h
refusal_reads_cert line cause CertificateRefused before now start end h e = absurd h
refusal_reads_cert line cause Stalled before now start end h e = inl e

-- ---- the file of the spread was opened before

pub reads_two : (status : Status) (start opened end : Openings) → opened ≡ with_opened start
    → ReadsCertOver status opened end → ReadsBoth status start end
reads_two Done start opened end o h = h ∙ ap with_opened o
reads_two OutOfMemory start opened end o h = inr (h ∙ o)
reads_two Usage start opened end o h = absurd h
reads_two ReadFault start opened end o h = inr (h ∙ ap with_opened o)
reads_two WriteFault start opened end o (inl h) = inl (h ∙ o)
reads_two WriteFault start opened end o (inr h) = inr (h ∙ ap with_opened o)
reads_two InputRefused start opened end o h = h ∙ o
reads_two Undecided start opened end o h = absurd h
reads_two RoundsSpent start opened end o h = absurd h
reads_two Demand start opened end o h = absurd h
reads_two CertificateRefused start opened end o h = h ∙ ap with_opened o
reads_two Stalled start opened end o (inl h) = inl (h ∙ o)
reads_two Stalled start opened end o (inr h) = inr (h ∙ ap with_opened o)
