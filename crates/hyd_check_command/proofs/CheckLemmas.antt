-- How what a check leaves follows from what the calls in it leave.
use Rattle.std.proofs.Common.{◌≡◌, ◌≢◌, ℕ, List, [], Option, None, Some, ◌⊎◌, inl, inr, ◌∙◌, refl, sym, ap, subst}
use Rattle.std.proofs.Common.{append-nil}
use Rattle.std.specs.Prelude.{⊤}
use Rattle.hyd_io.specs.DeskBytes.{append_known, prepend_known}
use Rattle.hyd_io.specs.DeskCounts.{with_opened}
use Rattle.hyd_io.specs.declared.desk.Faults.{Faults}
use Rattle.hyd_io.specs.declared.desk.Openings.{Openings}
use Rattle.hyd_io.specs.declared.output.OutFault.TheVariants.{Fault, Stalled as Stall}
use Rattle.hyd_spec_lines.specs.Lines.{items_of, rows_in}
use Rattle.hyd_net.specs.declared.refusal_cause.Cause.{Cause}
use Rattle.hyd_spec.specs.ProgramTypes.{Project}
use Rattle.hyd_spec_input.specs.Project.{IsProject}
use Rattle.hyd_cert.specs.ReaderView.{ReaderView, fresh, to_come}
use Rattle.hyd_cert_check.specs.Checks.{CheckEnds, CheckBreaksOff}
use Rattle.hyd_cert_check.specs.ReaderAndPen.{Rose}
use Rattle.hyd_cert_check.specs.RecordByRecord.{IsPrinted}
use Rattle.hyd_spec_check_ends.specs.declared.CheckEnd.{CheckEnd}
use Rattle.hyd_spec_check_ends.specs.declared.CheckEnd.TheVariants.{Accepted, Refused}
use Rattle.hyd_cert_check.specs.declared.outcome.CheckFault.{CheckFault}
use Rattle.hyd_cert_check.specs.declared.outcome.CheckFault.TheVariants.{Read, Output}
use Rattle.hyd_theorems_on_checks.proofs.NeverRefusedNaming.{some_not_refused}
use Rattle.hyd_command_answers.specs.DeskContents.{Seen, IsUntouched, OnlyPrinted, OnlyPrintedFront, OnlyPrintedSome}
use Rattle.hyd_command_answers.specs.FaultsAndRefusals.{HasCause}
use Rattle.hyd_command_answers.specs.FaultsAndRefusals.{AnswersRefused}
use Rattle.hyd_check_command.specs.CheckAnswers.{AnswersCert, AnswersCheck, LeavesCheck, ReadsCert, ReadsBoth}
use Rattle.hyd_check_command.specs.CheckAnswers.{status_of_check, status_of_break}
use Rattle.hyd_command_answers.specs.declared.status.Status.{Status}
use Rattle.hyd_command_answers.specs.declared.status.Status.TheVariants.{Done, OutOfMemory, Usage, ReadFault, WriteFault}
use Rattle.hyd_command_answers.specs.declared.status.Status.TheVariants.{InputRefused, Undecided, RoundsSpent, Demand}
use Rattle.hyd_command_answers.specs.declared.status.Status.TheVariants.{CertificateRefused, Stalled}
use Rattle.hyd_command_answers.proofs.AnswerLemmas.{since_before}

-- ---- that only something was printed

append_nothing : (printed : Option (List ℕ)) → printed ≡ append_known printed []
append_nothing None = refl
append_nothing (Some known) = ap Some (sym (append-nil known))

pub untouched_prints : (before now : Seen) → IsUntouched before now → OnlyPrintedSome before now
untouched_prints before now u = record {
  files = u.files;
  written = u.written;
  text = [];
  printed = u.printed ∙ append_nothing before.printed;
}

-- where nothing was called, nothing was printed
pub prints_nothing : (same : Seen) → OnlyPrintedSome same same
prints_nothing same = untouched_prints same same (record { files = refl; written = refl; printed = refl })

line_prints : (line : List ℕ) (before now : Seen) → OnlyPrinted line before now → OnlyPrintedSome before now
line_prints line before now h = record { files = h.files; written = h.written; text = line; printed = h.printed }

front_prints : (line : List ℕ) (before now : Seen) → OnlyPrintedFront line before now → OnlyPrintedSome before now
front_prints line before now h = record {
  files = h.files;
  written = h.written;
  text = h.printed.1.front;
  printed = h.printed.1.out;
}

pub report_prints : (before now : Seen) → now.files ≡ before.files → now.written ≡ before.written
    → IsPrinted (λ printed. ⊤) before.printed now.printed → OnlyPrintedSome before now
report_prints before now f w p = record { files = f; written = w; text = p.report; printed = p.printed }

-- what was printed since a call that left it as it was
pub printed_since : (P : List ℕ → Type 0) (before between now : Option (List ℕ)) → between ≡ before
    → IsPrinted P between now → IsPrinted P before now
printed_since P before between now e p = subst (λ (o : Option (List ℕ)). IsPrinted P o now) e p

-- ---- what was read ahead

-- a reader that begins behind bytes has them still to come
pub comes_ahead : (ahead : List ℕ) (reader : ReaderView) (rest : Option (List ℕ)) (text : List ℕ)
    → reader ≡ record fresh { ahead = ahead } → prepend_known ahead rest ≡ Some text → to_come reader rest ≡ Some text
comes_ahead ahead reader rest text e told = ap (λ (r : ReaderView). to_come r rest) e ∙ told

-- a reader that has read nothing has all to come that the desk has left
nothing_ahead : (rest : Option (List ℕ)) → prepend_known [] rest ≡ rest
nothing_ahead None = refl
nothing_ahead (Some left) = refl

pub fresh_comes : (reader : ReaderView) (rest : Option (List ℕ)) (text : List ℕ) → reader ≡ fresh → rest ≡ Some text
    → to_come reader rest ≡ Some text
fresh_comes reader rest text e told =
    ap (λ (r : ReaderView). to_come r rest) e ∙ (nothing_ahead rest ∙ told)

-- ---- the end of a check

pub answers_end : (project : Project) (text : List ℕ) (end : CheckEnd) (before now : Seen)
    → IsPrinted (λ printed. CheckEnds project text printed end) before.printed now.printed
    → AnswersCert project text (status_of_check end) before now
answers_end project text Accepted before now h = h
answers_end project text Refused before now h = (
  h,
  λ is. some_not_refused project text h.report is h.holds,
)

pub leaves_end : (end : CheckEnd) (before now : Seen) → OnlyPrintedSome before now
    → LeavesCheck (status_of_check end) before now
leaves_end Accepted before now h = h
leaves_end Refused before now h = h

pub cause_of_end : (end : CheckEnd) (before now : Faults) → now ≡ before → HasCause (status_of_check end) before now
cause_of_end Accepted before now e = e
cause_of_end Refused before now e = e

pub reads_of_end : (end : CheckEnd) (before now : Openings) → now ≡ with_opened before
    → ReadsCert (status_of_check end) before now
reads_of_end Accepted before now e = e
reads_of_end Refused before now e = e

-- ---- a fault that breaks a check off

pub answers_break : (project : Project) (text : List ℕ) (fault : CheckFault) (before now : Seen)
    → IsPrinted (CheckBreaksOff project text) before.printed now.printed
    → AnswersCert project text (status_of_break fault) before now
answers_break project text Read before now h = inr h
answers_break project text (Output Fault) before now h = h
answers_break project text (Output Stall) before now h = h

pub leaves_break : (fault : CheckFault) (before now : Seen) → OnlyPrintedSome before now
    → LeavesCheck (status_of_break fault) before now
leaves_break Read before now h = h
leaves_break (Output Fault) before now h = h
leaves_break (Output Stall) before now h = h

pub cause_of_break : (fault : CheckFault) (before now : Faults) → Rose fault before now
    → HasCause (status_of_break fault) before now
cause_of_break Read before now e = e
cause_of_break (Output Fault) before now e = inr e
cause_of_break (Output Stall) before now e = e

pub reads_of_break : (fault : CheckFault) (before now : Openings) → now ≡ with_opened before
    → ReadsCert (status_of_break fault) before now
reads_of_break Read before now e = e
reads_of_break (Output Fault) before now e = e
reads_of_break (Output Stall) before now e = e

-- ---- a network was read, and nothing touched before

pub prints_since : (before between now : Seen) → IsUntouched before between → OnlyPrintedSome between now
    → OnlyPrintedSome before now
prints_since before between now u h = since_before (λ b. OnlyPrintedSome b now) before between u h

pub leaves_since : (status : Status) (before between now : Seen) → IsUntouched before between
    → LeavesCheck status between now → LeavesCheck status before now
leaves_since status before between now u h =
    since_before (λ b. LeavesCheck status b now) before between u h

-- the answer of the network of a text is one of the text
text_answers : (text certificate : List ℕ) (project : Project) (status : Status) (before now : Seen)
    → IsProject (rows_in (items_of text)) project → AnswersCert project certificate status before now
    → AnswersCheck text certificate status before now
text_answers text certificate project Done before now p h = record { project = project; is_network = p; holds = h }
text_answers text certificate project OutOfMemory before now p h = h
text_answers text certificate project Usage before now p h = absurd h
text_answers text certificate project ReadFault before now p h =
    inr (record { project = project; is_network = p; holds = h })
text_answers text certificate project WriteFault before now p h =
    record { project = project; is_network = p; holds = h }
text_answers text certificate project InputRefused before now p h = absurd h
text_answers text certificate project Undecided before now p h = absurd h
text_answers text certificate project RoundsSpent before now p h = absurd h
text_answers text certificate project Demand before now p h = absurd h
text_answers text certificate project CertificateRefused before now p h =
    record { project = project; is_network = p; holds = h }
text_answers text certificate project Stalled before now p h =
    record { project = project; is_network = p; holds = h }

pub answers_since : (text certificate : List ℕ) (project : Project) (status : Status) (before between now : Seen)
    → IsUntouched before between → IsProject (rows_in (items_of text)) project
    → AnswersCert project certificate status between now → AnswersCheck text certificate status before now
answers_since text certificate project status before between now u p h =
    text_answers text certificate project status before now p
    (since_before (λ b. AnswersCert project certificate status b now) before between u h)

-- how often files were opened, where NET was opened before
pub reads_both : (status : Status) (start opened end : Openings) → opened ≡ with_opened start
    → ReadsCert status opened end → ReadsBoth status start end
reads_both Done start opened end o h = h ∙ ap with_opened o
reads_both OutOfMemory start opened end o h = inr (h ∙ o)
reads_both Usage start opened end o h = absurd h
reads_both ReadFault start opened end o h = inr (h ∙ ap with_opened o)
reads_both WriteFault start opened end o h = inr (h ∙ ap with_opened o)
reads_both InputRefused start opened end o h = absurd h
reads_both Undecided start opened end o h = absurd h
reads_both RoundsSpent start opened end o h = absurd h
reads_both Demand start opened end o h = absurd h
reads_both CertificateRefused start opened end o h = h ∙ ap with_opened o
reads_both Stalled start opened end o h = inr (h ∙ ap with_opened o)

pub check_never_usage : (status : Status) (opened end : Openings) → ReadsCert status opened end → status ≢ Usage
check_never_usage status opened end h = λ e. subst (λ s. ReadsCert s opened end) e h

pub check_never_refused : (status : Status) (opened end : Openings) → ReadsCert status opened end
    → status ≢ InputRefused
check_never_refused status opened end h = λ e. subst (λ s. ReadsCert s opened end) e h

-- ---- the text has a fault

refusal_prints : (line : ℕ) (cause : Cause) (status : Status) (before now : Seen)
    → AnswersRefused line cause status before now → OnlyPrintedSome before now
refusal_prints line cause Done before now h = absurd h
refusal_prints line cause OutOfMemory before now h = untouched_prints before now h
refusal_prints line cause Usage before now h = absurd h
refusal_prints line cause ReadFault before now h = untouched_prints before now h
refusal_prints line cause WriteFault before now h = front_prints _ before now h
refusal_prints line cause InputRefused before now h = line_prints _ before now h
refusal_prints line cause Undecided before now h = absurd h
refusal_prints line cause RoundsSpent before now h = absurd h
refusal_prints line cause Demand before now h = absurd h
refusal_prints line cause CertificateRefused before now h = absurd h
refusal_prints line cause Stalled before now h = front_prints _ before now h

refusal_leaves : (line : ℕ) (cause : Cause) (status : Status) (before now : Seen)
    → AnswersRefused line cause status before now → LeavesCheck status before now
refusal_leaves line cause Done before now h = absurd h
refusal_leaves line cause OutOfMemory before now h = h
refusal_leaves line cause Usage before now h = absurd h
refusal_leaves line cause ReadFault before now h = untouched_prints before now h
refusal_leaves line cause WriteFault before now h = front_prints _ before now h
refusal_leaves line cause InputRefused before now h = record { line = line; cause = cause; only = h }
refusal_leaves line cause Undecided before now h = absurd h
refusal_leaves line cause RoundsSpent before now h = absurd h
refusal_leaves line cause Demand before now h = absurd h
refusal_leaves line cause CertificateRefused before now h = absurd h
refusal_leaves line cause Stalled before now h = front_prints _ before now h

pub refused_prints_since : (line : ℕ) (cause : Cause) (status : Status) (before between now : Seen)
    → IsUntouched before between → AnswersRefused line cause status between now → OnlyPrintedSome before now
refused_prints_since line cause status before between now u h =
    prints_since before between now u (refusal_prints line cause status between now h)

pub refused_check_leaves : (line : ℕ) (cause : Cause) (status : Status) (before between now : Seen)
    → IsUntouched before between → AnswersRefused line cause status between now
    → LeavesCheck status before now
refused_check_leaves line cause status before between now u h =
    leaves_since status before between now u (refusal_leaves line cause status between now h)

pub refusal_reads : (line : ℕ) (cause : Cause) (status : Status) (before now : Seen) (start opened end : Openings)
    → AnswersRefused line cause status before now → opened ≡ with_opened start → end ≡ opened
    → ReadsBoth status start end
refusal_reads line cause Done before now start opened end h o e = absurd h
refusal_reads line cause OutOfMemory before now start opened end h o e = inr (e ∙ o)
refusal_reads line cause Usage before now start opened end h o e = absurd h
refusal_reads line cause ReadFault before now start opened end h o e = inl (e ∙ o)
refusal_reads line cause WriteFault before now start opened end h o e = inl (e ∙ o)
refusal_reads line cause InputRefused before now start opened end h o e = e ∙ o
refusal_reads line cause Undecided before now start opened end h o e = absurd h
refusal_reads line cause RoundsSpent before now start opened end h o e = absurd h
refusal_reads line cause Demand before now start opened end h o e = absurd h
refusal_reads line cause CertificateRefused before now start opened end h o e = absurd h
refusal_reads line cause Stalled before now start opened end h o e = inl (e ∙ o)

-- ---- the text couldn't be had

module _ (status : Status) (before now : Seen) (u : IsUntouched before now) where
  pub ended_leaves : (status ≡ ReadFault) ⊎ (status ≡ OutOfMemory)
      → LeavesCheck status before now
  ended_leaves (inl e) =
      subst (λ (s : Status). LeavesCheck s before now) (sym e) (untouched_prints before now u)
  ended_leaves (inr e) = subst (λ (s : Status). LeavesCheck s before now) (sym e) u

  pub ended_refused : (line : ℕ) (cause : Cause) → (status ≡ ReadFault) ⊎ (status ≡ OutOfMemory)
      → AnswersRefused line cause status before now
  ended_refused line cause (inl e) = subst (λ (s : Status). AnswersRefused line cause s before now) (sym e) u
  ended_refused line cause (inr e) = subst (λ (s : Status). AnswersRefused line cause s before now) (sym e) u

  pub ended_answers : (text certificate : List ℕ) → (status ≡ ReadFault) ⊎ (status ≡ OutOfMemory)
      → AnswersCheck text certificate status before now
  ended_answers text certificate (inl e) =
      subst (λ (s : Status). AnswersCheck text certificate s before now) (sym e) (inl u)
  ended_answers text certificate (inr e) =
      subst (λ (s : Status). AnswersCheck text certificate s before now) (sym e) u

pub ended_reads : (status : Status) (start end : Openings) → (status ≡ ReadFault) ⊎ (status ≡ OutOfMemory)
    → end ≡ with_opened start → ReadsBoth status start end
ended_reads status start end (inl e) o = subst (λ (s : Status). ReadsBoth s start end) (sym e) (inl o)
ended_reads status start end (inr e) o = subst (λ (s : Status). ReadsBoth s start end) (sym e) (inr o)

pub ended_not_refused : (status : Status) → (status ≡ ReadFault) ⊎ (status ≡ OutOfMemory) → status ≢ InputRefused
ended_not_refused status (inl e) = λ same. let apart : ReadFault ≡ InputRefused = sym e ∙ same in cc
ended_not_refused status (inr e) = λ same. let apart : OutOfMemory ≡ InputRefused = sym e ∙ same in cc
