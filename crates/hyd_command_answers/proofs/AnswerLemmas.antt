-- How what a command leaves follows from what the calls in it leave.
use Rattle.std.proofs.Common.{◌≡◌, ◌≢◌, ℕ, List, [], Option, None, Some, ◌⊎◌, inl, inr, ◌∙◌, refl, sym, ap, subst}
use Rattle.std.proofs.Common.{is_some}
use Rattle.std.proofs.lemmas.Bool.{false≢true}
use Rattle.hyd_io.specs.DeskBytes.{Files, where_told, append_known, file_at, content_of}
use Rattle.hyd_io.specs.DeskCounts.{with_opened, with_created}
use Rattle.hyd_io.specs.declared.desk.Faults.{Faults}
use Rattle.hyd_io.specs.declared.desk.Openings.{Openings}
use Rattle.hyd_io.specs.declared.output.OutFault.{OutFault}
use Rattle.hyd_io.specs.declared.output.OutFault.TheVariants.{Fault, Stalled as Stall}
use Rattle.hyd_net.specs.declared.refusal_cause.Cause.{Cause}
use Rattle.hyd_spec_reports.specs.PromisesOfRunsAndChecks.{Outcome, Finished, Stopped, outcome_number}
use Rattle.hyd_spec_certificates.specs.declared.StopCause.TheVariants.{NoCertificate, TankOpen, RuleOpen, ControlOpen}
use Rattle.hyd_spec_certificates.specs.declared.StopCause.TheVariants.{EventOpen, RoundsSpent as Rounds}
use Rattle.hyd_spec_certificates.specs.declared.StopCause.TheVariants.{Demand as OutOfRange}
use Rattle.hyd_command_answers.specs.DeskContents.{Seen, IsUntouched}
use Rattle.hyd_command_answers.specs.FaultsAndRefusals.{HasCause, status_of_fault}
use Rattle.hyd_command_answers.specs.OpeningsOfRuns.{OpensOnce}
use Rattle.hyd_command_answers.specs.FaultsAndRefusals.{AnswersRefused}
use Rattle.hyd_command_answers.specs.OpeningsOfRuns.{OpensCert}
use Rattle.hyd_command_answers.specs.Statuses.{number_of, status_of_outcome}
use Rattle.hyd_command_answers.specs.declared.status.Status.{Status}
use Rattle.hyd_command_answers.specs.declared.status.Status.TheVariants.{Done, OutOfMemory, Usage, ReadFault}
use Rattle.hyd_command_answers.specs.declared.status.Status.TheVariants.{WriteFault}
use Rattle.hyd_command_answers.specs.declared.status.Status.TheVariants.{InputRefused, Undecided, RoundsSpent, Demand}
use Rattle.hyd_command_answers.specs.declared.status.Status.TheVariants.{CertificateRefused, Stalled}
use Rattle.hyd_lemmas.proofs.ListsOptionsAndResults.{same_item}
use Rattle.hyd_io.specs.declared.output.Channel.TheVariants.{Cert, Report}
use Rattle.hyd_io.specs.Output.{HasOutCause}

-- ---- what was untouched is the same

fields_of : Option Files → Option (List ℕ) → Option (List ℕ) → Seen
fields_of files written printed = record { files = files; written = written; printed = printed }

same_fields : (files files' : Option Files) (written written' printed printed' : Option (List ℕ)) → files' ≡ files
    → written' ≡ written → printed' ≡ printed → fields_of files' written' printed' ≡ fields_of files written printed
same_fields files files' written written' printed printed' f w p = rw (f, w, p) refl

same_seen : (before now : Seen) → IsUntouched before now → now ≡ before
unfolding fields_of
same_seen before now u =
    same_fields before.files now.files before.written now.written before.printed now.printed u.files u.written u.printed

-- a fact from a state on holds also from an earlier one, where nothing was touched between them
pub since_before : (P : Seen → Type 0) (before between : Seen) → IsUntouched before between → P between → P before
since_before P before between u h = subst P (same_seen before between u) h

-- ---- what a new file holds

-- what was written after the file was created
pub new_text : (files : Option Files) (begun written : Option (List ℕ)) (text : List ℕ) → begun ≡ where_told files []
    → written ≡ append_known begun text → written ≡ where_told files text
new_text None begun written text b w = rw b at w
new_text (Some told) begun written text b w = rw b at w

-- the file of that name holds what was written
pub new_file : (before files : Option Files) (target written : Option (List ℕ)) (name : List ℕ)
    → target ≡ where_told before name → is_some files ≡ is_some before → written ≡ content_of files target
    → file_at files name ≡ written
new_file None None target written name t s w = sym (rw t at w)
new_file None (Some told) target written name t s w = absurd (false≢true (sym s))
new_file (Some told) None target written name t s w = absurd (false≢true s)
new_file (Some old) (Some told) target written name t s w = sym (rw t at w)

-- ---- the end of a run

pub number_of_end : (outcome : Outcome) → number_of (status_of_outcome outcome) ≡ outcome_number outcome
number_of_end Finished = refl
number_of_end (Stopped (NoCertificate period problem side junction)) = refl
number_of_end (Stopped (TankOpen period tank lo hi)) = refl
number_of_end (Stopped (RuleOpen period rule clause lo hi)) = refl
number_of_end (Stopped (ControlOpen period control lo hi)) = refl
number_of_end (Stopped (EventOpen period earliest latest)) = refl
number_of_end (Stopped (Rounds period problem side rounds)) = refl
number_of_end (Stopped (OutOfRange period junction demand)) = refl

-- what holds of the four statuses of an end holds of the status of each
pub by_end : (P : Status → Type 0) (outcome : Outcome) → (Done ≡ status_of_outcome outcome → P Done)
    → (Undecided ≡ status_of_outcome outcome → P Undecided) → (RoundsSpent ≡ status_of_outcome outcome → P RoundsSpent)
    → (Demand ≡ status_of_outcome outcome → P Demand) → P (status_of_outcome outcome)
by_end P Finished d u r o = d refl
by_end P (Stopped (NoCertificate period problem side junction)) d u r o = u refl
by_end P (Stopped (TankOpen period tank lo hi)) d u r o = u refl
by_end P (Stopped (RuleOpen period rule clause lo hi)) d u r o = u refl
by_end P (Stopped (ControlOpen period control lo hi)) d u r o = u refl
by_end P (Stopped (EventOpen period earliest latest)) d u r o = u refl
by_end P (Stopped (Rounds period problem side rounds)) d u r o = r refl
by_end P (Stopped (OutOfRange period junction demand)) d u r o = o refl

pub cause_of_end : (outcome : Outcome) (before now : Faults) → now ≡ before
    → HasCause (status_of_outcome outcome) before now
cause_of_end outcome before now e =
    by_end (λ status. HasCause status before now) outcome (λ d. e) (λ d. e) (λ d. e) (λ d. e)

pub opens_of_end : (outcome : Outcome) (before now : Openings) → now ≡ with_created before
    → OpensCert (status_of_outcome outcome) before now
opens_of_end outcome before now e =
    by_end (λ status. OpensCert status before now) outcome (λ d. e) (λ d. e) (λ d. e) (λ d. e)

-- ---- a fault of output

pub cause_of_fault : (fault : OutFault) (before now : Faults) → HasOutCause Cert fault before now ⊎ HasOutCause Report fault before now
    → HasCause (status_of_fault fault) before now
cause_of_fault Fault before now (inl e) = inl e
cause_of_fault Fault before now (inr e) = inr e
cause_of_fault Stall before now (inl e) = e
cause_of_fault Stall before now (inr e) = e

pub opens_of_fault : (fault : OutFault) (before now : Openings) → now ≡ with_created before
    → OpensCert (status_of_fault fault) before now
opens_of_fault Fault before now e = inr e
opens_of_fault Stall before now e = inr e

-- ---- refusals

pub refusal_opens : (line : ℕ) (cause : Cause) (status : Status) (before now : Seen) (start end : Openings)
    → AnswersRefused line cause status before now → status ≢ ReadFault → end ≡ start → OpensCert status start end
refusal_opens line cause Done before now start end h n e = absurd h
refusal_opens line cause OutOfMemory before now start end h n e = e
refusal_opens line cause Usage before now start end h n e = absurd h
refusal_opens line cause ReadFault before now start end h n e = absurd (n refl)
refusal_opens line cause WriteFault before now start end h n e = inl e
refusal_opens line cause InputRefused before now start end h n e = e
refusal_opens line cause Undecided before now start end h n e = absurd h
refusal_opens line cause RoundsSpent before now start end h n e = absurd h
refusal_opens line cause Demand before now start end h n e = absurd h
refusal_opens line cause CertificateRefused before now start end h n e = absurd h
refusal_opens line cause Stalled before now start end h n e = inl e

pub refusal_never_usage : (line : ℕ) (cause : Cause) (status : Status) (before now : Seen)
    → AnswersRefused line cause status before now → status ≢ Usage
refusal_never_usage line cause status before now h = λ e. subst (λ s. AnswersRefused line cause s before now) e h

-- ---- the whole command, where nothing was touched before the network was there

pub refused_since : (line : ℕ) (cause : Cause) (status : Status) (before between now : Seen)
    → IsUntouched before between → AnswersRefused line cause status between now
    → AnswersRefused line cause status before now
refused_since line cause status before between now u h =
    since_before (λ b. AnswersRefused line cause status b now) before between u h

-- how often files were opened and created, where NET was opened before
pub opens_once : (status : Status) (start opened end : Openings) → opened ≡ with_opened start
    → OpensCert status opened end → OpensOnce status start end
opens_once Done start opened end o h = rw o at h
opens_once OutOfMemory start opened end o h = inr (h ∙ o)
opens_once Usage start opened end o h = absurd h
opens_once ReadFault start opened end o h = absurd h
opens_once WriteFault start opened end o (inl e) = inl (e ∙ o)
opens_once WriteFault start opened end o (inr e) = inr (rw o at e)
opens_once InputRefused start opened end o h = h ∙ o
opens_once Undecided start opened end o h = rw o at h
opens_once RoundsSpent start opened end o h = rw o at h
opens_once Demand start opened end o h = rw o at h
opens_once CertificateRefused start opened end o h = absurd h
opens_once Stalled start opened end o (inl e) = inl (e ∙ o)
opens_once Stalled start opened end o (inr e) = inr (rw o at e)

-- the same fault is refused by the same line
pub same_refusal : (line other : ℕ) (cause second : Cause) (status : Status) (before now : Seen) → line ≡ other
    → cause ≡ second → AnswersRefused line cause status before now → AnswersRefused other second status before now
same_refusal line other cause second status before now l c h =
    subst (λ w. AnswersRefused other w status before now) c (subst (λ n. AnswersRefused n cause status before now) l h)

-- ---- a run that was put out

-- a new file is the target, and no other one
pub other_target : (files : Option Files) (target : Option (List ℕ)) (name other : List ℕ)
    → target ≡ where_told files name → other ≢ name → target ≢ Some other
other_target None target name other t n = λ e. false≢true (ap (λ (o : Option (List ℕ)). is_some o) (sym t ∙ e))
other_target (Some told) target name other t n = λ e. n (same_item _ other name (sym e ∙ t))

-- what was printed since is what was printed after the call that left it as it was
pub printed_since : (before created now : Option (List ℕ)) (text : List ℕ) → created ≡ before
    → now ≡ append_known created text → now ≡ append_known before text
printed_since before created now text e p = rw e at p
