-- How the answers on a text that begins with a header line of version 4 follow from what its check gives, and that no
-- text both begins with one and doesn't.
use Rattle.std.proofs.Common.{◌≡◌, ℕ, List, [], ◌∷◌, ◌++◌, Some, ◌⊎◌, inl, inr, ◌∙◌, refl, sym, ap, subst}
use Rattle.std.proofs.Common.{append_assoc}
use Rattle.hyd_io.specs.declared.output.OutFault.TheVariants.{Fault, Stalled as Stall}
use Rattle.hyd_net.specs.Sound.{IsSound}
use Rattle.hyd_spec_lines.specs.Lines.{items_of, rows_in}
use Rattle.hyd_spec.specs.ProgramTypes.{Project}
use Rattle.hyd_spec_input.specs.Project.{IsProject}
use Rattle.hyd_spec_open_ends.specs.PromisesOfOpenRuns.{CheckAcceptsOpenly}
use Rattle.hyd_spec_open_checks.specs.OpenChecks.{open_header_for, OpenCheckRefusal, grammar, counts, record_refused}
use Rattle.hyd_spec_open_checks.specs.OpenChecks.{other_end, CheckEndsOpenly, CheckBreaksOffOpenly}
use Rattle.hyd_cert.proofs.TextsAtFault.{has_rest}
use Rattle.hyd_open_certificates.specs.OpenTexts.{IsOpenCertificate}
use Rattle.hyd_open_certificates.specs.OpenFaults.{HasOpenHeader, LacksOpenHeader}
use Rattle.hyd_open_certificates.proofs.WholeOpenTexts.{refused, refused_counts}
use Rattle.hyd_theorems_on_open_ends.proofs.HistoriesOverOpenEnds.{every_keeping_history}
use Rattle.hyd_theorems_on_open_refusals.proofs.RecordsOfRuns.{no_record_refused, no_end_refused}
use Rattle.hyd_cert_check.specs.RecordByRecord.{IsPrinted}
use Rattle.hyd_spec_check_ends.specs.declared.CheckEnd.{CheckEnd}
use Rattle.hyd_spec_check_ends.specs.declared.CheckEnd.TheVariants.{Accepted, Refused}
use Rattle.hyd_cert_check.specs.declared.outcome.CheckFault.{CheckFault}
use Rattle.hyd_cert_check.specs.declared.outcome.CheckFault.TheVariants.{Read, Output}
use Rattle.hyd_command_answers.specs.DeskContents.{Seen, IsUntouched}
use Rattle.hyd_command_answers.specs.declared.status.Status.{Status}
use Rattle.hyd_command_answers.specs.declared.status.Status.TheVariants.{Done, OutOfMemory, Usage, ReadFault, WriteFault}
use Rattle.hyd_command_answers.specs.declared.status.Status.TheVariants.{InputRefused, Undecided, RoundsSpent, Demand}
use Rattle.hyd_command_answers.specs.declared.status.Status.TheVariants.{CertificateRefused, Stalled}
use Rattle.hyd_command_answers.proofs.AnswerLemmas.{since_before}
use Rattle.hyd_check_command.specs.CheckAnswers.{status_of_check, status_of_break}
use Rattle.hyd_check_command.specs.OpenCertificateOfRun.{IsCertificateOfOpenRun}
use Rattle.hyd_check_command.specs.OpenCheckAnswers.{AnswersOpenCert, AnswersOpenCheck}

-- ---- the header line

pub not_both : (text : List ℕ) → HasOpenHeader (Some text) → LacksOpenHeader (Some text) → ⊥
not_both text has lacks =
    let h = has_rest (has.line ++ (10 ∷ [])) has.rest text (sym has.begins) in
    lacks has.header has.line h.left has.is_header (ap Some (h.whole ∙ append_assoc has.line (10 ∷ []) h.left))

-- ---- no certificate of a run with a slack is refused

module _ (project : Project) (sound : IsSound project) (text : List ℕ) (is : IsCertificateOfOpenRun project text) where
  accepts : CheckAcceptsOpenly project text
  accepts = record {
    slack = is.slack;
    founds = is.founds;
    left = is.left;
    is_run = is.is_run;
    certificate = is.certificate;
    every_history = every_keeping_history project sound is.slack is.founds is.left is.is_run;
  }

  its_text : IsOpenCertificate (open_header_for project) text
  its_text = record {
    known = refl;
    rows = _;
    periods = _;
    finished = is.left.known.finished;
    is_text = is.certificate;
  }

  pub open_not_refused : (printed : List ℕ) → OpenCheckRefusal project text printed → ⊥
  open_not_refused printed (grammar refuses) =
      refused (open_header_for project) (open_header_for project) text refuses.number refuses.is_fault its_text
  open_not_refused printed (counts refuses) =
      refused_counts (open_header_for project) text refuses.other_header its_text
  open_not_refused printed (record_refused cause refuses) = no_record_refused project text printed cause accepts refuses
  open_not_refused printed (other_end refuses) = no_end_refused project text printed accepts refuses

-- ---- the end of a check

pub answers_open_end : (project : Project) → IsSound project → (text : List ℕ) (end : CheckEnd) (before now : Seen)
    → IsPrinted (λ printed. CheckEndsOpenly project text printed end) before.printed now.printed
    → AnswersOpenCert project text (status_of_check end) before now
answers_open_end project sound text Accepted before now h = h
answers_open_end project sound text Refused before now h = (
  h,
  λ is. open_not_refused project sound text is h.report h.holds,
)

-- ---- a fault that breaks a check off

pub answers_open_break : (project : Project) (text : List ℕ) (fault : CheckFault) (before now : Seen)
    → IsPrinted (CheckBreaksOffOpenly project text) before.printed now.printed
    → AnswersOpenCert project text (status_of_break fault) before now
answers_open_break project text Read before now h = inr h
answers_open_break project text (Output Fault) before now h = h
answers_open_break project text (Output Stall) before now h = h

-- ---- a network was read, and nothing touched before

-- the answer of the network of a text is one of the text
text_open_answers : (text certificate : List ℕ) (project : Project) (status : Status) (before now : Seen)
    → IsProject (rows_in (items_of text)) project → AnswersOpenCert project certificate status before now
    → AnswersOpenCheck text certificate status before now
text_open_answers text certificate project Done before now p h =
    record { project = project; is_network = p; holds = h }
text_open_answers text certificate project OutOfMemory before now p h = h
text_open_answers text certificate project Usage before now p h = absurd h
text_open_answers text certificate project ReadFault before now p h =
    inr (record { project = project; is_network = p; holds = h })
text_open_answers text certificate project WriteFault before now p h =
    record { project = project; is_network = p; holds = h }
text_open_answers text certificate project InputRefused before now p h = absurd h
text_open_answers text certificate project Undecided before now p h = absurd h
text_open_answers text certificate project RoundsSpent before now p h = absurd h
text_open_answers text certificate project Demand before now p h = absurd h
text_open_answers text certificate project CertificateRefused before now p h =
    record { project = project; is_network = p; holds = h }
text_open_answers text certificate project Stalled before now p h =
    record { project = project; is_network = p; holds = h }

pub open_answers_since : (text certificate : List ℕ) (project : Project) (status : Status) (before between now : Seen)
    → IsUntouched before between → IsProject (rows_in (items_of text)) project
    → AnswersOpenCert project certificate status between now → AnswersOpenCheck text certificate status before now
open_answers_since text certificate project status before between now u p h =
    text_open_answers text certificate project status before now p
    (since_before (λ b. AnswersOpenCert project certificate status b now) before between u h)

-- ---- the text of NET couldn't be had

pub ended_open_answers : (status : Status) (before now : Seen) → IsUntouched before now → (text certificate : List ℕ)
    → (status ≡ ReadFault) ⊎ (status ≡ OutOfMemory) → AnswersOpenCheck text certificate status before now
ended_open_answers status before now u text certificate (inl e) =
    subst (λ (s : Status). AnswersOpenCheck text certificate s before now) (sym e) (inl u)
ended_open_answers status before now u text certificate (inr e) =
    subst (λ (s : Status). AnswersOpenCheck text certificate s before now) (sym e) u
