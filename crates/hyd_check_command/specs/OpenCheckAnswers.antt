-- What the answers of the command `check` mean where CERT begins with a header line of version 4.
-- Source: this program's.
use Rattle.std.specs.Prelude.{ℕ, ◌⊎◌, List}
use Rattle.hyd_spec.specs.ProgramTypes.{Project}
use Rattle.hyd_spec_open_checks.specs.OpenChecks.{CheckEndsOpenly, CheckBreaksOffOpenly}
use Rattle.hyd_cert_check.specs.RecordByRecord.{IsPrinted}
use Rattle.hyd_spec_check_ends.specs.declared.CheckEnd.TheVariants.{Accepted, Refused}
use Rattle.hyd_command_answers.specs.DeskContents.{Seen, IsUntouched}
use Rattle.hyd_command_answers.specs.FaultsAndRefusals.{OfNetwork}
use Rattle.hyd_command_answers.specs.declared.status.Status.{Status}
use Rattle.hyd_command_answers.specs.declared.status.Status.TheVariants.{Done, OutOfMemory, ReadFault, WriteFault}
use Rattle.hyd_command_answers.specs.declared.status.Status.TheVariants.{CertificateRefused, Stalled}
use Rattle.hyd_check_command.specs.OpenCertificateOfRun.{IsCertificateOfOpenRun}

-- What an answer says of such a text, which is checked against a network: it was accepted as the certificate of a run
-- with some slack, and its report printed; or it was refused, the report up to its refusal printed, and it isn't the
-- certificate of a run with any slack; or memory ran out before anything was printed; or a fault broke the check off,
-- and nothing or a front of such a report was printed.
abbrev pub AnswersOpenCert : Project → List ℕ → Status → Seen → Seen → Type 0
AnswersOpenCert project text Done before now =
    IsPrinted (λ printed. CheckEndsOpenly project text printed Accepted) before.printed now.printed
AnswersOpenCert project text CertificateRefused before now =
    IsPrinted (λ printed. CheckEndsOpenly project text printed Refused) before.printed now.printed
    × (IsCertificateOfOpenRun project text → ⊥)
AnswersOpenCert project text OutOfMemory before now = IsUntouched before now
AnswersOpenCert project text ReadFault before now =
    IsUntouched before now ⊎ IsPrinted (CheckBreaksOffOpenly project text) before.printed now.printed
AnswersOpenCert project text WriteFault before now =
    IsPrinted (CheckBreaksOffOpenly project text) before.printed now.printed
AnswersOpenCert project text Stalled before now =
    IsPrinted (CheckBreaksOffOpenly project text) before.printed now.printed
AnswersOpenCert project text status before now = ⊥

-- What an answer says of a text of NET without a fault and such a text of CERT: want of memory and a fault in the
-- reading of NET leave all untouched.
abbrev pub AnswersOpenCheck : (text certificate : List ℕ) → Status → Seen → Seen → Type 0
AnswersOpenCheck text certificate OutOfMemory before now = IsUntouched before now
AnswersOpenCheck text certificate ReadFault before now = IsUntouched before now
    ⊎ OfNetwork text (λ project. AnswersOpenCert project certificate ReadFault before now)
AnswersOpenCheck text certificate status before now =
    OfNetwork text (λ project. AnswersOpenCert project certificate status before now)
