-- What the answers of the command `check` mean for the spread of a text.
-- Source: this program's.
use Rattle.std.specs.Prelude.{◌≡◌, ◌≢◌, ℕ, ◌⊎◌, List}
use Rattle.hyd_io.specs.declared.desk.Openings.{Openings}
use Rattle.hyd_io.specs.DeskBytes.{IsTold}
use Rattle.hyd_io.specs.DeskCounts.{with_opened}
use Rattle.hyd_spec.specs.ProgramTypes.{Project}
use Rattle.hyd_spec_check_ends.specs.declared.CheckEnd.TheVariants.{Accepted, Refused}
use Rattle.hyd_spec_spread.specs.Spreads.{Spread}
use Rattle.hyd_spec_spread_promises.specs.PromisesOfSpreadChecks.{CheckEndsOver, CheckBreaksOffOver}
use Rattle.hyd_spec_spread_rows.specs.TextsOfSpreads.{spread_in}
use Rattle.hyd_theorems_on_spread_checks.specs.CertificatesOfSpreadRuns.{IsCertificateOfRunOver}
use Rattle.hyd_cert_check.specs.RecordByRecord.{IsPrinted}
use Rattle.hyd_command_answers.specs.DeskContents.{Seen, IsUntouched, OnlyPrintedSome}
use Rattle.hyd_command_answers.specs.FaultsAndRefusals.{PrintsRefusal}
use Rattle.hyd_command_answers.specs.declared.status.Status.{Status}
use Rattle.hyd_command_answers.specs.declared.status.Status.TheVariants.{Done, OutOfMemory, ReadFault, WriteFault}
use Rattle.hyd_command_answers.specs.declared.status.Status.TheVariants.{CertificateRefused, InputRefused, Stalled}
use Rattle.hyd_command_answers.specs.declared.status.Status.TheVariants.{Usage}
use Rattle.hyd_check_command.specs.CheckAnswers.{ReadsCert}
use Rattle.hyd_spread_files.specs.RefusedSpreads.{GivesRun, RefusesSpread, PrintsSpreadRefusal}

-- What an answer says of the text of CERT, which is checked as that of a run of the network for the spread: it was
-- accepted, and its report printed; or it was refused, the report up to its refusal printed, and it isn't the
-- certificate of such a run with any slack; or memory ran out before anything was printed; or a fault broke the check
-- off, and nothing or a front of such a report was printed.
abbrev pub AnswersCertOver : Project → Spread → List ℕ → Status → Seen → Seen → Type 0
AnswersCertOver project spread text Done before now =
    IsPrinted (λ printed. CheckEndsOver project spread text printed Accepted) before.printed now.printed
AnswersCertOver project spread text CertificateRefused before now =
    IsPrinted (λ printed. CheckEndsOver project spread text printed Refused) before.printed now.printed
    × (IsCertificateOfRunOver project spread text → ⊥)
AnswersCertOver project spread text OutOfMemory before now = IsUntouched before now
AnswersCertOver project spread text ReadFault before now =
    IsUntouched before now ⊎ IsPrinted (CheckBreaksOffOver project spread text) before.printed now.printed
AnswersCertOver project spread text WriteFault before now =
    IsPrinted (CheckBreaksOffOver project spread text) before.printed now.printed
AnswersCertOver project spread text Stalled before now =
    IsPrinted (CheckBreaksOffOver project spread text) before.printed now.printed
AnswersCertOver project spread text status before now = ⊥

-- What an answer says of the text of a spread and of the file CERT: the text has a fault, and is refused with it; or it
-- gives a run, by which the text of CERT is checked where the desk tells it, and nothing is refused as input; or memory
-- ran out before anything was printed.
pub data AnswersCheckWithin (project : Project) (text cert : List ℕ) (status : Status) (before now : Seen) : Type 0
  where
    refuses : RefusesSpread project text status before now → AnswersCheckWithin project text cert status before now
    checks : GivesRun project text → status ≢ InputRefused
        → ((certificate : List ℕ) → IsTold before.files cert certificate
        → AnswersCertOver project (spread_in project text) certificate status before now)
        → AnswersCheckWithin project text cert status before now
    lacks_memory : status ≡ OutOfMemory → IsUntouched before now
        → AnswersCheckWithin project text cert status before now

-- What it leaves, also where the desk tells no text of CERT: want of memory leaves all untouched, a refusal of the
-- spread prints its one line, and every other answer leaves some text printed and nothing created or written.
abbrev pub LeavesCertOver : Status → Seen → Seen → Type 0
LeavesCertOver OutOfMemory before now = IsUntouched before now
LeavesCertOver Usage before now = ⊥
LeavesCertOver InputRefused before now = PrintsSpreadRefusal before now
LeavesCertOver status before now = OnlyPrintedSome before now

-- How often CERT is opened once the spread was read: once at most, when all memory is taken that the check needs; where
-- the spread is refused it isn't. Nothing is created.
abbrev pub ReadsCertOver : Status → Openings → Openings → Type 0
ReadsCertOver InputRefused before now = now ≡ before
ReadsCertOver WriteFault before now = (now ≡ before) ⊎ (now ≡ with_opened before)
ReadsCertOver Stalled before now = (now ≡ before) ⊎ (now ≡ with_opened before)
ReadsCertOver status before now = ReadsCert status before now

-- What the answer leaves, also where the desk tells no text: want of memory leaves all untouched, a refusal of NET or
-- of the spread prints its one line, and every other answer leaves some text printed and nothing created or written.
abbrev pub LeavesCheckOver : Status → Seen → Seen → Type 0
LeavesCheckOver OutOfMemory before now = IsUntouched before now
LeavesCheckOver Usage before now = ⊥
LeavesCheckOver InputRefused before now = PrintsRefusal before now ⊎ PrintsSpreadRefusal before now
LeavesCheckOver status before now = OnlyPrintedSome before now
