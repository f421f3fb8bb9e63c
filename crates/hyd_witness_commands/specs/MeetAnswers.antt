-- What the answers of the command `meet` mean.
-- Source: this program's.
use Rattle.std.specs.Prelude.{ℕ, List}
use Rattle.hyd_spec.specs.ProgramTypes.{Project}
use Rattle.hyd_spec_witnesses.specs.declared.Unmet.{Unmet}
use Rattle.hyd_spec_witness_answers.specs.PromisesOfWitnesses.{WitnessIsMet, WitnessIsUnmet, WitnessIsFaulty}
use Rattle.hyd_command_answers.specs.DeskContents.{Seen, IsUntouched}
use Rattle.hyd_command_answers.specs.FaultsAndRefusals.{OfNetwork}
use Rattle.hyd_command_answers.specs.declared.status.Status.{Status}
use Rattle.hyd_command_answers.specs.declared.status.Status.TheVariants.{Done, OutOfMemory, ReadFault, WriteFault}
use Rattle.hyd_command_answers.specs.declared.status.Status.TheVariants.{Undecided, CertificateRefused, Stalled}
use Rattle.hyd_target_commands.specs.PrintedTexts.{Prints, PrintsFront}

-- What is printed of a witness where the command comes to its end with a status: its periods are all met; or one of
-- them isn't, which is named with its first clause that fails; or a line can't be so, which is named.
abbrev pub IsMeetText : Project → List ℕ → Status → List ℕ → Type 0
IsMeetText project witness Done printed = WitnessIsMet project witness printed
IsMeetText project witness Undecided printed = (unmet : Unmet) × WitnessIsUnmet project witness printed unmet
IsMeetText project witness CertificateRefused printed = (number : ℕ) × WitnessIsFaulty project witness printed number
IsMeetText project witness status printed = ⊥

-- Of that line a front was printed.
abbrev pub MeetCutOff : Project → List ℕ → Seen → Seen → Type 0
MeetCutOff project witness before now =
    PrintsFront (λ text. (end : Status) × IsMeetText project witness end text) before now

-- What an answer says of the text of FILE, which is tried against a network: its line alone was printed; or memory ran
-- out or a read failed before anything was; or a fault broke the line off.
abbrev pub AnswersWitness : Project → List ℕ → Status → Seen → Seen → Type 0
AnswersWitness project witness Done before now = Prints (IsMeetText project witness Done) before now
AnswersWitness project witness OutOfMemory before now = IsUntouched before now
AnswersWitness project witness ReadFault before now = IsUntouched before now
AnswersWitness project witness WriteFault before now = MeetCutOff project witness before now
AnswersWitness project witness Undecided before now = Prints (IsMeetText project witness Undecided) before now
AnswersWitness project witness CertificateRefused before now =
    Prints (IsMeetText project witness CertificateRefused) before now
AnswersWitness project witness Stalled before now = MeetCutOff project witness before now
AnswersWitness project witness status before now = ⊥

-- What an answer says of a text of NET without a fault and a text of FILE: want of memory and a fault of reading, of
-- either file, leave all untouched.
abbrev pub AnswersMeet : (text witness : List ℕ) → Status → Seen → Seen → Type 0
AnswersMeet text witness OutOfMemory before now = IsUntouched before now
AnswersMeet text witness ReadFault before now = IsUntouched before now
AnswersMeet text witness status before now =
    OfNetwork text (λ project. AnswersWitness project witness status before now)
