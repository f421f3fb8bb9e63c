-- What the commands `run` and `check` do for a spread with files: how often they are opened, and what `check` answers.
-- Source: this program's.
use Rattle.std.specs.Prelude.{◌≡◌, ◌≢◌, ℕ, ◌⊎◌, List, Some}
use Rattle.hyd_io.specs.declared.desk.Openings.{Openings}
use Rattle.hyd_io.specs.DeskBytes.{IsTold}
use Rattle.hyd_io.specs.DeskCounts.{with_opened}
use Rattle.hyd_net.specs.declared.refusal_cause.Cause.{Cause}
use Rattle.hyd_spec.specs.ProgramTypes.{Project}
use Rattle.hyd_spec_input.specs.Faults.{IsFault, HasNoFault}
use Rattle.hyd_open_certificates.specs.OpenFaults.{HasOpenHeader, LacksOpenHeader}
use Rattle.hyd_command_words.specs.CommandGrammar.{SpreadCheckOrder}
use Rattle.hyd_command_answers.specs.DeskContents.{Seen, IsUntouched, OnlyPrintedSome}
use Rattle.hyd_command_answers.specs.FaultsAndRefusals.{AnswersRefused, OfNetwork}
use Rattle.hyd_command_answers.specs.declared.status.Status.{Status}
use Rattle.hyd_command_answers.specs.declared.status.Status.TheVariants.{InputRefused, OutOfMemory, ReadFault}
use Rattle.hyd_check_command.specs.CheckAnswers.{AnswersCert, ReadsBoth}
use Rattle.hyd_check_command.specs.OpenCheckAnswers.{AnswersOpenCert}
use Rattle.hyd_spread_files.specs.RefusedSpreads.{PrintsSpreadRefusal}
use Rattle.hyd_spread_files.specs.SpreadFiles.{IsNoSpread}
use Rattle.hyd_spread_files.specs.NetsRead.{EndsAtNet}
use Rattle.hyd_spread_command.specs.SpreadChecks.{AnswersCheckWithin}

-- ---- files that are opened

-- How often a check for a spread opens NET, then the file of the spread, then CERT: each once at most.
abbrev pub ReadsThree : Status → Openings → Openings → Type 0
ReadsThree status before now = EndsAtNet status before now ⊎ ReadsBoth status (with_opened before) now

-- ---- the answers of a check

-- What an answer says of the file CERT that is checked without a spread: of its text where the desk tells it; and
-- nothing is refused as input.
pub record AnswersAnyCert (project : Project) (cert : List ℕ) (status : Status) (before now : Seen) : Type 0 where
  pub closed : (certificate : List ℕ) → IsTold before.files cert certificate → LacksOpenHeader (Some certificate)
      → AnswersCert project certificate status before now
  pub openly : (certificate : List ℕ) → IsTold before.files cert certificate → HasOpenHeader (Some certificate)
      → AnswersOpenCert project certificate status before now
  pub not_refused : status ≢ InputRefused

-- What it says of the text of a spread and of CERT: without a spread it is that of a check without one.
pub record AnswersByText (project : Project) (text cert : List ℕ) (status : Status) (before now : Seen) : Type 0 where
  pub alone : IsNoSpread text → AnswersAnyCert project cert status before now
  pub within : (IsNoSpread text → ⊥) → AnswersCheckWithin project text cert status before now

-- Want of memory, and a fault in the reading of the spread, leave all untouched.
abbrev pub AnswersSpreadCert : Project → (text cert : List ℕ) → Status → Seen → Seen → Type 0
AnswersSpreadCert project text cert OutOfMemory before now = IsUntouched before now
AnswersSpreadCert project text cert ReadFault before now =
    IsUntouched before now ⊎ AnswersByText project text cert ReadFault before now
AnswersSpreadCert project text cert status before now = AnswersByText project text cert status before now

-- What an answer says of a text of NET without a fault, a text of the spread and the file CERT.
abbrev pub AnswersSpreadCheck : (net text cert : List ℕ) → Status → Seen → Seen → Type 0
AnswersSpreadCheck net text cert OutOfMemory before now = IsUntouched before now
AnswersSpreadCheck net text cert ReadFault before now = IsUntouched before now
    ⊎ OfNetwork net (λ project. AnswersSpreadCert project text cert ReadFault before now)
AnswersSpreadCheck net text cert status before now =
    OfNetwork net (λ project. AnswersSpreadCert project text cert status before now)

-- ---- the command

-- `check` for a spread: a text of NET with a fault is refused with it, and no other; with its network CERT is checked
-- for the spread, or that is refused with its fault, also where the desk tells no text of CERT; nothing is created or
-- written; each file is opened once at most.
pub record DoesSpreadCheck (order : SpreadCheckOrder) (status : Status) (before now : Seen) (opened opens : Openings)
    : Type 0 where
  pub refused : (net : List ℕ) (line : ℕ) (why : Cause) → IsTold before.files order.files.net net
      → IsFault net line why → AnswersRefused line why status before now
  pub checks : (net text : List ℕ) → IsTold before.files order.files.net net → HasNoFault net
      → IsTold before.files order.spread text → AnswersSpreadCheck net text order.files.cert status before now
  pub refuses_spread : (net : List ℕ) → IsTold before.files order.files.net net → HasNoFault net
      → status ≡ InputRefused → PrintsSpreadRefusal before now
  pub only_prints : OnlyPrintedSome before now
  pub once : ReadsThree status opened opens
