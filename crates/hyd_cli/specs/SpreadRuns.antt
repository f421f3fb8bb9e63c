-- What the command `run` does for a spread, with files.
-- Source: this program's.
use Rattle.std.specs.Prelude.{◌≡◌, ℕ, zero, suc, ◌⊎◌, List}
use Rattle.hyd_io.specs.declared.desk.Openings.{Openings}
use Rattle.hyd_io.specs.DeskBytes.{IsTold}
use Rattle.hyd_io.specs.DeskCounts.{with_opened}
use Rattle.hyd_net.specs.declared.refusal_cause.Cause.{Cause}
use Rattle.hyd_spec.specs.ProgramTypes.{Project}
use Rattle.hyd_spec_input.specs.Faults.{IsFault, HasNoFault}
use Rattle.hyd_spec_spread.specs.Spreads.{Spread}
use Rattle.hyd_spec_spread_rows.specs.TextsOfSpreads.{spread_in}
use Rattle.hyd_run.specs.Runs.{sharpness_of}
use Rattle.hyd_spread_command.specs.PassedOn.{Asked}
use Rattle.hyd_command_words.specs.CommandGrammar.{RunOrder, SpreadRunOrder}
use Rattle.hyd_command_answers.specs.DeskContents.{Seen, IsUntouched, ChangesOnly}
use Rattle.hyd_command_answers.specs.FaultsAndRefusals.{AnswersRefused, OfNetwork}
use Rattle.hyd_command_answers.specs.OpeningsOfRuns.{OpensOnce}
use Rattle.hyd_command_answers.specs.WrittenCertificates.{Holds}
use Rattle.hyd_command_answers.specs.declared.status.Status.{Status}
use Rattle.hyd_command_answers.specs.declared.status.Status.TheVariants.{InputRefused, OutOfMemory, ReadFault}
use Rattle.hyd_open_command.specs.OpenAnswers.{AnswersRunOpenly}
use Rattle.hyd_spread_command.specs.PassedOn.{PrintsSpreadRefusal}
use Rattle.hyd_spread_command.specs.PassedOn.{IsNoSpread}
use Rattle.hyd_spread_command.specs.SpreadAnswers.{AnswersWithin}
use Rattle.hyd_spread_command.specs.PassedOn.{EndsAtNet}
use Rattle.hyd_cli.specs.RunAnswers.{AnswersRun, asked_for, settings_of}

-- What an order asks a run for a spread for.
abbrev pub asked_within : RunOrder → Spread → Asked
asked_within order spread = record {
  spread = spread;
  slack = order.slack;
  rounds = order.rounds;
  sharpness = sharpness_of (settings_of order);
}

-- What an answer says of a network that is run without a spread, with ends of periods that may be open by so many
-- seconds.
abbrev pub AnswersAlone : Project → RunOrder → ℕ → Status → Seen → Seen → Type 0
AnswersAlone project order zero status before now =
    AnswersRun project (settings_of order) order.files.cert status before now
AnswersAlone project order (suc seconds) status before now =
    AnswersRunOpenly project (asked_for order) order.files.cert status before now

-- What it says of the text of a spread: without a spread it is that of a run without one.
pub record AnswersRunByText (project : Project) (text : List ℕ) (order : RunOrder) (status : Status)
    (before now : Seen) : Type 0 where
  pub alone : IsNoSpread text → AnswersAlone project order order.slack status before now
  pub within : (IsNoSpread text → ⊥) → AnswersWithin project text (asked_within order (spread_in project text))
      order.files.cert status before now

-- Want of memory, and a fault in the reading of the spread, leave all untouched.
abbrev pub AnswersSpreadText : Project → List ℕ → RunOrder → Status → Seen → Seen → Type 0
AnswersSpreadText project text order OutOfMemory before now = IsUntouched before now
AnswersSpreadText project text order ReadFault before now = IsUntouched before now
AnswersSpreadText project text order status before now = AnswersRunByText project text order status before now

-- What an answer says of a text of NET without a fault and a text of the spread.
abbrev pub AnswersSpreadRun : (net text : List ℕ) → RunOrder → Status → Seen → Seen → Type 0
AnswersSpreadRun net text order OutOfMemory before now = IsUntouched before now
AnswersSpreadRun net text order ReadFault before now = IsUntouched before now
AnswersSpreadRun net text order status before now =
    OfNetwork net (λ project. AnswersSpreadText project text order status before now)

-- How often a run for a spread opens NET, then the file of the spread, and creates CERT: each once at most.
abbrev pub OpensThree : Status → Openings → Openings → Type 0
OpensThree status before now = EndsAtNet status before now ⊎ OpensOnce status (with_opened before) now

-- `run` for a spread: a text of NET with a fault is refused with it, and no other; its network is run for the spread,
-- or that is refused with its fault; CERT holds what was written, also where the texts aren't told; no other file is
-- changed; each file is opened or created once at most.
pub record DoesSpreadRun (order : SpreadRunOrder) (status : Status) (before now : Seen) (opened opens : Openings)
    : Type 0 where
  pub refused : (net : List ℕ) (line : ℕ) (why : Cause) → IsTold before.files order.run.files.net net
      → IsFault net line why → AnswersRefused line why status before now
  pub runs : (net text : List ℕ) → IsTold before.files order.run.files.net net → HasNoFault net
      → IsTold before.files order.spread text → AnswersSpreadRun net text order.run status before now
  pub refuses_spread : (net : List ℕ) → IsTold before.files order.run.files.net net → HasNoFault net
      → status ≡ InputRefused → PrintsSpreadRefusal before now
  pub holds : Holds status order.run.files.cert before now
  pub others : ChangesOnly order.run.files.cert before now
  pub once : OpensThree status opened opens
