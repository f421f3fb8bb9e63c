-- What each command does, by the name of its answer: what is said of what it was asked, of what the desk told before
-- and tells now, of how often files were opened and created, and, of `gen`, of whether one can be written to.
-- Source: this program's.
use Rattle.std.specs.Prelude.{◌≡◌, ◌≢◌, ℕ, zero, suc, Bool, List, [], ◌∷◌, Option, Some, None}
use Rattle.hyd_io.specs.declared.desk.Openings.{Openings}
use Rattle.hyd_io.specs.DeskBytes.{IsTold}
use Rattle.hyd_net.specs.declared.refusal_cause.Cause.{Cause}
use Rattle.hyd_spec_input.specs.Faults.{IsFault, HasNoFault}
use Rattle.hyd_command_words.specs.CommandGrammar.{RunOrder, GenOrder, TwoFiles, Order, run, check, gen, fire, closures}
use Rattle.hyd_command_words.specs.CommandGrammar.{witness, meet, run_over, check_over, fire_over, closures_over}
use Rattle.hyd_command_answers.specs.DeskContents.{Seen, OnlyPrintedSome, ChangesOnly}
use Rattle.hyd_command_answers.specs.FaultsAndRefusals.{AnswersRefused}
use Rattle.hyd_command_answers.specs.OpeningsOfRuns.{OpensOnce}
use Rattle.hyd_command_answers.specs.WrittenCertificates.{Holds}
use Rattle.hyd_cli.specs.RunAnswers.{settings_of, asked_for}
use Rattle.hyd_cli.specs.RunAnswers.{AnswersText}
use Rattle.hyd_open_command.specs.PassedOn.{AnswersTextNaming}
use Rattle.hyd_open_command.specs.OpenAnswers.{AnswersTextOpenly}
use Rattle.hyd_open_certificates.specs.OpenFaults.{HasOpenHeader, LacksOpenHeader}
use Rattle.hyd_spread_command.specs.PassedOn.{AnswersCheck, ReadsBoth}
use Rattle.hyd_spread_command.specs.PassedOn.{AnswersOpenCheck}
use Rattle.hyd_spread_target_commands.specs.PassedOn.{DoesFire, DoesClosures}
use Rattle.hyd_spread_target_commands.specs.SpreadTargetOrders.{DoesSpreadFire, DoesSpreadClosures}
use Rattle.hyd_witness_commands.specs.CommandMeet.{DoesMeet}
use Rattle.hyd_written_witnesses.specs.CommandWitness.{DoesWitness}
use Rattle.hyd_spread_command.specs.SpreadOrders.{DoesSpreadCheck}
use Rattle.hyd_cli.specs.Answers.{AnswersUsage}
use Rattle.hyd_cli.specs.SpreadRuns.{DoesSpreadRun}
use Rattle.hyd_cli.specs.GenAnswers.{text_of, AnswersGen, ChangesBoth, CreatesBoth, KeepsCert, KeepsNet}
use Rattle.hyd_command_answers.specs.declared.status.Status.{Status}
use Rattle.hyd_command_answers.specs.declared.status.Status.TheVariants.{InputRefused}

-- What an answer says of a text without a fault where no links are named: its network is run, with ends of periods that
-- may be open by so many seconds.
abbrev pub AnswersPlainOrder : List ℕ → RunOrder → ℕ → Status → Seen → Seen → Type 0
AnswersPlainOrder text order zero status before now =
    AnswersText text (settings_of order) order.files.cert status before now
AnswersPlainOrder text order (suc seconds) status before now =
    AnswersTextOpenly text (asked_for order) order.files.cert status before now

-- What an answer says of a text without a fault: its network is run, with the flows of the links that are named if any
-- are, or the first name that doesn't fit is refused.
abbrev pub AnswersOrder : List ℕ → RunOrder → List (List ℕ) → Status → Seen → Seen → Type 0
AnswersOrder text order [] status before now = AnswersPlainOrder text order order.slack status before now
AnswersOrder text order (name ∷ names) status before now =
    AnswersTextNaming text (name ∷ names) (settings_of order) order.files.cert status before now

-- `run`: a text with a fault is refused with it, and one without is run, or a name refused; CERT holds what was written, also where the
-- text isn't told; no other file is changed; NET is opened and CERT created once at most.
pub record DoesRun (order : RunOrder) (status : Status) (before now : Seen) (opened opens : Openings) : Type 0 where
  pub refused : (text : List ℕ) (line : ℕ) (why : Cause) → IsTold before.files order.files.net text
      → IsFault text line why → AnswersRefused line why status before now
  pub runs : (text : List ℕ) → IsTold before.files order.files.net text → HasNoFault text
      → AnswersOrder text order order.flows status before now
  pub holds : Holds status order.files.cert before now
  pub others : ChangesOnly order.files.cert before now
  pub once : OpensOnce status opened opens

-- `check`: a text with a fault is refused with it, and no other; by its network the text of CERT is checked, as one of
-- version 4 where it begins with a header line of that version, and else as one of the others; nothing is created or
-- written; NET and CERT are opened once at most.
pub record DoesCheck (files : TwoFiles) (status : Status) (before now : Seen) (opened opens : Openings) : Type 0 where
  pub refused : (text : List ℕ) (line : ℕ) (why : Cause) → IsTold before.files files.net text
      → IsFault text line why → AnswersRefused line why status before now
  pub checks : (text certificate : List ℕ) → IsTold before.files files.net text → HasNoFault text
      → IsTold before.files files.cert certificate → LacksOpenHeader (Some certificate)
      → AnswersCheck text certificate status before now
  pub checks_openly : (text certificate : List ℕ) → IsTold before.files files.net text → HasNoFault text
      → IsTold before.files files.cert certificate → HasOpenHeader (Some certificate)
      → AnswersOpenCheck text certificate status before now
  pub not_refused : (text : List ℕ) → IsTold before.files files.net text → HasNoFault text → status ≢ InputRefused
  pub only_prints : OnlyPrintedSome before now
  pub once : ReadsBoth status opened opens

-- `gen`: where the generated text has a fault it is refused with it, and where it has none it is written and run; no
-- other files are changed; `create` is called twice at most; CERT is as it was, unless NET holds the whole text, and
-- NET, unless `create` was called. `writable` tells whether the file created last can be written to.
pub record DoesGen (order : GenOrder) (status : Status) (before now : Seen) (opened opens : Openings)
    (writable : Bool) : Type 0 where
  pub refused : (line : ℕ) (why : Cause) → IsFault (text_of order) line why → AnswersRefused line why status before now
  pub generates : HasNoFault (text_of order) → AnswersGen (text_of order) order.files status before now
      opened opens writable
  pub others : ChangesBoth order.files before now
  pub once : CreatesBoth status opened opens
  pub keeps_cert : KeepsCert (text_of order) order.files before now opened opens
  pub keeps_net : KeepsNet order.files before now opened opens

-- What is done by the command of the words, each as its own definition says it; where the words aren't a command the
-- usage line is printed, and no file is opened or created.
abbrev pub DoesOrder : Option Order → Status → Seen → Seen → Openings → Openings → Bool → Type 0
DoesOrder None status before now opened opens writable = AnswersUsage status before now × (opens ≡ opened)
DoesOrder (Some (run order)) status before now opened opens writable = DoesRun order status before now opened opens
DoesOrder (Some (check files)) status before now opened opens writable = DoesCheck files status before now opened opens
DoesOrder (Some (gen order)) status before now opened opens writable =
    DoesGen order status before now opened opens writable
DoesOrder (Some (fire order)) status before now opened opens writable = DoesFire order status before now opened opens
DoesOrder (Some (closures order)) status before now opened opens writable =
    DoesClosures order status before now opened opens
DoesOrder (Some (witness order)) status before now opened opens writable =
    DoesWitness order status before now opened opens
DoesOrder (Some (meet order)) status before now opened opens writable = DoesMeet order status before now opened opens
DoesOrder (Some (run_over order)) status before now opened opens writable =
    DoesSpreadRun order status before now opened opens
DoesOrder (Some (check_over order)) status before now opened opens writable =
    DoesSpreadCheck order status before now opened opens
DoesOrder (Some (fire_over order)) status before now opened opens writable =
    DoesSpreadFire order status before now opened opens
DoesOrder (Some (closures_over order)) status before now opened opens writable =
    DoesSpreadClosures order status before now opened opens
