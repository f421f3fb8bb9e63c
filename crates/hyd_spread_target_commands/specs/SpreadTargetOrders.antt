-- What `fire` and `closures` do for a spread, with files: what is said of what they were asked, of what the desk told
-- before and tells now, and of how often files were opened and created.
-- Source: this program's.
use Rattle.std.specs.Prelude.{◌≡◌, ℕ, ◌⊎◌, List}
use Rattle.hyd_io.specs.declared.desk.Openings.{Openings}
use Rattle.hyd_io.specs.DeskBytes.{IsTold}
use Rattle.hyd_io.specs.DeskCounts.{with_opened}
use Rattle.hyd_net.specs.declared.refusal_cause.Cause.{Cause}
use Rattle.hyd_spec_input.specs.Faults.{IsFault, HasNoFault}
use Rattle.hyd_command_words.specs.CommandGrammar.{SpreadFireOrder, SpreadClosuresOrder}
use Rattle.hyd_command_answers.specs.DeskContents.{Seen, IsUntouched, OnlyPrintedSome}
use Rattle.hyd_command_answers.specs.FaultsAndRefusals.{AnswersRefused, OfNetwork, PrintsRefusal}
use Rattle.hyd_command_answers.specs.declared.status.Status.{Status}
use Rattle.hyd_command_answers.specs.declared.status.Status.TheVariants.{OutOfMemory, Usage, ReadFault, InputRefused}
use Rattle.hyd_target_commands.specs.BracketAnswers.{RefusesName}
use Rattle.hyd_target_commands.specs.CommandsOnTargets.{OpensNet}
use Rattle.hyd_target_commands.specs.PrintedTexts.{Prints}
use Rattle.hyd_spread_files.specs.NetsRead.{EndsAtNet}
use Rattle.hyd_spread_files.specs.RefusedSpreads.{PrintsSpreadRefusal}
use Rattle.hyd_spread_target_commands.specs.SpreadBrackets.{AnswersSpreadFire}
use Rattle.hyd_spread_target_commands.specs.SpreadClosures.{AnswersSpreadClosures}

-- How often NET is opened, and then the file of the spread: each once at most, and nothing is created.
abbrev pub OpensNetAndSpread : Status → Openings → Openings → Type 0
OpensNetAndSpread status before now = EndsAtNet status before now ⊎ OpensNet status (with_opened before) now

-- What an answer leaves, also where the desk tells no text: want of memory and a fault of reading leave all untouched,
-- a refusal prints its one line, and every other answer leaves some text printed and nothing created or written.
abbrev pub LeavesTargetsOver : Status → Seen → Seen → Type 0
LeavesTargetsOver OutOfMemory before now = IsUntouched before now
LeavesTargetsOver ReadFault before now = IsUntouched before now
LeavesTargetsOver Usage before now = ⊥
LeavesTargetsOver InputRefused before now = PrintsRefusal before now ⊎ PrintsSpreadRefusal before now
LeavesTargetsOver status before now = OnlyPrintedSome before now

-- `fire` for a spread: a text of NET with a fault is refused with it, and no other; of its network within the spread
-- the bracket of the junction is found, or the spread is refused with its fault, or else the name; nothing is created
-- or written; each file is opened once at most.
pub record DoesSpreadFire (order : SpreadFireOrder) (status : Status) (before now : Seen) (opened opens : Openings) :
    Type 0 where
  pub refused : (net : List ℕ) (line : ℕ) (why : Cause) → IsTold before.files order.fire.net net
      → IsFault net line why → AnswersRefused line why status before now
  pub fires : (net text : List ℕ) → IsTold before.files order.fire.net net → HasNoFault net
      → IsTold before.files order.spread text → AnswersSpreadFire net text order.fire status before now
  pub refuses : (net : List ℕ) → IsTold before.files order.fire.net net → HasNoFault net → status ≡ InputRefused
      → PrintsSpreadRefusal before now
      ⊎ OfNetwork net (λ project. Prints (RefusesName project order.fire.junction) before now)
  pub only_prints : OnlyPrintedSome before now
  pub once : OpensNetAndSpread status opened opens

-- `closures` for a spread: a text of NET with a fault is refused with it, and no other; of its network within the
-- spread each pipe is shut alone, or the spread is refused with its fault; nothing is created or written; each file is
-- opened once at most.
pub record DoesSpreadClosures (order : SpreadClosuresOrder) (status : Status) (before now : Seen)
    (opened opens : Openings) : Type 0 where
  pub refused : (net : List ℕ) (line : ℕ) (why : Cause) → IsTold before.files order.closures.net net
      → IsFault net line why → AnswersRefused line why status before now
  pub closes : (net text : List ℕ) → IsTold before.files order.closures.net net → HasNoFault net
      → IsTold before.files order.spread text → AnswersSpreadClosures net text order.closures status before now
  pub refuses_spread : (net : List ℕ) → IsTold before.files order.closures.net net → HasNoFault net
      → status ≡ InputRefused → PrintsSpreadRefusal before now
  pub only_prints : OnlyPrintedSome before now
  pub once : OpensNetAndSpread status opened opens
