-- What the answers of the command `closures` mean for a spread.
-- Source: this program's.
use Rattle.std.specs.Prelude.{ℕ, ◌⊎◌, List}
use Rattle.hyd_num.specs.Rational.{Rational}
use Rattle.hyd_spec.specs.ProgramTypes.{Project}
use Rattle.hyd_spec_spread.specs.Spreads.{Spread}
use Rattle.hyd_spec_spread_runs.specs.RunsForSpreads.{AreDemandsInRange}
use Rattle.hyd_spec_targets_within.specs.PromisesWithinSpreads.{FindsClosuresWithin, ClosuresWithinBreakOff}
use Rattle.hyd_spec_targets_within.specs.PromisesWithinSpreads.{NamesDemandWithin}
use Rattle.hyd_command_words.specs.CommandGrammar.{ClosuresOrder}
use Rattle.hyd_command_answers.specs.DeskContents.{Seen, IsUntouched, OnlyPrintedSome}
use Rattle.hyd_command_answers.specs.FaultsAndRefusals.{OfNetwork}
use Rattle.hyd_command_answers.specs.declared.status.Status.{Status}
use Rattle.hyd_command_answers.specs.declared.status.Status.TheVariants.{Done, OutOfMemory, Usage, ReadFault}
use Rattle.hyd_command_answers.specs.declared.status.Status.TheVariants.{WriteFault, InputRefused, Demand, Stalled}
use Rattle.hyd_target_commands.specs.BracketAnswers.{target_in}
use Rattle.hyd_target_commands.specs.ClosuresAnswers.{AnswersClosures}
use Rattle.hyd_target_commands.specs.PrintedTexts.{Prints, PrintsFront}
use Rattle.hyd_spread_files.specs.RefusedSpreads.{PrintsSpreadRefusal}
use Rattle.hyd_spread_target_commands.specs.AnswersByTexts.{AnswersByText, UnlessUnread}

-- ---- a network within a spread

-- The lines of all closures: both ends of each demand of the first period are in range.
pub record AreClosuresTextsOver (project : Project) (spread : Spread) (target : Rational) (rounds : ℕ)
    (text : List ℕ) : Type 0 where
  pub in_range : AreDemandsInRange project spread 0
  pub finds : FindsClosuresWithin project spread target rounds text

-- A fault broke the lines of the closures off, or that of the first demand of which an end is out of range.
abbrev pub ClosuresOverCutOff : Project → Spread → Rational → ℕ → Seen → Seen → Type 0
ClosuresOverCutOff project spread target rounds before now =
    Prints (ClosuresWithinBreakOff project spread target rounds) before now
    ⊎ PrintsFront (NamesDemandWithin project spread) before now

-- What an answer says of a network within a spread: the lines of all closures were printed, or that of the first demand
-- of which an end is out of range; or memory ran out before anything was; or a fault broke it off.
abbrev pub AnswersClosuresOver : Project → Rational → ℕ → Spread → Status → Seen → Seen → Type 0
AnswersClosuresOver project target rounds spread Done before now =
    Prints (AreClosuresTextsOver project spread target rounds) before now
AnswersClosuresOver project target rounds spread OutOfMemory before now = IsUntouched before now
AnswersClosuresOver project target rounds spread Demand before now =
    Prints (NamesDemandWithin project spread) before now
AnswersClosuresOver project target rounds spread WriteFault before now =
    ClosuresOverCutOff project spread target rounds before now
AnswersClosuresOver project target rounds spread Stalled before now =
    ClosuresOverCutOff project spread target rounds before now
AnswersClosuresOver project target rounds spread status before now = ⊥

-- ---- texts

-- What it says of a network and the text of a spread.
abbrev pub AnswersClosuresByText : Project → List ℕ → ClosuresOrder → Status → Seen → Seen → Type 0
AnswersClosuresByText project text order status before now = AnswersByText
    (AnswersClosures project (target_in project order.pressure) order.rounds)
    (AnswersClosuresOver project (target_in project order.pressure) order.rounds) project text status before now

-- What it says of a text of NET without a fault and a text of the spread.
abbrev pub AnswersSpreadClosures : (net text : List ℕ) → ClosuresOrder → Status → Seen → Seen → Type 0
AnswersSpreadClosures net text order status before now = UnlessUnread
    (λ s b n. OfNetwork net (λ project. AnswersClosuresByText project text order s b n)) status before now

-- What it leaves of a network, also where the desk tells no text of the spread: want of memory and a fault of reading
-- leave all untouched, a refusal of the spread prints its one line, and every other answer leaves some text printed and
-- nothing created or written.
abbrev pub LeavesClosuresOver : Status → Seen → Seen → Type 0
LeavesClosuresOver OutOfMemory before now = IsUntouched before now
LeavesClosuresOver ReadFault before now = IsUntouched before now
LeavesClosuresOver Usage before now = ⊥
LeavesClosuresOver InputRefused before now = PrintsSpreadRefusal before now
LeavesClosuresOver status before now = OnlyPrintedSome before now
