-- What the answers of the command `closures` mean.
-- Source: this program's.
use Rattle.std.specs.Prelude.{ℕ, ◌⊎◌, List}
use Rattle.hyd_num.specs.Rational.{Rational}
use Rattle.hyd_spec.specs.ProgramTypes.{Project}
use Rattle.hyd_spec_certificates.specs.Valid.{DemandsAreInRange}
use Rattle.hyd_spec_pressure_targets.specs.PromisesOfTargets.{FindsClosures, ClosuresBreakOff, NamesDemand}
use Rattle.hyd_command_words.specs.CommandGrammar.{ClosuresOrder}
use Rattle.hyd_command_answers.specs.DeskContents.{Seen, IsUntouched}
use Rattle.hyd_command_answers.specs.FaultsAndRefusals.{OfNetwork}
use Rattle.hyd_command_answers.specs.declared.status.Status.{Status}
use Rattle.hyd_command_answers.specs.declared.status.Status.TheVariants.{Done, OutOfMemory, ReadFault, WriteFault}
use Rattle.hyd_command_answers.specs.declared.status.Status.TheVariants.{Demand, Stalled}
use Rattle.hyd_target_commands.specs.PrintedTexts.{Prints, PrintsFront}
use Rattle.hyd_target_commands.specs.BracketAnswers.{target_in}

-- The lines of all closures: the demands of the first period are in range.
pub record AreClosuresTexts (project : Project) (target : Rational) (rounds : ℕ) (text : List ℕ) : Type 0 where
  pub in_range : DemandsAreInRange project 0
  pub finds : FindsClosures project target rounds text

-- A fault broke the lines of the closures off, or that of the first demand out of range.
abbrev pub ClosuresCutOff : Project → Rational → ℕ → Seen → Seen → Type 0
ClosuresCutOff project target rounds before now =
    Prints (ClosuresBreakOff project target rounds) before now ⊎ PrintsFront (NamesDemand project) before now

-- What an answer says of a network: the lines of all closures were printed, or that of the first demand out of range;
-- or memory ran out before anything was; or a fault broke it off.
abbrev pub AnswersClosures : Project → Rational → ℕ → Status → Seen → Seen → Type 0
AnswersClosures project target rounds Done before now = Prints (AreClosuresTexts project target rounds) before now
AnswersClosures project target rounds OutOfMemory before now = IsUntouched before now
AnswersClosures project target rounds Demand before now = Prints (NamesDemand project) before now
AnswersClosures project target rounds WriteFault before now = ClosuresCutOff project target rounds before now
AnswersClosures project target rounds Stalled before now = ClosuresCutOff project target rounds before now
AnswersClosures project target rounds status before now = ⊥

-- What an answer says of a text of NET without a fault: want of memory and a fault of reading leave all untouched.
abbrev pub AnswersClosuresText : List ℕ → ClosuresOrder → Status → Seen → Seen → Type 0
AnswersClosuresText text order OutOfMemory before now = IsUntouched before now
AnswersClosuresText text order ReadFault before now = IsUntouched before now
AnswersClosuresText text order status before now = OfNetwork text (λ project.
    AnswersClosures project (target_in project order.pressure) order.rounds status before now)
