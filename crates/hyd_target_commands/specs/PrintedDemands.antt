-- How a command answers that stops at a demand out of range in the first period.
-- Source: this program's.
use Rattle.hyd_spec.specs.ProgramTypes.{Project}
use Rattle.hyd_spec_pressure_targets.specs.PromisesOfTargets.{NamesDemand}
use Rattle.hyd_command_answers.specs.DeskContents.{Seen}
use Rattle.hyd_command_answers.specs.declared.status.Status.{Status}
use Rattle.hyd_command_answers.specs.declared.status.Status.TheVariants.{WriteFault, Demand, Stalled}
use Rattle.hyd_target_commands.specs.PrintedTexts.{Prints, PrintsFront}

-- the line of the first one was printed, or a front of it
abbrev pub AnswersDemand : Project → Status → Seen → Seen → Type 0
AnswersDemand project Demand before now = Prints (NamesDemand project) before now
AnswersDemand project WriteFault before now = PrintsFront (NamesDemand project) before now
AnswersDemand project Stalled before now = PrintsFront (NamesDemand project) before now
AnswersDemand project status before now = ⊥
