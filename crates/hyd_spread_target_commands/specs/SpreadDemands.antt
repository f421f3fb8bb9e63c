-- How a command answers for a spread that stops at a demand of which an end is out of range in the first period.
-- Source: this program's.
use Rattle.hyd_spec.specs.ProgramTypes.{Project}
use Rattle.hyd_spec_spread.specs.Spreads.{Spread}
use Rattle.hyd_spec_targets_within.specs.PromisesWithinSpreads.{NamesDemandWithin}
use Rattle.hyd_command_answers.specs.DeskContents.{Seen}
use Rattle.hyd_command_answers.specs.declared.status.Status.{Status}
use Rattle.hyd_command_answers.specs.declared.status.Status.TheVariants.{WriteFault, Demand, Stalled}
use Rattle.hyd_target_commands.specs.PrintedTexts.{Prints, PrintsFront}

-- the line of the first one was printed, or a front of it
abbrev pub AnswersDemandOver : Project → Spread → Status → Seen → Seen → Type 0
AnswersDemandOver project spread Demand before now = Prints (NamesDemandWithin project spread) before now
AnswersDemandOver project spread WriteFault before now = PrintsFront (NamesDemandWithin project spread) before now
AnswersDemandOver project spread Stalled before now = PrintsFront (NamesDemandWithin project spread) before now
AnswersDemandOver project spread status before now = ⊥
