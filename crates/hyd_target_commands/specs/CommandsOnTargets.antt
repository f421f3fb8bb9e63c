-- What `fire` and `closures` do: what is said of what they were asked, of what the desk told before and tells now, and of
-- how often files were opened and created.
-- Source: this program's.
use Rattle.std.specs.Prelude.{◌≡◌, ℕ, ◌⊎◌, List}
use Rattle.hyd_io.specs.declared.desk.Openings.{Openings}
use Rattle.hyd_io.specs.DeskBytes.{IsTold}
use Rattle.hyd_io.specs.DeskCounts.{with_opened}
use Rattle.hyd_net.specs.declared.refusal_cause.Cause.{Cause}
use Rattle.hyd_spec_input.specs.Faults.{IsFault, HasNoFault}
use Rattle.hyd_command_words.specs.CommandGrammar.{FireOrder, ClosuresOrder}
use Rattle.hyd_command_answers.specs.DeskContents.{Seen, IsUntouched, OnlyPrintedSome}
use Rattle.hyd_command_answers.specs.FaultsAndRefusals.{AnswersRefused, PrintsRefusal}
use Rattle.hyd_command_answers.specs.declared.status.Status.{Status}
use Rattle.hyd_command_answers.specs.declared.status.Status.TheVariants.{Done, OutOfMemory, Usage, ReadFault, WriteFault}
use Rattle.hyd_command_answers.specs.declared.status.Status.TheVariants.{InputRefused, Undecided, RoundsSpent, Demand}
use Rattle.hyd_command_answers.specs.declared.status.Status.TheVariants.{CertificateRefused, Stalled}
use Rattle.hyd_target_commands.specs.BracketAnswers.{AnswersFireText}
use Rattle.hyd_target_commands.specs.ClosuresAnswers.{AnswersClosuresText}

-- NET is opened once, but where memory ran out before, and nothing is created.
abbrev pub OpensNet : Status → Openings → Openings → Type 0
OpensNet Done before now = now ≡ with_opened before
OpensNet OutOfMemory before now = (now ≡ before) ⊎ (now ≡ with_opened before)
OpensNet Usage before now = ⊥
OpensNet ReadFault before now = now ≡ with_opened before
OpensNet WriteFault before now = now ≡ with_opened before
OpensNet InputRefused before now = now ≡ with_opened before
OpensNet Undecided before now = ⊥
OpensNet RoundsSpent before now = ⊥
OpensNet Demand before now = now ≡ with_opened before
OpensNet CertificateRefused before now = ⊥
OpensNet Stalled before now = now ≡ with_opened before

-- What an answer leaves, also where the desk tells no text: want of memory and a fault of reading leave all untouched, a
-- refusal prints its one line, and every other answer leaves some text printed and nothing created or written.
abbrev pub LeavesNet : Status → Seen → Seen → Type 0
LeavesNet OutOfMemory before now = IsUntouched before now
LeavesNet ReadFault before now = IsUntouched before now
LeavesNet InputRefused before now = PrintsRefusal before now
LeavesNet status before now = OnlyPrintedSome before now

-- `fire`: a text with a fault is refused with it, and of the network of one without the bracket of the junction is
-- found; nothing is created or written; NET is opened once at most.
pub record DoesFire (order : FireOrder) (status : Status) (before now : Seen) (opened opens : Openings) : Type 0 where
  pub refused : (text : List ℕ) (line : ℕ) (why : Cause) → IsTold before.files order.net text
      → IsFault text line why → AnswersRefused line why status before now
  pub fires : (text : List ℕ) → IsTold before.files order.net text → HasNoFault text
      → AnswersFireText text order status before now
  pub only_prints : OnlyPrintedSome before now
  pub once : OpensNet status opened opens

-- `closures`: a text with a fault is refused with it, and of the network of one without each pipe is shut alone; nothing
-- is created or written; NET is opened once at most.
pub record DoesClosures (order : ClosuresOrder) (status : Status) (before now : Seen) (opened opens : Openings) :
    Type 0 where
  pub refused : (text : List ℕ) (line : ℕ) (why : Cause) → IsTold before.files order.net text
      → IsFault text line why → AnswersRefused line why status before now
  pub closes : (text : List ℕ) → IsTold before.files order.net text → HasNoFault text
      → AnswersClosuresText text order status before now
  pub only_prints : OnlyPrintedSome before now
  pub once : OpensNet status opened opens
