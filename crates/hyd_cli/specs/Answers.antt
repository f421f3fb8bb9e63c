-- What the answers of every command mean: what is asked of the desk, which call failed, how words and texts are
-- refused, and what is left whatever the text was.
-- Source: this program's.
use Rattle.std.specs.Prelude.{ℕ, List, [], ◌∷◌, Option, Some, None, IsTrue, Bool, ⊤}
use Rattle.hyd_command_words.specs.CommandGrammar.{Order, run, check, gen, fire, closures, witness, meet, run_over}
use Rattle.hyd_command_words.specs.CommandGrammar.{check_over, fire_over, closures_over}
use Rattle.hyd_cli.specs.WordsAndUsageLine.{usage_line}
use Rattle.hyd_command_answers.specs.declared.status.Status.{Status}
use Rattle.hyd_command_answers.specs.declared.status.Status.TheVariants.{OutOfMemory, Usage, ReadFault, WriteFault}
use Rattle.hyd_command_answers.specs.declared.status.Status.TheVariants.{InputRefused, Stalled}
use Rattle.hyd_command_answers.specs.DeskContents.{Seen, IsUntouched, OnlyPrinted, OnlyPrintedFront}
use Rattle.hyd_command_answers.specs.FaultsAndRefusals.{PrintsRefusal}
use Rattle.hyd_spread_target_commands.specs.PassedOn.{LeavesNet}
use Rattle.hyd_spread_target_commands.specs.SpreadTargetOrders.{LeavesTargetsOver}
use Rattle.hyd_open_command.specs.PassedOn.{LeavesNaming}
use Rattle.hyd_spread_command.specs.PassedOn.{LeavesCheck}
use Rattle.hyd_written_witnesses.specs.CommandWitness.{LeavesSearch}
use Rattle.hyd_spread_command.specs.SpreadAnswers.{LeavesOver}
use Rattle.hyd_spread_command.specs.SpreadChecks.{LeavesCheckOver}

-- ---- names

-- What a command asks of the desk: `run` opens NET and creates CERT, `check` opens both, `gen` creates both, `fire` and
-- `closures` open NET, `witness` opens NET and CERT and creates OUT, and `meet` opens NET and FILE; for a spread its
-- file is opened too. Words that aren't a command ask for nothing.
abbrev pub MayUse : (may_open may_create : List ℕ → Bool) → Option Order → Type 0
MayUse may_open may_create None = ⊤
MayUse may_open may_create (Some (run order)) = IsTrue (may_open order.files.net) × IsTrue (may_create order.files.cert)
MayUse may_open may_create (Some (check files)) = IsTrue (may_open files.net) × IsTrue (may_open files.cert)
MayUse may_open may_create (Some (gen order)) = IsTrue (may_create order.files.net) × IsTrue (may_create
    order.files.cert)
MayUse may_open may_create (Some (fire order)) = IsTrue (may_open order.net)
MayUse may_open may_create (Some (closures order)) = IsTrue (may_open order.net)
MayUse may_open may_create (Some (witness order)) =
    IsTrue (may_open order.files.net) × IsTrue (may_open order.files.cert) × IsTrue (may_create order.out)
MayUse may_open may_create (Some (meet order)) = IsTrue (may_open order.net) × IsTrue (may_open order.witness)
MayUse may_open may_create (Some (run_over order)) = IsTrue (may_open order.run.files.net)
    × IsTrue (may_open order.spread) × IsTrue (may_create order.run.files.cert)
MayUse may_open may_create (Some (check_over order)) = IsTrue (may_open order.files.net)
    × IsTrue (may_open order.spread) × IsTrue (may_open order.files.cert)
MayUse may_open may_create (Some (fire_over order)) = IsTrue (may_open order.fire.net) × IsTrue (may_open order.spread)
MayUse may_open may_create (Some (closures_over order)) =
    IsTrue (may_open order.closures.net) × IsTrue (may_open order.spread)

-- ---- words that aren't a command

-- Usage, and the usage line alone was printed; or want of memory, or a fault.
abbrev pub AnswersUsage : Status → Seen → Seen → Type 0
AnswersUsage Usage before now = OnlyPrinted usage_line before now
AnswersUsage OutOfMemory before now = IsUntouched before now
AnswersUsage ReadFault before now = ⊥
AnswersUsage WriteFault before now = OnlyPrintedFront usage_line before now
AnswersUsage Stalled before now = OnlyPrintedFront usage_line before now
AnswersUsage status before now = ⊥

-- ---- whatever the text was

-- What the answer of a run or of `gen` leaves, also where the desk tells no text: want of memory and a fault of reading
-- leave all untouched; a refusal prints its one line and creates nothing.
abbrev pub LeavesRun : Status → Seen → Seen → Type 0
LeavesRun OutOfMemory before now = IsUntouched before now
LeavesRun ReadFault before now = IsUntouched before now
LeavesRun Usage before now = OnlyPrinted usage_line before now
LeavesRun InputRefused before now = PrintsRefusal before now
LeavesRun status before now = ⊤

-- What the answer of a run leaves; where links were named, a refusal may be that of a name.
abbrev pub LeavesOrder : List (List ℕ) → Status → Seen → Seen → Type 0
LeavesOrder [] status before now = LeavesRun status before now
LeavesOrder (name ∷ names) status before now = LeavesNaming (name ∷ names) status before now

-- What an answer leaves, by what was asked. Words that aren't a command leave what a run may.
abbrev pub Leaves : Option Order → Status → Seen → Seen → Type 0
Leaves None status before now = LeavesRun status before now
Leaves (Some (run order)) status before now = LeavesOrder order.flows status before now
Leaves (Some (check files)) status before now = LeavesCheck status before now
Leaves (Some (gen order)) status before now = LeavesRun status before now
Leaves (Some (fire order)) status before now = LeavesNet status before now
Leaves (Some (closures order)) status before now = LeavesNet status before now
Leaves (Some (witness order)) status before now = LeavesSearch status before now
Leaves (Some (meet order)) status before now = LeavesNet status before now
Leaves (Some (run_over order)) status before now = LeavesOver status before now
Leaves (Some (check_over order)) status before now = LeavesCheckOver status before now
Leaves (Some (fire_over order)) status before now = LeavesTargetsOver status before now
Leaves (Some (closures_over order)) status before now = LeavesTargetsOver status before now
