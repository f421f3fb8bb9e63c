-- What the answers of the command `fire` mean for a spread.
-- Source: this program's.
use Rattle.std.specs.Prelude.{ℕ, ◌⊎◌, List}
use Rattle.hyd_num.specs.Rational.{Rational}
use Rattle.hyd_spec.specs.ProgramTypes.{Project}
use Rattle.hyd_spec_pressure_targets.specs.PromisesOfTargets.{IsJunctionNamed}
use Rattle.hyd_spec_spread.specs.Spreads.{Spread}
use Rattle.hyd_spec_spread_runs.specs.RunsForSpreads.{AreDemandsInRange}
use Rattle.hyd_spec_targets_within.specs.PromisesWithinSpreads.{FindsBracketWithin, NamesDemandWithin}
use Rattle.hyd_command_words.specs.CommandGrammar.{FireOrder}
use Rattle.hyd_command_answers.specs.DeskContents.{Seen, IsUntouched, OnlyPrintedSome}
use Rattle.hyd_command_answers.specs.FaultsAndRefusals.{OfNetwork}
use Rattle.hyd_command_answers.specs.declared.status.Status.{Status}
use Rattle.hyd_command_answers.specs.declared.status.Status.TheVariants.{Done, OutOfMemory, Usage, ReadFault}
use Rattle.hyd_command_answers.specs.declared.status.Status.TheVariants.{WriteFault, InputRefused, Demand, Stalled}
use Rattle.hyd_target_commands.specs.BracketAnswers.{AnswersFire, RefusesName, target_in}
use Rattle.hyd_target_commands.specs.PrintedTexts.{Prints, PrintsFront}
use Rattle.hyd_spread_files.specs.RefusedSpreads.{PrintsSpreadRefusal}
use Rattle.hyd_spread_target_commands.specs.AnswersByTexts.{AnswersByText, UnlessUnread}

-- ---- a network within a spread

-- The line of a junction's bracket: both ends of each demand of the first period are in range.
pub record IsBracketTextOver (project : Project) (spread : Spread) (name : List ℕ) (target : Rational) (rounds : ℕ)
    (text : List ℕ) : Type 0 where
  pub in_range : AreDemandsInRange project spread 0
  pub finds : FindsBracketWithin project spread name target rounds text

-- The line of the first demand of which an end is out of range in the first period, where the name is a junction's.
pub record StopsBracketOver (project : Project) (spread : Spread) (name text : List ℕ) : Type 0 where
  pub place : ℕ
  pub is_place : IsJunctionNamed project name place
  pub names : NamesDemandWithin project spread text

-- The line that is printed where the command comes to its end with a status.
abbrev pub IsFireTextOver : Project → Spread → List ℕ → Rational → ℕ → Status → List ℕ → Type 0
IsFireTextOver project spread name target rounds Done text = IsBracketTextOver project spread name target rounds text
IsFireTextOver project spread name target rounds InputRefused text = RefusesName project name text
IsFireTextOver project spread name target rounds Demand text = StopsBracketOver project spread name text
IsFireTextOver project spread name target rounds status text = ⊥

-- What an answer says of a network within a spread: its line was printed; or memory ran out before anything was; or a
-- fault broke it off, and a front of such a line was printed.
abbrev pub AnswersFireOver : Project → List ℕ → Rational → ℕ → Spread → Status → Seen → Seen → Type 0
AnswersFireOver project name target rounds spread Done before now =
    Prints (IsFireTextOver project spread name target rounds Done) before now
AnswersFireOver project name target rounds spread OutOfMemory before now = IsUntouched before now
AnswersFireOver project name target rounds spread InputRefused before now =
    Prints (IsFireTextOver project spread name target rounds InputRefused) before now
AnswersFireOver project name target rounds spread Demand before now =
    Prints (IsFireTextOver project spread name target rounds Demand) before now
AnswersFireOver project name target rounds spread WriteFault before now =
    PrintsFront (λ text. (end : Status) × IsFireTextOver project spread name target rounds end text) before now
AnswersFireOver project name target rounds spread Stalled before now =
    PrintsFront (λ text. (end : Status) × IsFireTextOver project spread name target rounds end text) before now
AnswersFireOver project name target rounds spread status before now = ⊥

-- ---- texts

-- What it says of a network and the text of a spread.
abbrev pub AnswersFireByText : Project → List ℕ → FireOrder → Status → Seen → Seen → Type 0
AnswersFireByText project text order status before now = AnswersByText
    (AnswersFire project order.junction (target_in project order.pressure) order.rounds)
    (AnswersFireOver project order.junction (target_in project order.pressure) order.rounds)
    project text status before now

-- What it says of a text of NET without a fault and a text of the spread.
abbrev pub AnswersSpreadFire : (net text : List ℕ) → FireOrder → Status → Seen → Seen → Type 0
AnswersSpreadFire net text order status before now = UnlessUnread
    (λ s b n. OfNetwork net (λ project. AnswersFireByText project text order s b n)) status before now

-- What it leaves of a network, also where the desk tells no text of the spread: want of memory and a fault of reading
-- leave all untouched, the spread or the junction's name is refused with its one line, and every other answer leaves
-- some text printed and nothing created or written.
abbrev pub LeavesFireOver : Project → List ℕ → Status → Seen → Seen → Type 0
LeavesFireOver project name OutOfMemory before now = IsUntouched before now
LeavesFireOver project name ReadFault before now = IsUntouched before now
LeavesFireOver project name Usage before now = ⊥
LeavesFireOver project name InputRefused before now =
    PrintsSpreadRefusal before now ⊎ Prints (RefusesName project name) before now
LeavesFireOver project name status before now = OnlyPrintedSome before now
