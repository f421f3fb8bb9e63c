-- What the answers of the command `fire` mean.
-- Source: this program's.
use Rattle.std.specs.Prelude.{◌≡◌, ℕ, ℤ, List}
use Rattle.hyd_num.specs.Rational.{Rational}
use Rattle.hyd_net.specs.declared.refusal_cause.Cause.TheVariants.{UnknownName}
use Rattle.hyd_spec.specs.ProgramTypes.{Project}
use Rattle.hyd_spec.specs.DemandsHeadsAndPumpLifts.{is_us}
use Rattle.hyd_spec_certificates.specs.Valid.{DemandsAreInRange}
use Rattle.hyd_spec_pressure_targets.specs.PromisesOfTargets.{IsJunctionNamed, NamesNoJunction, FindsBracket, NamesDemand}
use Rattle.hyd_report.specs.RefusedText.{refused_text_line}
use Rattle.hyd_targets.specs.Inquiries.{target_pressure}
use Rattle.hyd_command_words.specs.CommandGrammar.{FireOrder}
use Rattle.hyd_command_answers.specs.DeskContents.{Seen, IsUntouched}
use Rattle.hyd_command_answers.specs.FaultsAndRefusals.{OfNetwork}
use Rattle.hyd_command_answers.specs.declared.status.Status.{Status}
use Rattle.hyd_command_answers.specs.declared.status.Status.TheVariants.{Done, OutOfMemory, ReadFault, WriteFault}
use Rattle.hyd_command_answers.specs.declared.status.Status.TheVariants.{InputRefused, Demand, Stalled}
use Rattle.hyd_target_commands.specs.PrintedTexts.{Prints, PrintsFront}

-- A pressure in billionths of the network's pressure unit, in head ticks.
abbrev pub target_in : Project → ℤ → Rational
target_in project nano = target_pressure (is_us project) nano

-- The line of a junction's bracket: the demands of the first period are in range.
pub record IsBracketText (project : Project) (name : List ℕ) (target : Rational) (rounds : ℕ) (text : List ℕ) :
    Type 0 where
  pub in_range : DemandsAreInRange project 0
  pub finds : FindsBracket project name target rounds text

-- The line of a name that is no junction's.
pub record RefusesName (project : Project) (name text : List ℕ) : Type 0 where
  pub no_junction : NamesNoJunction project name
  pub is_line : text ≡ refused_text_line 0 UnknownName

-- The line of the first demand out of range in the first period, where the name is a junction's.
pub record StopsBracket (project : Project) (name text : List ℕ) : Type 0 where
  pub place : ℕ
  pub is_place : IsJunctionNamed project name place
  pub names : NamesDemand project text

-- The line that is printed where the command comes to its end with a status.
abbrev pub IsFireText : Project → List ℕ → Rational → ℕ → Status → List ℕ → Type 0
IsFireText project name target rounds Done text = IsBracketText project name target rounds text
IsFireText project name target rounds InputRefused text = RefusesName project name text
IsFireText project name target rounds Demand text = StopsBracket project name text
IsFireText project name target rounds status text = ⊥

-- What an answer says of a network: its line was printed; or memory ran out before anything was; or a fault broke it
-- off, and a front of such a line was printed.
abbrev pub AnswersFire : Project → List ℕ → Rational → ℕ → Status → Seen → Seen → Type 0
AnswersFire project name target rounds Done before now =
    Prints (IsFireText project name target rounds Done) before now
AnswersFire project name target rounds OutOfMemory before now = IsUntouched before now
AnswersFire project name target rounds InputRefused before now =
    Prints (IsFireText project name target rounds InputRefused) before now
AnswersFire project name target rounds Demand before now =
    Prints (IsFireText project name target rounds Demand) before now
AnswersFire project name target rounds WriteFault before now =
    PrintsFront (λ text. (end : Status) × IsFireText project name target rounds end text) before now
AnswersFire project name target rounds Stalled before now =
    PrintsFront (λ text. (end : Status) × IsFireText project name target rounds end text) before now
AnswersFire project name target rounds status before now = ⊥

-- What an answer says of a text of NET without a fault: want of memory and a fault of reading leave all untouched.
abbrev pub AnswersFireText : List ℕ → FireOrder → Status → Seen → Seen → Type 0
AnswersFireText text order OutOfMemory before now = IsUntouched before now
AnswersFireText text order ReadFault before now = IsUntouched before now
AnswersFireText text order status before now = OfNetwork text (λ project.
    AnswersFire project order.junction (target_in project order.pressure) order.rounds status before now)
