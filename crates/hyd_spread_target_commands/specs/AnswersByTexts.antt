-- What an answer says of a network and the text of a spread, by what it says of the network alone, and of it within a
-- spread.
-- Source: this program's.
use Rattle.std.specs.Prelude.{◌≡◌, ℕ, List}
use Rattle.hyd_spec.specs.ProgramTypes.{Project}
use Rattle.hyd_spec_spread.specs.Spreads.{Spread}
use Rattle.hyd_spec_spread_rows.specs.TextsOfSpreads.{spread_in}
use Rattle.hyd_command_answers.specs.DeskContents.{Seen, IsUntouched}
use Rattle.hyd_command_answers.specs.declared.status.Status.{Status}
use Rattle.hyd_command_answers.specs.declared.status.Status.TheVariants.{OutOfMemory, ReadFault}
use Rattle.hyd_spread_files.specs.RefusedSpreads.{GivesRun, RefusesSpread}
use Rattle.hyd_spread_files.specs.SpreadFiles.{IsNoSpread}

-- The text has a fault, and is refused with it; or it gives a run, and the answer is one for its spread; or memory ran
-- out before anything was printed.
pub data AnswersWithin (Over : Spread → Status → Seen → Seen → Type 0) (project : Project) (text : List ℕ)
    (status : Status) (before now : Seen) : Type 0 where
  refuses : RefusesSpread project text status before now → AnswersWithin Over project text status before now
  answers : GivesRun project text → Over (spread_in project text) status before now
      → AnswersWithin Over project text status before now
  lacks_memory : status ≡ OutOfMemory → IsUntouched before now → AnswersWithin Over project text status before now

-- Without a row there is no spread, and the answer is that of the network alone.
pub record AnswersByText (Alone : Status → Seen → Seen → Type 0) (Over : Spread → Status → Seen → Seen → Type 0)
    (project : Project) (text : List ℕ) (status : Status) (before now : Seen) : Type 0 where
  pub alone : IsNoSpread text → Alone status before now
  pub within : (IsNoSpread text → ⊥) → AnswersWithin Over project text status before now

-- Want of memory, and a fault in the reading of a file, leave all untouched.
abbrev pub UnlessUnread : (Status → Seen → Seen → Type 0) → Status → Seen → Seen → Type 0
UnlessUnread P OutOfMemory before now = IsUntouched before now
UnlessUnread P ReadFault before now = IsUntouched before now
UnlessUnread P status before now = P status before now
