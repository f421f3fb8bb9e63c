-- That a text was printed of which something holds, and nothing created or written.
-- Source: this program's.
use Rattle.std.specs.Prelude.{ℕ, List}
use Rattle.hyd_command_answers.specs.DeskContents.{Seen, OnlyPrinted, OnlyPrintedFront}

-- Such a text was printed.
pub record Prints (P : List ℕ → Type 0) (before now : Seen) : Type 0 where
  pub text : List ℕ
  pub holds : P text
  pub only : OnlyPrinted text before now

-- A front of such a text was printed.
pub record PrintsFront (P : List ℕ → Type 0) (before now : Seen) : Type 0 where
  pub text : List ℕ
  pub holds : P text
  pub only : OnlyPrintedFront text before now
