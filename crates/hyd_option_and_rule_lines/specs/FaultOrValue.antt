-- A result that is a fault exactly where there is one, and else a value.
use Rattle.std.specs.Prelude.{◌≡◌, ℕ, List, Option, Some, None, Result, Ok, Err}
use Rattle.hyd_spec_lines.specs.Lines.{Reading, row_of}
use Rattle.hyd_spec_lines.specs.declared.line.Line.{Line}
use Rattle.hyd_net.specs.declared.refusal_cause.Cause.{Cause}

-- the fault where there is one, else a value with a property
abbrev pub Judged : {A : Type 0} → Option Cause → Result A Cause → (A → Type 0) → Type 0
Judged fault (Ok value) P = (fault ≡ None) × P value
Judged fault (Err cause) P = fault ≡ Some cause

-- the words of a line
abbrev pub words_at : Reading → Line → List (List ℕ)
words_at reading line = (row_of reading.text line).words
