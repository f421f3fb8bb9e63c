-- The first wrong row among the first rows of a file.
use Rattle.std.specs.Prelude.{◌≡◌, ℕ, ◌<◌, ◌⊎◌, Bool, true, List, Option, Some, None, slice_get, nat_lt}
use Rattle.std.specs.Prelude.{if◌then◌else◌}
use Rattle.hyd_spec_lines.specs.Lines.{Row}
use Rattle.hyd_net.specs.declared.refusal_cause.Cause.{Cause}
use Rattle.hyd_rows_and_tables.specs.declared.first_wrong.Found.{Found}

-- the first row that is wrong: its place, line and cause
pub record IsFirstAt (rows : List Row) (Wrong : ℕ → Cause → Type 0) (found : Found) : Type 0 where
  pub wrong : Wrong found.place found.cause
  pub row : Row
  pub row_is : slice_get rows found.place ≡ Some row
  pub line_is : found.line ≡ row.number
  pub earlier : (k : ℕ) → k < found.place → (other : Cause) → Wrong k other → ⊥

-- among the first n rows none is wrong, or this is the first wrong one of all
abbrev pub HasFound : List Row → (ℕ → Cause → Type 0) → ℕ → Option Found → Type 0
HasFound rows Wrong n None = (k : ℕ) → k < n → (cause : Cause) → Wrong k cause → ⊥
HasFound rows Wrong n (Some found) = IsFirstAt rows Wrong found

-- one place is wrong by this cause, or isn't wrong
abbrev pub IsVerdict : (Cause → Type 0) → Option Cause → Type 0
IsVerdict Wrong None = (cause : Cause) → Wrong cause → ⊥
IsVerdict Wrong (Some cause) = Wrong cause

-- a row of some sections is wrong
pub record IsWrongAmong (family : Row → Bool) (Wrong : ℕ → Cause
    → Type 0) (rows : List Row) (k : ℕ) (cause : Cause) : Type 0 where
  pub row : Row
  pub row_is : slice_get rows k ≡ Some row
  pub member : family row ≡ true
  pub wrong : Wrong k cause

-- a place is wrong by either of two
abbrev pub Either : (ℕ → Cause → Type 0) → (ℕ → Cause → Type 0) → ℕ → Cause → Type 0
Either One Other k cause = One k cause ⊎ Other k cause

-- the fault that was found first, or else the one at a place
abbrev pub kept : Option Found → ℕ → ℕ → Option Cause → Option Found
kept (Some found) place line cause = Some found
kept None place line None = None
kept None place line (Some cause) = Some (record { place = place; line = line; cause = cause })

-- the one of two faults that stands first
abbrev pub least : Option Found → Option Found → Option Found
least None other = other
least (Some one) None = Some one
least (Some one) (Some other) = if nat_lt other.place one.place then Some other else Some one
