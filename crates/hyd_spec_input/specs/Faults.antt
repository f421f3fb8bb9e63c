-- The fault of a text: its first row that is wrong by itself, or the fault that ends its rows; else its first row
-- that is wrong with the others; else what the whole file lacks.
-- Source: EPANET 2.2 User Manual, appendix C; the order of faults is this program's.
use Rattle.std.specs.Prelude.{◌≡◌, ℕ, ◌^◌, ◌<◌, ◌≤◌, Bool, ◌||◌, nat_le, List, [], ◌∷◌, length, take, Option, Some}
use Rattle.std.specs.Prelude.{None, slice_get, ◌⊎◌, Result}
use Rattle.hyd_spec_lines.specs.Lines.{Row, items_of, rows_in, all_rows_in, fault_in}
use Rattle.hyd_spec_lines.specs.declared.fault.LexFault.{LexFault}
use Rattle.hyd_spec_lines.specs.declared.fault.LexCause.{LexCause}
use Rattle.hyd_spec_lines.specs.declared.fault.LexCause.TheVariants.{LongLine}
use Rattle.hyd_spec_lines.specs.declared.section.Section.TheVariants.{Reservoirs, Tanks}
use Rattle.hyd_spec_input.specs.Columns.{first, unless}
use Rattle.hyd_spec_input.specs.SingleRows.{IsWrongBy, IsWrongByItself}
use Rattle.hyd_spec_input.specs.SectionsAndTables.{rows_of}
use Rattle.hyd_spec_input.specs.OptionsAndTimesInForce.{names_head_loss, has_hazen_williams}
use Rattle.hyd_spec_input.specs.FaultsWithOtherRows.{row_fault}
use Rattle.hyd_spec_input.specs.CapacitiesOutOfRange.{IsRefusedRow}
use Rattle.hyd_net.specs.declared.refusal_cause.Cause.{Cause}
use Rattle.hyd_net.specs.declared.refusal_cause.Cause.TheVariants.{Syntax, Unsupported, Limit, Missing}

-- ---- wrong with the others

-- a row is wrong with the others; a capacity out of range comes last
pub record IsWrongWithOthers (rows : List Row) (k : ℕ) (cause : Cause) : Type 0 where
  pub row : Row
  pub row_is : slice_get rows k ≡ Some row
  pub fault : (row_fault rows k row ≡ Some cause)
      ⊎ ((row_fault rows k row ≡ None) × IsRefusedRow rows (take k rows) row × (cause ≡ Limit 13))

-- ---- the first of them

-- no row is wrong
abbrev pub NoneIs : (ℕ → Cause → Type 0) → Type 0
NoneIs Wrong = (k : ℕ) (cause : Cause) → Wrong k cause → ⊥

-- the first row that is wrong has this line and cause
pub record IsFirst (rows : List Row) (Wrong : ℕ → Cause → Type 0) (line : ℕ) (cause : Cause) : Type 0 where
  pub place : ℕ
  pub wrong : Wrong place cause
  pub row : Row
  pub row_is : slice_get rows place ≡ Some row
  pub line_is : line ≡ row.number
  pub earlier : (k : ℕ) → k < place → (other : Cause) → Wrong k other → ⊥

-- ---- the fault of the lines

abbrev pub line_cause : LexCause → Cause
line_cause LongLine = Limit 2
line_cause _ = Syntax

pub record IsLineFault (items : List (Result Row LexFault)) (line : ℕ) (cause : Cause) : Type 0 where
  pub fault : LexFault
  pub fault_is : fault_in items ≡ Some fault
  pub line_is : line ≡ fault.line
  pub cause_is : cause ≡ line_cause fault.cause

-- ---- what the whole file lacks

abbrev pub has_some : List Row → Bool
has_some rows = nat_le 1 (length rows)

-- a head loss formula, and a reservoir or tank
abbrev pub lack : List Row → Option Cause
lack rows =
    first (unless (names_head_loss rows) (Unsupported 1)
    ∷ unless (has_some (rows_of Reservoirs rows) || has_some (rows_of Tanks rows)) Missing ∷ [])

-- ---- the fault of a text

-- a fault after all rows are right by themselves
abbrev pub IsLater : List Row → ℕ → Cause → Type 0
IsLater rows line cause =
    IsFirst rows (IsWrongWithOthers rows) line cause
    ⊎ (NoneIs (IsWrongWithOthers rows) × (line ≡ 0) × (lack rows ≡ Some cause))

-- a row is wrong by itself; the formula of head losses is that of the last line of HEADLOSS, which may also stand
-- behind a line that breaks a rule of lines
abbrev pub IsWrongAlone : List (Result Row LexFault) → ℕ → Cause → Type 0
IsWrongAlone items k cause = IsWrongBy (has_hazen_williams (all_rows_in items)) (rows_in items) k cause

abbrev pub IsFaultOf : List (Result Row LexFault) → ℕ → Cause → Type 0
IsFaultOf items line cause =
    IsFirst (rows_in items) (IsWrongAlone items) line cause
    ⊎ (NoneIs (IsWrongAlone items)
    × (IsLineFault items line cause ⊎ ((fault_in items ≡ None) × IsLater (rows_in items) line cause)))

-- a text of more than 64 MiB isn't read
abbrev pub IsFault : List ℕ → ℕ → Cause → Type 0
IsFault text line cause =
    ((2 ^ 26 < length text) × (line ≡ 0) × (cause ≡ Limit 1))
    ⊎ ((length text ≤ 2 ^ 26) × IsFaultOf (items_of text) line cause)

-- a text without a fault
pub record HasNoFault (text : List ℕ) : Type 0 where
  pub short : length text ≤ 2 ^ 26
  pub lines : fault_in (items_of text) ≡ None
  pub by_itself : NoneIs (IsWrongByItself (rows_in (items_of text)))
  pub with_others : NoneIs (IsWrongWithOthers (rows_in (items_of text)))
  pub whole : lack (rows_in (items_of text)) ≡ None
