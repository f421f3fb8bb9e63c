-- Rows of one section that are wrong with the others.
use Rattle.std.specs.Prelude.{◌≡◌, ℕ, List, Option, Some, None}
use Rattle.hyd_spec_lines.specs.Lines.{Row}
use Rattle.hyd_spec_lines.specs.declared.section.Section.{Section}
use Rattle.hyd_spec_input.specs.Faults.{IsWrongWithOthers}
use Rattle.hyd_spec_input.specs.SectionsAndTables.{is_of}
use Rattle.hyd_net.specs.declared.refusal_cause.Cause.{Cause}
use Rattle.hyd_net.specs.declared.refusal_cause.Cause.TheVariants.{Limit}
use Rattle.hyd_rows_and_tables.specs.FirstWrongRow.{IsWrongAmong}

abbrev pub IsWrongIn : Section → List Row → ℕ → Cause → Type 0
IsWrongIn section rows = IsWrongAmong (is_of section) (IsWrongWithOthers rows) rows

-- a capacity that is out of range is Limit 13
abbrev pub IsCapacityFault : Type 0 → Option Cause → Type 0
IsCapacityFault Refused None = Refused → ⊥
IsCapacityFault Refused (Some cause) = Refused × (cause ≡ Limit 13)

-- a fault that is there or else, last of all, that of a capacity
abbrev pub IsFaultThen : Option Cause → Type 0 → Option Cause → Type 0
IsFaultThen (Some fault) Refused cause = cause ≡ Some fault
IsFaultThen None Refused cause = IsCapacityFault Refused cause
