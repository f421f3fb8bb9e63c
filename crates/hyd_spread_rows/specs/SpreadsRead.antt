-- Spreads that were read, and texts from which none came.
use Rattle.std.specs.Prelude.{◌≡◌, ℕ, ◌≤◌, List, ◌++◌, length, map, drop, None, slice_get, Some, ⊤, All}
use Rattle.hyd_spec.specs.ProgramTypes.{Project}
use Rattle.hyd_spec_lines.specs.WordsOfLines.{text_lines}
use Rattle.hyd_spec_spread.specs.Spreads.{Spread}
use Rattle.hyd_spec_spread_rows.specs.TextsOfSpreads.{line_fault, rows_of, factors_from, interval_from}
use Rattle.hyd_spec_spread_rows.specs.RangesOfEnds.{AreFactors, AreOffsets}
use Rattle.hyd_spread_rows.specs.declared.said.Tables.{Tables}
use Rattle.hyd_spread_rows.specs.declared.resolved.SpreadRows.{SpreadRows}
use Rattle.hyd_spread_rows.specs.declared.fault.SpreadFault.{SpreadFault}
use Rattle.hyd_spread_rows.specs.declared.fault.SpreadRefused.{SpreadRefused}
use Rattle.hyd_spread_rows.specs.declared.fault.SpreadRefused.TheVariants.{OutOfMemory, Fault}
use Rattle.hyd_spread_rows.specs.RowsSaid.{AreSaid, HasPlaces}

-- the spread of rows that were read
abbrev pub spread_of : SpreadRows → Spread
spread_of rows = record {
  demands = map factors_from rows.demands.items;
  emitters = map factors_from rows.emitters.items;
  heads = map interval_from rows.heads.items;
  levels = map interval_from rows.levels.items;
}

-- the numbers of rows that were read are in range
pub record AreInRange (rows : SpreadRows) : Type 0 where
  pub demands : All AreFactors rows.demands.items
  pub emitters : All AreFactors rows.emitters.items
  pub heads : All AreOffsets rows.heads.items

-- what holds of a fault; want of memory says nothing
abbrev pub IfFault : SpreadRefused → (SpreadFault → Type 0) → Type 0
IfFault OutOfMemory P = ⊤
IfFault (Fault fault) P = P fault

-- so many lines without a fault were read of a text, up to a place
pub record HasRead (project : Project) (text : List ℕ) (at number : ℕ) (tables : Tables) : Type 0 where
  pub within : at ≤ length text
  pub few : number ≤ at
  pub before : List (List ℕ)
  pub count : length before ≡ number
  pub lines : text_lines text ≡ before ++ text_lines (drop at text)
  pub fine : (k : ℕ) (line : List ℕ) → slice_get before k ≡ Some line → line_fault project line ≡ None
  pub said : AreSaid project (rows_of before) tables
  pub places : HasPlaces project tables
