-- The fault of one row among many, where a limit is one of counts.
use Rattle.std.specs.Prelude.{ℕ, zero, suc, ◌-◌, List, [], ◌∷◌, ◌+◌, ◌/◌, ◌%◌, codes, replicate, Option}
use Rattle.hyd_spec_lines.specs.WordsOfLines.{words_in}
use Rattle.hyd_spec_lines.specs.Lines.{Row}
use Rattle.hyd_spec_lines.specs.declared.section.Section.{Section}
use Rattle.hyd_spec_lines.specs.declared.section.Section.TheVariants.{Patterns, Curves}
use Rattle.hyd_spec_input.specs.FaultsWithOtherRows as others
use Rattle.hyd_net.specs.declared.refusal_cause.Cause.{Cause}

abbrev pub row : Section → List ℕ → Row
row section text = record { number = 1; section = section; words = words_in text }

-- what is wrong with the last of so many equal rows
abbrev pub last_of_equal : ℕ → Section → List ℕ → Option Cause
last_of_equal count section text =
    others.row_fault (replicate count (row section text)) (count - 1) (row section text)

-- a pattern with 500 multipliers a row
abbrev pub long_row : Row
long_row = record { number = 1; section = Patterns; words = codes "P" ∷ replicate 500 (codes "1") }

-- what is wrong with the last of so many of its rows
abbrev pub last_of_long : ℕ → Option Cause
last_of_long count = others.row_fault (replicate count long_row) (count - 1) long_row

-- the curve of a number, of one point, with a name of two letters
abbrev pub curve_row : ℕ → Row
curve_row number = record {
  number = 1;
  section = Curves;
  words = ((65 + number / 32) ∷ ((65 + number % 32) ∷ [])) ∷ (codes "1" ∷ (codes "1" ∷ []));
}

-- the curves of all numbers below this one, the greatest first
abbrev pub curve_rows : ℕ → List Row
curve_rows zero = []
curve_rows (suc count) = curve_row count ∷ curve_rows count

-- what is wrong with the last of so many curves
abbrev pub last_of_curves : ℕ → Option Cause
last_of_curves count = others.row_fault (curve_rows count) (count - 1) (curve_row 0)
