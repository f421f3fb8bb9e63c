-- The head loss formula, line by line.
use Rattle.std.specs.Prelude.{Bool, ◌&&◌, List, codes, if◌then◌else◌}
use Rattle.hyd_spec_lines.specs.Lines.{Row}
use Rattle.hyd_spec_lines.specs.declared.section.Section.TheVariants.{Options}
use Rattle.hyd_spec_input.specs.Columns.{word_is}
use Rattle.hyd_spec_input.specs.OptionsAndTimesInForce.{begins, say, option_row}
use Rattle.hyd_spec_input.specs.SectionsAndTables.{is_of}

-- whether losses are by Hazen-Williams behind a row, where they are or aren't before it
abbrev pub formula_after : Bool → Row → Bool
formula_after before row =
    if is_of Options row && begins (codes "HEADLOSS") row then word_is 1 (codes "H-W") row.words else before

-- by the last line of HEADLOSS, where there is one
abbrev pub formula_with : Bool → List Row → Bool
formula_with before rows =
    say before (λ row. word_is 1 (codes "H-W") row.words) (option_row (codes "HEADLOSS") rows)
