-- Rows of reservoirs and tanks.
use Rattle.std.specs.Prelude.{Bool, ◌==◌, ◌||◌}
use Rattle.hyd_spec_lines.specs.declared.line.Line.{Line}
use Rattle.hyd_spec_input.specs.SectionsAndTables.{place}

-- a line of [RESERVOIRS] or [TANKS]
abbrev pub is_source : Line → Bool
is_source line = (place line.section == 1) || (place line.section == 2)
