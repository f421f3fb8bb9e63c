-- Links as they are built.
use Rattle.std.specs.Prelude.{ℕ, List, ◌++◌, take}
use Rattle.hyd_spec_lines.specs.Lines.{Row}
use Rattle.hyd_spec_lines.specs.declared.section.Section.{Section}
use Rattle.hyd_net.specs.declared.links.Link.{Link}
use Rattle.hyd_spec_input.specs.Project.{IsLink, Match}
use Rattle.hyd_spec_input.specs.SectionsAndTables.{rows_of}

-- the links of some rows, and of the rows of a section among the first ones
abbrev pub AreBuilt : List Row → List Row → Section → ℕ → List Link → Type 0
AreBuilt rows before section k links = Match (IsLink rows) (before ++ rows_of section (take k rows)) links
