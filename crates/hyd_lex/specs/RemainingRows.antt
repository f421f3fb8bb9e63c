-- What the reader still gives from a line on, by the region that it stands in there. That this is what the definition
-- of a text's rows says from its first line on is proved beside the code.
use Rattle.std.specs.Prelude.{ℕ, Bool, true, false, ◌≡◌, ◌+◌, ◌<◌, List, [], ◌∷◌, ◌++◌, length, drop, Result}
use Rattle.hyd_spec_lines.specs.WordsOfLines.{text_lines}
use Rattle.hyd_spec_lines.specs.Lines.{Row, LineBegins, kind_of, given, is_heading}
use Rattle.hyd_spec_lines.specs.declared.section.Region.{Region}
use Rattle.hyd_spec_lines.specs.declared.section.Region.TheVariants.{PassedOver}
use Rattle.hyd_spec_lines.specs.declared.fault.LexFault.{LexFault}
use Rattle.hyd_spec_lines.specs.declared.section.Kind.{Kind}
use Rattle.hyd_spec_lines.specs.declared.section.Kind.TheVariants.{Nothing, Wrong, Row as RowOf, Opens}

-- the region after a line that breaks a rule of lines: behind a heading lines are passed over
abbrev pub region_behind : Bool → Region → Region
region_behind true region = PassedOver
region_behind false region = region

-- the region after a line, which is a heading or not: what a heading opens
abbrev pub region_after : Bool → Region → Kind → Region
region_after headed region Nothing = region
region_after headed region (Wrong cause) = region_behind headed region
region_after headed region (RowOf section) = region
region_after headed region (Opens next) = next

-- The rows of lines that begin with this number in this region, and the lines among them that break a rule of lines.
abbrev pub items : Region → ℕ → List (List ℕ) → List (Result Row LexFault)
items region number [] = []
items region number (line ∷ lines) =
    given (kind_of region line) number line
    ++ items (region_after (is_heading line) region (kind_of region line)) (number + 1) lines

-- a line begins here behind so many lines, or the text is at its end
pub record Stands (text : List ℕ) (at number : ℕ) : Type 0 where
  pub lines : text_lines (drop at text) ≡ drop number (text_lines text)
  pub begins : at < length text → LineBegins text at number
