-- What the headings of a file open.
-- Source: EPANET 2.2 User Manual, appendix C (section keywords).
use Rattle.std.specs.Prelude.{ℕ, Bool, true, false, ◌||◌, List, [], ◌∷◌, codes, Option, Some, None, if◌then◌else◌}
use Rattle.hyd_spec_lines.specs.WordsOfLines.{is_keyword}
use Rattle.hyd_spec_lines.specs.declared.section.Section.{Section}
use Rattle.hyd_spec_lines.specs.declared.section.Section.TheVariants.{Junctions, Reservoirs, Tanks, Pipes, Pumps}
use Rattle.hyd_spec_lines.specs.declared.section.Section.TheVariants.{Valves, Demands, Emitters, Curves, Patterns}
use Rattle.hyd_spec_lines.specs.declared.section.Section.TheVariants.{Status, Controls, Rules, Options, Times}
use Rattle.hyd_spec_lines.specs.declared.section.Region.TheVariants.{Read, PassedOver, Ended}
use Rattle.hyd_spec_lines.specs.declared.section.Kind.{Kind}
use Rattle.hyd_spec_lines.specs.declared.section.Kind.TheVariants.{Wrong, Opens}
use Rattle.hyd_spec_lines.specs.declared.fault.LexCause.TheVariants.{UnknownSection}

-- what the first keyword of a table that a word is stands for
abbrev pub first_named : {A : Type 0} → List (List ℕ × A) → List ℕ → Option A
first_named [] word = None
first_named (entry ∷ entries) word = if is_keyword entry.0 word then Some entry.1 else first_named entries word

-- the first of two meanings that is there
abbrev pub either : {A : Type 0} → Option A → Option A → Option A
either (Some meaning) other = Some meaning
either None other = other

-- the headings of the sections of nodes and links
abbrev pub network_headings : List (List ℕ × Section)
network_headings =
    (codes "[JUNCTIONS]", Junctions) ∷ (codes "[RESERVOIRS]", Reservoirs) ∷ (codes "[TANKS]", Tanks)
    ∷ (codes "[PIPES]", Pipes)
    ∷ (codes "[PUMPS]", Pumps) ∷ (codes "[VALVES]", Valves) ∷ []

-- the headings of the sections of what belongs to them
abbrev pub data_headings : List (List ℕ × Section)
data_headings =
    (codes "[DEMANDS]", Demands) ∷ (codes "[EMITTERS]", Emitters) ∷ (codes "[CURVES]", Curves)
    ∷ (codes "[PATTERNS]", Patterns)
    ∷ (codes "[STATUS]", Status) ∷ []

-- the headings of the sections of how it is run
abbrev pub run_headings : List (List ℕ × Section)
run_headings =
    (codes "[CONTROLS]", Controls) ∷ (codes "[RULES]", Rules) ∷ (codes "[OPTIONS]", Options) ∷ (codes "[TIMES]", Times)
    ∷ []

-- a word is one of these keywords
abbrev pub is_one_of : List (List ℕ) → List ℕ → Bool
is_one_of [] word = false
is_one_of (keyword ∷ keywords) word = if is_keyword keyword word then true else is_one_of keywords word

-- the headings of the sections that are passed over
abbrev pub text_headings : List (List ℕ)
text_headings =
    codes "[TITLE]" ∷ codes "[TAGS]" ∷ codes "[ENERGY]" ∷ codes "[QUALITY]" ∷ codes "[SOURCES]" ∷ codes "[REACTIONS]"
    ∷ []

abbrev pub drawing_headings : List (List ℕ)
drawing_headings =
    codes "[MIXING]" ∷ codes "[REPORT]" ∷ codes "[COORDINATES]" ∷ codes "[VERTICES]" ∷ codes "[LABELS]"
    ∷ codes "[BACKDROP]" ∷ []

-- the section that is read and has this heading
unfoldable pub read_section : List ℕ → Option Section
read_section word =
    either (first_named network_headings word)
    (either (first_named data_headings word) (first_named run_headings word))

-- a section that is passed over has this heading
unfoldable pub is_passed_over : List ℕ → Bool
is_passed_over word = is_one_of text_headings word || is_one_of drawing_headings word

-- what a heading opens
abbrev pub unread_kind : List ℕ → Kind
unread_kind word =
    if is_passed_over word then Opens PassedOver
    else (if is_keyword (codes "[END]") word then Opens Ended else Wrong UnknownSection)

abbrev pub kind_by_section : Option Section → List ℕ → Kind
kind_by_section (Some section) word = Opens (Read section)
kind_by_section None word = unread_kind word

unfoldable pub heading_kind : List ℕ → Kind
heading_kind word = kind_by_section (read_section word) word
