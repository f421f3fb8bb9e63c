-- No word of a row is empty.
use Rattle.std.proofs.Common.{ℕ, ◌+◌, ◌≤◌, Bool, true, false, List, [], ◌∷◌, ◌++◌, length, nat_le, if◌then◌else◌}
use Rattle.std.specs.Prelude.{Result, Ok, Err, ⊤}
use Rattle.std.specs.List.{All, AllByRecursion, slice_split, before_first}
use Rattle.std.proofs.lemmas.Bool.{leb-true}
use Rattle.std.proofs.lemmas.List.Elements.{filter_passes}
use Rattle.hyd_spec_lines.specs.WordsOfLines.{words_in, body, is_blank}
use Rattle.hyd_spec_lines.specs.Lines.{Row, items_of, rows_in, given, kind_of, given_under, section_of, sections_of}
use Rattle.hyd_spec_lines.specs.Lines.{given_by, is_heading, heading, lines_before_end}
use Rattle.hyd_spec_lines.specs.declared.fault.LexFault.{LexFault}
use Rattle.hyd_spec_lines.specs.declared.section.Kind.{Kind}
use Rattle.hyd_spec_lines.specs.declared.section.Kind.TheVariants.{Nothing, Wrong, Row as RowOf, Opens}
use Rattle.hyd_spec_lines.specs.declared.section.Region.{Region}
use Rattle.hyd_spec_lines.specs.declared.section.Region.TheVariants.{BeforeHeadings, PassedOver}

-- each word of a row has a byte
abbrev pub HasWords : Row → Type 0
HasWords row = All (λ w. 1 ≤ length w) row.words

-- what a line gives has words: a fault has none to ask about
abbrev GivesWords : Result Row LexFault → Type 0
GivesWords (Ok row) = HasWords row
GivesWords (Err fault) = ⊤

abbrev GiveWords : List (Result Row LexFault) → Type 0
GiveWords items = AllByRecursion GivesWords items

pub no_empty_word : (line : List ℕ) → All (λ w. 1 ≤ length w) (words_in line)
unfolding words_in
no_empty_word line k d l =
    leb-true 1 _ (filter_passes (λ word. nat_le 1 (length word)) (slice_split is_blank line) k d l)

both_give : (xs ys : List (Result Row LexFault)) → GiveWords xs → GiveWords ys → GiveWords (xs ++ ys)
both_give [] ys h g = g
both_give (x ∷ xs) ys h g = (h.0, both_give xs ys h.1 g)

line_gives : (kind : Kind) (number : ℕ) (line : List ℕ) → GiveWords (given kind number line)
line_gives Nothing number line = tt
line_gives (Wrong cause) number line = (tt, tt)
line_gives (RowOf section) number line = (no_empty_word (body line), tt)
line_gives (Opens region) number line = tt

under_gives : (region : Region) (number : ℕ) (lines : List (List ℕ)) → GiveWords (given_under region number lines)
under_gives region number [] = tt
under_gives region number (line ∷ lines) =
    both_give (given (kind_of region line) number line) (given_under region (number + 1) lines)
    (line_gives (kind_of region line) number line) (under_gives region (number + 1) lines)

section_gives : (kind : Kind) (number : ℕ) (line : List ℕ) (lines : List (List ℕ))
    → GiveWords (section_of kind number line lines)
section_gives Nothing number line lines = tt
section_gives (Wrong cause) number line lines =
    (tt, under_gives PassedOver (number + 1) (before_first is_heading lines))
section_gives (RowOf section) number line lines = tt
section_gives (Opens region) number line lines = under_gives region (number + 1) (before_first is_heading lines)

where_gives : (b : Bool) (items : List (Result Row LexFault)) → GiveWords items → GiveWords (if b then items else [])
where_gives true items h = h
where_gives false items h = tt

sections_give : (number : ℕ) (lines : List (List ℕ)) → GiveWords (sections_of number lines)
sections_give number [] = tt
sections_give number (line ∷ lines) =
    both_give (if is_heading line then section_of (heading line) number line lines else [])
    (sections_of (number + 1) lines)
    (where_gives (is_heading line) (section_of (heading line) number line lines)
    (section_gives (heading line) number line lines))
    (sections_give (number + 1) lines)

rows_of_items : (items : List (Result Row LexFault)) → GiveWords items → AllByRecursion HasWords (rows_in items)
rows_of_items [] h = tt
rows_of_items (Ok row ∷ items) h = (h.0, rows_of_items items h.1)
rows_of_items (Err fault ∷ items) h = tt

pub not_empty : (text : List ℕ) → AllByRecursion HasWords (rows_in (items_of text))
unfolding items_of
not_empty text =
    let lines = lines_before_end text in
    rows_of_items (given_by lines)
    (both_give (given_under BeforeHeadings 1 (before_first is_heading lines)) (sections_of 1 lines)
    (under_gives BeforeHeadings 1 (before_first is_heading lines)) (sections_give 1 lines))
