-- The reader's walk gives what the definition of a text's rows says.
use Rattle.std.proofs.Common.{◌≡◌, ◌⊎◌, ℕ, ◌+◌, ◌==◌, Bool, true, false, nat_le, codes, Option, Some, None}
use Rattle.std.proofs.Common.{if◌then◌else◌, Result, List, [], ◌∷◌, ◌++◌, length, slice_index, refl, sym, ap, ◌∙◌, inl}
use Rattle.std.proofs.Common.{inr, one-add}
use Rattle.std.specs.Prelude.{⊤}
use Rattle.std.specs.List.{list_all, before_first}
use Rattle.std.proofs.lemmas.Bool.{cases_Bool}
use Rattle.hyd_spec_lines.specs.WordsOfLines.{text_lines, body, words_in, is_plain, is_keyword}
use Rattle.hyd_spec_lines.specs.Headings.{heading_kind, kind_by_section, read_section, unread_kind, is_passed_over}
use Rattle.hyd_spec_lines.specs.Lines.{Row, items_of, kind_of, line_kind, body_kind, row_kind, only_kind, given}
use Rattle.hyd_spec_lines.specs.Lines.{begin_heading, is_heading, heading, ends_text, is_end, given_under, section_of}
use Rattle.hyd_spec_lines.specs.Lines.{sections_of}
use Rattle.hyd_lex.specs.RemainingRows.{items, region_after}
use Rattle.hyd_spec_lines.specs.declared.section.Section.{Section}
use Rattle.hyd_spec_lines.specs.declared.fault.LexFault.{LexFault}
use Rattle.hyd_spec_lines.specs.declared.fault.LexCause.TheVariants.{NotAscii}
use Rattle.hyd_spec_lines.specs.declared.section.Kind.{Kind}
use Rattle.hyd_spec_lines.specs.declared.section.Kind.TheVariants.{Nothing, Wrong, Row as RowOf, Opens}
use Rattle.hyd_spec_lines.specs.declared.section.Region.{Region}
use Rattle.hyd_spec_lines.specs.declared.section.Region.TheVariants.{BeforeHeadings, Read, PassedOver, Ended}
use Rattle.hyd_lex.proofs.RowsByLine.{nothing_after_end}

-- ---- lists before the first that passes

passes_first : {X : Type 0} (p : X → Bool) (x : X) (xs : List X) → p x ≡ true → before_first p (x ∷ xs) ≡ []
passes_first p x xs t = rw t refl

fails_first : {X : Type 0} (p : X → Bool) (x : X) (xs : List X) → p x ≡ false
    → before_first p (x ∷ xs) ≡ x ∷ before_first p xs
fails_first p x xs f = rw (f, one-add) refl

-- ---- headings and other lines

abbrev OpensNothing : Kind → Type 0
OpensNothing Nothing = ⊤
OpensNothing (Wrong cause) = ⊤
OpensNothing (RowOf section) = ⊤
OpensNothing (Opens region) = ⊥

abbrev IsOfHeading : Kind → Type 0
IsOfHeading Nothing = ⊥
IsOfHeading (Wrong cause) = ⊤
IsOfHeading (RowOf section) = ⊥
IsOfHeading (Opens region) = ⊤

abbrev IsOpen : Region → Type 0
IsOpen BeforeHeadings = ⊤
IsOpen (Read section) = ⊤
IsOpen PassedOver = ⊤
IsOpen Ended = ⊥

-- whether a line's words begin a heading, with its kind in a region and before all headings
abbrev IsParted : Bool → Kind → Kind → Type 0
IsParted begins here first =
    ((begins ≡ false) × OpensNothing here × OpensNothing first)
    ⊎ ((begins ≡ true) × (here ≡ first) × IsOfHeading first)

unread_is : (word : List ℕ) → IsOfHeading (unread_kind word)
unread_is word = elim (cases_Bool (is_passed_over word)) [
  | inl t ↦ rw t tt
  | inr f ↦ elim (cases_Bool (is_keyword (codes "[END]") word)) [
    | inl t ↦ rw (f, t) tt
    | inr g ↦ rw (f, g) tt
  ]
]

by_section_is : (section : Option Section) (word : List ℕ) → IsOfHeading (kind_by_section section word)
by_section_is (Some section) word = tt
by_section_is None word = unread_is word

only_is : (word : List ℕ) (words : List (List ℕ)) → IsOfHeading (only_kind word words)
unfolding heading_kind
only_is word [] = by_section_is (read_section word) word
only_is word (second ∷ words) = tt

plain_is : (body word : List ℕ) (words : List (List ℕ))
    → IsOfHeading (if list_all is_plain body then only_kind word words else Wrong NotAscii)
plain_is body word words = elim (cases_Bool (list_all is_plain body)) [
  | inl t ↦ rw t (only_is word words)
  | inr f ↦ rw f tt
]

row_opens_nothing : (region : Region) (body : List ℕ) → OpensNothing (row_kind region body)
row_opens_nothing BeforeHeadings body = tt
row_opens_nothing (Read section) body = elim (cases_Bool (list_all is_plain body)) [
  | inl t ↦ rw t tt
  | inr f ↦ rw f tt
]
row_opens_nothing PassedOver body = tt
row_opens_nothing Ended body = tt

body_parted : (region : Region) (body : List ℕ) (words : List (List ℕ))
    → IsParted (begin_heading words) (body_kind region body words) (body_kind BeforeHeadings body words)
body_parted region body [] = inl (refl, tt, tt)
body_parted region body (word ∷ words) = elim (cases_Bool (slice_index word 0 == 91)) [
  | inl t ↦ rw t (inr (refl, refl, plain_is body word words))
  | inr f ↦ rw f (inl (refl, row_opens_nothing region body, tt))
]

line_parted : (region : Region) (line : List ℕ)
    → IsParted (is_heading line) (line_kind region line) (line_kind BeforeHeadings line)
line_parted region line = elim (cases_Bool (nat_le (length line) 1024)) [
  | inl t ↦ rw t (body_parted region (body line) (words_in (body line)))
  | inr f ↦ elim (cases_Bool (is_heading line)) [
    | inl h ↦ rw f (inr (h, refl, tt))
    | inr h ↦ rw f (inl (h, tt, tt))
  ]
]

parted : (region : Region) (line : List ℕ) → IsOpen region
    → IsParted (is_heading line) (kind_of region line) (heading line)
unfolding kind_of
parted BeforeHeadings line o = line_parted BeforeHeadings line
parted (Read section) line o = line_parted (Read section) line
parted PassedOver line o = line_parted PassedOver line
parted Ended line o = absurd o

ends_not : (kind : Kind) → OpensNothing kind → ends_text kind ≡ false
ends_not Nothing n = refl
ends_not (Wrong cause) n = refl
ends_not (RowOf section) n = refl
ends_not (Opens region) n = absurd n

-- ---- the walk

-- what the definition says of lines from here on, under a region
abbrev said : Region → ℕ → List (List ℕ) → List (Result Row LexFault)
said region n lines = given_under region n (before_first is_heading lines) ++ sections_of n lines

abbrev Walks : ℕ → List (List ℕ) → Type 0
Walks n lines = (region : Region) → IsOpen region → items region n lines ≡ said region n (before_first is_end lines)

-- a line that is no heading
other_step : (kind : Kind) (region : Region) (n : ℕ) (line : List ℕ) (lines : List (List ℕ))
    (under sections : List (Result Row LexFault))
    → OpensNothing kind → items region (n + 1) lines ≡ under ++ sections
    → given kind n line ++ items (region_after false region kind) (n + 1) lines
    ≡ (given kind n line ++ under) ++ sections
other_step Nothing region n line lines under sections o e = e
other_step (Wrong cause) region n line lines under sections o e =
    ap (λ rest. given (Wrong cause) n line ++ rest) e
other_step (RowOf section) region n line lines under sections o e =
    ap (λ rest. given (RowOf section) n line ++ rest) e
other_step (Opens next) region n line lines under sections o e = absurd o

other_line : (region : Region) (n : ℕ) (line : List ℕ) (lines : List (List ℕ)) → IsOpen region
    → Walks (n + 1) lines → is_heading line ≡ false → OpensNothing (kind_of region line)
    → OpensNothing (heading line)
    → items region n (line ∷ lines) ≡ said region n (before_first is_end (line ∷ lines))
other_line region n line lines o walks h here first =
    let e : before_first is_end (line ∷ lines) ≡ line ∷ before_first is_end lines =
    fails_first is_end line lines (ends_not (heading line) first) in
    let f : before_first is_heading (line ∷ before_first is_end lines) ≡ line
    ∷ before_first is_heading (before_first is_end lines) =
    fails_first is_heading line (before_first is_end lines) h in
    rw (e, f, h) (other_step (kind_of region line) region n line lines
    (given_under region (n + 1) (before_first is_heading (before_first is_end lines)))
    (sections_of (n + 1) (before_first is_end lines)) here (walks region o))

-- a heading that isn't the end
heading_said : (region : Region) (kind : Kind) (n : ℕ) (line : List ℕ) (lines : List (List ℕ))
    → is_heading line ≡ true → heading line ≡ kind → ends_text kind ≡ false
    → said region n (before_first is_end (line ∷ lines))
    ≡ section_of kind n line (before_first is_end lines) ++ sections_of (n + 1) (before_first is_end lines)
heading_said region kind n line lines h k goes_on =
    let e : before_first is_end (line ∷ lines) ≡ line ∷ before_first is_end lines =
    fails_first is_end line lines (ap ends_text k ∙ goes_on) in
    let f : before_first is_heading (line ∷ before_first is_end lines) ≡ [] =
    passes_first is_heading line (before_first is_end lines) h in
    rw (e, f, h, k) refl

-- the end
end_said : (region : Region) (n : ℕ) (line : List ℕ) (lines : List (List ℕ)) → heading line ≡ Opens Ended
    → said region n (before_first is_end (line ∷ lines)) ≡ []
end_said region n line lines k =
    let e : before_first is_end (line ∷ lines) ≡ [] = passes_first is_end line lines (ap ends_text k) in
    rw e refl

heading_step : (region : Region) (kind : Kind) (n : ℕ) (line : List ℕ) (lines : List (List ℕ))
    → Walks (n + 1) lines → is_heading line ≡ true → heading line ≡ kind → IsOfHeading kind
    → given kind n line ++ items (region_after true region kind) (n + 1) lines
    ≡ said region n (before_first is_end (line ∷ lines))
heading_step region Nothing n line lines walks h k is = absurd is
heading_step region (Wrong cause) n line lines walks h k is =
    ap (λ rest. given (Wrong cause) n line ++ rest) (walks PassedOver tt)
    ∙ sym (heading_said region (Wrong cause) n line lines h k refl)
heading_step region (RowOf section) n line lines walks h k is = absurd is
heading_step region (Opens BeforeHeadings) n line lines walks h k is =
    walks BeforeHeadings tt ∙ sym (heading_said region (Opens BeforeHeadings) n line lines h k refl)
heading_step region (Opens (Read section)) n line lines walks h k is =
    walks (Read section) tt ∙ sym (heading_said region (Opens (Read section)) n line lines h k refl)
heading_step region (Opens PassedOver) n line lines walks h k is =
    walks PassedOver tt ∙ sym (heading_said region (Opens PassedOver) n line lines h k refl)
heading_step region (Opens Ended) n line lines walks h k is =
    nothing_after_end (n + 1) lines ∙ sym (end_said region n line lines k)

heading_line : (region : Region) (n : ℕ) (line : List ℕ) (lines : List (List ℕ))
    → Walks (n + 1) lines → is_heading line ≡ true → kind_of region line ≡ heading line → IsOfHeading (heading line)
    → items region n (line ∷ lines) ≡ said region n (before_first is_end (line ∷ lines))
heading_line region n line lines walks h same is =
    ap (λ kind. given kind n line ++ items (region_after (is_heading line) region kind) (n + 1) lines) same
    ∙ ap (λ headed. given (heading line) n line ++ items (region_after headed region (heading line)) (n + 1) lines) h
    ∙ heading_step region (heading line) n line lines walks h refl is

walks_on : (lines : List (List ℕ)) (n : ℕ) → Walks n lines
walks_on [] n region o = refl
walks_on (line ∷ lines) n region o = elim (parted region line o) [
  | inl (h, here, first) ↦ other_line region n line lines o (walks_on lines (n + 1)) h here first
  | inr (h, same, is) ↦ heading_line region n line lines (walks_on lines (n + 1)) h same is
]

-- the walk from a text's first line
pub walk_is : (text : List ℕ) → items BeforeHeadings 1 (text_lines text) ≡ items_of text
unfolding items_of
walk_is text = walks_on (text_lines text) 1 BeforeHeadings tt
