-- The rows of lines, one line at a time.
use Rattle.std.proofs.Common.{◌≡◌, ℕ, ◌+◌, ◌-◌, ◌^◌, ◌<◌, ◌≤◌, Result, slice_range, arith, List, [], ◌∷◌, ◌++◌, length}
use Rattle.std.proofs.Common.{take, drop, refl, sym, ap, ◌∙◌}
use Rattle.std.proofs.lemmas.List.{take_rest, drop-drop, take-take, length-drop}
use Rattle.std.specs.List.{position_or_len}
use Rattle.hyd_spec_lines.specs.WordsOfLines.{text_lines, body, is_line_feed}
use Rattle.hyd_spec_lines.specs.Lines.{IsLineOf, is_heading, kind_of, given, Reading, Row}
use Rattle.hyd_lex.specs.RemainingRows.{Stands, items, region_after}
use Rattle.hyd_spec_lines.specs.declared.line.Line.{Line}
use Rattle.hyd_spec_lines.specs.declared.fault.LexFault.{LexFault}
use Rattle.hyd_spec_lines.specs.declared.section.Kind.{Kind}
use Rattle.hyd_spec_lines.specs.declared.section.Region.{Region}
use Rattle.hyd_spec_lines.specs.declared.section.Region.TheVariants.{Ended}
use Rattle.hyd_lex.proofs.LineStarts.{stands_next, line_is}

-- after the end nothing is given
pub nothing_after_end : (n : ℕ) (lines : List (List ℕ)) → items Ended n lines ≡ []
unfolding kind_of
nothing_after_end n [] = refl
nothing_after_end n (line ∷ lines) = nothing_after_end (n + 1) lines

-- one line
pub one_line : (region : Region) (n : ℕ) (line : List ℕ) (lines all : List (List ℕ)) → all ≡ line ∷ lines
    → items region n all ≡ given (kind_of region line) n line
    ++ items (region_after (is_heading line) region (kind_of region line)) (n + 1) lines
one_line region n line lines all e = rw e refl

-- where the reader of lines stands
pub record IsAt (reading : Reading) (text : List ℕ) (at number : ℕ) (region : Region) : Type 0 where
  pub text_is : text ≡ reading.text
  pub rest : items region (number + 1) (text_lines (drop at text)) ≡ reading.rest
  pub short : length text ≤ 2 ^ 26
  pub within : at ≤ length text
  pub few : number ≤ at
  pub stands : Stands text at number

-- what the line at a place gives, and what follows
pub line_at : (text : List ℕ) (at used n : ℕ) (region : Region) (line : List ℕ) (kind : Kind)
    → text_lines (take (length text - at) (drop at text)) ≡ line
    ∷ text_lines (drop used (take (length text - at) (drop at text)))
    → kind ≡ kind_of region line
    → items region n (text_lines (drop at text)) ≡ given kind n line
    ++ items (region_after (is_heading line) region kind) (n + 1) (text_lines (drop (at + used) text))
line_at text at used n region line kind e k =
    let f : text_lines (drop at text) ≡ line ∷ text_lines (drop used (drop at text)) = rw (take_rest text at) at e in
    rw k (one_line region n line _ _ f ∙ ap (λ rest. given (kind_of region line) n line
    ++ items (region_after (is_heading line) region (kind_of region line)) (n + 1) (text_lines rest)) (drop-drop used at text))

-- where the reader stands after a line
pub stands_after : (text : List ℕ) (at used n : ℕ) (line : List ℕ) → Stands text at n → at < length text
    → text_lines (take (length text - at) (drop at text)) ≡ line
    ∷ text_lines (drop used (take (length text - at) (drop at text)))
    → (used < length (take (length text - at) (drop at text))
    → used ≡ position_or_len is_line_feed (take (length text - at) (drop at text)) + 1)
    → Stands text (at + used) (n + 1)
stands_after text at used n line s more lines feed =
    stands_next text at used n line s more (rw (take_rest text at) at lines) (rw (take_rest text at) at feed)

-- a line that gives nothing
pub at_nothing : (reading : Reading) (text : List ℕ) (at used n : ℕ) (region after : Region) (line : List ℕ)
    (kind : Kind)
    → IsAt reading text at n region → at < length text
    → text_lines (take (length text - at) (drop at text)) ≡ line
    ∷ text_lines (drop used (take (length text - at) (drop at text)))
    → (used < length (take (length text - at) (drop at text))
    → used ≡ position_or_len is_line_feed (take (length text - at) (drop at text)) + 1)
    → 0 < used → used ≤ length (take (length text - at) (drop at text))
    → kind ≡ kind_of region line → after ≡ region_after (is_heading line) region kind → given kind (n + 1) line ≡ []
    → IsAt reading text (at + used) (n + 1) after
at_nothing reading text at used n region after line kind is more lines feed some within k a g =
    let e = line_at text at used (n + 1) region line kind lines k in
    let w : used ≤ length (drop at text) = rw (take_rest text at) at within in
    record {
      text_is = is.text_is;
      rest = rw a (ap (λ front. front ++ items (region_after (is_heading line) region kind) (n + 1 + 1)
          (text_lines (drop (at + used) text))) (sym g) ∙ sym e ∙ is.rest);
      short = is.short;
      within = omega (arith, length-drop at text, is.within);
      few = omega (arith, is.few);
      stands = stands_after text at used n line is.stands more lines feed;
    }

-- what a line gives is the next item
pub at_item : (reading : Reading) (text : List ℕ) (at used n : ℕ) (region after : Region) (line : List ℕ) (kind : Kind)
    (item : Result Row LexFault)
    → IsAt reading text at n region
    → text_lines (take (length text - at) (drop at text)) ≡ line
    ∷ text_lines (drop used (take (length text - at) (drop at text)))
    → kind ≡ kind_of region line → after ≡ region_after (is_heading line) region kind → given kind (n + 1) line ≡ item ∷ []
    → reading.rest ≡ item ∷ items after (n + 1 + 1) (text_lines (drop (at + used) text))
at_item reading text at used n region after line kind item is lines k a g =
    sym is.rest ∙ line_at text at used (n + 1) region line kind lines k
    ∙ rw a (ap (λ front. front ++ items (region_after (is_heading line) region kind) (n + 1 + 1) (text_lines (drop (at + used) text))) g)

-- where the words of a row lie
pub row_is : (text : List ℕ) (at : ℕ) (line front : List ℕ) → line
    ≡ take (length line) (take (length text - at) (drop at text))
    → front ≡ take (length front) line → length front ≤ length line → slice_range text at (at + length front) ≡ front
row_is text at line front l f short =
    let n : at + length front - at ≡ length front = omega arith in
    let e : line ≡ take (length line) (drop at text) = rw (take_rest text at) at l in
    rw n (sym (f ∙ ap (take (length front)) e ∙ take-take (length front) (length line) (drop at text) short))

-- the line that the reader gives is the text's
pub line_at_place : (text : List ℕ) (at used n : ℕ) (line : List ℕ) (given : Line) (front : List ℕ)
    → Stands text at n → at < length text
    → text_lines (take (length text - at) (drop at text)) ≡ line
    ∷ text_lines (drop used (take (length text - at) (drop at text)))
    → front ≡ body line → slice_range text at (at + length front) ≡ front
    → given.number ≡ n + 1 → given.from ≡ at → given.to ≡ at + length front
    → IsLineOf text given
line_at_place text at used n line given front s more lines f bytes number from to =
    line_is text at used n line given s more (rw (take_rest text at) at lines) number from (rw f at to) (rw f at bytes)
