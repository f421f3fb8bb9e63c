-- Lines and words of a text, as bytes.
-- Source: EPANET 2.2 User Manual, appendix C (input file format).
use Rattle.std.specs.Prelude.{ℕ, Bool, ◌==◌, ◌||◌, ◌&&◌, nat_le, List, [], ◌∷◌, length, map, filter, if◌then◌else◌}
use Rattle.std.specs.Prelude.{Option}
use Rattle.std.specs.List.{slice_split, before_first}
use Rattle.std.specs.Option.{option_map}
use Rattle.std.specs.Str.{bytes_eq}
use denote.Ref.{Bor}
use Rattle.std.specs.Str.Lines.{strip_carriage_return}
use Rattle.std.specs.Char.{to_ascii_lowercase}

-- ends a line
abbrev pub is_line_feed : ℕ → Bool
is_line_feed byte = byte == 10

-- begins a comment
abbrev pub is_semicolon : ℕ → Bool
is_semicolon byte = byte == 59

-- parts two words
abbrev pub is_blank : ℕ → Bool
is_blank byte = (byte == 32) || (byte == 9)

-- what may stand in a line that is read: printing ASCII, spaces and tabs
abbrev pub is_plain : ℕ → Bool
is_plain byte = (byte == 9) || (nat_le 32 byte && nat_le byte 126)

-- The pieces of a text between its line feeds, without the last piece where that is empty.
abbrev pub without_empty_end : List (List ℕ) → List (List ℕ)
without_empty_end [] = []
without_empty_end (piece ∷ []) = if length piece == 0 then [] else piece ∷ []
without_empty_end (piece ∷ next ∷ rest) = piece ∷ without_empty_end (next ∷ rest)

-- The lines of a text: what stands before each line feed, and after the last one unless that is nothing; without a
-- carriage return at its end.
abbrev pub text_lines : List ℕ → List (List ℕ)
text_lines text = map strip_carriage_return (without_empty_end (slice_split is_line_feed text))

-- A line before its comment.
abbrev pub body : List ℕ → List ℕ
body line = before_first is_semicolon line

-- The words of a line's body, parted by spaces and tabs.
unfoldable pub words_in : List ℕ → List (List ℕ)
words_in body = filter (λ word. nat_le 1 (length word)) (slice_split is_blank body)

-- A word is this keyword, in any letter case.
unfoldable pub is_keyword : List ℕ → List ℕ → Bool
is_keyword keyword word = bytes_eq (map to_ascii_lowercase keyword) (map to_ascii_lowercase word)

-- the bytes of a word, where there is one
abbrev pub text_of : Option (Bor (List ℕ)) → Option (List ℕ)
text_of word = option_map (λ (w : Bor (List ℕ)). w.now) word
