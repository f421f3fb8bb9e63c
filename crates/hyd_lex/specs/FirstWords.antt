-- The first words of a line.
use Rattle.std.specs.Prelude.{◌≡◌, ℕ, ◌<◌, List, None, get_or, slice_get}
use Rattle.hyd_spec_lines.specs.WordsOfLines.{text_of}
use Rattle.hyd_lex.specs.declared.first_words.FirstWords.{FirstWords}

-- These are the first eight of some words.
abbrev pub AreFirst : List (List ℕ) → FirstWords → Type 0
AreFirst words first = (k : ℕ) → k < 8 → text_of (get_or first.words k None) ≡ slice_get words k
