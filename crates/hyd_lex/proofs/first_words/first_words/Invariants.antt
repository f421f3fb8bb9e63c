use Rattle.std.proofs.Common.{◌≡◌, ◌<◌, ◌≤◌, ℕ, None, drop, length, get_or, slice_get}
use Rattle.hyd_spec_lines.specs.WordsOfLines.{text_of, words_in}
use Rattle.hyd_lex.proofs.first_words.first_words.Given as goal

-- the words found so far are the first, none is found behind them, and the others are left
abbrev pub invariant-loop-place : goal.invariant-loop-place
invariant-loop-place l = record {
  all : length l.words ≡ 8;
  left : words_in l.rest ≡ drop l.place (words_in l.fn.body);
  found : (k : ℕ) → k < l.place → text_of (get_or l.words k None) ≡ slice_get (words_in l.fn.body) k;
  none : (k : ℕ) → l.place ≤ k → get_or l.words k None ≡ None;
}
