use Rattle.std.proofs.Common.{map}
use Rattle.std.specs.Char.{to_ascii_lowercase}
use Rattle.std.proofs.lemmas.Bool.Decides.{same_from_decides}
use Rattle.std.proofs.lemmas.Slice.Eq.{bytes_eq-Decides}
use Rattle.hyd_spec_lines.specs.WordsOfLines.{is_keyword}
use Rattle.hyd_lex.proofs.lines_and_words_split.is_keyword.Goals as goal

pub returns : goal.returns
unfolding is_keyword
returns c = same_from_decides c.eq_ignore_ascii_case.result _ (
  c.eq_ignore_ascii_case.ensures.test.0,
  c.eq_ignore_ascii_case.ensures.test.1,
) (bytes_eq-Decides (map to_ascii_lowercase c.args.keyword.now)
    (map to_ascii_lowercase c.args.word.now))
