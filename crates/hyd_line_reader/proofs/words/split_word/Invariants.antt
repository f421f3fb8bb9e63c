use Rattle.std.proofs.Common.{take}
use Rattle.hyd_line_reader.specs.TextsWithoutLine.{HasNo}
use Rattle.hyd_line_reader.proofs.words.split_word.Given as goal

-- no space so far
abbrev pub invariant-loop-i : goal.invariant-loop-i
invariant-loop-i l = HasNo 32 (take l.i l.text)
