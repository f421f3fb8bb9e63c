use Rattle.std.proofs.Common.{take}
use Rattle.hyd_line_reader.specs.TextsWithoutLine.{HasNo}
use Rattle.hyd_line_reader.proofs.line_reader.line_end.Given as goal

-- no line feed so far
abbrev pub invariant-loop-i : goal.invariant-loop-i
invariant-loop-i l = HasNo 10 (take l.i l.bytes)
