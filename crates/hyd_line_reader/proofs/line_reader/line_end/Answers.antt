use Rattle.std.proofs.Common.{subst, arith}
use Rattle.hyd_line_reader.specs.TextsWithoutLine.{HasNo}
use Rattle.hyd_line_reader.proofs.SplitTexts.{has_no_more}
use Rattle.std.proofs.lemmas.List.{take_all}
use Rattle.hyd_line_reader.proofs.line_reader.line_end.Goals as goal

pub loop-i-preserved : goal.loop-i-preserved
loop-i-preserved c = has_no_more 10 c.args.bytes.now c.loop-i.i (omega arith) c.if-bytes-i-eq10.false c.loop-i.invariant

pub returns-clause-none : goal.returns-clause-none
returns-clause-none c = subst (HasNo 10) (take_all c.loop-i.i c.args.bytes.now (omega arith)) c.loop-i.invariant
