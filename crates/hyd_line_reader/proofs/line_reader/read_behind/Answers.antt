use Rattle.std.proofs.Common.{arith}
use Rattle.hyd_line_reader.proofs.SplitTexts.{read_same}
use Rattle.hyd_line_reader.proofs.line_reader.read_behind.Goals as goal

pub returns-in-Ok-clause-same : goal.returns-in-Ok-clause-same
returns-in-Ok-clause-same g c = read_same c.args.block.now c.read.new.buffer c.args.used _ c.in-Ok.n _ _
    (omega (arith, c.told-block, c.requires.room)) c.in-Ok.ensures.within c.in-Ok.ensures.front
