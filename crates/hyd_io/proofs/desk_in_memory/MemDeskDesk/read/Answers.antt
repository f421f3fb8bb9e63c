use Rattle.std.proofs.Common.{ap, Some, rules}
use Rattle.hyd_io.proofs.MovedBytesLemmas.{drop-split}
use Rattle.hyd_io.proofs.desk_in_memory.MemDeskDesk.read.Goals as goal

pub returns-clause-front : goal.returns-clause-front
returns-clause-front c = ap Some (drop-split c.args.self.now.opened.items c.gather-n.new.buffer c.args.self.now.at
    c.gather-n.result (search rules) (search rules))
