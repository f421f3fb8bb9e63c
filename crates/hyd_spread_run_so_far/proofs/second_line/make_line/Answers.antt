-- Its pieces are the line.
use Rattle.std.proofs.Common.{decimal}
use Rattle.hyd_spread_run_so_far.proofs.CountsOfSpreads.{line_pieces}
use Rattle.hyd_spread_run_so_far.proofs.second_line.make_line.Goals as goal

pub returns-clause-text : goal.returns-clause-text
returns-clause-text c =
    line_pieces (decimal c.args.demands) (decimal c.args.emitters) (decimal c.args.heads) (decimal c.args.levels) _ _ _
    _ _ c.make_start-used.ensures.text c.append_number-used.ensures.text c.append-used.ensures.text
    c.append_number-used-2.ensures.text c.append.ensures.text
