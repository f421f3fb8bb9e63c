use Rattle.std.proofs.Common.{decimal}
use Rattle.hyd_open_certificates.proofs.WritingLemmas.{period_pieces}
use Rattle.hyd_open_certificates.proofs.writer.make_period_line.Goals as goal

pub returns-clause-text : goal.returns-clause-text
returns-clause-text c =
    let found = c.args.found.now in
    period_pieces (decimal found.row.number) (decimal found.row.time) (decimal found.late) (decimal found.shortest)
    (decimal found.row.length) _ _ _ _ _ _ _ c.make_period_start-used.ensures.text c.append_number-used.ensures.text
    c.append-used.ensures.text c.append_number-used-2.ensures.text c.append-used-2.ensures.text
    c.append_number-used-3.ensures.text c.append.ensures.text
