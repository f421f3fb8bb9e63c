use Rattle.hyd_cert.specs.RecordView.{row_of}
use Rattle.hyd_witness.proofs.candidate.middle.Goals as goal

pub returns-clause-middle : goal.returns-clause-middle
returns-clause-middle c = λ reached is.
    c.put_flows.ensures.middle reached (row_of c.args.row.now) is.stands
    (c.put_heads_and_stocks.ensures.has reached is.stands)
