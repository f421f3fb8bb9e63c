use Rattle.std.proofs.Common.{◌*◌, ap, arith}
use Rattle.hyd_cert.proofs.VectorLemmas.{vector_within}
use Rattle.hyd_cert.proofs.record.Record.start_of.Goals as goal

pub returns-clause-within : goal.returns-clause-within
returns-clause-within c =
    let row = c.args.self.now in
    let within = vector_within row.junctions row.tanks row.vectors.list c.args.problem c.args.side row.whole
    c.requires in
    omega (arith, within, ap (λ p. p * row.junctions) c.place_of.ensures)
