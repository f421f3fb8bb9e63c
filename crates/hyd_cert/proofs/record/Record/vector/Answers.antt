use Rattle.std.proofs.Common.{◌≡◌, ◌+◌, ◌-◌, take, drop, ap, ap₂, ◌∙◌, arith}
use Rattle.hyd_cert.proofs.VectorLemmas.{vector_at}
use Rattle.hyd_cert.proofs.record.Record.vector.Goals as goal

pub returns : goal.returns
returns c =
    let row = c.args.self.now in
    let n = row.junctions in
    let from = c.start_of-from.result in
    let width : from + n - from ≡ n = omega arith in
    ap₂ (λ k us. take k (drop from us)) width c.as_slice-all.ensures
    ∙ (ap (λ p. take n (drop p row.vectors.list)) c.start_of-from.ensures.start
    ∙ vector_at n row.tanks row.number row.time row.length row.vectors.list c.args.problem c.args.side c.requires)
