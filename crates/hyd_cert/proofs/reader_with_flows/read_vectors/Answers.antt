use Rattle.std.proofs.Common.{◌∙◌, arith}
use Rattle.hyd_cert.proofs.FlowFaultLemmas.{first_fault, second_fault}
use Rattle.hyd_cert.proofs.reader_with_flows.read_vectors.Goals as goal

pub returns-in-Err-clause-stuck : goal.returns-in-Err-clause-stuck
returns-in-Err-clause-stuck g c =
    first_fault c.args.junctions _ _ _ _ _ c.in-Err.fault c.split_at_mut-upper.ensures.front_len c.in-Err.ensures.fault

pub returns-in-Ok-clause-stuck : goal.returns-in-Ok-clause-stuck
returns-in-Ok-clause-stuck g c =
    second_fault c.args.junctions _ _ _ c.vector.new.into _ _ _ _ _ c.vector-in-Ok.result
    (let back = c.split_at_mut-upper.ensures.back_len in omega (arith, back, c.requires))
    (c.vector.auto.into ∙ c.split_at_mut-upper.ensures.front_len) c.in-Ok.ensures.in_box c.in-Ok.ensures.text
    c.in-Ok.ensures.line c.in-Ok.ensures.steady c.vector-in-Ok.ensures.fault
