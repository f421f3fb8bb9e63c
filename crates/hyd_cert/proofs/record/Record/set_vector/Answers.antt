use Rattle.std.proofs.Common.{◌≡◌, ◌*◌, length, ap, ◌∙◌}
use Rattle.hyd_cert.specs.VectorsOfRecord.{place_in}
use Rattle.hyd_cert.proofs.VectorLemmas.{written, vector_set, vector_kept}
use Rattle.hyd_cert.proofs.record.Record.set_vector.Goals as goal

pub returns-clause-vector : goal.returns-clause-vector
returns-clause-vector c =
    let row = c.args.self.now in
    let n = row.junctions in
    let part = c.copy_from_slice.new.self in
    let size : length part ≡ n = ap length c.copy_from_slice.ensures.after ∙ c.requires.size in
    let k = written n (place_in c.args.problem c.args.side * n) c.start_of-from.result row.vectors.list
    c.as_mut_slice-all.result.now part
    c.start_of-from.ensures.start c.start_of-from.ensures.within size c.as_mut_slice-all.ensures.items in
    vector_set n row.tanks row.number row.time row.length row.vectors.list _ part c.args.problem c.args.side
    c.requires.problem k ∙ c.copy_from_slice.ensures.after

pub returns-clause-others : goal.returns-clause-others
returns-clause-others c = λ other face low apart.
    let row = c.args.self.now in
    let n = row.junctions in
    let part = c.copy_from_slice.new.self in
    let size : length part ≡ n = ap length c.copy_from_slice.ensures.after ∙ c.requires.size in
    let k = written n (place_in c.args.problem c.args.side * n) c.start_of-from.result row.vectors.list
    c.as_mut_slice-all.result.now part
    c.start_of-from.ensures.start c.start_of-from.ensures.within size c.as_mut_slice-all.ensures.items in
    vector_kept n row.tanks row.number row.time row.length row.vectors.list _ part c.args.problem other c.args.side
    face low k apart
