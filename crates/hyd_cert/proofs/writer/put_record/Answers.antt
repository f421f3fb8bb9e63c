use Rattle.hyd_io.proofs.PutLemmas.{puts_then, puts_cut_off, puts_same}
use Rattle.hyd_cert.proofs.WritingLemmas.{record_parts}
use Rattle.hyd_cert.proofs.writer.put_record.Goals as goal

pub returns-in-Ok : goal.returns-in-Ok
returns-in-Ok g c =
    let row = c.args.row.now in
    puts_same _ _ _ _ _ _ _
    (record_parts row.junctions row.tanks row.number row.time row.length row.vectors.list c.as_slice.result.now
    row.whole c.as_slice.ensures)
    (puts_then _ _ _ _ _ _ _ _ _ c.in-Ok.ensures c.put_heads.ensures)

pub returns-in-Err : goal.returns-in-Err
returns-in-Err g c = puts_cut_off _ _ c.in-Err.fault _ _ _ _ c.in-Err.ensures
