use Rattle.std.proofs.Common.{refl}
use Rattle.hyd_io.proofs.PutLemmas.{puts_then, puts_cut_off, puts_same}
use Rattle.hyd_cert.proofs.FlowTextLemmas.{part_parts}
use Rattle.hyd_cert.proofs.writer_with_flows.put_flows.Goals as goal

pub returns-in-Ok : goal.returns-in-Ok
returns-in-Ok g c =
    let part = c.args.part.now in
    puts_same _ _ _ _ _ _ _ (part_parts part.count part.named.list c.as_slice.result.now part.most part.room
    c.as_slice.ensures)
    (puts_then _ _ _ _ _ _ _ _ _ c.in-Ok.ensures c.put_links.ensures)

pub returns-in-Err : goal.returns-in-Err
returns-in-Err g c =
    let part = c.args.part.now in
    puts_same _ _ _ _ _ _ _ (part_parts part.count part.named.list _ part.most part.room refl)
    (puts_cut_off _ _ c.in-Err.fault _ _ _ _ c.in-Err.ensures)
