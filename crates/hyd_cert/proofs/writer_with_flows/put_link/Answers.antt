use Rattle.std.proofs.Common.{refl, codes}
use Rattle.hyd_io.proofs.PutLemmas.{puts_then, puts_cut_off, puts_same}
use Rattle.hyd_cert.specs.FlowPartView.{named_of}
use Rattle.hyd_cert.specs.PlacesWithFlows.{held_lines}
use Rattle.hyd_cert.proofs.FlowTextLemmas.{link_parts}
use Rattle.hyd_cert.proofs.writer_with_flows.put_link.Goals as goal

pub returns-in-Err : goal.returns-in-Err
returns-in-Err g c = puts_cut_off _ _ c.in-Err.fault _ _ _ _ c.in-Err.ensures

pub returns-in-Ok : goal.returns-in-Ok
returns-in-Ok g c =
    let named = named_of c.args.named.now in
    puts_same _ _ _ _ _ _ _ (link_parts named _ _ c.vector.ensures c.vector-in-Ok.ensures)
    (puts_then _ _ _ _ _ _ _ _ _ (puts_then _ _ _ _ _ _ _ _ _ c.in_default.ensures c.in-Ok.ensures)
    c.put_vector-in-Ok.ensures)

pub returns-in-Err-put_vector : goal.returns-in-Err-put_vector
returns-in-Err-put_vector g c =
    let named = named_of c.args.named.now in
    puts_same _ _ _ _ _ _ _ (link_parts named _ named.held.lower c.vector.ensures refl)
    (puts_cut_off _ (held_lines (codes "FL ") named.held.lower) c.in-Err-put_vector.fault _ _ _ _
    (puts_then _ _ _ _ _ _ _ _ _ c.in_default.ensures c.in-Err-put_vector.ensures))
