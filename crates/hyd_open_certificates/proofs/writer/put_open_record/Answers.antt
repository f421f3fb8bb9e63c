use Rattle.std.proofs.Common.{◌++◌, ◌∷◌, [], sym, ap, ◌∙◌}
use Rattle.hyd_io.proofs.PutLemmas.{puts_then, puts_cut_off, puts_same}
use Rattle.hyd_cert.specs.PlacesOfLines.{head_text}
use Rattle.hyd_open_certificates.specs.OpenRowView.{open_record_of}
use Rattle.hyd_open_certificates.proofs.OpenRests.{period_words, found_text}
use Rattle.hyd_open_certificates.proofs.writer.put_open_record.Goals as goal

pub returns-in-Ok : goal.returns-in-Ok
returns-in-Ok g c =
    let found = c.args.found.now in
    let row = found.row in
    puts_same _ _ _ _ _ _ _
    (ap (λ hs. period_words (open_record_of found) ++ (10 ∷ []) ++ head_text row.junctions 0 hs) c.as_slice.ensures
    ∙ sym (found_text row.junctions row.tanks row.number row.time found.late found.shortest row.length
    row.vectors.list row.whole))
    (puts_then _ _ _ _ _ _ _ _ _ c.in-Ok.ensures c.put_heads.ensures)

pub returns-in-Err : goal.returns-in-Err
returns-in-Err g c = puts_cut_off _ _ c.in-Err.fault _ _ _ _ c.in-Err.ensures
