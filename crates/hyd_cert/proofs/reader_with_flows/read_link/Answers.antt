use Rattle.std.proofs.lemmas.Result.{err_from_is_err_and}
use Rattle.std.proofs.Common.{◌≡◌, length, ap, ◌∙◌}
use Rattle.hyd_cert.proofs.VectorLemmas.{refill_whole}
use Rattle.hyd_cert.proofs.FlowTextLemmas.{link_read}
use Rattle.hyd_cert.proofs.FlowFaultLemmas.{stuck_at_name, link_fault}
use Rattle.hyd_cert.proofs.reader_with_flows.read_link.Goals as goal

pub returns-in_err-number-clause-stuck : goal.returns-in_err-number-clause-stuck
returns-in_err-number-clause-stuck g c =
    let p = err_from_is_err_and c.from_residual.result c.from_residual.ensures.1 in
    rw (p.1, p.2) (λ header left e.
    stuck_at_name header left _ _ _ _ c.in_err-number.field-0.0 c.in_err-number.ensures.fault)

pub returns-clause-text : goal.returns-clause-text
returns-clause-text g c =
    let many : length c.read_vectors.new.heads ≡ length c.args.into.now.heads.list = c.read_vectors.auto.heads
    ∙ ap length c.as_mut_slice.ensures.items in
    link_read c.read_vectors.result c.in_ok-number.number c.args.into.now.junctions _ c.read_vectors.new.heads _ _ _
    (refill_whole c.args.into.now.heads.list c.read_vectors.new.heads many) (many ∙ c.args.into.now.whole)
    c.in_ok-number.ensures.text c.read_vectors.ensures.text

pub returns-clause-stuck : goal.returns-clause-stuck
returns-clause-stuck g c =
    link_fault c.args.into.now.junctions c.in_ok-number.number _ _ _ _ _ _ _ c.read_vectors.result c.in_ok-number.ensures.fits
    c.in_ok-number.ensures.text c.in_ok-number.ensures.line c.in_ok-number.ensures.steady c.read_vectors.ensures.stuck
    c.read_vectors.ensures.some
