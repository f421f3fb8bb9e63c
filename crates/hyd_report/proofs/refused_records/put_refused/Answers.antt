-- One part after another.
use Rattle.std.proofs.lemmas.Result.{err_from_is_err_and}
use Rattle.std.proofs.Common.{◌≡◌, ◌∙◌, ap}
use Rattle.std.specs.Fmt.{decimal}
use Rattle.hyd_spec_certificates.specs.RefusedRecords.{refused_period}
use Rattle.hyd_report.proofs.StopLemmas.{refused_text}
use Rattle.hyd_io.proofs.PutLemmas.{puts_then, puts_cut_off, puts_same}
use Rattle.hyd_report.proofs.refused_records.put_refused.Goals as goal

pub returns-in_err-put_pieces : goal.returns-in_err-put_pieces
returns-in_err-put_pieces g c =
    let p = err_from_is_err_and c.from_residual.result c.from_residual.ensures.1 in
    rw (p.1, p.2) (let number : c.bytes.result.now ≡ decimal (refused_period c.args.cause.now) = c.bytes.ensures ∙
    (c.number-period.ensures.text ∙ ap decimal (c.from.ensures ∙ c.refused_period.ensures)) in
    puts_same _ _ _ _ _ _ _ (refused_text c.args.project.now c.args.cause.now _ _ c.as_slice.ensures number)
    (puts_cut_off _ _ c.in_err-put_pieces.field-0.0 _ _ _ _ c.in_err-put_pieces.ensures))

pub returns : goal.returns
returns g c =
    let number : c.bytes.result.now ≡ decimal (refused_period c.args.cause.now) = c.bytes.ensures ∙
    (c.number-period.ensures.text ∙ ap decimal (c.from.ensures ∙ c.refused_period.ensures)) in
    puts_same _ _ _ _ _ _ _ (refused_text c.args.project.now c.args.cause.now _ _ c.as_slice.ensures number)
    (puts_then _ _ _ _ _ _ _ _ _ c.in_ok-put_pieces.ensures c.put_refusal.ensures)
