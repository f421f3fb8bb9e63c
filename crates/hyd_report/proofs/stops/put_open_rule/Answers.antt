-- One part after another.
use Rattle.std.proofs.lemmas.Result.{err_from_is_err_and}
use Rattle.std.proofs.Common.{◌≡◌, ◌∙◌, ◌+◌, ◌++◌, ap, codes}
use Rattle.std.specs.Fmt.{decimal, signed_decimal}
use Rattle.hyd_spec_reports.specs.ReportLine.{rule_id}
use Rattle.hyd_report.proofs.StopLemmas.{rule_text}
use Rattle.hyd_io.proofs.PutLemmas.{puts_then, puts_cut_off, puts_same}
use Rattle.hyd_report.proofs.stops.put_open_rule.Goals as goal

pub returns-in_err-put_pieces : goal.returns-in_err-put_pieces
returns-in_err-put_pieces g c =
    let p = err_from_is_err_and c.from_residual.result c.from_residual.ensures.1 in
    rw (p.1, p.2) (puts_same _ _ _ _ _ _ _ (rule_text _ _ _ _ c.as_slice.ensures c.rule_id.ensures)
    (puts_cut_off _ _ c.in_err-put_pieces.field-0.0 _ _ _ _ c.in_err-put_pieces.ensures))

pub returns : goal.returns
returns g c =
    let number : c.bytes.result.now ≡ decimal (c.args.clause + 1) = c.bytes.ensures ∙ (c.number-clause.ensures.text
    ∙ ap (λ n. decimal (n + 1)) c.from.ensures) in
    puts_same _ _ _ _ _ _ _
    (rule_text _ _ _ _ c.as_slice.ensures c.rule_id.ensures
    ∙ ap (λ t. codes "RULE " ++ (rule_id c.args.project.now c.args.rule ++ (codes " CLAUSE " ++ (t ++ (codes " " ++
    (signed_decimal c.args.lo.now ++ (codes " " ++ (signed_decimal c.args.hi.now ++ codes "\n")))))))) number)
    (puts_then _ _ _ _ _ _ _ _ _ c.in_ok-put_pieces.ensures c.put_between.ensures)
