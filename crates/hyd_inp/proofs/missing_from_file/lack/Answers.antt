use Rattle.std.proofs.Common.{sym, ◌∙◌}
use Rattle.hyd_rows_and_tables.specs.RowsOfLines.{rows_at}
use Rattle.hyd_inp.proofs.FaultFromFindings.{some_water_sources, lacks_sources, lacks_nothing}
use Rattle.hyd_inp.proofs.missing_from_file.lack.Goals as goal

pub returns-then-not-has_source : goal.returns-then-not-has_source
returns-then-not-has_source c =
    let text = c.args.text.now.text in
    let lines = c.args.lines.now in
    lacks_sources (rows_at text lines) (sym c.names_head_loss.ensures ∙ c.if-not-names_head_loss.false)
    (sym (some_water_sources text lines) ∙ sym c.has_source.ensures ∙ c.if-not-has_source.true)

pub returns : goal.returns
returns c =
    let text = c.args.text.now.text in
    let lines = c.args.lines.now in
    lacks_nothing (rows_at text lines) (sym c.names_head_loss.ensures ∙ c.if-not-names_head_loss.false)
    (sym (some_water_sources text lines) ∙ sym c.has_source.ensures ∙ c.if-not-has_source.false)
