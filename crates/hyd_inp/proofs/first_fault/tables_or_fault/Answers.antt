use Rattle.std.proofs.Common.{length, subst, sym, ◌∙◌}
use Rattle.hyd_spec_input.specs.Faults.{IsWrongWithOthers}
use Rattle.hyd_rows_and_tables.specs.FirstWrongRow.{HasFound}
use Rattle.hyd_rows_and_tables.specs.RowsOfLines.{rows_at}
use Rattle.hyd_inp.proofs.FaultFromFindings.{fault_alone, none_alone, none_by_rows, fault_of_lines, fault_among, none_among}
use Rattle.hyd_inp.proofs.FaultFromFindings.{fault_of_all}
use Rattle.hyd_inp.proofs.FaultFromFindings.{no_fault}
use Rattle.hyd_inp.proofs.first_fault.tables_or_fault.Goals as goal

pub returns-in-Some-clause-fault : goal.returns-in-Some-clause-fault
returns-in-Some-clause-fault c =
    fault_alone c.args.text.now.text c.args.lines.now c.is_by_power-by_power.result c.in-Some.found
    c.is_by_power-by_power.ensures c.requires.rows c.in-Some.ensures

pub returns-in-Some-end-clause-fault : goal.returns-in-Some-end-clause-fault
returns-in-Some-end-clause-fault c =
    let text = c.args.text.now.text in
    let lines = c.args.lines.now in
    fault_of_lines text lines c.in-Some-end.fault c.line_cause.result c.requires.rows
    (none_alone text lines c.is_by_power-by_power.result c.is_by_power-by_power.ensures c.in_default.ensures) (sym c.in-Some-end.is ∙ c.requires.end) c.line_cause.ensures

pub first_with_others-requires-clause-right : goal.first_with_others-requires-clause-right
first_with_others-requires-clause-right c =
    let text = c.args.text.now.text in
    let lines = c.args.lines.now in
    none_by_rows text lines c.requires.rows (sym c.in_default-end.is ∙ c.requires.end)
    (none_alone text lines c.is_by_power-by_power.result c.is_by_power-by_power.ensures c.in_default.ensures)

pub returns-in-Some-found-clause-fault : goal.returns-in-Some-found-clause-fault
returns-in-Some-found-clause-fault c =
    let text = c.args.text.now.text in
    let lines = c.args.lines.now in
    fault_among text lines c.in-Some-found.found c.requires.rows (none_alone text lines c.is_by_power-by_power.result c.is_by_power-by_power.ensures c.in_default.ensures)
    (sym c.in_default-end.is ∙ c.requires.end)
    (subst (HasFound (rows_at text lines) (IsWrongWithOthers (rows_at text lines)) (length lines)) c.in-Some-found.is
    c.in_ok-judged.ensures.found)

pub returns-in-Some-lack-clause-fault : goal.returns-in-Some-lack-clause-fault
returns-in-Some-lack-clause-fault c =
    let text = c.args.text.now.text in
    let lines = c.args.lines.now in
    fault_of_all text lines c.in-Some-lack.cause c.requires.rows (none_alone text lines c.is_by_power-by_power.result c.is_by_power-by_power.ensures c.in_default.ensures)
    (sym c.in_default-end.is ∙ c.requires.end)
    (none_among text lines (subst (HasFound (rows_at text lines) (IsWrongWithOthers (rows_at text lines))
    (length lines)) c.in_default-found.is c.in_ok-judged.ensures.found)) c.in-Some-lack.ensures

pub returns-in-None-clause-none : goal.returns-in-None-clause-none
returns-in-None-clause-none c =
    let text = c.args.text.now.text in
    let lines = c.args.lines.now in
    no_fault text lines c.requires.short c.requires.rows (none_alone text lines c.is_by_power-by_power.result c.is_by_power-by_power.ensures c.in_default.ensures)
    (sym c.in_default-end.is ∙ c.requires.end)
    (none_among text lines (subst (HasFound (rows_at text lines) (IsWrongWithOthers (rows_at text lines))
    (length lines)) c.in_default-found.is c.in_ok-judged.ensures.found)) c.in-None.ensures
