use Rattle.hyd_rows_and_tables.specs.RowsOfLines.{rows_at}
use Rattle.hyd_judge_nodes_curves_and_options.proofs.PressureRowLemmas.{minimum_has, required_has}
use Rattle.hyd_judge_nodes_curves_and_options.proofs.options.pressures_in_force.Goals as goal

pub amount_or-requires-clause-right : goal.amount_or-requires-clause-right
amount_or-requires-clause-right c =
    minimum_has c.args.text.now (rows_at c.args.text.now.text c.args.lines.now) c.last_option-minimum.result
    c.requires.right c.last_option-minimum.ensures.last

pub amount_or-requires-2-clause-right : goal.amount_or-requires-2-clause-right
amount_or-requires-2-clause-right c =
    required_has c.args.text.now (rows_at c.args.text.now.text c.args.lines.now) c.last_option-required.result
    c.requires.right c.last_option-required.ensures.last
