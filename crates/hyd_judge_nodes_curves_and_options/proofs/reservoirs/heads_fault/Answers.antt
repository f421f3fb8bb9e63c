use Rattle.std.proofs.Common.{sym, ◌∙◌}
use Rattle.hyd_spec_lines.specs.WordsOfLines.{text_of}
use Rattle.hyd_judge_nodes_curves_and_options.specs.Extremes.{bounds}
use Rattle.hyd_judge_nodes_curves_and_options.proofs.NodeLemmas.{heads_are}
use Rattle.hyd_judge_nodes_curves_and_options.proofs.reservoirs.heads_fault.Goals as goal

pub returns : goal.returns
returns c = λ text rows are.
    c.times_fault.ensures
    ∙ heads_are rows c.args.unit c.args.row.now.head.nano (text_of c.args.row.now.pattern) (bounds c.extremes.result)
    (sym c.head_fault.ensures ∙ c.in_default.is) (c.extremes.ensures.extremes text rows are)
