use Rattle.hyd_option_and_rule_lines.specs.FaultOrValue.{words_at}
use Rattle.hyd_judge_nodes_curves_and_options.proofs.ExtremeLemmas.{multipliers_are_right}
use Rattle.hyd_judge_nodes_curves_and_options.proofs.pattern_extremes.row_widened.Goals as goal

pub widened_by-requires : goal.widened_by-requires
widened_by-requires c = rw c.in-Ok.ensures.1.multipliers (multipliers_are_right
    (words_at c.args.text.now c.args.line.now) c.requires.right)
