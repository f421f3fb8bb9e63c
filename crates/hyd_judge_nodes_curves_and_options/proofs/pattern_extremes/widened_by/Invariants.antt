use Rattle.std.proofs.Common.{◌≡◌, ◌^◌, None, map, length}
use Rattle.hyd_num.specs.Numeral.{nano_of}
use Rattle.hyd_spec_lines.specs.WordsOfLines.{words_in}
use Rattle.hyd_spec_input.specs.Columns.{within}
use Rattle.hyd_spec_input.specs.DemandEmitterCurvePatternAndStatusRows.{each}
use Rattle.hyd_judge_nodes_curves_and_options.specs.Extremes.{bounds, all_widened}
use Rattle.hyd_judge_nodes_curves_and_options.proofs.pattern_extremes.widened_by.Given as goal

abbrev pub invariant-loop-word : goal.invariant-loop-word
invariant-loop-word l = record {
  right : each (within (10 ^ 6)) (words_in l.rest) ≡ None;
  same : all_widened (bounds l.extremes) (map nano_of (words_in l.rest))
      ≡ all_widened (bounds l.fn.before) (map nano_of (words_in l.multipliers));
}

abbrev pub decreases-loop-word : goal.decreases-loop-word
decreases-loop-word l = length l.rest
