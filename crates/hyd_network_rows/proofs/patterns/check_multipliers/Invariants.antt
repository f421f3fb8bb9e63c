use Rattle.std.proofs.Common.{◌≡◌, ◌^◌, length}
use Rattle.hyd_spec_lines.specs.WordsOfLines.{words_in}
use Rattle.hyd_spec_input.specs.Columns.{within}
use Rattle.hyd_spec_input.specs.DemandEmitterCurvePatternAndStatusRows.{each}
use Rattle.hyd_network_rows.proofs.patterns.check_multipliers.Given as goal

abbrev pub invariant-loop-word : goal.invariant-loop-word
invariant-loop-word l = each (within (10 ^ 6)) (words_in l.rest) ≡ each (within (10 ^ 6)) (words_in l.multipliers)

abbrev pub decreases-loop-word : goal.decreases-loop-word
decreases-loop-word l = length l.rest
