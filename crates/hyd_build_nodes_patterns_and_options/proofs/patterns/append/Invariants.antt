use Rattle.std.proofs.Common.{◌≡◌, ◌++◌, ◌^◌, None, map, length}
use Rattle.hyd_num.specs.Numeral.{nano_of}
use Rattle.hyd_spec_lines.specs.WordsOfLines.{words_in}
use Rattle.hyd_spec_input.specs.Columns.{within}
use Rattle.hyd_spec_input.specs.DemandEmitterCurvePatternAndStatusRows.{each}
use Rattle.hyd_build_nodes_patterns_and_options.proofs.patterns.append.Given as goal

abbrev pub invariant-loop-word : goal.invariant-loop-word
invariant-loop-word l = record {
  list : l.multipliers.list ++ map nano_of (words_in l.rest)
      ≡ l.initial.multipliers.list ++ map nano_of (words_in l.fn.words);
  right : each (within (10 ^ 6)) (words_in l.rest) ≡ None;
}

abbrev pub decreases-loop-word : goal.decreases-loop-word
decreases-loop-word l = length l.rest
