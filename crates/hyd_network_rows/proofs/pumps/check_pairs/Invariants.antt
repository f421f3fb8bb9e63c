use Rattle.std.proofs.Common.{◌≡◌, length}
use Rattle.hyd_spec_lines.specs.WordsOfLines.{words_in}
use Rattle.hyd_spec_input.specs.NodeAndLinkRows.{pump_pairs, none_earlier}
use Rattle.hyd_network_rows.proofs.pumps.check_pairs.Given as goal

abbrev pub invariant-loop-key : goal.invariant-loop-key
invariant-loop-key l = pump_pairs l.earlier (words_in l.rest) ≡ pump_pairs none_earlier (words_in l.pairs)

abbrev pub decreases-loop-key : goal.decreases-loop-key
decreases-loop-key l = length l.rest
