use Rattle.std.proofs.Common.{◌≡◌, length}
use Rattle.hyd_spec_lines.specs.WordsOfLines.{words_in}
use Rattle.hyd_spec_input.specs.NodeAndLinkRows as row
use Rattle.hyd_network_rows.proofs.pumps.pair_value.Given as goal

abbrev pub invariant-loop-key : goal.invariant-loop-key
invariant-loop-key l = row.pair_value l.keyword (words_in l.rest) ≡ row.pair_value l.keyword (words_in l.pairs)

abbrev pub decreases-loop-key : goal.decreases-loop-key
decreases-loop-key l = length l.rest
