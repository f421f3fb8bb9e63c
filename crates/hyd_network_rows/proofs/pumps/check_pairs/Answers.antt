use Rattle.std.proofs.Common.{◌∙◌}
use Rattle.hyd_spec_lines.specs.WordsOfLines.{words_in}
use Rattle.hyd_network_rows.proofs.KeyAndValueLemmas.{pair_more}
use Rattle.hyd_network_rows.proofs.pumps.check_pairs.Goals as goal

pub loop-key-preserved : goal.loop-key-preserved
loop-key-preserved c =
    pair_more c.loop-key.earlier c.and_key-earlier.result c.in-Some.key.now c.in-Some-split_word.value.now
    (words_in c.loop-key.rest.now) (words_in c.in-Some.behind.now) (words_in c.in-Some-split_word.next.now)
    c.in-Some.ensures.some c.in-Some-split_word.ensures.some c.in_ok-check_key.ensures.0 c.in_ok-check_value.ensures.0
    c.and_key-earlier.ensures
    ∙ c.loop-key.invariant
