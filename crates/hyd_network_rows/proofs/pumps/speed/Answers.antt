use Rattle.std.proofs.Common.{sym, ap, ◌∙◌}
use Rattle.hyd_spec_lines.specs.WordsOfLines.{text_of, words_in}
use Rattle.hyd_network_rows.proofs.KeyAndValueLemmas.{speed_is_right}
use Rattle.hyd_network_rows.proofs.pumps.speed.Goals as goal

pub returns-in-Some : goal.returns-in-Some
returns-in-Some c =
    speed_is_right (words_in c.args.pairs.now) c.in-Some.word.now c.number_of.result c.requires
    (sym c.pair_value.ensures ∙ ap text_of c.in-Some.is) c.number_of.ensures
