use Rattle.std.proofs.Common.{length, nat_le, rules, tests}
use Rattle.std.proofs.lemmas.Iterator.Consumers.{nth_from_yields_List, YieldsList-from_filter, YieldsList-at}
use Rattle.std.proofs.lemmas.Iterator.Splits.{YieldsList-from_slice_split}
use Rattle.hyd_spec_lines.specs.WordsOfLines.{words_in, is_blank}
use Rattle.hyd_spread_rows.proofs.lines.word_at.Goals as goal

pub returns : goal.returns
unfolding words_in
returns c = nth_from_yields_List c.nth.result _ c.args.number c.nth.ensures.ran
    (YieldsList-from_filter _ (λ word. nat_le 1 (length word))
    (YieldsList-at c.filter.ensures.source
    (YieldsList-from_slice_split _ is_blank c.args.body.now c.split.ensures.rest c.split.ensures.done
    c.split.ensures.closure (λ x b q k. search (rules, tests))))
    c.filter.ensures.closure (λ x b q k. search (rules, tests)))
