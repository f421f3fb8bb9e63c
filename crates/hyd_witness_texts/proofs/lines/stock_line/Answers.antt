use Rattle.hyd_witness_texts.proofs.WitnessLines.{no_stock_space, stock_words_same}
use Rattle.hyd_witness_texts.proofs.lines.stock_line.Goals as goal

pub returns-in_default-split_word-clause-none : goal.returns-in_default-split_word-clause-none
returns-in_default-split_word-clause-none c = λ l p. no_stock_space c.args.line.now c.in-Some.rest.now l
    c.in-Some.ensures.some c.in_default-split_word.ensures.none p

pub returns-in_default-value-clause-none : goal.returns-in_default-value-clause-none
returns-in_default-value-clause-none c = λ l p e.
    let k = stock_words_same c.args.line.now c.in-Some.rest.now c.in-Some-split_word.first.now
    c.in-Some-split_word.second.now l c.in-Some.ensures.some c.in-Some-split_word.ensures.word
    c.in-Some-split_word.ensures.some p e in
    c.in_default-value.ensures.none p.level p.level_fits k.0

pub returns-in_default-value-2-clause-none : goal.returns-in_default-value-2-clause-none
returns-in_default-value-2-clause-none c = λ l p e.
    let k = stock_words_same c.args.line.now c.in-Some.rest.now c.in-Some-split_word.first.now
    c.in-Some-split_word.second.now l c.in-Some.ensures.some c.in-Some-split_word.ensures.word
    c.in-Some-split_word.ensures.some p e in
    c.in_default-value-2.ensures.none p.volume p.volume_fits k.1
