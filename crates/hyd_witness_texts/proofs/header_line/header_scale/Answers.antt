use Rattle.hyd_witness_texts.specs.MomentView.{counts_in}
use Rattle.hyd_witness_texts.proofs.WitnessLines.{header_begins, no_header_space, header_words_same, header_made}
use Rattle.hyd_witness_texts.proofs.header_line.header_scale.Goals as goal

pub returns-in_default-clause-none : goal.returns-in_default-clause-none
returns-in_default-clause-none c = λ l p. header_begins c.args.line.now l (counts_in c.args.counts.now)
    c.in_default.ensures.none p

pub returns-in_default-split_word-clause-none : goal.returns-in_default-split_word-clause-none
returns-in_default-split_word-clause-none c = λ l p. no_header_space c.args.line.now c.in-Some.rest.now l
    (counts_in c.args.counts.now) c.in-Some.ensures.some c.in_default-split_word.ensures.none p

pub returns-in_default-scale-clause-none : goal.returns-in_default-scale-clause-none
returns-in_default-scale-clause-none c = λ l p e.
    let k = header_words_same c.args.line.now c.in-Some.rest.now c.in-Some-split_word.word.now
    c.in-Some-split_word.others.now l (counts_in c.args.counts.now) c.in-Some.ensures.some
    c.in-Some-split_word.ensures.word c.in-Some-split_word.ensures.some p e in
    c.in_default-scale.ensures.none p.scale p.is_scale k.0

pub returns-clause-none : goal.returns-clause-none
returns-clause-none c = λ l p e.
    let k = header_words_same c.args.line.now c.in-Some.rest.now c.in-Some-split_word.word.now
    c.in-Some-split_word.others.now l (counts_in c.args.counts.now) c.in-Some.ensures.some
    c.in-Some-split_word.ensures.word c.in-Some-split_word.ensures.some p e in
    c.are_counts.ensures.no c.if-are_counts.false k.1

pub returns-then-are_counts-clause-some : goal.returns-then-are_counts-clause-some
returns-then-are_counts-clause-some c = header_made c.args.line.now c.in-Some.rest.now c.in-Some-split_word.word.now
    c.in-Some-split_word.others.now c.in-Some-scale.number (counts_in c.args.counts.now) c.in-Some.ensures.some
    c.in-Some-split_word.ensures.some c.in-Some-scale.ensures.some
    (c.are_counts.ensures.yes c.if-are_counts.true)
