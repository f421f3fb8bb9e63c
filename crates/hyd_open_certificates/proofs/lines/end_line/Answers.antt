use Rattle.hyd_cert.proofs.LineLemmas.{end_parts, first_number, no_space, end_word_known}
use Rattle.hyd_cert.specs.Lines.{end_word}
use Rattle.hyd_open_certificates.proofs.lines.end_line.Goals as goal

pub returns-in_default-split_word-clause-none : goal.returns-in_default-split_word-clause-none
returns-in_default-split_word-clause-none c = λ l p e.
    no_space c.in-Some.rest.now (end_word p.finished) p.periods c.in_default-split_word.ensures.none
    (end_parts c.args.line.now c.in-Some.rest.now l c.in-Some.ensures.some p e)

pub returns-in_default-small_number-clause-none : goal.returns-in_default-small_number-clause-none
returns-in_default-small_number-clause-none c = λ l p e.
    let k = first_number c.in-Some.rest.now c.in-Some-split_word.number.now c.in-Some-split_word.word.now
    (end_word p.finished) p.periods p.periods_fit
    c.in-Some-split_word.ensures.word c.in-Some-split_word.ensures.some (end_parts c.args.line.now c.in-Some.rest.now l
    c.in-Some.ensures.some p e) in
    c.in_default-small_number.ensures.none p.periods p.periods_fit k.0

pub returns-in_default-says_finished-clause-none : goal.returns-in_default-says_finished-clause-none
returns-in_default-says_finished-clause-none c = λ l p e.
    let k = first_number c.in-Some.rest.now c.in-Some-split_word.number.now c.in-Some-split_word.word.now
    (end_word p.finished) p.periods p.periods_fit
    c.in-Some-split_word.ensures.word c.in-Some-split_word.ensures.some (end_parts c.args.line.now c.in-Some.rest.now l
    c.in-Some.ensures.some p e) in
    end_word_known c.in-Some-split_word.word.now p.finished c.in_default-says_finished.ensures.finished
    c.in_default-says_finished.ensures.stopped k.1
