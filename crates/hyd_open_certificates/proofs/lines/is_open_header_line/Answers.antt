use Rattle.std.proofs.Common.{◌∙◌}
use Rattle.hyd_cert.proofs.LineLemmas.{no_second_space}
use Rattle.hyd_open_certificates.proofs.OpenLineLemmas.{open_header_parts, open_counts, two_open_counts}
use Rattle.hyd_open_certificates.proofs.OpenLineLemmas.{open_header_made}
use Rattle.hyd_open_certificates.proofs.lines.is_open_header_line.Goals as goal

pub returns-in_default-clause-no : goal.returns-in_default-clause-no
returns-in_default-clause-no c = λ b header l p e. c.in_default.ensures.none _ (e ∙ open_header_parts header l p)

pub returns-in_default-split_word-clause-no : goal.returns-in_default-split_word-clause-no
returns-in_default-split_word-clause-no c = λ b header l p e.
    no_second_space c.in-Some.counts.now header c.in_default-split_word.ensures.none
    (open_counts c.args.line.now c.in-Some.counts.now l header c.in-Some.ensures.some p e)

pub returns-then-not-is_number-clause-no : goal.returns-then-not-is_number-clause-no
returns-then-not-is_number-clause-no c = λ b header l p e.
    let k = open_counts c.args.line.now c.in-Some.counts.now l header c.in-Some.ensures.some p e in
    let m = two_open_counts c.in-Some.counts.now c.in-Some-split_word.junctions.now c.in-Some-split_word.tanks.now l
    header c.in-Some-split_word.ensures.word c.in-Some-split_word.ensures.some p k in
    c.is_number.ensures.no c.if-not-is_number.true header.junctions p.junctions_fit m.0

pub returns-clause-yes : goal.returns-clause-yes
returns-clause-yes c = λ number.
    open_header_made c.args.line.now c.in-Some.counts.now c.in-Some-split_word.junctions.now
    c.in-Some-split_word.tanks.now c.in-Some.ensures.some c.in-Some-split_word.ensures.some
    (c.is_number.ensures.yes c.if-not-is_number.false) (c.is_number-2.ensures.yes number) c.requires

pub returns-clause-no : goal.returns-clause-no
returns-clause-no c = λ other header l p e.
    let k = open_counts c.args.line.now c.in-Some.counts.now l header c.in-Some.ensures.some p e in
    let m = two_open_counts c.in-Some.counts.now c.in-Some-split_word.junctions.now c.in-Some-split_word.tanks.now l
    header c.in-Some-split_word.ensures.word c.in-Some-split_word.ensures.some p k in
    c.is_number-2.ensures.no other header.tanks p.tanks_fit m.1
