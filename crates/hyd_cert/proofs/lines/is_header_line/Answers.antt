use Rattle.hyd_cert.proofs.LineLemmas.{no_first_space, no_second_space, first_counts, two_counts, version_known}
use Rattle.hyd_cert.proofs.LineLemmas.{header_made}
use Rattle.hyd_cert.proofs.lines.is_header_line.Goals as goal

pub returns-in_default-split_word-clause-no : goal.returns-in_default-split_word-clause-no
returns-in_default-split_word-clause-no c = λ b header l p e.
    no_first_space c.args.line.now c.in-Some.rest.now l header c.in-Some.ensures.some
    c.in_default-split_word.ensures.none p e

pub returns-then-not-is_version-clause-no : goal.returns-then-not-is_version-clause-no
returns-then-not-is_version-clause-no c = λ b header l p e.
    let k = first_counts c.args.line.now c.in-Some.rest.now c.in-Some-split_word.version.now
    c.in-Some-split_word.counts.now l header c.in-Some.ensures.some c.in-Some-split_word.ensures.word
    c.in-Some-split_word.ensures.some p e in
    version_known c.in-Some-split_word.version.now header.version p.known k.0
    (c.is_version.ensures.not_first c.if-not-is_version.true)
    (c.is_version.ensures.not_second c.if-not-is_version.true)

pub returns-in_default-split_word-2-clause-no : goal.returns-in_default-split_word-2-clause-no
returns-in_default-split_word-2-clause-no c = λ b header l p e.
    let k = first_counts c.args.line.now c.in-Some.rest.now c.in-Some-split_word.version.now
    c.in-Some-split_word.counts.now l header c.in-Some.ensures.some c.in-Some-split_word.ensures.word
    c.in-Some-split_word.ensures.some p e in
    no_second_space c.in-Some-split_word.counts.now header c.in_default-split_word-2.ensures.none k.1

pub returns-then-not-is_number-clause-no : goal.returns-then-not-is_number-clause-no
returns-then-not-is_number-clause-no c = λ b header l p e.
    let k = first_counts c.args.line.now c.in-Some.rest.now c.in-Some-split_word.version.now
    c.in-Some-split_word.counts.now l header c.in-Some.ensures.some c.in-Some-split_word.ensures.word
    c.in-Some-split_word.ensures.some p e in
    let m = two_counts c.in-Some-split_word.counts.now c.in-Some-split_word-2.junctions.now
    c.in-Some-split_word-2.tanks.now
    l header c.in-Some-split_word-2.ensures.word c.in-Some-split_word-2.ensures.some p k.1 in
    c.is_number.ensures.no c.if-not-is_number.true header.junctions p.junctions_fit m.0

pub returns-clause-yes : goal.returns-clause-yes
returns-clause-yes c = λ number.
    header_made c.args.line.now c.in-Some.rest.now c.in-Some-split_word.version.now c.in-Some-split_word.counts.now
    c.in-Some-split_word-2.junctions.now c.in-Some-split_word-2.tanks.now
    c.in-Some.ensures.some c.in-Some-split_word.ensures.some (c.is_version.ensures.yes c.if-not-is_version.false)
    c.in-Some-split_word-2.ensures.some
    (c.is_number.ensures.yes c.if-not-is_number.false) (c.is_number-2.ensures.yes number) c.requires

pub returns-clause-no : goal.returns-clause-no
returns-clause-no c = λ other header l p e.
    let k = first_counts c.args.line.now c.in-Some.rest.now c.in-Some-split_word.version.now
    c.in-Some-split_word.counts.now l header c.in-Some.ensures.some c.in-Some-split_word.ensures.word
    c.in-Some-split_word.ensures.some p e in
    let m = two_counts c.in-Some-split_word.counts.now c.in-Some-split_word-2.junctions.now
    c.in-Some-split_word-2.tanks.now
    l header c.in-Some-split_word-2.ensures.word c.in-Some-split_word-2.ensures.some p k.1 in
    c.is_number-2.ensures.no other header.tanks p.tanks_fit m.1
