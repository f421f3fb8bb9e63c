use Rattle.std.proofs.Common.{◌∷◌, ◌++◌, decimal}
use Rattle.hyd_cert.proofs.LineLemmas.{first_number, no_space}
use Rattle.hyd_witness_texts.proofs.numbers_read.three_numbers.Goals as goal

pub returns-in_default-clause-none : goal.returns-in_default-clause-none
returns-in_default-clause-none c = λ a b d fits_a fits_b fits_d e. no_space c.args.text.now
    (decimal b ++ (32 ∷ decimal d)) a c.in_default.ensures.none e

pub returns-in_default-split_word-clause-none : goal.returns-in_default-split_word-clause-none
returns-in_default-split_word-clause-none c = λ a b d fits_a fits_b fits_d e.
    let k = first_number c.args.text.now c.in-Some.first.now c.in-Some.rest.now (decimal b ++ (32 ∷ decimal d)) a
    fits_a c.in-Some.ensures.word c.in-Some.ensures.some e in
    no_space c.in-Some.rest.now (decimal d) b c.in_default-split_word.ensures.none k.1

pub returns-in_default-small_number-clause-none : goal.returns-in_default-small_number-clause-none
returns-in_default-small_number-clause-none c = λ a b d fits_a fits_b fits_d e.
    let k = first_number c.args.text.now c.in-Some.first.now c.in-Some.rest.now (decimal b ++ (32 ∷ decimal d)) a
    fits_a c.in-Some.ensures.word c.in-Some.ensures.some e in
    c.in_default-small_number.ensures.none a fits_a k.0

pub returns-in_default-small_number-2-clause-none : goal.returns-in_default-small_number-2-clause-none
returns-in_default-small_number-2-clause-none c = λ a b d fits_a fits_b fits_d e.
    let k = first_number c.args.text.now c.in-Some.first.now c.in-Some.rest.now (decimal b ++ (32 ∷ decimal d)) a
    fits_a c.in-Some.ensures.word c.in-Some.ensures.some e in
    let m = first_number c.in-Some.rest.now c.in-Some-split_word.second.now c.in-Some-split_word.third.now (decimal d) b
    fits_b c.in-Some-split_word.ensures.word c.in-Some-split_word.ensures.some k.1 in
    c.in_default-small_number-2.ensures.none b fits_b m.0

pub returns-in_default-small_number-3-clause-none : goal.returns-in_default-small_number-3-clause-none
returns-in_default-small_number-3-clause-none c = λ a b d fits_a fits_b fits_d e.
    let k = first_number c.args.text.now c.in-Some.first.now c.in-Some.rest.now (decimal b ++ (32 ∷ decimal d)) a
    fits_a c.in-Some.ensures.word c.in-Some.ensures.some e in
    let m = first_number c.in-Some.rest.now c.in-Some-split_word.second.now c.in-Some-split_word.third.now (decimal d) b
    fits_b c.in-Some-split_word.ensures.word c.in-Some-split_word.ensures.some k.1 in
    c.in_default-small_number-3.ensures.none d fits_d m.1
