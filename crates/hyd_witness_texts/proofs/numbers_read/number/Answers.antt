use Rattle.std.proofs.Common.{sym, ◌∙◌, arith, length}
use Rattle.std.proofs.lemmas.Bool.{eqb-true}
use Rattle.hyd_line_reader.proofs.Numerals.{wide_numeral, some_length}
use Rattle.hyd_witness_texts.proofs.Numerals.{few_digits, zero_some, zero_fits, zero_none, digits_some, digits_fit}
use Rattle.hyd_witness_texts.proofs.Numerals.{digits_none}
use Rattle.hyd_witness_texts.proofs.numbers_read.number.Goals as goal

pub returns-then-is_empty-clause-none : goal.returns-then-is_empty-clause-none
returns-then-is_empty-clause-none c = λ n fits e.
    let k = wide_numeral c.args.word.now n (omega (arith, fits)) e in
    let z = eqb-true (length c.args.word.now) 0 (sym c.is_empty.ensures ∙ c.if-is_empty.true) in
    omega (arith, k.0, z)

pub returns-then-word-gt-MOST_DIGITS-clause-none : goal.returns-then-word-gt-MOST_DIGITS-clause-none
returns-then-word-gt-MOST_DIGITS-clause-none c = λ n fits e. let k = few_digits c.args.word.now n fits e in
    omega (arith, k)

pub returns-then-word-eq48-clause-some : goal.returns-then-word-eq48-clause-some
returns-then-word-eq48-clause-some c = zero_some c.args.word.now c.zero.result c.if-word-eq48.true c.zero.ensures.some

pub returns-then-word-eq48-clause-fits : goal.returns-then-word-eq48-clause-fits
returns-then-word-eq48-clause-fits c = zero_fits c.args.word.now c.zero.result c.zero.ensures.some

pub returns-then-word-eq48-clause-none : goal.returns-then-word-eq48-clause-none
returns-then-word-eq48-clause-none c = zero_none c.args.word.now c.zero.result c.if-word-eq48.true c.zero.ensures.none

pub returns-clause-some : goal.returns-clause-some
returns-clause-some c =
    digits_some c.args.word.now c.digits.result (some_length c.args.word.now (sym c.is_empty.ensures
    ∙ c.if-is_empty.false)) c.if-word-gt-MOST_DIGITS.false c.if-word-eq48.false c.digits.ensures.some

pub returns-clause-fits : goal.returns-clause-fits
returns-clause-fits c = digits_fit c.args.word.now c.digits.result c.if-word-gt-MOST_DIGITS.false c.digits.ensures.some

pub returns-clause-none : goal.returns-clause-none
returns-clause-none c = digits_none c.args.word.now c.digits.result c.digits.ensures.none
