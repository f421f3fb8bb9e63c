use Rattle.std.proofs.Common.{sym, ◌∙◌, arith, length}
use Rattle.std.proofs.lemmas.Bool.{eqb-true}
use Rattle.hyd_line_reader.proofs.Numerals.{short_numeral, some_length, zero_some, zero_none, digits_some, digits_fit}
use Rattle.hyd_line_reader.proofs.Numerals.{digits_none}
use Rattle.hyd_line_reader.proofs.words.number.Goals as goal

pub returns-then-is_empty-clause-none : goal.returns-then-is_empty-clause-none
returns-then-is_empty-clause-none c = λ n fits e.
    let k = short_numeral c.args.word.now n fits e in
    let z = eqb-true (length c.args.word.now) 0 (sym c.is_empty.ensures ∙ c.if-is_empty.true) in
    omega (arith, k.some, z)

pub returns-then-word-gt19-clause-none : goal.returns-then-word-gt19-clause-none
returns-then-word-gt19-clause-none c = λ n fits e. let k = short_numeral c.args.word.now n fits e in
    omega (arith, k.few)

pub returns-then-word-eq48-clause-some : goal.returns-then-word-eq48-clause-some
returns-then-word-eq48-clause-some c = zero_some c.args.word.now c.zero.result c.if-word-eq48.true c.zero.ensures.some

pub returns-then-word-eq48-clause-none : goal.returns-then-word-eq48-clause-none
returns-then-word-eq48-clause-none c = zero_none c.args.word.now c.zero.result c.if-word-eq48.true c.zero.ensures.none

pub returns-clause-some : goal.returns-clause-some
returns-clause-some c =
    digits_some c.args.word.now c.digits.result (some_length c.args.word.now (sym c.is_empty.ensures
    ∙ c.if-is_empty.false)) c.if-word-gt19.false c.if-word-eq48.false c.digits.ensures.some

pub returns-clause-fits : goal.returns-clause-fits
returns-clause-fits c = digits_fit c.args.word.now c.digits.result c.if-word-gt19.false c.digits.ensures.some

pub returns-clause-none : goal.returns-clause-none
returns-clause-none c = digits_none c.args.word.now c.digits.result c.digits.ensures.none
