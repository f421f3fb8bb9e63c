use Rattle.std.proofs.Common.{sym, ◌∙◌, arith, length}
use Rattle.std.proofs.lemmas.Bool.{eqb-true}
use Rattle.hyd_line_reader.proofs.Numerals.{wide_numeral, wide_zero, zero_spells, digits_spell, some_length, not_one}
use Rattle.hyd_line_reader.proofs.words.is_number.Goals as goal

pub returns-then-is_empty-clause-no : goal.returns-then-is_empty-clause-no
returns-then-is_empty-clause-no c = λ b n fits e.
    let some = (wide_numeral c.args.word.now n fits e).0 in
    let z = eqb-true (length c.args.word.now) 0 (sym c.is_empty.ensures ∙ c.if-is_empty.true) in omega (arith, some, z)

pub returns-then-word-eq48-clause-yes : goal.returns-then-word-eq48-clause-yes
returns-then-word-eq48-clause-yes c = λ one. zero_spells c.args.word.now c.if-word-eq48.true
    (eqb-true (length c.args.word.now) 1 one)

pub returns-then-word-eq48-clause-no : goal.returns-then-word-eq48-clause-no
returns-then-word-eq48-clause-no c = λ other n fits e. not_one (length c.args.word.now) other
    (wide_zero c.args.word.now n fits e c.if-word-eq48.true)

pub returns-clause-yes : goal.returns-clause-yes
returns-clause-yes c = λ digits.
    digits_spell c.args.word.now (some_length c.args.word.now (sym c.is_empty.ensures ∙ c.if-is_empty.false))
    c.requires (c.has_digits_alone.ensures.yes digits) c.if-word-eq48.false

pub returns-clause-no : goal.returns-clause-no
returns-clause-no c = λ other n fits e. c.has_digits_alone.ensures.no other (wide_numeral c.args.word.now n fits e).1
