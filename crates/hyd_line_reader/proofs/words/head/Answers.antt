use Rattle.std.proofs.Common.{sym, ◌∙◌, arith, length, suc}
use Rattle.std.proofs.lemmas.Bool.{eqb-true}
use Rattle.std.proofs.lemmas.Fmt.{decimal_injective}
use Rattle.hyd_line_reader.proofs.Numerals.{head_some, unsigned, negative, after_sign}
use Rattle.hyd_line_reader.proofs.words.head.Goals as goal

pub returns-then-is_empty-clause-none : goal.returns-then-is_empty-clause-none
returns-then-is_empty-clause-none c = λ h box e.
    let some = head_some c.args.word.now h box e in
    let z = eqb-true (length c.args.word.now) 0 (sym c.is_empty.ensures ∙ c.if-is_empty.true) in omega (arith, some, z)

pub returns-then-value-gt-BOX-clause-none : goal.returns-then-value-gt-BOX-clause-none
returns-then-value-gt-BOX-clause-none c = λ h box e.
    let k = unsigned c.args.word.now h box e c.if-word-ne45.true in
    let same = decimal_injective c.in_ok-value.value k.magnitude (let f = c.in_ok-value.ensures.fits in
    omega (arith, f)) (omega (arith, k.fits)) (sym c.in_ok-value.ensures.some ∙ k.spelled) in
    omega (arith, same, k.fits)

pub returns-then-value-eq0-clause-none : goal.returns-then-value-eq0-clause-none
returns-then-value-eq0-clause-none c = λ h box e.
    let k = negative c.args.word.now h box e c.if-word-ne45.false in
    let same = decimal_injective c.in-Some.value (suc k.before) (let f = c.in-Some.ensures.fits in
    omega (arith, f)) (omega (arith, k.fits))
    (sym c.in-Some.ensures.some ∙ after_sign c.args.word.now k.before k.spelled) in
    omega (arith, same)

pub returns-then-value-gt-BOX-2-clause-none : goal.returns-then-value-gt-BOX-2-clause-none
returns-then-value-gt-BOX-2-clause-none c = λ h box e.
    let k = negative c.args.word.now h box e c.if-word-ne45.false in
    let same = decimal_injective c.in-Some.value (suc k.before) (let f = c.in-Some.ensures.fits in
    omega (arith, f)) (omega (arith, k.fits))
    (sym c.in-Some.ensures.some ∙ after_sign c.args.word.now k.before k.spelled) in
    omega (arith, same, k.fits)

pub returns-in_default-clause-none : goal.returns-in_default-clause-none
returns-in_default-clause-none c = λ h box e.
    let k = negative c.args.word.now h box e c.if-word-ne45.false in
    c.in_default.ensures.none (suc k.before) (omega (arith, k.fits)) (after_sign c.args.word.now k.before k.spelled)
