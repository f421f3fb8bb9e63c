use Rattle.std.proofs.Common.{sym, ◌∙◌, arith, length, suc}
use Rattle.std.proofs.lemmas.Bool.{eqb-true}
use Rattle.hyd_theorems_on_definitions.proofs.CertificateLines.{decimal-same}
use Rattle.hyd_witness_texts.proofs.Numerals.{value_some, unsigned, negative, after_sign}
use Rattle.hyd_witness_texts.proofs.numbers_read.value.Goals as goal

pub returns-then-is_empty-clause-none : goal.returns-then-is_empty-clause-none
returns-then-is_empty-clause-none c = λ v fits e.
    let some = value_some c.args.word.now v fits e in
    let z = eqb-true (length c.args.word.now) 0 (sym c.is_empty.ensures ∙ c.if-is_empty.true) in omega (arith, some, z)

pub returns-then-magnitude-gt-VALUE_LIMIT-clause-none : goal.returns-then-magnitude-gt-VALUE_LIMIT-clause-none
returns-then-magnitude-gt-VALUE_LIMIT-clause-none c = λ v fits e.
    let k = unsigned c.args.word.now v fits e c.if-word-ne45.true in
    let same = decimal-same c.in_ok-magnitude.magnitude k.magnitude (let f = c.in_ok-magnitude.ensures.fits in
    omega (arith, f)) (omega (arith, k.fits)) (sym c.in_ok-magnitude.ensures.some ∙ k.spelled) in
    omega (arith, same, k.fits)

pub returns-then-magnitude-eq0-clause-none : goal.returns-then-magnitude-eq0-clause-none
returns-then-magnitude-eq0-clause-none c = λ v fits e.
    let k = negative c.args.word.now v fits e c.if-word-ne45.false in
    let same = decimal-same c.in-Some.magnitude (suc k.before) (let f = c.in-Some.ensures.fits in
    omega (arith, f)) (omega (arith, k.fits))
    (sym c.in-Some.ensures.some ∙ after_sign c.args.word.now k.before k.spelled) in
    omega (arith, same)

pub returns-then-magnitude-gt-VALUE_LIMIT-2-clause-none : goal.returns-then-magnitude-gt-VALUE_LIMIT-2-clause-none
returns-then-magnitude-gt-VALUE_LIMIT-2-clause-none c = λ v fits e.
    let k = negative c.args.word.now v fits e c.if-word-ne45.false in
    let same = decimal-same c.in-Some.magnitude (suc k.before) (let f = c.in-Some.ensures.fits in
    omega (arith, f)) (omega (arith, k.fits))
    (sym c.in-Some.ensures.some ∙ after_sign c.args.word.now k.before k.spelled) in
    omega (arith, same, k.fits)

pub returns-in_default-clause-none : goal.returns-in_default-clause-none
returns-in_default-clause-none c = λ v fits e.
    let k = negative c.args.word.now v fits e c.if-word-ne45.false in
    c.in_default.ensures.none (suc k.before) (omega (arith, k.fits)) (after_sign c.args.word.now k.before k.spelled)
