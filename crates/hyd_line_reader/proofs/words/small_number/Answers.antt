use Rattle.std.proofs.Common.{sym, ◌∙◌, arith}
use Rattle.std.proofs.lemmas.Fmt.{decimal_injective}
use Rattle.hyd_line_reader.proofs.words.small_number.Goals as goal

pub returns-in-Err-clause-none : goal.returns-in-Err-clause-none
returns-in-Err-clause-none c = λ n fits e.
    let same = decimal_injective c.in_ok-value.value n (let f = c.in_ok-value.ensures.fits in
    omega (arith, f)) (omega arith) (sym c.in_ok-value.ensures.some ∙ e) in
    c.in-Err.ensures (omega (arith, same))
