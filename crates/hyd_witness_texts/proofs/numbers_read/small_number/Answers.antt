use Rattle.std.proofs.Common.{sym, ◌∙◌, arith}
use Rattle.hyd_theorems_on_definitions.proofs.CertificateLines.{decimal-same}
use Rattle.hyd_witness_texts.proofs.numbers_read.small_number.Goals as goal

pub returns-in-Err-clause-none : goal.returns-in-Err-clause-none
returns-in-Err-clause-none c = λ n fits e.
    let same = decimal-same c.in_ok-value.value n (let f = c.in_ok-value.ensures.fits in
    omega (arith, f)) (omega arith) (sym c.in_ok-value.ensures.some ∙ e) in
    c.in-Err.ensures (omega (arith, same))
