use Rattle.std.proofs.Common.{sym, subst, ◌∙◌, arith}
use Rattle.hyd_spec_witnesses.specs.WitnessText.{IsScale}
use Rattle.hyd_theorems_on_definitions.proofs.CertificateLines.{decimal-same}
use Rattle.hyd_witness_texts.proofs.WitnessLines.{scale_low}
use Rattle.hyd_witness_texts.proofs.numbers_read.scale.Goals as goal

pub returns-clause-none : goal.returns-clause-none
returns-clause-none c = λ s is e.
    let low = scale_low s is in
    let same = decimal-same c.in_ok-number.number s (let f = c.in_ok-number.ensures.fits in omega (arith, f))
    (omega (arith, low)) (sym c.in_ok-number.ensures.some ∙ e) in
    c.is_scale.ensures.no c.if-is_scale.false (subst IsScale (sym same) is)
