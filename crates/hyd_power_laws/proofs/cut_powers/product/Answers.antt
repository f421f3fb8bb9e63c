use Rattle.std.proofs.Common.{sym, subst, refl}
use Rattle.hyd_spec_power_laws.specs.declared.cut_numbers.CutNumber.{CutNumber}
use Rattle.hyd_spec_power_laws.specs.CutPowers.{IsNormal}
use Rattle.hyd_power_laws.proofs.CutNumbers.{product-cut}
use Rattle.hyd_power_laws.proofs.ProductsByShifts.{by_shift}
use Rattle.hyd_power_laws.proofs.cut_powers.product.Goals as goal

pub returns-clause-normal : goal.returns-clause-normal
returns-clause-normal c =
    rw (c.from.ensures, c.from-2.ensures)
    (subst (λ (n : CutNumber). IsNormal n)
    (sym (by_shift c.args.a c.args.b _ _ c.requires.a_normal c.requires.b_normal refl refl))
    (product-cut c.args.a c.args.b c.requires.a_normal c.requires.b_normal).normal)
