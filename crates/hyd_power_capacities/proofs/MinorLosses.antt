-- The minor loss of a coefficient above 0.
use Rattle.std.proofs.Common.{ℕ, zero, suc, ◌<◌, pos, ◌<ℤ◌, Bool, refl, arith}
use Rattle.std.specs.Prelude.{Some}
use Rattle.std.proofs.lemmas.Int.{ints}
use Rattle.hyd_num.specs.FileQuantity.{billionths}
use Rattle.hyd_num.specs.declared.pairs.Pair.{Pair}
use Rattle.hyd_num.specs.declared.decimals.Decimal.{Decimal}
use Rattle.hyd_spec_power_laws.specs.PowerCapacities.{IsMinorTicks, IsMinorWith}

pub with_minor : (n : ℕ) (diameter k : Decimal) (us : Bool) (r : Pair) → 0 < n → IsMinorTicks diameter k us r
    → IsMinorWith n diameter k us (Some r)
with_minor zero diameter k us r some made = absurd (omega (arith, some))
with_minor (suc n) diameter k us r some made = (r, refl, made)

pub some_billionths : (d : Decimal) → pos 0 <ℤ d.nano → 0 < billionths d
some_billionths d some = omega (arith, ints)
