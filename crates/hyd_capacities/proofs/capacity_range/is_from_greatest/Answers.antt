use Rattle.std.proofs.Common.{pos, ◌≤ℤ◌, ◌<ℤ◌, w32, to_z, of_z, arith}
use Rattle.std.proofs.lemmas.Int.{ints}
use Rattle.std.proofs.lemmas.Bool.{OnTrue_from, OnFalse_from}
use Rattle.hyd_capacities.proofs.Exponents.{from-greatest, below-greatest}
use Rattle.hyd_capacities.proofs.capacity_range.is_from_greatest.Goals as goal

pub returns-clause-from : goal.returns-clause-from
returns-clause-from c = OnTrue_from _ _ (λ t.
    let from : pos 3 <ℤ to_z w32 (of_z w32 c.args.high.exp) = grind (arith, ints) in
    from-greatest c.args.high (omega (arith, ints)))

pub returns-clause-below : goal.returns-clause-below
returns-clause-below c = OnFalse_from _ _ (λ t.
    let below : to_z w32 (of_z w32 c.args.high.exp) ≤ℤ pos 3 = grind (arith, ints) in
    below-greatest c.args.high (omega (arith, ints)))
