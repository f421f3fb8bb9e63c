use Rattle.std.proofs.Common.{negsuc, ◌≤ℤ◌, ◌<ℤ◌, w32, to_z, of_z, arith}
use Rattle.std.proofs.lemmas.Int.{ints}
use Rattle.std.proofs.lemmas.Bool.{OnTrue_from, OnFalse_from}
use Rattle.hyd_capacities.proofs.Exponents.{below-least, from-least}
use Rattle.hyd_capacities.proofs.capacity_range.is_below_least.Goals as goal

pub returns-clause-below : goal.returns-clause-below
returns-clause-below c = OnTrue_from _ _ (λ t.
    let below : to_z w32 (of_z w32 c.args.low.exp) <ℤ negsuc 122 = grind (arith, ints) in
    below-least c.args.low (omega (arith, ints)))

pub returns-clause-from : goal.returns-clause-from
returns-clause-from c = OnFalse_from _ _ (λ t.
    let from : negsuc 122 ≤ℤ to_z w32 (of_z w32 c.args.low.exp) = grind (arith, ints) in
    from-least c.args.low (omega (arith, ints)))
