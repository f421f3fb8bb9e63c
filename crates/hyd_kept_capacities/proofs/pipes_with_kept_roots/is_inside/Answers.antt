use Rattle.std.proofs.Common.{pos, negsuc, ◌≤ℤ◌, w32, to_z, of_z, arith}
use Rattle.std.proofs.lemmas.Int.{ints}
use Rattle.std.proofs.lemmas.Bool.{OnTrue_from}
use Rattle.hyd_capacities.proofs.Exponents.{from-least, below-greatest}
use Rattle.hyd_kept_capacities.proofs.pipes_with_kept_roots.is_inside.Goals as goal

pub returns-clause-least : goal.returns-clause-least
returns-clause-least c = OnTrue_from _ _ (λ t.
    let from : negsuc 122 ≤ℤ to_z w32 (of_z w32 c.args.pair.lo.exp) = grind (arith, ints) in
    from-least c.args.pair.lo (omega (arith, ints)))

pub returns-clause-greatest : goal.returns-clause-greatest
returns-clause-greatest c = OnTrue_from _ _ (λ t.
    let below : to_z w32 (of_z w32 c.args.pair.hi.exp) ≤ℤ pos 3 = grind (arith, ints) in
    below-greatest c.args.pair.hi (omega (arith, ints)))
