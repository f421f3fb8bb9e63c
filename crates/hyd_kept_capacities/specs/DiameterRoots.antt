-- The power 5.33 of a pipe's diameter.
use Rattle.std.specs.Prelude.{Bool, ◌*◌, ◌^◌, ◌≤◌, ◌≡◌, ◌+◌}
use Rattle.hyd_num.specs.declared.decimals.Decimal.{Decimal}
use Rattle.hyd_num.specs.declared.pairs.Pair.{Pair}
use Rattle.hyd_num.specs.FileQuantity.{billionths, feet_across}
use Rattle.hyd_num.specs.Pairs.{IsRoot533, pair_reach}
use Rattle.hyd_num.specs.CapacityPairs.{IsPairOf}

-- The power 5.33 of a diameter in feet, which a file gives in inches or, where it isn't in US units, in millimetres.
pub record IsRootOf (diameter : Decimal) (us : Bool) (root : Pair) : Type 0 where
  pub across : Pair
  pub across_is : IsPairOf (feet_across us (billionths diameter)) across
  pub root_is : IsRoot533 across root
  -- its exponents are far within their type
  pub near : pair_reach root ≤ 2 ^ 20
