use Rattle.std.proofs.Common.{ℕ, ℤ, ◌<◌, ◌^◌, ◌*ℤ◌, slice_index_or}
use Rattle.hyd_spec.specs.WholeNumbers.{cut}
use Rattle.hyd_spec_spread_rows.specs.TextsOfSpreads.{interval_from}
use Rattle.hyd_spread_networks.specs.HeadsBySpreads.{StaysHead}
use Rattle.hyd_spread_networks.proofs.heads.all_stay.Given as goal

abbrev pub invariant-loop-i : goal.invariant-loop-i
invariant-loop-i l = (k : ℕ) (d : ℤ) → k < l.i
    → StaysHead (interval_from l.offsets) (cut (l.head *ℤ slice_index_or l.multipliers k d) (10 ^ 9))
