-- The nets of both sides of a period: the pair of grids that they are, when its sides are in order, and the heads of
-- all nodes by vectors of both.
-- Source: this program's, from the bounds of heads (Rheinboldt 1970).
use Rattle.std.specs.Prelude.{◌≡◌, ℤ, ◌≤ℤ◌, List, ◌++◌}
use Rattle.std.specs.List.{AllZip}
use Rattle.hyd_spec_certificates.specs.declared.Problem.{Problem}
use Rattle.hyd_spec_certificates.specs.declared.Side.TheVariants.{Upper, Lower}
use Rattle.hyd_spec_certificates.specs.PeriodNetwork.{all_heads}
use Rattle.hyd_spec_spread_runs.specs.OutermostPairs.{Pair, spanned}
use Rattle.hyd_period_network.specs.NetView.{NetView}
use Rattle.hyd_period_network.specs.NetAsPeriodNetwork.{grid_of}
use Rattle.hyd_theorems_on_spread.specs.GridsBeyondOthers.{TakesNoMore}

-- the grids that two nets are
abbrev pub pair_of : NetView → NetView → Pair
pair_of upper lower = record { upper = grid_of upper; lower = grid_of lower }

-- the first of two heads is no lower than the second
abbrev pub StandsNoLower : ℤ → ℤ → Type 0
StandsNoLower above below = below ≤ℤ above

-- the sides of a pair are in order: with the same tanks and links, no junction of the UPPER grid takes more than that
-- of the LOWER one, and no reservoir stands lower
pub record IsOrderedPair (pair : Pair) : Type 0 where
  pub junctions : AllZip TakesNoMore pair.upper.junctions pair.lower.junctions
  pub reservoirs : AllZip StandsNoLower pair.upper.reservoirs pair.lower.reservoirs
  pub tanks : pair.lower.tanks ≡ pair.upper.tanks
  pub links : pair.lower.links ≡ pair.upper.links

-- heads of all nodes below, from a LOWER vector: its own for junctions, the least ones for reservoirs
abbrev pub all_below : Pair → Problem → List ℤ → List ℤ
all_below pair problem low = all_heads (spanned pair) problem Lower (low ++ pair.lower.reservoirs)

-- heads of all nodes above, from an UPPER vector: its own for junctions, the greatest ones for reservoirs
abbrev pub all_above : Pair → Problem → List ℤ → List ℤ
all_above pair problem high = all_heads (spanned pair) problem Upper (high ++ pair.upper.reservoirs)
