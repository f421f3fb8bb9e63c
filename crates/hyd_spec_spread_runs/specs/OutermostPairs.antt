-- What certificates on the two outermost grids of a period tell: heads, flows, tank inflows and outflows between the
-- two sides. The heads of reservoirs are known within limits as those of junctions are, so they stand in the vectors
-- behind those: the least ones in LOWER vectors, the greatest ones in UPPER vectors. What a record decides is then said
-- by the words for a single grid.
-- Source: this program's, from the bounds of heads (Rheinboldt 1970).
use Rattle.std.specs.Prelude.{ℤ, [], ◌++◌, map}
use Rattle.hyd_spec_certificates.specs.declared.Side.{Side}
use Rattle.hyd_spec_certificates.specs.declared.Side.TheVariants.{Upper, Lower}
use Rattle.hyd_spec_certificates.specs.Interval.{Interval}
use Rattle.hyd_spec_certificates.specs.PeriodNetwork.{Grid, GridJunction}
use Rattle.hyd_spec_certificates.specs.FlowIntervals.{out_box}
use Rattle.hyd_spec_certificates.specs.RecordAndStanding.{Record, Vectors}

-- The outermost grids of a period, one a side. They have the same tanks and links.
pub record Pair : Type 0 where
  pub upper : Grid
  pub lower : Grid

-- The grid of a side.
abbrev pub grid_on : Side → Pair → Grid
grid_on Upper pair = pair.upper
grid_on Lower pair = pair.lower

-- ---- reservoirs beside junctions

-- The network of both grids, in which no head is fixed but those of tanks.
abbrev pub spanned : Pair → Grid
spanned pair = record pair.upper { reservoirs = [] }

-- The vectors of a problem with the heads of reservoirs behind those of junctions.
abbrev pub with_reservoirs : Pair → Vectors → Vectors
with_reservoirs pair vectors = record {
  upper = vectors.upper ++ pair.upper.reservoirs;
  lower = vectors.lower ++ pair.lower.reservoirs;
}

-- The record with them.
abbrev pub spanning : Pair → Record → Record
spanning pair row = record row {
  main = with_reservoirs pair row.main;
  pinned = map (with_reservoirs pair) row.pinned;
}

-- ---- outflows

-- The outflow box of a junction between two heads: from the least outflow of its UPPER grid to the greatest one of its
-- LOWER grid.
abbrev pub outflow_over : GridJunction → GridJunction → ℤ → ℤ → Interval
outflow_over upper lower below above = record {
  lo = (out_box upper below above).lo;
  hi = (out_box lower below above).hi;
}
