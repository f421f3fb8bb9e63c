-- The heads and flows of a period that clauses of rules read.
use Rattle.std.specs.Prelude.{◌≡◌, ℤ, List, ◌++◌, map}
use Rattle.hyd_num.specs.declared.spans.Span.{Span}
use Rattle.hyd_spec_certificates.specs.SpansAsIntervals.{flows_of}
use Rattle.hyd_spec_certificates.specs.PeriodNetwork.{Grid}
use Rattle.hyd_spec_certificates.specs.RecordAndStanding.{Record}
use Rattle.hyd_spec_certificates.specs.Decided.{flow_boxes}

-- the heads of junctions and then of reservoirs are those of a record's vectors with all tanks alike, and the flows of
-- links are their flow boxes
pub record AreRead (grid : Grid) (row : Record) (low high : List ℤ) (flows : List Span) : Type 0 where
  pub low_is : low ≡ row.main.lower ++ grid.reservoirs
  pub high_is : high ≡ row.main.upper ++ grid.reservoirs
  pub flows_are : map flows_of flows ≡ flow_boxes grid row
