-- The flow boxes of links between vectors of heads.
use Rattle.std.specs.Prelude.{ℤ, List, map}
use Rattle.hyd_spec_certificates.specs.declared.Problem.TheVariants.{Main}
use Rattle.hyd_spec_certificates.specs.declared.Side.TheVariants.{Upper, Lower}
use Rattle.hyd_spec_certificates.specs.Interval.{Interval}
use Rattle.hyd_spec_certificates.specs.PeriodNetwork.{Grid, GridLink, all_heads}
use Rattle.hyd_spec_certificates.specs.FlowIntervals.{flow_box}

-- The flow box of a link between heads of junctions below and above.
abbrev pub box_between : Grid → List ℤ → List ℤ → GridLink → Interval
box_between grid low high link = flow_box link (all_heads grid Main Lower low) (all_heads grid Main Upper high)

-- The flow boxes of all links.
abbrev pub boxes_between : Grid → List ℤ → List ℤ → List Interval
boxes_between grid low high = map (box_between grid low high) grid.links
