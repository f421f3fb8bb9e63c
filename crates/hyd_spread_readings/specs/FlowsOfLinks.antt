-- The flow boxes of links between vectors of heads of both sides.
use Rattle.std.specs.Prelude.{ℤ, List, map}
use Rattle.hyd_spec_certificates.specs.declared.Problem.TheVariants.{Main}
use Rattle.hyd_spec_certificates.specs.Interval.{Interval}
use Rattle.hyd_spec_certificates.specs.PeriodNetwork.{GridLink}
use Rattle.hyd_spec_certificates.specs.FlowIntervals.{flow_box}
use Rattle.hyd_spec_spread_runs.specs.OutermostPairs.{Pair, spanned}
use Rattle.hyd_spread_bounds.specs.BothSides.{all_below, all_above}

-- the flow box of a link between heads of junctions below and above
abbrev pub box_over : Pair → List ℤ → List ℤ → GridLink → Interval
box_over pair low high link = flow_box link (all_below pair Main low) (all_above pair Main high)

-- the flow boxes of all links
abbrev pub boxes_over : Pair → List ℤ → List ℤ → List Interval
boxes_over pair low high = map (box_over pair low high) (spanned pair).links
