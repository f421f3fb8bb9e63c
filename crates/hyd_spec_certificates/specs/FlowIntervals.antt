-- Boxes: intervals for flows, outflows and tank inflows, from certificates. Flows are in flow ticks.
-- Source: this program's, from the bounds of heads (Rheinboldt 1970).
use Rattle.std.specs.Prelude.{ℕ, ◌*◌, ℤ, pos, neg_ℤ, ◌-ℤ◌, List, Option, is_some, if◌then◌else◌}
use Rattle.hyd_spec.specs.Scale.{missed_flow_ticks}
use Rattle.hyd_spec.specs.ProgramTypes.{Capacity}
use Rattle.hyd_spec_certificates.specs.declared.Problem.TheVariants.{Pinned}
use Rattle.hyd_spec_certificates.specs.declared.Side.TheVariants.{Upper, Lower}
use Rattle.hyd_spec_certificates.specs.Interval.{Interval, widened, sum_of, exactly}
use Rattle.hyd_spec.specs.Assignment.{head_at}
use Rattle.hyd_spec_certificates.specs.EnclosingFunctions.{low, high, demand_low, demand_high, emitter_low}
use Rattle.hyd_spec_certificates.specs.EnclosingFunctions.{emitter_high}
use Rattle.hyd_spec_certificates.specs.PeriodNetwork.{Grid, GridLink, GridJunction, all_heads}
use Rattle.hyd_spec_certificates.specs.NetOutflow.{net, link_ends}

-- The head difference along a link, from heads of all nodes below and above.
abbrev pub difference : GridLink → List ℤ → List ℤ → Interval
difference link below above = record {
  lo = head_at below link.from -ℤ head_at above link.to;
  hi = head_at above link.from -ℤ head_at below link.to;
}

-- The flow box of a link: from the low flow at its least head difference to the high flow at its
-- greatest, widened by the tolerance.
abbrev pub flow_box : GridLink → List ℤ → List ℤ → Interval
flow_box link below above =
    let d = difference link below above in
    widened (pos missed_flow_ticks) (record { lo = low link.law d.lo; hi = high link.law d.hi })

-- The emitter flow between two pressures, widened by the tolerance where there is an emitter.
abbrev pub emitter_box : Option Capacity → Interval → Interval
emitter_box emitter p =
    if is_some emitter
    then widened (pos missed_flow_ticks) (record { lo = emitter_low emitter p.lo; hi = emitter_high emitter p.hi })
    else exactly (pos 0)

-- The outflow box of a junction between two heads: its demand flow, widened by the tolerance, and its emitter flow.
abbrev pub out_box : GridJunction → ℤ → ℤ → Interval
out_box junction below above =
    let p : Interval = record { lo = below -ℤ junction.elevation; hi = above -ℤ junction.elevation } in
    sum_of
    (widened (pos missed_flow_ticks) (record {
      lo = demand_low junction.demand p.lo;
      hi = demand_high junction.demand p.hi;
    }))
    (emitter_box junction.emitter p)

-- The inflow box of tank number k, whose node is given: the flows toward it from the vectors
-- that were found with it pinned, widened by the tolerance for each of its links.
abbrev pub inflow_box : Grid → ℕ → ℕ → List ℤ → List ℤ → Interval
inflow_box grid k node below above =
    widened (pos (missed_flow_ticks * link_ends node grid.links)) (record {
      lo = neg_ℤ (net high low (all_heads grid (Pinned k) Lower below) node grid.links);
      hi = neg_ℤ (net low high (all_heads grid (Pinned k) Upper above) node grid.links);
    })
