-- The net outflow of a junction under a vector of heads, at most and at least: for the first the low flows out of it,
-- less the high flows into it, plus the low outflows.
-- Source: Rheinboldt 1970 (M-functions and network flows).
use Rattle.std.specs.Prelude.{ℕ, ◌+◌, ◌*◌, ℤ, pos, ◌+ℤ◌, ◌-ℤ◌, Bool, true, false, List, [], ◌∷◌, ◌==◌}
use Rattle.hyd_spec_certificates.specs.declared.Problem.{Problem}
use Rattle.hyd_spec_certificates.specs.declared.Side.TheVariants.{Upper, Lower}
use Rattle.hyd_spec.specs.Scale.{missed_flow_ticks}
use Rattle.hyd_spec.specs.Assignment.{head_at, where_so}
use Rattle.hyd_spec.specs.Law.{Law}
use Rattle.hyd_spec_certificates.specs.EnclosingFunctions.{low, high, demand_low, demand_high, emitter_low}
use Rattle.hyd_spec_certificates.specs.EnclosingFunctions.{emitter_high}
use Rattle.hyd_spec_certificates.specs.PeriodNetwork.{Grid, GridLink, GridJunction, all_heads}

-- The flows out of a node by one function of a law, less those into it by another, over a list of links.
abbrev pub net : (Law → ℤ → ℤ) → (Law → ℤ → ℤ) → List ℤ → ℕ → List GridLink → ℤ
net out into heads node [] = pos 0
net out into heads node (link ∷ links) =
    (where_so (link.from == node) (out link.law (head_at heads node -ℤ head_at heads link.to))
    -ℤ where_so (link.to == node) (into link.law (head_at heads link.from -ℤ head_at heads node)))
    +ℤ net out into heads node links

-- At most the exact outflows of a junction (flow ticks) at a head.
abbrev pub outflow_low : GridJunction → ℤ → ℤ
outflow_low junction h =
    demand_low junction.demand (h -ℤ junction.elevation) +ℤ emitter_low junction.emitter (h -ℤ junction.elevation)

-- At least them.
abbrev pub outflow_high : GridJunction → ℤ → ℤ
outflow_high junction h =
    demand_high junction.demand (h -ℤ junction.elevation) +ℤ emitter_high junction.emitter (h -ℤ junction.elevation)

-- At most the net outflow of junction number i under a vector u, in flow ticks. The fixed heads are those of the UPPER
-- side.
abbrev pub net_low : Grid → Problem → List ℤ → ℕ → GridJunction → ℤ
net_low grid problem u i junction =
    net low high (all_heads grid problem Upper u) i grid.links +ℤ outflow_low junction (head_at u i)

-- At least it, with the fixed heads of the LOWER side.
abbrev pub net_high : Grid → Problem → List ℤ → ℕ → GridJunction → ℤ
net_high grid problem u i junction =
    net high low (all_heads grid problem Lower u) i grid.links +ℤ outflow_high junction (head_at u i)

-- One where it is so, else nothing.
abbrev pub one_if : Bool → ℕ
one_if true = 1
one_if false = 0

-- The number of link ends at a node.
abbrev pub link_ends : ℕ → List GridLink → ℕ
link_ends node [] = 0
link_ends node (link ∷ links) = (one_if (link.from == node) + one_if (link.to == node)) + link_ends node links

-- The margin of a junction, in flow ticks: all that its links, its demand, its emitter and its
-- balance may miss, ten ticks each.
abbrev pub margin : Grid → ℕ → ℤ
margin grid i = pos ((link_ends i grid.links + 3) * missed_flow_ticks)
