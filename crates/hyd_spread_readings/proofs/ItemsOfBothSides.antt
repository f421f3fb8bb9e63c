-- What is read on both sides, one item after another: inflows of tanks and heads of nodes. Counts of the nets.
use Rattle.std.proofs.Common.{◌≡◌, ℕ, ◌+◌, ◌<◌, ◌≤◌, ℤ, List, [], ◌∷◌, ◌++◌, length, take, sym, ap, ◌∙◌, arith}
use Rattle.std.proofs.lemmas.List.{length-map}
use Rattle.hyd_num.specs.declared.spans.Span.{Span}
use Rattle.hyd_spec.specs.ProgramTypes.{Project}
use Rattle.hyd_spec.specs.Assignment.{head_at}
use Rattle.hyd_spec.specs.NodeNumbers.{nodes_before_tanks, tank_node}
use Rattle.hyd_spec_certificates.specs.SpansAsIntervals.{flows_of}
use Rattle.hyd_spec_certificates.specs.declared.Problem.TheVariants.{Main, Pinned}
use Rattle.hyd_spec_certificates.specs.declared.Side.TheVariants.{Upper, Lower}
use Rattle.hyd_spec_certificates.specs.FlowIntervals.{inflow_box}
use Rattle.hyd_spec_certificates.specs.RecordAndStanding.{Record, vector_of}
use Rattle.hyd_spec_certificates.specs.Decided.{inflow_of_tank}
use Rattle.hyd_spec_spread_runs.specs.OutermostPairs.{Pair, spanned, spanning}
use Rattle.hyd_theorems_on_definitions.proofs.HeadLists.{head_before}
use Rattle.hyd_bounds.specs.VectorsInOrder.{IsSpan, tank_node_of}
use Rattle.hyd_period_network.specs.NetView.{NetView}
use Rattle.hyd_period_network.specs.GivenData.{HasElevation, IsNetButEmitters}
use Rattle.hyd_period_network.specs.NetsSetToPeriods.{ends_of}
use Rattle.hyd_period_network.proofs.NetOfSoundProject.{long_zipped}
use Rattle.hyd_period_facts.proofs.InflowsByNumber.{span_is}
use Rattle.hyd_period_length.proofs.HeadsAndFlowsSoFar.{one_behind, all_behind, reservoir_is}
use Rattle.hyd_spread_bounds.specs.BothSides.{pair_of, all_below, all_above}
use Rattle.hyd_spread_bounds.proofs.InflowsOfBothSides.{inflow-of-record}

-- ---- counts of a net of a network

pub nodes-are : (project : Project) (net : NetView) → IsNetButEmitters project net
    → length net.junctions + length net.reservoirs ≡ nodes_before_tanks project
nodes-are project net of =
    let junctions = long_zipped HasElevation project.junctions.list net.junctions of.junctions in
    let reservoirs = of.each_reservoir in
    omega (arith, junctions, reservoirs)

pub links-are : (project : Project) (net : NetView) → IsNetButEmitters project net
    → length net.ends ≡ length project.links.list
links-are project net of = ap length of.ends ∙ length-map project.links.list ends_of

-- ---- inflows

-- the node of a tank by the net is that by the network
node-is : (project : Project) (net : NetView) (k : ℕ) → IsNetButEmitters project net
    → tank_node_of net k ≡ tank_node project k
node-is project net k of = let nodes = nodes-are project net of in omega (arith, nodes)

-- the span of a tank by its box is its inflow
pub inflow-is : (project : Project) (upper lower : NetView) (row : Record) (k : ℕ) (span : Span)
    → IsNetButEmitters project upper → k < length row.pinned
    → IsSpan span (inflow_box (spanned (pair_of upper lower)) k (tank_node_of upper k)
    (vector_of row (Pinned k) Lower ++ lower.reservoirs) (vector_of row (Pinned k) Upper ++ upper.reservoirs))
    → flows_of span ≡ inflow_of_tank project (spanned (pair_of upper lower)) (spanning (pair_of upper lower) row) k
inflow-is project upper lower row k span of within is =
    let pair = pair_of upper lower in
    let low = vector_of row (Pinned k) Lower ++ lower.reservoirs in
    let high = vector_of row (Pinned k) Upper ++ upper.reservoirs in
    span_is span (inflow_box (spanned pair) k (tank_node_of upper k) low high) is
    ∙ ap (λ (node : ℕ). inflow_box (spanned pair) k node low high) (node-is project upper k of)
    ∙ sym (inflow-of-record project pair row k within)

-- ---- heads

-- one head more
pub one-head : (all heads : List ℤ) (i : ℕ) (head : ℤ) → i < length all → head ≡ head_at all i → heads ≡ take i all
    → heads ++ head ∷ [] ≡ take (i + 1) all
one-head all heads i head within is before =
    one_behind [] heads all i head (reservoir_is all i head within is) before

-- all heads
pub all-heads-there : (all heads : List ℤ) (i : ℕ) → length all ≤ i → heads ≡ take i all → heads ≡ all
all-heads-there all heads i past is = all_behind [] heads all i past is

-- the heads of nodes before tanks are those of a vector and of the reservoirs
pub head-below : (pair : Pair) (low : List ℤ) (node : ℕ) → node < length (low ++ pair.lower.reservoirs)
    → head_at (all_below pair Main low) node ≡ head_at (low ++ pair.lower.reservoirs) node
head-below pair low node within = head_before (low ++ pair.lower.reservoirs) _ node within

pub head-above : (pair : Pair) (high : List ℤ) (node : ℕ) → node < length (high ++ pair.upper.reservoirs)
    → head_at (all_above pair Main high) node ≡ head_at (high ++ pair.upper.reservoirs) node
head-above pair high node within = head_before (high ++ pair.upper.reservoirs) _ node within
