-- The list of inflows, item by item.
use Rattle.std.proofs.Common.{◌≡◌, ℕ, ◌<◌, length, ℤ, ap, sym, ◌∙◌, arith}
use Rattle.std.proofs.lemmas.List.{length-map}
use Rattle.hyd_num.specs.declared.spans.Span.{Span}
use Rattle.hyd_spec.specs.ProgramTypes.{Project}
use Rattle.hyd_spec.specs.NodeNumbers.{tank_node}
use Rattle.hyd_spec_certificates.specs.SpansAsIntervals.{levels_of, flows_of}
use Rattle.hyd_spec_certificates.specs.declared.Problem.TheVariants.{Pinned}
use Rattle.hyd_spec_certificates.specs.declared.Side.TheVariants.{Upper, Lower}
use Rattle.hyd_spec_certificates.specs.PeriodNetwork.{Grid}
use Rattle.hyd_spec_certificates.specs.Interval.{Interval}
use Rattle.hyd_spec_certificates.specs.FlowIntervals.{inflow_box}
use Rattle.hyd_spec_certificates.specs.RecordAndStanding.{Record, Vectors, no_vectors, vector_of}
use Rattle.hyd_spec_certificates.specs.Decided.{inflow_of_tank, nowhere}
use Rattle.hyd_cert.specs.VectorsOfRecord.{behind_two}
use Rattle.hyd_cert.specs.RecordView.{row_of}
use Rattle.hyd_cert.specs.declared.record.Record.{Record as Row}
use Rattle.hyd_cert.proofs.VectorLemmas.{problems_length}
use Rattle.hyd_period_network.specs.NetView.{NetView}
use Rattle.hyd_period_network.specs.NetAsPeriodNetwork.{grid_of}
use Rattle.hyd_period_network.specs.Demands.{IsNetJunction}
use Rattle.hyd_period_network.specs.NetsSetToPeriods.{IsNetOf}
use Rattle.hyd_bounds.specs.VectorsInOrder.{IsSpan, tank_node_of}
use Rattle.hyd_period_network.proofs.NetOfSoundProject.{long_zipped}
use Rattle.hyd_period_facts.specs.CertificatesPinningTanks.{ArePinned}
use Rattle.hyd_period_facts.proofs.ItemForEachNumber.{placed_first}

-- the node of a tank by the net is that by the network
pub node_is : (project : Project) (net : NetView) (k : ℕ) → IsNetOf project net
    → tank_node_of net k ≡ tank_node project k
node_is project net k of =
    let junctions = long_zipped IsNetJunction project.junctions.list net.junctions of.junctions in
    let reservoirs = of.each_reservoir in
    omega (arith, junctions, reservoirs)

abbrev between : ℤ → ℤ → Interval
between lo hi = record { lo = lo; hi = hi }

pub span_is : (span : Span) (box : Interval) → IsSpan span box → flows_of span ≡ box
span_is span box is =
    ap (λ (lo : ℤ). between lo span.hi) is.lo_is ∙ ap (λ (hi : ℤ). between box.lo hi) is.hi_is

-- the span of a tank by its box is its inflow
pub inflow_is : (project : Project) (net : NetView) (grid : Grid) (row : Record) (k : ℕ) (span : Span)
    → IsNetOf project net
    → k < length row.pinned
    → IsSpan span (inflow_box grid k (tank_node_of net k) (vector_of row (Pinned k) Lower) (vector_of row
    (Pinned k) Upper))
    → flows_of span ≡ inflow_of_tank project grid row k
inflow_is project net grid row k span of within is =
    let box : Interval = inflow_box grid k (tank_node_of net k) (vector_of row (Pinned k) Lower) (vector_of row
    (Pinned k) Upper) in
    let there = placed_first (λ k (vectors : Vectors). inflow_box grid k
    (tank_node project k) vectors.lower vectors.upper) k row.pinned nowhere no_vectors within in
    span_is span box is ∙ ap (λ (node : ℕ). inflow_box grid k node (vector_of row (Pinned k) Lower) (vector_of row
    (Pinned k) Upper)) (node_is project net k of)
    ∙ sym there

-- a tank of the network has vectors that pin it
pub pinned_there : (project : Project) (net : NetView) (row : Row) (k : ℕ) → IsNetOf project net
    → ArePinned (grid_of net) row
    → k < length project.tanks.list → k < length (row_of row).pinned
pinned_there project net row k of pinned h =
    let tanks = of.each_tank in
    let each : length (grid_of net).tanks ≡ length net.tanks = length-map net.tanks levels_of in
    let count = pinned.tanks in
    let rows = problems_length row.junctions row.tanks (behind_two row.junctions row.vectors.list) in
    omega (arith, h, tanks, each, count, rows)
