-- The outflow box of a junction from its outflows at both heads.
use Rattle.std.proofs.Common.{◌≡◌, ℕ, ◌*◌, ◌<◌, ℤ, pos, ◌+ℤ◌, ◌-ℤ◌, ◌≤ℤ◌, subst, arith, List, length}
use Rattle.std.specs.Prelude.{Option, Some, None, is_some, slice_get, if◌then◌else◌}
use Rattle.std.specs.Option.{IfSome}
use Rattle.std.proofs.lemmas.Int.{ints}
use Rattle.hyd_num.specs.declared.spans.Span.{Span}
use Rattle.hyd_spec.specs.ProgramTypes.{Capacity}
use Rattle.hyd_spec.specs.Scale.{missed_flow_ticks}
use Rattle.hyd_spec_certificates.specs.EnclosingFunctions.{DemandLaw}
use Rattle.hyd_spec_certificates.specs.PeriodNetwork.{Grid, GridJunction}
use Rattle.hyd_spec_certificates.specs.NetOutflow.{outflow_low, outflow_high}
use Rattle.hyd_spec_certificates.specs.FlowIntervals.{out_box}
use Rattle.hyd_theorems_on_definitions.specs.SoundLawsAndGrids.{IsSteady}
use Rattle.hyd_theorems_on_definitions.proofs.NetOutflowsRise.{demand-at, outflow-rises}
use Rattle.hyd_bounds.specs.VectorsInOrder.{IsSpan}
use Rattle.hyd_lemmas.proofs.ListsOptionsAndResults.{item_there}

-- by how much outflows may miss
abbrev pub miss : Option Capacity → ℤ
miss emitter = if is_some emitter then pos (2 * missed_flow_ticks) else pos missed_flow_ticks

box-is : (elevation : ℤ) (demand : DemandLaw) (emitter : Option Capacity) (h k m : ℤ) (span : Span) → m ≡ miss emitter
    → let junction : GridJunction = record { elevation = elevation; demand = demand; emitter = emitter } in
    span.lo ≡ (outflow_low junction h -ℤ m) → span.hi ≡ (outflow_high junction k +ℤ m)
    → IsSpan span (out_box junction h k)
box-is elevation demand None h k m span is lo hi =
    record { lo_is = omega (arith, ints, is, lo); hi_is = omega (arith, ints, is, hi) }
box-is elevation demand (Some capacity) h k m span is lo hi =
    record { lo_is = omega (arith, ints, is, lo); hi_is = omega (arith, ints, is, hi) }

-- of the junction at a number
pub out-box-at : (junctions : List GridJunction) (i : ℕ) (emitter : Option Capacity) (h k m : ℤ) (span : Span)
    → i < length junctions
    → IfSome (slice_get junctions i) (λ (j : GridJunction). j.emitter ≡ emitter) → m ≡ miss emitter
    → ((j : GridJunction) → slice_get junctions i ≡ Some j → span.lo ≡ (outflow_low j h -ℤ m))
    → ((j : GridJunction) → slice_get junctions i ≡ Some j → span.hi ≡ (outflow_high j k +ℤ m))
    → IfSome (slice_get junctions i) (λ (j : GridJunction). IsSpan span (out_box j h k))
out-box-at junctions i emitter h k m span lt is_emitter is lo hi =
    let at = item_there junctions i lt in
    let junction = at.0 in
    let e : junction.emitter ≡ emitter = subst (λ (o : Option GridJunction). IfSome o (λ (j : GridJunction). j.emitter
    ≡ emitter)) at.1 is_emitter in
    let m_is : m ≡ miss junction.emitter = rw e is in
    rw at.1 (box-is junction.elevation junction.demand junction.emitter h k m span m_is (lo junction at.1)
    (hi junction at.1))

-- at most as much leaves at the lower head as at the higher one
pub outflows-in-order : (grid : Grid) → IsSteady grid → (i : ℕ) (h k a b : ℤ) → i < length grid.junctions → h ≤ℤ k
    → ((j : GridJunction) → slice_get grid.junctions i ≡ Some j → a ≡ outflow_low j h)
    → ((j : GridJunction) → slice_get grid.junctions i ≡ Some j → b ≡ outflow_high j k) → a ≤ℤ b
outflows-in-order grid steady i h k a b lt le low high =
    let at = item_there grid.junctions i lt in
    let rises = outflow-rises at.0 h k (demand-at grid.junctions i at.0 steady.demands at.1) le in
    let l = low at.0 at.1 in
    let g = high at.0 at.1 in
    omega (arith, ints, rises, l, g)
