-- The outflow of a junction under each assignment of a network within a spread lies in the box of the two outermost
-- grids.
use Rattle.std.proofs.Common.{◌≡◌, ℕ, ◌*◌, ◌<◌, ℤ, pos, ◌+ℤ◌, ◌-ℤ◌, ◌*ℤ◌, ◌≤ℤ◌, ◌∙◌, sym, subst, arith, List}
use Rattle.std.proofs.Common.{length}
use Rattle.std.specs.Prelude.{Option, Some, None, slice_get, MatchOption}
use Rattle.std.specs.Option.{IfSome}
use Rattle.std.proofs.lemmas.Int.{ints}
use Rattle.std.proofs.lemmas.Option.{slice_get-get_or, slice_get_within}
use Rattle.hyd_num.proofs.Integers.{times_plus, times_minus, times_rises}
use Rattle.hyd_spec.specs.ProgramTypes.{Project, Junction, LinkState, Capacity}
use Rattle.hyd_spec.specs.declared.TankState.{TankState}
use Rattle.hyd_spec.specs.Scale.{missed_flow_ticks}
use Rattle.hyd_spec.specs.Law.{QuadraticLaw, Follows}
use Rattle.hyd_spec.specs.DemandsHeadsAndPumpLifts.{demand_of}
use Rattle.hyd_spec.specs.Assignment.{Assignment, JunctionObeys, head_at, flow_at}
use Rattle.hyd_spec_certificates.specs.declared.Problem.TheVariants.{Main}
use Rattle.hyd_spec_certificates.specs.declared.Side.TheVariants.{Upper, Lower}
use Rattle.hyd_spec_certificates.specs.Interval.{Interval}
use Rattle.hyd_spec_certificates.specs.EnclosingFunctions.{demand_low, demand_high, emitter_low}
use Rattle.hyd_spec_certificates.specs.EnclosingFunctions.{emitter_high}
use Rattle.hyd_spec_certificates.specs.PeriodNetwork.{Grid, GridJunction}
use Rattle.hyd_spec_certificates.specs.FlowIntervals.{emitter_box}
use Rattle.hyd_spec_certificates.specs.Certificate.{IsCertificate}
use Rattle.hyd_spec_spread.specs.Spreads.{Spread}
use Rattle.hyd_spec_spread.specs.IntervalsOfData.{KnownJunction, known_junctions}
use Rattle.hyd_spec_spread.specs.NetworksWithin.{NodeData, with_data, IsJunctionWithin}
use Rattle.hyd_spec_spread.specs.OutermostGrids.{IsOutermostJunction, IsOutermostGrid}
use Rattle.hyd_spec_spread_runs.specs.OutermostPairs.{outflow_over}
use Rattle.hyd_lemmas.proofs.ListsOptionsAndResults.{same_item}
use Rattle.hyd_theorems_on_definitions.specs.LyingInIntervals.{LiesIn}
use Rattle.hyd_theorems_on_definitions.specs.SoundLawsAndGrids.{IsSoundCapacity}
use Rattle.hyd_theorems_on_definitions.proofs.FlowsAtOneNode.{flow-below, flow-above}
use Rattle.hyd_theorems_on_spread.specs.AssignmentsWithin.{IsAssignmentWithin}
use Rattle.hyd_theorems_on_spread.proofs.DemandFlowsInOrder.{demand-under, demand-over}
use Rattle.hyd_theorems_on_spread.proofs.OutermostJunctions.{CoversAll, emitter-low-covers, emitter-high-covers}
use Rattle.hyd_theorems_on_spread.proofs.OutermostJunctions.{emitter-within, law-there}
use Rattle.hyd_theorems_on_spread.proofs.HeadsWithin.{emitter-sound, heads-below, heads-above, as-long, some}
use Rattle.hyd_theorems_on_spread.proofs.ZippedLists.{zip-long, beside-first, item-at}

-- ---- emitters

-- the box of an emitter that reaches over another one holds the flow of that
emits-low : (wide own : Option Capacity) (S : ℕ) (p : Interval) (x q : ℤ) → CoversAll wide own
    → IfSome own IsSoundCapacity → 0 < S → (pos S *ℤ p.lo) ≤ℤ x
    → MatchOption own (q ≡ pos 0) (λ c. Follows (QuadraticLaw c) S x q) → (pos S *ℤ (emitter_box wide p).lo) ≤ℤ q
unfolding CoversAll
emits-low None None S p x q covers sound positive under follows = omega (arith, ints, follows)
emits-low None (Some b) S p x q covers sound positive under follows = absurd covers
emits-low (Some a) None S p x q covers sound positive under follows = absurd covers
emits-low (Some a) (Some b) S p x q covers sound positive under follows =
    let f = flow-below (QuadraticLaw b) S p.lo x q sound positive under follows in
    let l = times_rises S (emitter_low (Some a) p.lo) (emitter_low (Some b) p.lo)
    (emitter-low-covers (Some a) (Some b) covers p.lo) in
    rw times_minus (omega (arith, ints, f, l))

emits-high : (wide own : Option Capacity) (S : ℕ) (p : Interval) (x q : ℤ) → CoversAll wide own
    → IfSome own IsSoundCapacity → 0 < S → x ≤ℤ (pos S *ℤ p.hi)
    → MatchOption own (q ≡ pos 0) (λ c. Follows (QuadraticLaw c) S x q) → q ≤ℤ (pos S *ℤ (emitter_box wide p).hi)
unfolding CoversAll
emits-high None None S p x q covers sound positive over follows = omega (arith, ints, follows)
emits-high None (Some b) S p x q covers sound positive over follows = absurd covers
emits-high (Some a) None S p x q covers sound positive over follows = absurd covers
emits-high (Some a) (Some b) S p x q covers sound positive over follows =
    let f = flow-above (QuadraticLaw b) S p.hi x q sound positive over follows in
    let l = times_rises S (emitter_high (Some b) p.hi) (emitter_high (Some a) p.hi)
    (emitter-high-covers (Some a) (Some b) covers p.hi) in
    rw times_plus (omega (arith, ints, f, l))

-- ---- a junction

summed-low : (S : ℕ) (lo wide d e : ℤ) → (pos S *ℤ lo) ≤ℤ (d +ℤ pos (S * missed_flow_ticks)) → (pos S *ℤ wide) ≤ℤ e
    → (pos S *ℤ ((lo -ℤ pos missed_flow_ticks) +ℤ wide)) ≤ℤ (d +ℤ e)
summed-low S lo wide d e a b =
    let each = times_minus S lo (pos missed_flow_ticks) in
    omega (arith, ints, a, b, each, times_plus S (lo -ℤ pos missed_flow_ticks) wide)

summed-high : (S : ℕ) (hi wide d e : ℤ) → (d -ℤ pos (S * missed_flow_ticks)) ≤ℤ (pos S *ℤ hi) → e ≤ℤ (pos S *ℤ wide)
    → (d +ℤ e) ≤ℤ (pos S *ℤ ((hi +ℤ pos missed_flow_ticks) +ℤ wide))
summed-high S hi wide d e a b =
    let each = times_plus S hi (pos missed_flow_ticks) in
    omega (arith, ints, a, b, each, times_plus S (hi +ℤ pos missed_flow_ticks) wide)

module _ (project : Project) (nodes : NodeData) (time S : ℕ) (positive : 0 < S) (known : KnownJunction)
    (junction : Junction) (within : IsJunctionWithin (with_data project nodes) time known junction)
    (assignment : Assignment) (j : ℕ) (obeys : JunctionObeys (with_data project nodes) time S assignment j junction)
    (below above : ℤ) (under : (pos S *ℤ below) ≤ℤ head_at assignment.heads j)
    (over : head_at assignment.heads j ≤ℤ (pos S *ℤ above)) where
  abbrev pressures : Interval
  pressures = record { lo = below -ℤ junction.elevation; hi = above -ℤ junction.elevation }

  abbrev pressure : ℤ
  pressure = head_at assignment.heads j -ℤ (pos S *ℤ junction.elevation)

  least : (pos S *ℤ pressures.lo) ≤ℤ pressure
  least = rw times_minus (omega (arith, ints, under))

  greatest : pressure ≤ℤ (pos S *ℤ pressures.hi)
  greatest = rw times_minus (omega (arith, ints, over))

  its-emitter : IfSome junction.emitter IsSoundCapacity
  its-emitter = emitter-sound known.factors known.emitter junction.emitter within.emitter

  least-out : (upper lower : GridJunction) → IsOutermostJunction project Upper known upper
      → (pos S *ℤ (outflow_over upper lower below above).lo) ≤ℤ (flow_at assignment.demands j
      +ℤ flow_at assignment.emitters j)
  least-out upper lower is =
      let same : upper.elevation ≡ junction.elevation = is.elevation ∙ sym within.elevation in
      let a = demand-under (with_data project nodes) known.demand.lo (demand_of (with_data project nodes) time junction)
      upper.demand S pressures.lo pressure (flow_at assignment.demands j) within.demand.low
      (law-there project nodes known.demand.lo upper.demand is.demand) positive least obeys.demand in
      let c = emits-low upper.emitter junction.emitter S pressures pressure (flow_at assignment.emitters j)
      (emitter-within known.factors known.emitter upper.emitter junction.emitter is.emitter within.emitter) its-emitter
      positive least obeys.emitter in
      rw same (summed-low S (demand_low upper.demand pressures.lo) (emitter_box upper.emitter pressures).lo
      (flow_at assignment.demands j) (flow_at assignment.emitters j) a c)

  greatest-out : (upper lower : GridJunction) → IsOutermostJunction project Lower known lower
      → (flow_at assignment.demands j +ℤ flow_at assignment.emitters j)
      ≤ℤ (pos S *ℤ (outflow_over upper lower below above).hi)
  greatest-out upper lower is =
      let same : lower.elevation ≡ junction.elevation = is.elevation ∙ sym within.elevation in
      let a = demand-over (with_data project nodes) known.demand.hi (demand_of (with_data project nodes) time junction)
      lower.demand S pressures.hi pressure (flow_at assignment.demands j) within.demand.high
      (law-there project nodes known.demand.hi lower.demand is.demand) positive greatest obeys.demand in
      let c = emits-high lower.emitter junction.emitter S pressures pressure (flow_at assignment.emitters j)
      (emitter-within known.factors known.emitter lower.emitter junction.emitter is.emitter within.emitter) its-emitter
      positive greatest obeys.emitter in
      rw same (summed-high S (demand_high lower.demand pressures.hi) (emitter_box lower.emitter pressures).hi
      (flow_at assignment.demands j) (flow_at assignment.emitters j) a c)

-- ---- all junctions

module _ (project : Project) (spread : Spread) (S time : ℕ) (intervals : List Interval) (levels : List ℤ)
    (tanks : List TankState) (links : List LinkState) (nodes : NodeData) (assignment : Assignment)
    (is : IsAssignmentWithin project spread S time intervals levels tanks links nodes assignment)
    (over under : Grid) (outer : IsOutermostGrid project spread Upper time intervals tanks links over)
    (inner : IsOutermostGrid project spread Lower time intervals tanks links under) (above below : List ℤ)
    (is_above : IsCertificate over Main Upper above) (is_below : IsCertificate under Main Lower below) where
  pub outflow_lies : (j : ℕ) (upper lower : GridJunction) → slice_get over.junctions j ≡ Some upper
      → slice_get under.junctions j ≡ Some lower
      → LiesIn S (outflow_over upper lower (head_at below j) (head_at above j))
      (flow_at assignment.demands j +ℤ flow_at assignment.emitters j)
  outflow_lies j upper lower at_upper at_lower =
      let long = zip-long (IsOutermostJunction project Upper) (known_junctions project spread time) over.junctions
      outer.junctions in
      let inside = slice_get_within over.junctions j upper at_upper in
      let k = item-at (known_junctions project spread time) j (omega (arith, long, inside)) in
      let x = beside-first (IsOutermostJunction project Upper) (known_junctions project spread time) over.junctions
      outer.junctions j k.0 k.1 in
      let z = beside-first (IsOutermostJunction project Lower) (known_junctions project spread time) under.junctions
      inner.junctions j k.0 k.1 in
      let y = beside-first (IsJunctionWithin (with_data project nodes) time) (known_junctions project spread time)
      nodes.junctions.list is.within.junctions j k.0 k.1 in
      let same-upper : x.beside ≡ upper = same_item GridJunction x.beside upper (sym x.is_beside ∙ at_upper) in
      let same-lower : z.beside ≡ lower = same_item GridJunction z.beside lower (sym z.is_beside ∙ at_lower) in
      let many = as-long project spread S time intervals levels tanks links nodes assignment is over above Main Upper
      outer is_above in
      let each = is_above.one_each in
      let there : j < length assignment.heads = omega (arith, many, each, inside) in
      let h = heads-below project spread S time intervals levels tanks links nodes assignment is over above outer
      is_above j _ (slice_get-get_or assignment.heads j (pos 0) there) in
      let l = heads-above project spread S time intervals levels tanks links nodes assignment is under below inner
      is_below j _ (slice_get-get_or assignment.heads j (pos 0) there) in
      let positive = some project spread S time intervals levels tanks links nodes assignment is over above in
      let obeys = is.assigned.junctions_obey j y.beside y.is_beside in
      record {
        low = least-out project nodes time S positive k.0 y.beside y.holds assignment j obeys (head_at below j)
            (head_at above j) (omega (arith, ints, l)) (omega (arith, ints, h)) upper lower
            (subst (IsOutermostJunction project Upper k.0) same-upper x.holds);
        high = greatest-out project nodes time S positive k.0 y.beside y.holds assignment j obeys (head_at below j)
            (head_at above j) (omega (arith, ints, l)) (omega (arith, ints, h)) upper lower
            (subst (IsOutermostJunction project Lower k.0) same-lower z.holds);
      }
