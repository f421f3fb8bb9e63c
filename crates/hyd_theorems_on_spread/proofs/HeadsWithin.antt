-- The comparison: a certificate for a spread lies strictly on its side of the heads of every assignment of every
-- network within.
use Rattle.std.proofs.Common.{◌≡◌, ℕ, zero, suc, ◌+◌, ◌*◌, ◌<◌, ℤ, pos, neg_ℤ, ◌+ℤ◌, ◌-ℤ◌, ◌*ℤ◌, ◌≤ℤ◌, ◌<ℤ◌}
use Rattle.std.proofs.Common.{refl, sym, subst, ◌∙◌, arith, List, [], ◌∷◌, ◌++◌, length}
use Rattle.std.specs.Prelude.{Option, Some, None, map}
use Rattle.std.specs.List.{AllZip}
use Rattle.std.specs.Option.{IfSome}
use Rattle.std.proofs.lemmas.Int.{ints, by_lt_z}
use Rattle.std.proofs.lemmas.Option.{slice_get_within, get_or_from_slice_get, slice_get-get_or}
use Rattle.hyd_num.proofs.Integers.{times_plus, times_minus, times_rises, times_neg}
use Rattle.hyd_spec.specs.ProgramTypes.{Project, Junction, Reservoir, LinkState, Capacity}
use Rattle.hyd_spec.specs.declared.TankState.{TankState}
use Rattle.hyd_spec.specs.Lists.{Each}
use Rattle.hyd_spec.specs.Scale.{at_scale}
use Rattle.hyd_spec.specs.DemandsHeadsAndPumpLifts.{demand_of, reservoir_head}
use Rattle.hyd_spec.specs.Assignment.{Assignment, JunctionObeys, head_at, flow_at, net_outflow, node_heads, tank_heads}
use Rattle.hyd_spec_certificates.specs.declared.Problem.{Problem}
use Rattle.hyd_spec_certificates.specs.declared.Problem.TheVariants.{Main}
use Rattle.hyd_spec_certificates.specs.declared.Side.{Side}
use Rattle.hyd_spec_certificates.specs.declared.Side.TheVariants.{Upper, Lower}
use Rattle.hyd_spec_certificates.specs.Interval.{Interval}
use Rattle.hyd_spec_certificates.specs.EnclosingFunctions.{low, high, emitter_low, emitter_high}
use Rattle.hyd_spec_certificates.specs.PeriodNetwork.{Grid, GridLink, GridJunction, all_heads, fixed_heads, end_on}
use Rattle.hyd_spec_certificates.specs.PeriodNetwork.{grid_links}
use Rattle.hyd_spec_certificates.specs.NetOutflow.{net, outflow_low, outflow_high, link_ends}
use Rattle.hyd_spec_certificates.specs.Certificate.{IsCertificate}
use Rattle.hyd_spec_spread.specs.Spreads.{Factors, Spread}
use Rattle.hyd_spec_spread.specs.IntervalsOfData.{KnownJunction, known_junctions, known_heads}
use Rattle.hyd_spec_spread.specs.NetworksWithin.{NodeData, with_data, IsJunctionWithin, EmitterIsWithin, HasHeadWithin}
use Rattle.hyd_spec_spread.specs.OutermostGrids.{IsOutermostJunction, IsOutermostGrid}
use Rattle.hyd_theorems_on_definitions.specs.SoundLawsAndGrids.{IsSoundCapacity}
use Rattle.hyd_theorems_on_definitions.proofs.EachLaw.{IsSoundCapacity-made}
use Rattle.hyd_theorems_on_definitions.proofs.FlowsAtOneNode.{IsPeak, IsDip, sum-upper, sum-lower}
use Rattle.hyd_theorems_on_definitions.proofs.HeadsOfAllNodes.{excess, lack, excess_after, lack_after, head_front}
use Rattle.hyd_theorems_on_definitions.proofs.HeadsOfAllNodes.{tanks_below, tanks_above, IsGreatestBelow}
use Rattle.hyd_theorems_on_definitions.proofs.HeadsOfAllNodes.{greatest_below}
use Rattle.hyd_theorems_on_definitions.proofs.NetOutflowsRise.{SoundLinks}
use Rattle.hyd_theorems_on_definitions.proofs.Outflows.{emitter-below, emitter-above}
use Rattle.hyd_theorems_on_spread.specs.AssignmentsWithin.{IsAssignmentWithin}
use Rattle.hyd_theorems_on_spread.proofs.DemandFlowsInOrder.{demand-under, demand-over}
use Rattle.hyd_theorems_on_spread.proofs.OutermostJunctions.{emitter-low-covers, emitter-high-covers, emitter-within}
use Rattle.hyd_theorems_on_spread.proofs.OutermostJunctions.{law-there}
use Rattle.hyd_theorems_on_spread.proofs.LinksWithin.{links-sound, links-alike, count-within}
use Rattle.hyd_theorems_on_spread.proofs.ZippedLists.{zip-long, beside-first, item-at}

-- ---- one junction

pub emitter-sound : (factors : Factors) (own other : Option Capacity) → EmitterIsWithin factors own other
    → IfSome other IsSoundCapacity
emitter-sound factors None None w = tt
emitter-sound factors None (Some b) w = absurd w
emitter-sound factors (Some own) None w = absurd w
emitter-sound factors (Some own) (Some b) w = IsSoundCapacity-made b w.is_emitter.made

module _ (project : Project) (nodes : NodeData) (time S : ℕ) (some : 0 < S) (known : KnownJunction)
    (junction : Junction) (within : IsJunctionWithin (with_data project nodes) time known junction)
    (assignment : Assignment) (j : ℕ) (obeys : JunctionObeys (with_data project nodes) time S assignment j junction)
    (here : GridJunction) (h : ℤ) where
  outflow-below : IsOutermostJunction project Upper known here → (pos S *ℤ h) ≤ℤ head_at assignment.heads j
      → (pos S *ℤ outflow_low here h) ≤ℤ ((flow_at assignment.demands j +ℤ flow_at assignment.emitters j)
      +ℤ pos (S * 20))
  outflow-below is le =
      let same : here.elevation ≡ junction.elevation = is.elevation ∙ sym within.elevation in
      let p : (pos S *ℤ (h -ℤ here.elevation)) ≤ℤ (head_at assignment.heads j -ℤ (pos S *ℤ junction.elevation)) =
      rw times_minus (rw same (omega (arith, ints, le))) in
      let a = demand-under (with_data project nodes) known.demand.lo (demand_of (with_data project nodes) time junction)
      here.demand S (h -ℤ here.elevation) (head_at assignment.heads j -ℤ (pos S *ℤ junction.elevation))
      (flow_at assignment.demands j) within.demand.low
      (law-there project nodes known.demand.lo here.demand is.demand) some p obeys.demand in
      let b = emitter-below junction junction.emitter S (h -ℤ here.elevation)
      (head_at assignment.heads j -ℤ (pos S *ℤ junction.elevation)) (flow_at assignment.emitters j) refl
      (emitter-sound known.factors known.emitter junction.emitter within.emitter) some p obeys.emitter in
      let c = times_rises S (emitter_low here.emitter (h -ℤ here.elevation))
      (emitter_low junction.emitter (h -ℤ here.elevation))
      (emitter-low-covers here.emitter junction.emitter
      (emitter-within known.factors known.emitter here.emitter junction.emitter is.emitter within.emitter)
      (h -ℤ here.elevation)) in
      rw times_plus (omega (arith, ints, a, b, c))

  outflow-above : IsOutermostJunction project Lower known here → head_at assignment.heads j ≤ℤ (pos S *ℤ h)
      → (flow_at assignment.demands j +ℤ flow_at assignment.emitters j)
      ≤ℤ ((pos S *ℤ outflow_high here h) +ℤ pos (S * 20))
  outflow-above is le =
      let same : here.elevation ≡ junction.elevation = is.elevation ∙ sym within.elevation in
      let p : (head_at assignment.heads j -ℤ (pos S *ℤ junction.elevation)) ≤ℤ (pos S *ℤ (h -ℤ here.elevation)) =
      rw times_minus (rw same (omega (arith, ints, le))) in
      let a = demand-over (with_data project nodes) known.demand.hi (demand_of (with_data project nodes) time junction)
      here.demand S (h -ℤ here.elevation) (head_at assignment.heads j -ℤ (pos S *ℤ junction.elevation))
      (flow_at assignment.demands j) within.demand.high
      (law-there project nodes known.demand.hi here.demand is.demand) some p obeys.demand in
      let b = emitter-above junction junction.emitter S (h -ℤ here.elevation)
      (head_at assignment.heads j -ℤ (pos S *ℤ junction.elevation)) (flow_at assignment.emitters j) refl
      (emitter-sound known.factors known.emitter junction.emitter within.emitter) some p obeys.emitter in
      let c = times_rises S (emitter_high junction.emitter (h -ℤ here.elevation))
      (emitter_high here.emitter (h -ℤ here.elevation))
      (emitter-high-covers here.emitter junction.emitter
      (emitter-within known.factors known.emitter here.emitter junction.emitter is.emitter within.emitter)
      (h -ℤ here.elevation)) in
      rw times_plus (omega (arith, ints, a, b, c))

-- ---- reservoirs

pub reservoirs-below : (network : Project) (S time : ℕ) (known : List Interval) (rs : List Reservoir) (ps qs : List ℤ)
    (t : ℤ) → pos 0 ≤ℤ t → AllZip (HasHeadWithin network time) known rs → ((m : ℕ) → excess S ps qs m ≤ℤ t) → (m : ℕ)
    → excess S (map (λ r. at_scale S (reservoir_head network time r)) rs ++ ps) (map (end_on Upper) known ++ qs) m ≤ℤ t
reservoirs-below network S time [] [] ps qs t room all rest m = rest m
reservoirs-below network S time [] (r ∷ rs) ps qs t room all rest m = absurd all
reservoirs-below network S time (x ∷ known) [] ps qs t room all rest m = absurd all
reservoirs-below network S time (x ∷ known) (r ∷ rs) ps qs t room all rest zero =
    let l = times_rises S (reservoir_head network time r) x.hi all.0.high in omega (arith, ints, l, room)
reservoirs-below network S time (x ∷ known) (r ∷ rs) ps qs t room all rest (suc m) =
    reservoirs-below network S time known rs ps qs t room all.1 rest m

pub reservoirs-above : (network : Project) (S time : ℕ) (known : List Interval) (rs : List Reservoir) (ps qs : List ℤ)
    (t : ℤ) → pos 0 ≤ℤ t → AllZip (HasHeadWithin network time) known rs → ((m : ℕ) → lack S ps qs m ≤ℤ t) → (m : ℕ)
    → lack S (map (λ r. at_scale S (reservoir_head network time r)) rs ++ ps) (map (end_on Lower) known ++ qs) m ≤ℤ t
reservoirs-above network S time [] [] ps qs t room all rest m = rest m
reservoirs-above network S time [] (r ∷ rs) ps qs t room all rest m = absurd all
reservoirs-above network S time (x ∷ known) [] ps qs t room all rest m = absurd all
reservoirs-above network S time (x ∷ known) (r ∷ rs) ps qs t room all rest zero =
    let l = times_rises S x.lo (reservoir_head network time r) all.0.low in omega (arith, ints, l, room)
reservoirs-above network S time (x ∷ known) (r ∷ rs) ps qs t room all rest (suc m) =
    reservoirs-above network S time known rs ps qs t room all.1 rest m

-- ---- what passes leaves a net outflow that no balance allows

too_much : (S ends : ℕ) (n o out flows : ℤ) → 0 < S → (pos S *ℤ n) ≤ℤ (out +ℤ pos (ends * (S * 10)))
    → (pos S *ℤ o) ≤ℤ (flows +ℤ pos (S * 20))
    → (out +ℤ flows) ≤ℤ pos (S * 10) → (pos ((ends + 3) * 10) +ℤ pos 1) ≤ℤ (n +ℤ o) → ⊥
too_much S ends n o out flows some links leaves balance passes =
    let a = times_rises S (pos ((ends + 3) * 10) +ℤ pos 1) (n +ℤ o) passes in
    omega (arith, ints, a, links, leaves, balance, times_plus S n o)

too_little : (S ends : ℕ) (n o out flows : ℤ) → 0 < S → out ≤ℤ ((pos S *ℤ n) +ℤ pos (ends * (S * 10)))
    → flows ≤ℤ ((pos S *ℤ o) +ℤ pos (S * 20))
    → neg_ℤ (pos (S * 10)) ≤ℤ (out +ℤ flows) → (n +ℤ o) ≤ℤ neg_ℤ (pos ((ends + 3) * 10) +ℤ pos 1) → ⊥
too_little S ends n o out flows some links leaves balance passes =
    let a = times_rises S (n +ℤ o) (neg_ℤ (pos ((ends + 3) * 10) +ℤ pos 1)) passes in
    omega (arith, ints, a, links, leaves, balance, times_plus S n o, times_neg S (pos ((ends + 3) * 10) +ℤ pos 1))

-- ---- all nodes

module _ (project : Project) (spread : Spread) (S time : ℕ) (intervals : List Interval) (levels : List ℤ)
    (tanks : List TankState) (links : List LinkState) (nodes : NodeData) (assignment : Assignment)
    (is : IsAssignmentWithin project spread S time intervals levels tanks links nodes assignment) (grid : Grid)
    (u : List ℤ) where
  abbrev network : Project
  network = with_data project nodes

  pub some : 0 < S
  some = let l = is.assigned.scale in omega (arith, l)

  pub same-links : grid_links network tanks project.links.list links ≡ grid_links project tanks project.links.list links
  same-links =
      links-alike project nodes tanks project.links.list links (count-within project spread time nodes is.within)

  pub as-long : (problem : Problem) (side : Side) → IsOutermostGrid project spread side time intervals tanks links grid
      → IsCertificate grid problem side u → length assignment.heads ≡ length u
  as-long problem side outermost certificate =
      let a = certificate.one_each in
      let b = zip-long (IsOutermostJunction project side) (known_junctions project spread time) grid.junctions
      outermost.junctions in
      let c = zip-long (IsJunctionWithin network time) (known_junctions project spread time) nodes.junctions.list
      is.within.junctions in
      let d = is.assigned.head_each in
      omega (arith, a, b, c, d)

  -- no junction has an excess that is at least 0 and nowhere greater
  pub no-excess : (problem : Problem) (i : ℕ) → IsOutermostGrid project spread Upper time intervals tanks links grid
      → IsCertificate grid problem Upper u → i < length u
      → IsPeak S (node_heads network S time levels assignment.heads) (all_heads grid problem Upper u) i
      → (pos S *ℤ head_at u i) ≤ℤ head_at assignment.heads i → ⊥
  no-excess problem i outermost certificate lt peak above =
      let k = item-at (known_junctions project spread time) i
      (let a = certificate.one_each in
      let b = zip-long (IsOutermostJunction project Upper) (known_junctions project spread time) grid.junctions
      outermost.junctions in omega (arith, lt, a, b)) in
      let x = beside-first (IsOutermostJunction project Upper) (known_junctions project spread time) grid.junctions
      outermost.junctions i k.0 k.1 in
      let y = beside-first (IsJunctionWithin network time) (known_junctions project spread time) nodes.junctions.list
      is.within.junctions i k.0 k.1 in
      let obeys = is.assigned.junctions_obey i y.beside y.is_beside in
      let sums = sum-upper network tanks S (node_heads network S time levels assignment.heads)
      (all_heads grid problem Upper u) i some peak project.links.list links assignment.flows is.assigned.links_follow
      (subst (λ (ls : List GridLink). SoundLinks ls) (sym same-links) (links-sound project tanks links is.made)) in
      let turned = subst (λ (ls : List GridLink). (pos S *ℤ net low high (all_heads grid problem Upper u) i ls)
      ≤ℤ (net_outflow i project.links.list assignment.flows +ℤ pos (link_ends i ls * (S * 10))))
      (same-links ∙ sym outermost.links_are) sums in
      let leaves = outflow-below project nodes time S some k.0 y.beside y.holds assignment i obeys x.beside
      (head_at u i) x.holds above in
      too_much S (link_ends i grid.links) (net low high (all_heads grid problem Upper u) i grid.links)
      (outflow_low x.beside (head_at u i)) (net_outflow i project.links.list assignment.flows)
      (flow_at assignment.demands i +ℤ flow_at assignment.emitters i) some turned leaves
      (let b = obeys.balance.low in omega (arith, ints, b)) (certificate.passes i x.beside x.is_beside)

  pub no-lack : (problem : Problem) (i : ℕ) → IsOutermostGrid project spread Lower time intervals tanks links grid
      → IsCertificate grid problem Lower u → i < length u
      → IsDip S (node_heads network S time levels assignment.heads) (all_heads grid problem Lower u) i
      → head_at assignment.heads i ≤ℤ (pos S *ℤ head_at u i) → ⊥
  no-lack problem i outermost certificate lt dip below =
      let k = item-at (known_junctions project spread time) i
      (let a = certificate.one_each in
      let b = zip-long (IsOutermostJunction project Lower) (known_junctions project spread time) grid.junctions
      outermost.junctions in omega (arith, lt, a, b)) in
      let x = beside-first (IsOutermostJunction project Lower) (known_junctions project spread time) grid.junctions
      outermost.junctions i k.0 k.1 in
      let y = beside-first (IsJunctionWithin network time) (known_junctions project spread time) nodes.junctions.list
      is.within.junctions i k.0 k.1 in
      let obeys = is.assigned.junctions_obey i y.beside y.is_beside in
      let sums = sum-lower network tanks S (node_heads network S time levels assignment.heads)
      (all_heads grid problem Lower u) i some dip project.links.list links assignment.flows is.assigned.links_follow
      (subst (λ (ls : List GridLink). SoundLinks ls) (sym same-links) (links-sound project tanks links is.made)) in
      let turned = subst (λ (ls : List GridLink). net_outflow i project.links.list assignment.flows
      ≤ℤ ((pos S *ℤ net high low (all_heads grid problem Lower u) i ls) +ℤ pos (link_ends i ls * (S * 10))))
      (same-links ∙ sym outermost.links_are) sums in
      let leaves = outflow-above project nodes time S some k.0 y.beside y.holds assignment i obeys x.beside
      (head_at u i) x.holds below in
      too_little S (link_ends i grid.links) (net high low (all_heads grid problem Lower u) i grid.links)
      (outflow_high x.beside (head_at u i)) (net_outflow i project.links.list assignment.flows)
      (flow_at assignment.demands i +ℤ flow_at assignment.emitters i) some turned leaves
      (let b = obeys.balance.high in omega (arith, ints, b)) (certificate.passes i x.beside x.is_beside)

  -- ---- fixed heads

  fixed-below : IsOutermostGrid project spread Upper time intervals tanks links grid → (m : ℕ)
      → excess S (map (λ r. at_scale S (reservoir_head network time r)) nodes.reservoirs.list
      ++ tank_heads S project.tanks.list levels) (fixed_heads grid Main Upper) m ≤ℤ pos 0
  fixed-below outermost m =
      rw (outermost.reservoirs, outermost.tank_heads) (reservoirs-below network S time (known_heads project spread time)
      nodes.reservoirs.list _ _ (pos 0) (omega (arith, ints)) is.within.reservoirs
      (tanks_below S 0 project.tanks.list intervals levels is.lie) m)

  fixed-above : IsOutermostGrid project spread Lower time intervals tanks links grid → (m : ℕ)
      → lack S (map (λ r. at_scale S (reservoir_head network time r)) nodes.reservoirs.list
      ++ tank_heads S project.tanks.list levels) (fixed_heads grid Main Lower) m ≤ℤ pos 0
  fixed-above outermost m =
      rw (outermost.reservoirs, outermost.tank_heads) (reservoirs-above network S time (known_heads project spread time)
      nodes.reservoirs.list _ _ (pos 0) (omega (arith, ints)) is.within.reservoirs
      (tanks_above S 0 project.tanks.list intervals levels is.lie) m)

  -- ---- all junctions

  none-above : (j i : ℕ) → IsOutermostGrid project spread Upper time intervals tanks links grid
      → IsCertificate grid Main Upper u → j < length assignment.heads
      → (pos S *ℤ head_at u j) ≤ℤ head_at assignment.heads j
      → IsGreatestBelow (excess S assignment.heads u) (length assignment.heads) i → ⊥
  none-above j i outermost certificate lt ge best =
      let same = as-long Main Upper outermost certificate in
      let top : excess S assignment.heads u j ≤ℤ excess S assignment.heads u i = best.each j lt in
      let t : pos 0 ≤ℤ excess S assignment.heads u i = omega (arith, ints, top, ge) in
      let front : i < length u = (let l = best.below in omega (arith, l, same)) in
      no-excess Main i outermost certificate front
      (λ m. rw (head_front assignment.heads _ i best.below, head_front u _ i front)
      (excess_after S assignment.heads u _ _ (excess S assignment.heads u i) same
      (λ n. let f = fixed-below outermost n in omega (arith, ints, f, t)) m (λ lt. best.each m lt)))
      (omega (arith, ints, t))

  none-below : (j i : ℕ) → IsOutermostGrid project spread Lower time intervals tanks links grid
      → IsCertificate grid Main Lower u → j < length assignment.heads
      → head_at assignment.heads j ≤ℤ (pos S *ℤ head_at u j)
      → IsGreatestBelow (lack S assignment.heads u) (length assignment.heads) i → ⊥
  none-below j i outermost certificate lt ge best =
      let same = as-long Main Lower outermost certificate in
      let top : lack S assignment.heads u j ≤ℤ lack S assignment.heads u i = best.each j lt in
      let t : pos 0 ≤ℤ lack S assignment.heads u i = omega (arith, ints, top, ge) in
      let front : i < length u = (let l = best.below in omega (arith, l, same)) in
      no-lack Main i outermost certificate front
      (λ m. rw (head_front assignment.heads _ i best.below, head_front u _ i front)
      (lack_after S assignment.heads u _ _ (lack S assignment.heads u i) same
      (λ n. let f = fixed-above outermost n in omega (arith, ints, f, t)) m (λ lt. best.each m lt)))
      (omega (arith, ints, t))

  pub heads-below : IsOutermostGrid project spread Upper time intervals tanks links grid
      → IsCertificate grid Main Upper u → Each assignment.heads (λ j h. h <ℤ at_scale S (head_at u j))
  heads-below outermost certificate j h at = by_lt_z h (pos S *ℤ head_at u j) (λ lt. lt)
      (λ ge.
      let inside = slice_get_within assignment.heads j h at in
      let (i, best) = greatest_below (excess S assignment.heads u) (length assignment.heads) (omega (arith, inside)) in
      absurd (none-above j i outermost certificate inside
      (let e : head_at assignment.heads j ≡ h = get_or_from_slice_get assignment.heads j h (pos 0) at in
      omega (arith, ints, e, ge)) best))

  pub heads-above : IsOutermostGrid project spread Lower time intervals tanks links grid
      → IsCertificate grid Main Lower u → Each assignment.heads (λ j h. at_scale S (head_at u j) <ℤ h)
  heads-above outermost certificate j h at = by_lt_z (pos S *ℤ head_at u j) h (λ lt. lt)
      (λ ge.
      let inside = slice_get_within assignment.heads j h at in
      let (i, best) = greatest_below (lack S assignment.heads u) (length assignment.heads) (omega (arith, inside)) in
      absurd (none-below j i outermost certificate inside
      (let e : head_at assignment.heads j ≡ h = get_or_from_slice_get assignment.heads j h (pos 0) at in
      omega (arith, ints, e, ge)) best))

  -- ---- all nodes, reservoirs and tanks among them

  pub all-below : IsOutermostGrid project spread Upper time intervals tanks links grid
      → IsCertificate grid Main Upper u → (m : ℕ)
      → excess S (node_heads network S time levels assignment.heads) (all_heads grid Main Upper u) m ≤ℤ pos 0
  all-below outermost certificate m =
      excess_after S assignment.heads u _ _ (pos 0) (as-long Main Upper outermost certificate) (fixed-below outermost) m
      (λ lt. let h = heads-below outermost certificate m _ (slice_get-get_or assignment.heads m (pos 0) lt) in
      omega (arith, ints, h))

  pub all-above : IsOutermostGrid project spread Lower time intervals tanks links grid
      → IsCertificate grid Main Lower u → (m : ℕ)
      → lack S (node_heads network S time levels assignment.heads) (all_heads grid Main Lower u) m ≤ℤ pos 0
  all-above outermost certificate m =
      lack_after S assignment.heads u _ _ (pos 0) (as-long Main Lower outermost certificate) (fixed-above outermost) m
      (λ lt. let h = heads-above outermost certificate m _ (slice_get-get_or assignment.heads m (pos 0) lt) in
      omega (arith, ints, h))
