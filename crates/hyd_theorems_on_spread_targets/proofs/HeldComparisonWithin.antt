-- Certificates with a junction held on the outermost grid of a side, against an assignment of a network within the
-- spread in which water may be drawn at that junction. On both sides at once: heads are read in the direction of the
-- side.
use Rattle.std.proofs.Common.{◌≡◌, ℕ, zero, suc, ◌+◌, ◌*◌, ◌<◌, ℤ, pos, ◌+ℤ◌, ◌-ℤ◌, ◌*ℤ◌, ◌≤ℤ◌, ◌<ℤ◌, neg_ℤ, refl}
use Rattle.std.proofs.Common.{sym, ap, subst, ◌∙◌, arith, Bool, false, ◌==◌, List, [], ◌∷◌, ◌++◌, length, inl, inr}
use Rattle.std.specs.Prelude.{Some, map, slice_get, MatchBool}
use Rattle.std.proofs.lemmas.Int.{ints, by_lt_z}
use Rattle.std.proofs.lemmas.Bool.{cases_eq, eq-eqb, ne_eqb}
use Rattle.std.proofs.lemmas.Option.{slice_get_within}
use Rattle.hyd_num.proofs.Integers.{times_plus, times_minus, times_rises, times_neg, times_one}
use Rattle.hyd_spec.specs.ProgramTypes.{Project, Junction, LinkState}
use Rattle.hyd_spec.specs.declared.TankState.{TankState}
use Rattle.hyd_spec.specs.Scale.{at_scale}
use Rattle.hyd_spec.specs.DemandsHeadsAndPumpLifts.{demand_of, reservoir_head}
use Rattle.hyd_spec.specs.Assignment.{Assignment, head_at, flow_at, where_so, net_outflow, node_heads, tank_heads}
use Rattle.hyd_spec.specs.AssignmentWithDraw.{IsAssignmentDrawing, JunctionObeysDrawing}
use Rattle.hyd_spec_certificates.specs.declared.Side.{Side}
use Rattle.hyd_spec_certificates.specs.declared.Side.TheVariants.{Upper, Lower}
use Rattle.hyd_spec_certificates.specs.declared.Problem.TheVariants.{Main}
use Rattle.hyd_spec_certificates.specs.Interval.{Interval}
use Rattle.hyd_spec_certificates.specs.EnclosingFunctions.{low, high, emitter_low, emitter_high}
use Rattle.hyd_spec_certificates.specs.PeriodNetwork.{Grid, GridLink, GridJunction, grid_links, all_heads, fixed_heads}
use Rattle.hyd_spec_certificates.specs.NetOutflow.{net, margin, outflow_low, outflow_high, link_ends}
use Rattle.hyd_spec_certificates.specs.Certificate.{Passes, IsCertificateHolding}
use Rattle.hyd_spec_certificates.specs.BoxesWithHeldJunction.{passing_draw}
use Rattle.hyd_spec_spread.specs.Spreads.{Spread}
use Rattle.hyd_spec_spread.specs.IntervalsOfData.{KnownJunction, known_junctions, known_heads}
use Rattle.hyd_spec_spread.specs.NetworksWithin.{NodeData, with_data, IsJunctionWithin, IsWithin}
use Rattle.hyd_spec_spread.specs.OutermostGrids.{IsOutermostJunction, IsOutermostGrid}
use Rattle.hyd_theorems_on_definitions.specs.LyingInIntervals.{LevelsLie}
use Rattle.hyd_theorems_on_definitions.specs.SoundLawsAndGrids.{AreCapacitiesMade}
use Rattle.hyd_theorems_on_definitions.specs.Sides.{along}
use Rattle.hyd_theorems_on_definitions.proofs.FlowsAtOneNode.{IsDip, sum-upper, sum-lower}
use Rattle.hyd_theorems_on_definitions.proofs.HeadsOfAllNodes.{lack, head_front, IsGreatestBelow, greatest_below}
use Rattle.hyd_theorems_on_definitions.proofs.HeadsOfAllNodes.{tanks_below, tanks_above}
use Rattle.hyd_theorems_on_definitions.proofs.HeldComparison.{ahead, IsFarthest, net_on, along-times, along-plus}
use Rattle.hyd_theorems_on_definitions.proofs.NetOutflowsRise.{SoundLinks}
use Rattle.hyd_theorems_on_definitions.proofs.Outflows.{emitter-below, emitter-above}
use Rattle.hyd_theorems_on_spread.proofs.DemandFlowsInOrder.{demand-under, demand-over}
use Rattle.hyd_theorems_on_spread.proofs.OutermostJunctions.{emitter-low-covers, emitter-high-covers, emitter-within}
use Rattle.hyd_theorems_on_spread.proofs.OutermostJunctions.{law-there}
use Rattle.hyd_theorems_on_spread.proofs.HeadsWithin.{emitter-sound, reservoirs-below, reservoirs-above}
use Rattle.hyd_theorems_on_spread.proofs.LinksWithin.{links-sound, links-alike, count-within}
use Rattle.hyd_theorems_on_spread.proofs.ZippedLists.{zip-long, beside-first, item-at}

-- An assignment of a network within the spread where the period begins, with q S-th parts of a flow tick drawn at
-- junction number `place`.
pub record IsDrawingWithin (project : Project) (spread : Spread) (S time : ℕ) (intervals : List Interval)
    (levels : List ℤ) (tanks : List TankState) (links : List LinkState) (place : ℕ) (q : ℤ) (nodes : NodeData)
    (assignment : Assignment) : Type 0 where
  pub made : AreCapacitiesMade project links
  pub lie : LevelsLie S intervals levels
  pub within : IsWithin project spread time nodes
  pub assigned : IsAssignmentDrawing (with_data project nodes) S time levels tanks links place q assignment

-- ---- the outflows of one junction

module _ (project : Project) (nodes : NodeData) (time S : ℕ) (some : 0 < S) (known : KnownJunction)
    (junction : Junction) (within : IsJunctionWithin (with_data project nodes) time known junction)
    (assignment : Assignment) (j : ℕ) (q : ℤ)
    (obeys : JunctionObeysDrawing (with_data project nodes) time S assignment q j junction)
    (here : GridJunction) (h : ℤ) where
  outflow-below : IsOutermostJunction project Upper known here → (pos S *ℤ h) ≤ℤ head_at assignment.heads j
      → (pos S *ℤ outflow_low here h) ≤ℤ ((flow_at assignment.demands j +ℤ flow_at assignment.emitters j)
      +ℤ pos (S * 20))
  outflow-below is le =
      let same : here.elevation ≡ junction.elevation = is.elevation ∙ sym within.elevation in
      let p : (pos S *ℤ (h -ℤ here.elevation)) ≤ℤ (head_at assignment.heads j -ℤ (pos S *ℤ junction.elevation)) =
      rw times_minus (rw same (omega (arith, ints, le))) in
      let a = demand-under (with_data project nodes) known.demand.lo (demand_of (with_data project nodes) time junction)
      here.demand S (h -ℤ here.elevation) (head_at assignment.heads j -ℤ (pos S *ℤ junction.elevation))
      (flow_at assignment.demands j) within.demand.low
      (law-there project nodes known.demand.lo here.demand is.demand) some p obeys.demand in
      let b = emitter-below junction junction.emitter S (h -ℤ here.elevation)
      (head_at assignment.heads j -ℤ (pos S *ℤ junction.elevation)) (flow_at assignment.emitters j) refl
      (emitter-sound known.factors known.emitter junction.emitter within.emitter) some p obeys.emitter in
      let c = times_rises S (emitter_low here.emitter (h -ℤ here.elevation))
      (emitter_low junction.emitter (h -ℤ here.elevation))
      (emitter-low-covers here.emitter junction.emitter
      (emitter-within known.factors known.emitter here.emitter junction.emitter is.emitter within.emitter)
      (h -ℤ here.elevation)) in
      rw times_plus (omega (arith, ints, a, b, c))

  outflow-above : IsOutermostJunction project Lower known here → head_at assignment.heads j ≤ℤ (pos S *ℤ h)
      → (flow_at assignment.demands j +ℤ flow_at assignment.emitters j)
      ≤ℤ ((pos S *ℤ outflow_high here h) +ℤ pos (S * 20))
  outflow-above is le =
      let same : here.elevation ≡ junction.elevation = is.elevation ∙ sym within.elevation in
      let p : (head_at assignment.heads j -ℤ (pos S *ℤ junction.elevation)) ≤ℤ (pos S *ℤ (h -ℤ here.elevation)) =
      rw times_minus (rw same (omega (arith, ints, le))) in
      let a = demand-over (with_data project nodes) known.demand.hi (demand_of (with_data project nodes) time junction)
      here.demand S (h -ℤ here.elevation) (head_at assignment.heads j -ℤ (pos S *ℤ junction.elevation))
      (flow_at assignment.demands j) within.demand.high
      (law-there project nodes known.demand.hi here.demand is.demand) some p obeys.demand in
      let b = emitter-above junction junction.emitter S (h -ℤ here.elevation)
      (head_at assignment.heads j -ℤ (pos S *ℤ junction.elevation)) (flow_at assignment.emitters j) refl
      (emitter-sound known.factors known.emitter junction.emitter within.emitter) some p obeys.emitter in
      let c = times_rises S (emitter_high junction.emitter (h -ℤ here.elevation))
      (emitter_high here.emitter (h -ℤ here.elevation))
      (emitter-high-covers here.emitter junction.emitter
      (emitter-within known.factors known.emitter here.emitter junction.emitter is.emitter within.emitter)
      (h -ℤ here.elevation)) in
      rw times_plus (omega (arith, ints, a, b, c))

-- ---- heads in the direction of a side

ahead-lack : (S : ℕ) (heads u : List ℤ) (m : ℕ) → ahead Lower S heads u m ≡ lack S heads u m
ahead-lack S heads u m = let e = times_neg S (head_at u m) in omega (arith, ints, e)

ahead-after : (side : Side) (S : ℕ) (xs ys ps rs : List ℤ) (t : ℤ) → length xs ≡ length ys
    → ((m : ℕ) → ahead side S ps rs m ≤ℤ t) → ((m : ℕ) → m < length xs → ahead side S xs ys m ≤ℤ t)
    → (m : ℕ) → ahead side S (xs ++ ps) (ys ++ rs) m ≤ℤ t
ahead-after side S [] [] ps rs t same after here m = after m
ahead-after side S [] (y ∷ ys) ps rs t same after here m = absurd (omega (arith, same))
ahead-after side S (x ∷ xs) [] ps rs t same after here m = absurd (omega (arith, same))
ahead-after side S (x ∷ xs) (y ∷ ys) ps rs t same after here zero = here 0 (omega arith)
ahead-after side S (x ∷ xs) (y ∷ ys) ps rs t same after here (suc m) =
    ahead-after side S xs ys ps rs t (omega (arith, same)) after (λ k lt. here (suc k) (omega (arith, lt))) m

as-dip : (S : ℕ) (heads u : List ℤ) (i : ℕ) → IsFarthest Lower S heads u i → IsDip S heads u i
as-dip S heads u i farthest m =
    let f = farthest m in
    let a = ahead-lack S heads u m in
    let b = ahead-lack S heads u i in
    omega (arith, ints, f, a, b)

-- ---- net outflow

passes-along : (grid : Grid) (side : Side) (u : List ℤ) (i : ℕ) (here : GridJunction) → Passes grid Main side u i here
    → (margin grid i +ℤ pos 1) ≤ℤ along side (net_on grid side u i here)
passes-along grid Upper u i here passes = passes
passes-along grid Lower u i here passes = omega (arith, ints, passes)

-- what the links, the outflows and the balance of a junction may miss, together
upper-miss : (S ends : ℕ) (n o out flows q : ℤ) → (pos S *ℤ n) ≤ℤ (out +ℤ pos (ends * (S * 10)))
    → (pos S *ℤ o) ≤ℤ (flows +ℤ pos (S * 20)) → ((out +ℤ q) +ℤ flows) ≤ℤ pos (S * 10)
    → ((pos S *ℤ (n +ℤ o)) +ℤ q) ≤ℤ (pos S *ℤ pos ((ends + 3) * 10))
upper-miss S ends n o out flows q links leaves balance = omega (arith, ints, links, leaves, balance, times_plus S n o)

lower-miss : (S ends : ℕ) (n o out flows q : ℤ) → out ≤ℤ ((pos S *ℤ n) +ℤ pos (ends * (S * 10)))
    → flows ≤ℤ ((pos S *ℤ o) +ℤ pos (S * 20)) → neg_ℤ (pos (S * 10)) ≤ℤ ((out +ℤ q) +ℤ flows)
    → neg_ℤ ((pos S *ℤ (n +ℤ o)) +ℤ q) ≤ℤ (pos S *ℤ pos ((ends + 3) * 10))
lower-miss S ends n o out flows q links leaves balance = omega (arith, ints, links, leaves, balance, times_plus S n o)

along-zero : (side : Side) → along side (pos 0) ≡ pos 0
along-zero Upper = refl
along-zero Lower = refl

-- the held junction stands at its head
at-head : (grid : Grid) (side : Side) (place : ℕ) (h : ℤ) (u : List ℤ) (here : GridJunction)
    → IsCertificateHolding (Some (record { junction = place; head = h })) grid Main side u
    → slice_get grid.junctions place ≡ Some here
    → head_at u place ≡ h
at-head grid side place h u here certificate at =
    subst (λ (b : Bool). MatchBool b (head_at u place ≡ h) (Passes grid Main side u place here))
    (eq-eqb place place refl) (certificate.passes place here at)

-- the balance of a vector at a junction, with the draw with which it passes
with-draw : (grid : Grid) (S : ℕ) (side : Side) (u : List ℤ) (i : ℕ) (here : GridJunction)
    → along side (pos S *ℤ passing_draw grid side u i here)
    ≡ (pos S *ℤ (margin grid i +ℤ pos 1)) -ℤ along side (pos S *ℤ net_on grid side u i here)
with-draw grid S Upper u i here = times_minus S (margin grid i +ℤ pos 1) (net_on grid Upper u i here)
with-draw grid S Lower u i here =
    let a = times_minus S (neg_ℤ (margin grid i +ℤ pos 1)) (net_on grid Lower u i here) in
    let b = times_neg S (margin grid i +ℤ pos 1) in
    omega (arith, ints, a, b)

-- ---- all nodes

module _ (project : Project) (spread : Spread) (S time : ℕ) (intervals : List Interval) (levels : List ℤ)
    (tanks : List TankState) (links : List LinkState) (place : ℕ) (q : ℤ) (nodes : NodeData) (assignment : Assignment)
    (is : IsDrawingWithin project spread S time intervals levels tanks links place q nodes assignment)
    (grid : Grid) where
  abbrev network : Project
  network = with_data project nodes

  abbrev heads : List ℤ
  heads = node_heads network S time levels assignment.heads

  -- what is drawn at a junction
  abbrev drawn : ℕ → ℤ
  drawn i = where_so (i == place) q

  -- the grid is the outermost one of a side
  abbrev IsGridOn : Side → Type 0
  IsGridOn side = IsOutermostGrid project spread side time intervals tanks links grid

  some : 0 < S
  some = let l = is.assigned.scale in omega (arith, l)

  same-links : grid_links network tanks project.links.list links ≡ grid_links project tanks project.links.list links
  same-links =
      links-alike project nodes tanks project.links.list links (count-within project spread time nodes is.within)

  sound-links : SoundLinks (grid_links network tanks project.links.list links)
  sound-links = subst (λ (ls : List GridLink). SoundLinks ls) (sym same-links) (links-sound project tanks links is.made)

  as-many : (side : Side) → IsGridOn side → length assignment.heads ≡ length grid.junctions
  as-many side outermost =
      let b = zip-long (IsOutermostJunction project side) (known_junctions project spread time) grid.junctions
      outermost.junctions in
      let c = zip-long (IsJunctionWithin network time) (known_junctions project spread time) nodes.junctions.list
      is.within.junctions in
      let d = is.assigned.head_each in
      omega (arith, b, c, d)

  -- ---- one junction

  -- a junction of the grid, what is known of it, and that of the network
  record IsPlaceWithin (side : Side) (i : ℕ) : Type 0 where
    known : KnownJunction
    here : GridJunction
    is_here : slice_get grid.junctions i ≡ Some here
    holds : IsOutermostJunction project side known here
    junction : Junction
    is_junction : slice_get nodes.junctions.list i ≡ Some junction
    within : IsJunctionWithin network time known junction

  place-within : (side : Side) (i : ℕ) → IsGridOn side → i < length grid.junctions → IsPlaceWithin side i
  place-within side i outermost lt =
      let k = item-at (known_junctions project spread time) i
      (let b = zip-long (IsOutermostJunction project side) (known_junctions project spread time) grid.junctions
      outermost.junctions in omega (arith, lt, b)) in
      let x = beside-first (IsOutermostJunction project side) (known_junctions project spread time) grid.junctions
      outermost.junctions i k.0 k.1 in
      let y = beside-first (IsJunctionWithin network time) (known_junctions project spread time) nodes.junctions.list
      is.within.junctions i k.0 k.1 in
      record {
        known = k.0;
        here = x.beside;
        is_here = x.is_beside;
        holds = x.holds;
        junction = y.beside;
        is_junction = y.is_beside;
        within = y.holds;
      }

  -- at the junction that lies farthest beyond a vector the net outflow on that side, with the draw, is within the
  -- margin
  within-margin : (side : Side) (u : List ℤ) (i : ℕ) (p : IsPlaceWithin side i) → IsGridOn side
      → IsFarthest side S heads (all_heads grid Main side u) i → pos 0 ≤ℤ ahead side S assignment.heads u i
      → along side ((pos S *ℤ net_on grid side u i p.here) +ℤ drawn i) ≤ℤ (pos S *ℤ margin grid i)
  within-margin Upper u i p outermost farthest beyond =
      let obeys = is.assigned.junctions_obey i p.junction p.is_junction in
      let sums = sum-upper network tanks S heads (all_heads grid Main Upper u) i some
      (λ m. farthest m) project.links.list links assignment.flows is.assigned.links_follow sound-links in
      let turned = subst (λ (ls : List GridLink). (pos S *ℤ net low high (all_heads grid Main Upper u) i ls)
      ≤ℤ (net_outflow i project.links.list assignment.flows +ℤ pos (link_ends i ls * (S * 10))))
      (same-links ∙ sym outermost.links_are) sums in
      let leaves = outflow-below project nodes time S some p.known p.junction p.within assignment i (drawn i) obeys
      p.here (head_at u i) p.holds (omega (arith, ints, beyond)) in
      upper-miss S (link_ends i grid.links) (net low high (all_heads grid Main Upper u) i grid.links)
      (outflow_low p.here (head_at u i)) (net_outflow i project.links.list assignment.flows)
      (flow_at assignment.demands i +ℤ flow_at assignment.emitters i) (drawn i) turned leaves
      (let b = obeys.balance.low in omega (arith, ints, b))
  within-margin Lower u i p outermost farthest beyond =
      let obeys = is.assigned.junctions_obey i p.junction p.is_junction in
      let sums = sum-lower network tanks S heads (all_heads grid Main Lower u) i some
      (as-dip S heads (all_heads grid Main Lower u) i farthest) project.links.list links assignment.flows
      is.assigned.links_follow sound-links in
      let turned = subst (λ (ls : List GridLink). net_outflow i project.links.list assignment.flows
      ≤ℤ ((pos S *ℤ net high low (all_heads grid Main Lower u) i ls) +ℤ pos (link_ends i ls * (S * 10))))
      (same-links ∙ sym outermost.links_are) sums in
      let leaves = outflow-above project nodes time S some p.known p.junction p.within assignment i (drawn i) obeys
      p.here (head_at u i) p.holds
      (let e = ahead-lack S assignment.heads u i in omega (arith, ints, beyond, e)) in
      lower-miss S (link_ends i grid.links) (net high low (all_heads grid Main Lower u) i grid.links)
      (outflow_high p.here (head_at u i)) (net_outflow i project.links.list assignment.flows)
      (flow_at assignment.demands i +ℤ flow_at assignment.emitters i) (drawn i) turned leaves
      (let b = obeys.balance.high in omega (arith, ints, b))

  -- so nothing is drawn where it passes
  no-pass : (side : Side) (u : List ℤ) (i : ℕ) (p : IsPlaceWithin side i) → IsGridOn side
      → IsFarthest side S heads (all_heads grid Main side u) i → pos 0 ≤ℤ ahead side S assignment.heads u i
      → (i == place) ≡ false → Passes grid Main side u i p.here → ⊥
  no-pass side u i p outermost farthest beyond elsewhere passes =
      let within = within-margin side u i p outermost farthest beyond in
      let over = times_rises S (margin grid i +ℤ pos 1) (along side (net_on grid side u i p.here))
      (passes-along grid side u i p.here passes) in
      let none : drawn i ≡ pos 0 = ap (λ (b : Bool). where_so b q) elsewhere in
      let apart = along-plus side (pos S *ℤ net_on grid side u i p.here) (drawn i) in
      let turned = along-times side S (net_on grid side u i p.here) in
      let zero_along : along side (drawn i) ≡ pos 0 = (ap (along side) none ∙ along-zero side) in
      let there = some in
      omega (
        arith,
        ints,
        within,
        over,
        apart,
        turned,
        zero_along,
        there,
        times_plus S (margin grid i) (pos 1),
        times_one S,
      )

  -- ---- fixed heads

  fixed-ahead : (side : Side) (t : ℤ) → IsGridOn side → pos 0 ≤ℤ t → (m : ℕ)
      → ahead side S (map (λ r. at_scale S (reservoir_head network time r)) nodes.reservoirs.list
      ++ tank_heads S project.tanks.list levels) (fixed_heads grid Main side) m ≤ℤ t
  fixed-ahead Upper t outermost least m =
      let f = fixed-below outermost m in omega (arith, ints, f, least)
    where
      fixed-below : IsGridOn Upper → (m : ℕ)
          → ahead Upper S (map (λ r. at_scale S (reservoir_head network time r)) nodes.reservoirs.list
          ++ tank_heads S project.tanks.list levels) (fixed_heads grid Main Upper) m ≤ℤ pos 0
      fixed-below outermost m = rw (outermost.reservoirs, outermost.tank_heads) (reservoirs-below network S time
          (known_heads project spread time) nodes.reservoirs.list _ _ (pos 0) (omega (arith, ints)) is.within.reservoirs
          (tanks_below S 0 project.tanks.list intervals levels is.lie) m)
  fixed-ahead Lower t outermost least m =
      let f = fixed-above outermost m in
      let e = ahead-lack S (map (λ r. at_scale S (reservoir_head network time r)) nodes.reservoirs.list
      ++ tank_heads S project.tanks.list levels) (fixed_heads grid Main Lower) m in
      omega (arith, ints, f, e, least)
    where
      fixed-above : IsGridOn Lower → (m : ℕ)
          → lack S (map (λ r. at_scale S (reservoir_head network time r)) nodes.reservoirs.list
          ++ tank_heads S project.tanks.list levels) (fixed_heads grid Main Lower) m ≤ℤ pos 0
      fixed-above outermost m = rw (outermost.reservoirs, outermost.tank_heads) (reservoirs-above network S time
          (known_heads project spread time) nodes.reservoirs.list _ _ (pos 0) (omega (arith, ints)) is.within.reservoirs
          (tanks_above S 0 project.tanks.list intervals levels is.lie) m)

  -- ---- all nodes

  farthest-of : (side : Side) (u : List ℤ) (i : ℕ) → IsGridOn side → length assignment.heads ≡ length u
      → pos 0 ≤ℤ ahead side S assignment.heads u i
      → IsGreatestBelow (ahead side S assignment.heads u) (length assignment.heads) i
      → IsFarthest side S heads (all_heads grid Main side u) i
  farthest-of side u i outermost same beyond best m =
      rw (head_front assignment.heads _ i best.below, head_front u _ i (let l = best.below in omega (arith, l, same)))
      (ahead-after side S assignment.heads u _ _ (ahead side S assignment.heads u i) same
      (fixed-ahead side (ahead side S assignment.heads u i) outermost beyond) best.each m)

  -- of a vector with the junction held at which water may be drawn: where that junction's head lies beyond the
  -- vector's, it lies farthest
  held-farthest : (side : Side) (h : ℤ) (u : List ℤ) → IsGridOn side
      → IsCertificateHolding (Some (record { junction = place; head = h })) grid Main side u
      → place < length assignment.heads → length assignment.heads ≡ length u
      → pos 0 ≤ℤ ahead side S assignment.heads u place
      → IsFarthest side S heads (all_heads grid Main side u) place
  held-farthest side h u outermost certificate inside same beyond =
      let (i, best) = greatest_below (ahead side S assignment.heads u) (length assignment.heads)
      (omega (arith, inside)) in
      let most = best.each place inside in
      elim (cases_eq i place) [
        | inl e ↦ farthest-of side u place outermost same beyond (subst
            (IsGreatestBelow (ahead side S assignment.heads u) (length assignment.heads)) e best)
        | inr ne ↦
            let long = as-many side outermost in
            let below = best.below in
            let p = place-within side i outermost (omega (arith, below, long)) in
            let ahead_i : pos 0 ≤ℤ ahead side S assignment.heads u i = omega (arith, ints, most, beyond) in
            absurd (no-pass side u i p outermost (farthest-of side u i outermost same ahead_i best) ahead_i
            (ne_eqb i place ne)
            (passes-there i p.here (λ e. ne (sym e)) (certificate.passes i p.here p.is_here)))
      ]
    where
      passes-there : (i : ℕ) (here : GridJunction) → (place ≡ i → ⊥) → MatchBool (place == i) (head_at u i ≡ h)
          (Passes grid Main side u i here)
          → Passes grid Main side u i here
      passes-there i here ne suits = subst (λ (b : Bool). MatchBool b (head_at u i ≡ h)
          (Passes grid Main side u i here)) (ne_eqb place i ne) suits

  -- with so much drawn, or more on that side, the junction's head lies on the vector's side
  pub drawn-within : (side : Side) (h : ℤ) (u : List ℤ) (here : GridJunction) → IsGridOn side
      → IsCertificateHolding (Some (record { junction = place; head = h })) grid Main side u
      → slice_get grid.junctions place ≡ Some here
      → along side (pos S *ℤ passing_draw grid side u place here) ≤ℤ along side q
      → along side (head_at assignment.heads place) <ℤ along side (pos S *ℤ h)
  drawn-within side h u here outermost certificate at enough =
      by_lt_z (along side (head_at assignment.heads place))
      (along side (pos S *ℤ h)) (λ lt. lt) (λ ge. absurd (
      let stands = at-head grid side place h u here certificate at in
      let own = certificate.one_each in
      let long = as-many side outermost in
      let inside = slice_get_within grid.junctions place here at in
      let same : length assignment.heads ≡ length u = omega (arith, own, long) in
      let turned = along-times side S (head_at u place) in
      let there = ap (λ (z : ℤ). along side (pos S *ℤ z)) stands in
      let beyond : pos 0 ≤ℤ ahead side S assignment.heads u place = omega (arith, ints, ge, turned, there) in
      let farthest = held-farthest side h u outermost certificate (omega (arith, inside, long)) same beyond in
      let p = place-at inside in
      let within = subst (λ (j : GridJunction). along side ((pos S *ℤ net_on grid side u place j) +ℤ where_so
      (place == place) q) ≤ℤ (pos S *ℤ margin grid place))
      p.1 (within-margin side u place p.0 outermost farthest beyond) in
      let draws : where_so (place == place) q ≡ q = ap (λ (b : Bool). where_so b q) (eq-eqb place place refl) in
      let drawn_along = ap (along side) draws in
      let apart = along-plus side (pos S *ℤ net_on grid side u place here) (where_so (place == place) q) in
      let sum = with-draw grid S side u place here in
      let positive = some in
      omega (
        arith,
        ints,
        within,
        drawn_along,
        apart,
        sum,
        enough,
        positive,
        times_plus S (margin grid place) (pos 1),
        times_one S,
      )))
    where
      place-at : place < length grid.junctions → (p : IsPlaceWithin side place) × (p.here ≡ here)
      place-at inside =
          let p = place-within side place outermost inside in
          (p, (let e = p.is_here in let same : p.here ≡ here = cc in same))
