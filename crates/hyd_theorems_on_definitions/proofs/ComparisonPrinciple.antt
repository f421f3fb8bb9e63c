-- The comparison: a certificate lies strictly on its side of the heads of every assignment.
use Rattle.std.proofs.Common.{◌≡◌, ℕ, zero, suc, ◌+◌, ◌*◌, ◌<◌, ℤ, pos, ◌+ℤ◌, ◌-ℤ◌, ◌*ℤ◌, ◌≤ℤ◌, ◌<ℤ◌, neg_ℤ, refl, sym}
use Rattle.std.proofs.Common.{subst, arith, List, [], ◌∷◌, ◌++◌, length}
use Rattle.std.specs.Prelude.{Some, slice_get, map}
use Rattle.std.specs.List.{AllByRecursion, AllZip}
use Rattle.std.specs.Option.{IfSome}
use Rattle.std.proofs.lemmas.Int.{ints, by_lt_z}
use Rattle.std.proofs.lemmas.Option.{slice_get_within, get_or_from_slice_get}
use Rattle.hyd_num.proofs.Integers.{times_plus, times_minus, times_rises, times_neg}
use Rattle.hyd_spec.specs.ProgramTypes.{Project, Junction, LinkState}
use Rattle.hyd_spec.specs.declared.TankState.{TankState}
use Rattle.hyd_spec_certificates.specs.declared.Side.TheVariants.{Upper, Lower}
use Rattle.hyd_spec_certificates.specs.declared.Problem.{Problem}
use Rattle.hyd_spec_certificates.specs.declared.Problem.TheVariants.{Main}
use Rattle.hyd_spec_certificates.specs.declared.Side.{Side}
use Rattle.hyd_spec.specs.Lists.{Each}
use Rattle.hyd_spec_certificates.specs.Interval.{Interval}
use Rattle.hyd_spec.specs.Scale.{at_scale}
use Rattle.hyd_spec.specs.DemandsHeadsAndPumpLifts.{reservoir_head, demand_of}
use Rattle.hyd_spec.specs.Outflow.{FollowsDemand, FollowsEmitter}
use Rattle.hyd_spec_certificates.specs.EnclosingFunctions.{low, high}
use Rattle.hyd_spec.specs.Assignment.{Assignment, JunctionObeys, head_at, flow_at, net_outflow, node_heads, tank_heads}
use Rattle.hyd_spec_certificates.specs.PeriodNetwork.{Grid, GridLink, GridJunction, IsGrid, IsJunctionOf, all_heads}
use Rattle.hyd_spec_certificates.specs.PeriodNetwork.{fixed_heads}
use Rattle.hyd_spec_certificates.specs.NetOutflow.{net, outflow_low, outflow_high, link_ends}
use Rattle.hyd_spec_certificates.specs.Certificate.{IsCertificate}
use Rattle.hyd_theorems_on_definitions.specs.LyingInIntervals.{LevelsLie, IsCompared}
use Rattle.hyd_theorems_on_definitions.specs.SoundLawsAndGrids.{IsSoundLaw, IsSoundCapacity}
use Rattle.hyd_theorems_on_definitions.proofs.HeadsOfAllNodes.{excess, lack, excess_after, lack_after, head_front}
use Rattle.hyd_theorems_on_definitions.proofs.HeadsOfAllNodes.{tanks_below}
use Rattle.hyd_theorems_on_definitions.proofs.HeadsOfAllNodes.{tanks_above}
use Rattle.hyd_theorems_on_definitions.proofs.HeadsOfAllNodes.{reservoirs_below, reservoirs_above, IsGreatestBelow}
use Rattle.hyd_theorems_on_definitions.proofs.HeadsOfAllNodes.{greatest_below}
use Rattle.hyd_theorems_on_definitions.proofs.FlowsAtOneNode.{IsPeak, IsDip, sum-upper, sum-lower}
use Rattle.hyd_theorems_on_definitions.proofs.Outflows.{emitter-below, emitter-above, demand-below, demand-above}

-- ---- one junction

pub outflow-follows-below : (project : Project) (time S : ℕ) (junction : Junction) (here : GridJunction)
    (h height demand emitter : ℤ) → 0 < S
    → IsJunctionOf project time junction here → IfSome here.emitter IsSoundCapacity → (pos S *ℤ h) ≤ℤ height
    → FollowsDemand project time junction S (height -ℤ at_scale S junction.elevation) demand
    → FollowsEmitter junction S (height -ℤ at_scale S junction.elevation) emitter
    → (pos S *ℤ outflow_low here h) ≤ℤ ((demand +ℤ emitter) +ℤ pos (S * 20))
outflow-follows-below project time S junction here h height demand emitter some is sound le takes gives =
    let p : (pos S *ℤ (h -ℤ here.elevation)) ≤ℤ (height -ℤ (pos S *ℤ junction.elevation)) =
    rw times_minus (rw is.elevation (omega (arith, ints, le))) in
    let a = demand-below project (demand_of project time junction) here.demand S (h -ℤ here.elevation)
    (height -ℤ (pos S *ℤ junction.elevation)) demand
    is.demand some p takes in
    let b = emitter-below junction here.emitter S (h -ℤ here.elevation) (height -ℤ (pos S *ℤ junction.elevation))
    emitter
    is.emitter sound some p gives in
    rw times_plus (omega (arith, ints, a, b))

pub outflow-follows-above : (project : Project) (time S : ℕ) (junction : Junction) (here : GridJunction)
    (h height demand emitter : ℤ) → 0 < S
    → IsJunctionOf project time junction here → IfSome here.emitter IsSoundCapacity → height ≤ℤ (pos S *ℤ h)
    → FollowsDemand project time junction S (height -ℤ at_scale S junction.elevation) demand
    → FollowsEmitter junction S (height -ℤ at_scale S junction.elevation) emitter
    → (demand +ℤ emitter) ≤ℤ ((pos S *ℤ outflow_high here h) +ℤ pos (S * 20))
outflow-follows-above project time S junction here h height demand emitter some is sound le takes gives =
    let p : (height -ℤ (pos S *ℤ junction.elevation)) ≤ℤ (pos S *ℤ (h -ℤ here.elevation)) =
    rw times_minus (rw is.elevation (omega (arith, ints, le))) in
    let a = demand-above project (demand_of project time junction) here.demand S (h -ℤ here.elevation)
    (height -ℤ (pos S *ℤ junction.elevation)) demand
    is.demand some p takes in
    let b = emitter-above junction here.emitter S (h -ℤ here.elevation) (height -ℤ (pos S *ℤ junction.elevation))
    emitter
    is.emitter sound some p gives in
    rw times_plus (omega (arith, ints, a, b))

pub outflow-below : (project : Project) (time S : ℕ) (assignment : Assignment) (j : ℕ) (junction : Junction)
    (here : GridJunction) (h : ℤ) → 0 < S
    → IsJunctionOf project time junction here → IfSome here.emitter IsSoundCapacity
    → (pos S *ℤ h) ≤ℤ head_at assignment.heads j → JunctionObeys project time S assignment j junction
    → (pos S *ℤ outflow_low here h) ≤ℤ ((flow_at assignment.demands j +ℤ flow_at assignment.emitters j) +ℤ pos (S * 20))
outflow-below project time S assignment j junction here h some is sound le obeys =
    outflow-follows-below project time S junction here h (head_at assignment.heads j) (flow_at assignment.demands j)
    (flow_at assignment.emitters j) some is sound le obeys.demand obeys.emitter

pub outflow-above : (project : Project) (time S : ℕ) (assignment : Assignment) (j : ℕ) (junction : Junction)
    (here : GridJunction) (h : ℤ) → 0 < S
    → IsJunctionOf project time junction here → IfSome here.emitter IsSoundCapacity
    → head_at assignment.heads j ≤ℤ (pos S *ℤ h) → JunctionObeys project time S assignment j junction
    → (flow_at assignment.demands j +ℤ flow_at assignment.emitters j)
    ≤ℤ ((pos S *ℤ outflow_high here h) +ℤ pos (S * 20))
outflow-above project time S assignment j junction here h some is sound le obeys =
    outflow-follows-above project time S junction here h (head_at assignment.heads j) (flow_at assignment.demands j)
    (flow_at assignment.emitters j) some is sound le obeys.demand obeys.emitter

-- what passes leaves a net outflow that no balance allows
too_much : (S ends : ℕ) (n o out flows : ℤ) → 0 < S → (pos S *ℤ n) ≤ℤ (out +ℤ pos (ends * (S * 10)))
    → (pos S *ℤ o) ≤ℤ (flows +ℤ pos (S * 20))
    → (out +ℤ flows) ≤ℤ pos (S * 10) → (pos ((ends + 3) * 10) +ℤ pos 1) ≤ℤ (n +ℤ o) → ⊥
too_much S ends n o out flows some links leaves balance passes =
    let a = times_rises S (pos ((ends + 3) * 10) +ℤ pos 1) (n +ℤ o) passes in
    omega (arith, ints, a, links, leaves, balance, times_plus S n o)

too_little : (S ends : ℕ) (n o out flows : ℤ) → 0 < S → out ≤ℤ ((pos S *ℤ n) +ℤ pos (ends * (S * 10)))
    → flows ≤ℤ ((pos S *ℤ o) +ℤ pos (S * 20))
    → neg_ℤ (pos (S * 10)) ≤ℤ (out +ℤ flows) → (n +ℤ o) ≤ℤ neg_ℤ (pos ((ends + 3) * 10) +ℤ pos 1) → ⊥
too_little S ends n o out flows some links leaves balance passes =
    let a = times_rises S (n +ℤ o) (neg_ℤ (pos ((ends + 3) * 10) +ℤ pos 1)) passes in
    omega (arith, ints, a, links, leaves, balance, times_plus S n o, times_neg S (pos ((ends + 3) * 10) +ℤ pos 1))

-- ---- junctions of the file and of the grid

pub record IsPlace (Q : Junction → GridJunction → Type 0) (xs : List Junction) (ys : List GridJunction) (i : ℕ) : Type
    0 where
  pub junction : Junction
  pub here : GridJunction
  pub is_junction : slice_get xs i ≡ Some junction
  pub is_here : slice_get ys i ≡ Some here
  pub holds : Q junction here

pub place_at : (Q : Junction → GridJunction → Type 0) (xs : List Junction) (ys : List GridJunction) → AllZip Q xs ys
    → (i : ℕ) → i < length ys → IsPlace Q xs ys i
place_at Q [] [] all i lt = absurd (omega arith)
place_at Q [] (y ∷ ys) all i lt = absurd all
place_at Q (x ∷ xs) [] all i lt = absurd all
place_at Q (x ∷ xs) (y ∷ ys) all zero lt = record {
  junction = x;
  here = y;
  is_junction = refl;
  is_here = refl;
  holds = all.0;
}
place_at Q (x ∷ xs) (y ∷ ys) all (suc i) lt =
    let p = place_at Q xs ys all.1 i (omega arith) in
    record { junction = p.junction; here = p.here; is_junction = p.is_junction; is_here = p.is_here; holds = p.holds }

pub place_long : (Q : Junction → GridJunction → Type 0) (xs : List Junction) (ys : List GridJunction) → AllZip Q xs ys
    → length xs ≡ length ys
place_long Q [] [] all = refl
place_long Q [] (y ∷ ys) all = absurd all
place_long Q (x ∷ xs) [] all = absurd all
place_long Q (x ∷ xs) (y ∷ ys) all = let e = place_long Q xs ys all.1 in omega (arith, e)

pub emitter_at : (js : List GridJunction) (i : ℕ) (here : GridJunction)
    → AllByRecursion (λ (junction : GridJunction). IfSome junction.emitter IsSoundCapacity) js
    → slice_get js i ≡ Some here → IfSome here.emitter IsSoundCapacity
emitter_at [] i here all e = absurd (cc)
emitter_at (j ∷ js) zero here all e = subst (λ (k : GridJunction). IfSome k.emitter IsSoundCapacity)
    (let s : j ≡ here = cc in s) all.0
emitter_at (j ∷ js) (suc i) here all e = emitter_at js i here all.1 e

-- ---- what a certificate can't have

-- no junction of a certificate has an excess that is at least 0 and nowhere greater
pub no_excess : (project : Project) (S time : ℕ) (intervals : List Interval) (levels : List ℤ)
    (tanks : List TankState) (links : List LinkState) (assignment : Assignment) (grid : Grid)
    (problem : Problem) (u : List ℤ) (i : ℕ) → IsCompared project S time intervals levels tanks links assignment grid
    → IsCertificate grid problem Upper u → i < length u
    → IsPeak S (node_heads project S time levels assignment.heads) (all_heads grid problem Upper u) i
    → (pos S *ℤ head_at u i) ≤ℤ head_at assignment.heads i → ⊥
no_excess project S time intervals levels tanks links assignment grid problem u i c certificate lt peak above =
    let p = place_at (IsJunctionOf project time) project.junctions.list grid.junctions c.is_grid.junctions i
    (let e = certificate.one_each in omega (arith, lt)) in
    let obeys = c.assigned.junctions_obey i p.junction p.is_junction in
    let sums = sum-upper project tanks S (node_heads project S time levels assignment.heads)
    (all_heads grid problem Upper u) i c.some peak project.links.list links assignment.flows c.assigned.links_follow
    (subst (λ (ls : List GridLink). AllByRecursion (λ (link : GridLink). IsSoundLaw link.law) ls) c.is_grid.links_are
    c.sound.links) in
    let turned = subst (λ (ls : List GridLink). (pos S *ℤ net low high (all_heads grid problem Upper u) i ls)
    ≤ℤ (net_outflow i project.links.list assignment.flows +ℤ pos (link_ends i ls * (S * 10))))
    (sym c.is_grid.links_are) sums in
    let leaves = outflow-below project time S assignment i p.junction p.here (head_at u i) c.some p.holds
    (emitter_at grid.junctions i p.here c.sound.emitters p.is_here) above obeys in
    too_much S (link_ends i grid.links) (net low high (all_heads grid problem Upper u) i grid.links)
    (outflow_low p.here (head_at u i))
    (net_outflow i project.links.list assignment.flows) (flow_at assignment.demands i +ℤ flow_at assignment.emitters
    i) c.some turned leaves
    (let b = obeys.balance.low in omega (arith, ints, b)) (certificate.passes i p.here p.is_here)

pub no_lack : (project : Project) (S time : ℕ) (intervals : List Interval) (levels : List ℤ) (tanks : List TankState)
    (links : List LinkState) (assignment : Assignment) (grid : Grid)
    (problem : Problem) (u : List ℤ) (i : ℕ) → IsCompared project S time intervals levels tanks links assignment grid
    → IsCertificate grid problem Lower u → i < length u
    → IsDip S (node_heads project S time levels assignment.heads) (all_heads grid problem Lower u) i
    → head_at assignment.heads i ≤ℤ (pos S *ℤ head_at u i) → ⊥
no_lack project S time intervals levels tanks links assignment grid problem u i c certificate lt dip below =
    let p = place_at (IsJunctionOf project time) project.junctions.list grid.junctions c.is_grid.junctions i
    (let e = certificate.one_each in omega (arith, lt)) in
    let obeys = c.assigned.junctions_obey i p.junction p.is_junction in
    let sums = sum-lower project tanks S (node_heads project S time levels assignment.heads)
    (all_heads grid problem Lower u) i c.some dip project.links.list links assignment.flows c.assigned.links_follow
    (subst (λ (ls : List GridLink). AllByRecursion (λ (link : GridLink). IsSoundLaw link.law) ls) c.is_grid.links_are
    c.sound.links) in
    let turned = subst (λ (ls : List GridLink). net_outflow i project.links.list assignment.flows
    ≤ℤ ((pos S *ℤ net high low (all_heads grid problem Lower u) i ls) +ℤ pos (link_ends i ls * (S * 10))))
    (sym c.is_grid.links_are) sums in
    let leaves = outflow-above project time S assignment i p.junction p.here (head_at u i) c.some p.holds
    (emitter_at grid.junctions i p.here c.sound.emitters p.is_here) below obeys in
    too_little S (link_ends i grid.links) (net high low (all_heads grid problem Lower u) i grid.links)
    (outflow_high p.here (head_at u i))
    (net_outflow i project.links.list assignment.flows) (flow_at assignment.demands i +ℤ flow_at assignment.emitters
    i) c.some turned leaves
    (let b = obeys.balance.high in omega (arith, ints, b)) (certificate.passes i p.here p.is_here)

-- ---- all tanks alike

pub fixed_below : (project : Project) (S time : ℕ) (intervals : List Interval) (levels : List ℤ)
    (tanks : List TankState) (links : List LinkState) (grid : Grid) (t : ℤ)
    → IsGrid project time intervals tanks links grid → LevelsLie S intervals levels → pos 0 ≤ℤ t → (m : ℕ)
    → excess S (map (λ r. at_scale S (reservoir_head project time r)) project.reservoirs.list
    ++ tank_heads S project.tanks.list levels) (fixed_heads grid Main Upper) m ≤ℤ t
fixed_below project S time intervals levels tanks links grid t is lie above m =
    rw (is.reservoirs, is.tank_heads) (reservoirs_below S (reservoir_head project time) project.reservoirs.list _ _ t
    above
    (λ k. let l = tanks_below S 0 project.tanks.list intervals levels lie k in omega (arith, ints, l)) m)

pub fixed_above : (project : Project) (S time : ℕ) (intervals : List Interval) (levels : List ℤ)
    (tanks : List TankState) (links : List LinkState) (grid : Grid) (t : ℤ)
    → IsGrid project time intervals tanks links grid → LevelsLie S intervals levels → pos 0 ≤ℤ t → (m : ℕ)
    → lack S (map (λ r. at_scale S (reservoir_head project time r)) project.reservoirs.list
    ++ tank_heads S project.tanks.list levels) (fixed_heads grid Main Lower) m ≤ℤ t
fixed_above project S time intervals levels tanks links grid t is lie above m =
    rw (is.reservoirs, is.tank_heads) (reservoirs_above S (reservoir_head project time) project.reservoirs.list _ _ t
    above
    (λ k. let l = tanks_above S 0 project.tanks.list intervals levels lie k in omega (arith, ints, l)) m)

pub one_each : (project : Project) (S time : ℕ) (intervals : List Interval) (levels : List ℤ) (tanks : List TankState)
    (links : List LinkState) (assignment : Assignment) (grid : Grid)
    (problem : Problem) (side : Side) (u : List ℤ) → IsCompared project S time intervals levels tanks links assignment
    grid → IsCertificate grid problem side u → length assignment.heads ≡ length u
one_each project S time intervals levels tanks links assignment grid problem side u c certificate =
    let a = certificate.one_each in let b = place_long (IsJunctionOf project time) project.junctions.list
    grid.junctions c.is_grid.junctions in
    let d = c.assigned.head_each in omega (arith, a, b, d)

-- no junction lies above an upper certificate
none_above : (project : Project) (S time : ℕ) (intervals : List Interval) (levels : List ℤ) (tanks : List TankState)
    (links : List LinkState) (assignment : Assignment) (grid : Grid) (u : List ℤ) (j i : ℕ)
    → IsCompared project S time intervals levels tanks links assignment grid → IsCertificate grid Main Upper u
    → j < length assignment.heads
    → (pos S *ℤ head_at u j) ≤ℤ head_at assignment.heads j → IsGreatestBelow (excess S assignment.heads u)
    (length assignment.heads) i → ⊥
none_above project S time intervals levels tanks links assignment grid u j i c certificate lt ge best =
    let same = one_each project S time intervals levels tanks links assignment grid Main Upper u c certificate in
    let top : excess S assignment.heads u j ≤ℤ excess S assignment.heads u i = best.each j lt in
    let t : pos 0 ≤ℤ excess S assignment.heads u i = omega (arith, ints, top, ge) in
    let front : i < length u = (let l = best.below in omega (arith, l, same)) in
    no_excess project S time intervals levels tanks links assignment grid Main u i c certificate front
    (λ m. rw (head_front assignment.heads _ i best.below, head_front u _ i front)
    (excess_after S assignment.heads u _ _ (excess S assignment.heads u i) same
    (fixed_below project S time intervals levels tanks links grid (excess S assignment.heads u i) c.is_grid c.lie t) m
    (λ lt. best.each m lt)))
    (omega (arith, ints, t))

pub below_main : (project : Project) (S time : ℕ) (intervals : List Interval) (levels : List ℤ)
    (tanks : List TankState) (links : List LinkState) (assignment : Assignment) (grid : Grid) (u : List ℤ)
    → IsCompared project S time intervals levels tanks links assignment grid → IsCertificate grid Main Upper u
    → Each assignment.heads (λ j h. h <ℤ at_scale S (head_at u j))
below_main project S time intervals levels tanks links assignment grid u c certificate j h is = by_lt_z h
    (pos S *ℤ head_at u j) (λ lt. lt)
    (λ ge.
    let inside = slice_get_within assignment.heads j h is in
    let (i, best) = greatest_below (excess S assignment.heads u) (length assignment.heads) (omega (arith, inside)) in
    absurd (none_above project S time intervals levels tanks links assignment grid u j i c certificate inside
    (let e : head_at assignment.heads j ≡ h = get_or_from_slice_get assignment.heads j h (pos 0) is in
    omega (arith, ints, e, ge)) best))

-- none below a lower one
none_below : (project : Project) (S time : ℕ) (intervals : List Interval) (levels : List ℤ) (tanks : List TankState)
    (links : List LinkState) (assignment : Assignment) (grid : Grid) (u : List ℤ) (j i : ℕ)
    → IsCompared project S time intervals levels tanks links assignment grid → IsCertificate grid Main Lower u
    → j < length assignment.heads
    → head_at assignment.heads j ≤ℤ (pos S *ℤ head_at u j) → IsGreatestBelow (lack S assignment.heads u)
    (length assignment.heads) i → ⊥
none_below project S time intervals levels tanks links assignment grid u j i c certificate lt ge best =
    let same = one_each project S time intervals levels tanks links assignment grid Main Lower u c certificate in
    let top : lack S assignment.heads u j ≤ℤ lack S assignment.heads u i = best.each j lt in
    let t : pos 0 ≤ℤ lack S assignment.heads u i = omega (arith, ints, top, ge) in
    let front : i < length u = (let l = best.below in omega (arith, l, same)) in
    no_lack project S time intervals levels tanks links assignment grid Main u i c certificate front
    (λ m. rw (head_front assignment.heads _ i best.below, head_front u _ i front)
    (lack_after S assignment.heads u _ _ (lack S assignment.heads u i) same
    (fixed_above project S time intervals levels tanks links grid (lack S assignment.heads u i) c.is_grid c.lie t) m
    (λ lt. best.each m lt)))
    (omega (arith, ints, t))

pub above_main : (project : Project) (S time : ℕ) (intervals : List Interval) (levels : List ℤ)
    (tanks : List TankState) (links : List LinkState) (assignment : Assignment) (grid : Grid) (u : List ℤ)
    → IsCompared project S time intervals levels tanks links assignment grid → IsCertificate grid Main Lower u
    → Each assignment.heads (λ j h. at_scale S (head_at u j) <ℤ h)
above_main project S time intervals levels tanks links assignment grid u c certificate j h is =
    by_lt_z (pos S *ℤ head_at u j) h (λ lt. lt)
    (λ ge.
    let inside = slice_get_within assignment.heads j h is in
    let (i, best) = greatest_below (lack S assignment.heads u) (length assignment.heads) (omega (arith, inside)) in
    absurd (none_below project S time intervals levels tanks links assignment grid u j i c certificate inside
    (let e : head_at assignment.heads j ≡ h = get_or_from_slice_get assignment.heads j h (pos 0) is in
    omega (arith, ints, e, ge)) best))
