-- The flows of every assignment lie in the boxes of its certificates.
use Rattle.std.proofs.Common.{◌≡◌, ℕ, zero, suc, ◌*◌, ◌<◌, ℤ, pos, ◌+ℤ◌, ◌-ℤ◌, ◌*ℤ◌, ◌≤ℤ◌, sym, subst, arith, List, []}
use Rattle.std.proofs.Common.{◌∷◌, length}
use Rattle.std.specs.Prelude.{Option, Some, None, slice_get, MatchOption}
use Rattle.std.specs.List.{AllByRecursion}
use Rattle.std.specs.Option.{IfSome}
use Rattle.std.proofs.lemmas.Int.{ints}
use Rattle.std.proofs.lemmas.Option.{slice_get-get_or, slice_get_within}
use Rattle.hyd_num.proofs.Integers.{times_plus, times_minus}
use Rattle.hyd_spec.specs.ProgramTypes.{Project, Junction, Link, LinkState, Capacity}
use Rattle.hyd_spec.specs.Scale.{missed_flow_ticks}
use Rattle.hyd_spec.specs.declared.TankState.{TankState}
use Rattle.hyd_spec_certificates.specs.declared.Side.TheVariants.{Upper, Lower}
use Rattle.hyd_spec_certificates.specs.declared.Problem.TheVariants.{Main}
use Rattle.hyd_spec_certificates.specs.Interval.{Interval}
use Rattle.hyd_spec.specs.DemandsHeadsAndPumpLifts.{demand_of}
use Rattle.hyd_spec.specs.LinkLaw.{law_of}
use Rattle.hyd_spec.specs.Law.{QuadraticLaw, Follows}
use Rattle.hyd_spec_certificates.specs.EnclosingFunctions.{demand_low, demand_high}
use Rattle.hyd_spec.specs.Outflow.{FollowsEmitter}
use Rattle.hyd_spec.specs.Assignment.{Assignment, JunctionObeys, LinksFollow, more, head_at, flow_at, node_heads}
use Rattle.hyd_spec_certificates.specs.PeriodNetwork.{Grid, GridLink, GridJunction, IsJunctionOf, grid_links, all_heads}
use Rattle.hyd_spec_certificates.specs.FlowIntervals.{flow_box, out_box, emitter_box}
use Rattle.hyd_spec_certificates.specs.Certificate.{IsCertificate}
use Rattle.hyd_theorems_on_definitions.specs.LyingInIntervals.{LiesIn, IsCompared}
use Rattle.hyd_theorems_on_definitions.specs.SoundLawsAndGrids.{IsSoundLaw, IsSoundCapacity}
use Rattle.hyd_theorems_on_definitions.specs.LyingInIntervals.{LieBetween}
use Rattle.hyd_theorems_on_definitions.proofs.HeadsOfAllNodes.{excess, lack, excess_after, lack_after}
use Rattle.hyd_theorems_on_definitions.proofs.FlowsAtOneNode.{flow-below, flow-above}
use Rattle.hyd_theorems_on_definitions.proofs.Outflows.{demand-below, demand-above}
use Rattle.hyd_theorems_on_definitions.proofs.ComparisonPrinciple.{below_main, above_main, one_each, fixed_below}
use Rattle.hyd_theorems_on_definitions.proofs.ComparisonPrinciple.{fixed_above}
use Rattle.hyd_theorems_on_definitions.proofs.ComparisonPrinciple.{place_at}
use Rattle.hyd_theorems_on_definitions.proofs.ComparisonPrinciple.{emitter_at}

-- ---- heads

pub heads_between : (project : Project) (S time : ℕ) (intervals : List Interval) (levels : List ℤ)
    (tanks : List TankState) (links : List LinkState) (assignment : Assignment) (grid : Grid) (below above : List ℤ)
    → IsCompared project S time intervals levels tanks links assignment grid → IsCertificate grid Main Lower below
    → IsCertificate grid Main Upper above
    → LieBetween S (all_heads grid Main Lower below) (all_heads grid Main Upper above)
    (node_heads project S time levels assignment.heads)
heads_between project S time intervals levels tanks links assignment grid below above c under over m = record {
  low = let l : lack S (node_heads project S time levels assignment.heads) (all_heads grid Main Lower below) m
      ≤ℤ pos 0 =
      lack_after S assignment.heads below _ _ (pos 0) (one_each project S time intervals levels tanks links assignment
      grid Main Lower below c under)
      (fixed_above project S time intervals levels tanks links grid (pos 0) c.is_grid c.lie (omega (arith, ints))) m
      (λ lt. let h = above_main project S time intervals levels tanks links assignment grid below c under m _
      (slice_get-get_or assignment.heads m (pos 0) lt) in omega (arith, ints, h)) in
      omega (arith, ints, l);
  high = let l : excess S (node_heads project S time levels assignment.heads) (all_heads grid Main Upper above) m
      ≤ℤ pos 0 =
      excess_after S assignment.heads above _ _ (pos 0) (one_each project S time intervals levels tanks links
      assignment grid Main Upper above c over)
      (fixed_below project S time intervals levels tanks links grid (pos 0) c.is_grid c.lie (omega (arith, ints))) m
      (λ lt. let h = below_main project S time intervals levels tanks links assignment grid above c over m _
      (slice_get-get_or assignment.heads m (pos 0) lt) in omega (arith, ints, h)) in
      omega (arith, ints, l);
}

-- ---- links

-- a link of the grid, and the flow that follows its law
pub record IsFollowed (S : ℕ) (heads : List ℤ) (link : GridLink) (q : ℤ) : Type 0 where
  pub sound : IsSoundLaw link.law
  pub follows : Follows link.law S (head_at heads link.from -ℤ head_at heads link.to) q

pub followed_at : (project : Project) (tanks : List TankState) (S : ℕ) (heads : List ℤ) (links : List Link)
    (states : List LinkState) (flows : List ℤ)
    → LinksFollow project tanks S heads links states flows → AllByRecursion (λ (link : GridLink). IsSoundLaw link.law)
    (grid_links project tanks links states)
    → (l : ℕ) (link : GridLink) → slice_get (grid_links project tanks links states) l ≡ Some link
    → IsFollowed S heads link (flow_at flows l)
followed_at project tanks S heads [] [] [] f sound l link is = absurd (cc)
followed_at project tanks S heads [] [] (q ∷ flows) f sound l link is = elim f [ ]
followed_at project tanks S heads [] (state ∷ states) flows f sound l link is = elim f [ ]
followed_at project tanks S heads (x ∷ links) [] flows f sound l link is = elim f [ ]
followed_at project tanks S heads (x ∷ links) (state ∷ states) [] f sound l link is = elim f [ ]
followed_at project tanks S heads (x ∷ links) (state ∷ states) (q ∷ flows) (more follows rest) sound zero link is =
    subst (λ (g : GridLink). IsFollowed S heads g q) (let e : record {
      from = x.from;
      to = x.to;
      law = law_of project tanks x state;
    } ≡ link = cc in e)
    (record { sound = sound.0; follows = follows })
followed_at project tanks S heads (x ∷ links) (state ∷ states) (q ∷ flows) (more follows rest) sound (suc l) link is =
    followed_at project tanks S heads links states flows rest sound.1 l link is

boxed : (S : ℕ) (below above heads : List ℤ) (link : GridLink) (q : ℤ) → 0 < S → LieBetween S below above heads
    → IsFollowed S heads link q
    → LiesIn S (flow_box link below above) q
boxed S below above heads link q some between f = record {
  low = let a = flow-below link.law S (head_at below link.from -ℤ head_at above link.to) (head_at heads link.from
      -ℤ head_at heads link.to) q f.sound some
      (let l = (between link.from).low in let h = (between link.to).high in
      omega (arith, ints, l, h, times_minus S (head_at below link.from) (head_at above link.to))) f.follows in
      rw times_minus (omega (arith, ints, a));
  high = let a = flow-above link.law S (head_at above link.from -ℤ head_at below link.to) (head_at heads link.from
      -ℤ head_at heads link.to) q f.sound some
      (let l = (between link.to).low in let h = (between link.from).high in
      omega (arith, ints, l, h, times_minus S (head_at above link.from) (head_at below link.to))) f.follows in
      rw times_plus (omega (arith, ints, a));
}

pub flow_lies : (project : Project) (S time : ℕ) (intervals : List Interval) (levels : List ℤ)
    (tanks : List TankState) (links : List LinkState) (assignment : Assignment) (grid : Grid) (below above : List ℤ)
    → IsCompared project S time intervals levels tanks links assignment grid
    → LieBetween S below above (node_heads project S time levels assignment.heads)
    → (l : ℕ) (link : GridLink) → slice_get grid.links l ≡ Some link
    → LiesIn S (flow_box link below above) (flow_at assignment.flows l)
flow_lies project S time intervals levels tanks links assignment grid below above c between l link is =
    boxed S below above (node_heads project S time levels assignment.heads) link (flow_at assignment.flows l) c.some
    between
    (followed_at project tanks S (node_heads project S time levels assignment.heads) project.links.list links
    assignment.flows c.assigned.links_follow
    (subst (λ (ls : List GridLink). AllByRecursion (λ (link : GridLink). IsSoundLaw link.law) ls) c.is_grid.links_are
    c.sound.links)
    l link (subst (λ (ls : List GridLink). slice_get ls l ≡ Some link) c.is_grid.links_are is))

-- ---- outflows

emitter_lies : (junction : Junction) (emitter : Option Capacity) (S : ℕ) (p : Interval) (x q : ℤ)
    → emitter ≡ junction.emitter → IfSome emitter IsSoundCapacity → 0 < S
    → (pos S *ℤ p.lo) ≤ℤ x → x ≤ℤ (pos S *ℤ p.hi) → FollowsEmitter junction S x q → LiesIn S (emitter_box emitter p) q
emitter_lies junction emitter S p x q same sound some under over follows =
    by_case emitter sound (subst (λ (o : Option Capacity). MatchOption o (q ≡ pos 0)
    (λ capacity. Follows (QuadraticLaw capacity) S x q)) (sym same) follows)
  where
    by_case : (e : Option Capacity) → IfSome e IsSoundCapacity
        → MatchOption e (q ≡ pos 0) (λ capacity. Follows (QuadraticLaw capacity) S x q) → LiesIn S (emitter_box e p) q
    by_case None sound h = record { low = omega (arith, ints, h); high = omega (arith, ints, h) }
    by_case (Some c) sound h = record {
      low = let a = flow-below (QuadraticLaw c) S p.lo x q sound some under h in
          rw times_minus (omega (arith, ints, a));
      high = let a = flow-above (QuadraticLaw c) S p.hi x q sound some over h in rw times_plus (omega (arith, ints, a));
    }

out_of : (project : Project) (time S : ℕ) (assignment : Assignment) (j : ℕ) (junction : Junction)
    (here : GridJunction) (below above : ℤ) → 0 < S
    → IsJunctionOf project time junction here → IfSome here.emitter IsSoundCapacity
    → (pos S *ℤ below) ≤ℤ head_at assignment.heads j → head_at assignment.heads j ≤ℤ (pos S *ℤ above)
    → JunctionObeys project time S assignment j junction
    → LiesIn S (out_box here below above) (flow_at assignment.demands j +ℤ flow_at assignment.emitters j)
out_of project time S assignment j junction here below above some is sound under over obeys =
    let l : (pos S *ℤ (below -ℤ here.elevation)) ≤ℤ (head_at assignment.heads j -ℤ (pos S *ℤ junction.elevation)) =
    rw times_minus (rw is.elevation (omega (arith, ints, under))) in
    let h : (head_at assignment.heads j -ℤ (pos S *ℤ junction.elevation)) ≤ℤ (pos S *ℤ (above -ℤ here.elevation)) =
    rw times_minus (rw is.elevation (omega (arith, ints, over))) in
    let a = demand-below project (demand_of project time junction) here.demand S (below -ℤ here.elevation)
    (head_at assignment.heads j -ℤ (pos S *ℤ junction.elevation)) (flow_at assignment.demands j)
    is.demand some l obeys.demand in
    let b = demand-above project (demand_of project time junction) here.demand S (above -ℤ here.elevation)
    (head_at assignment.heads j -ℤ (pos S *ℤ junction.elevation)) (flow_at assignment.demands j)
    is.demand some h obeys.demand in
    let e = emitter_lies junction here.emitter S (record {
      lo = below -ℤ here.elevation;
      hi = above -ℤ here.elevation;
    }) (head_at assignment.heads j -ℤ (pos S *ℤ junction.elevation))
    (flow_at assignment.emitters j)
    is.emitter sound some l h obeys.emitter in
    summed S (demand_low here.demand (below -ℤ here.elevation)) (demand_high here.demand (above -ℤ here.elevation)) _
    (flow_at assignment.demands j) (flow_at assignment.emitters j) a b e
  where
    summed : (S : ℕ) (lo hi : ℤ) (box : Interval) (d e : ℤ) → (pos S *ℤ lo) ≤ℤ (d +ℤ pos (S * missed_flow_ticks))
        → (d -ℤ pos (S * missed_flow_ticks)) ≤ℤ (pos S *ℤ hi) → LiesIn S box e
        → LiesIn S (record {
          lo = (lo -ℤ pos missed_flow_ticks) +ℤ box.lo;
          hi = (hi +ℤ pos missed_flow_ticks) +ℤ box.hi;
        }) (d +ℤ e)
    summed S lo hi box d e a b lies = record {
      low = let l = lies.low in
          let each = times_minus S lo (pos missed_flow_ticks) in
          omega (arith, ints, a, l, times_plus S (lo -ℤ pos missed_flow_ticks) box.lo, each);
      high = let h = lies.high in
          let each = times_plus S hi (pos missed_flow_ticks) in
          omega (arith, ints, b, h, times_plus S (hi +ℤ pos missed_flow_ticks) box.hi, each);
    }

pub outflow_lies : (project : Project) (S time : ℕ) (intervals : List Interval) (levels : List ℤ)
    (tanks : List TankState) (links : List LinkState) (assignment : Assignment) (grid : Grid) (below above : List ℤ)
    → IsCompared project S time intervals levels tanks links assignment grid → IsCertificate grid Main Lower below
    → IsCertificate grid Main Upper above
    → (j : ℕ) (here : GridJunction) → slice_get grid.junctions j ≡ Some here
    → LiesIn S (out_box here (head_at below j) (head_at above j)) (flow_at assignment.demands j
    +ℤ flow_at assignment.emitters j)
outflow_lies project S time intervals levels tanks links assignment grid below above c under over j here is =
    let inside = slice_get_within grid.junctions j here is in
    let long : j < length assignment.heads = (let a = one_each project S time intervals levels tanks links assignment
    grid Main Upper above c over in let b = over.one_each in omega (arith, inside, a, b)) in
    let p = place_at (IsJunctionOf project time) project.junctions.list grid.junctions c.is_grid.junctions j inside in
    let l = above_main project S time intervals levels tanks links assignment grid below c under j _
    (slice_get-get_or assignment.heads j (pos 0) long) in
    let h = below_main project S time intervals levels tanks links assignment grid above c over j _
    (slice_get-get_or assignment.heads j (pos 0) long) in
    subst (λ (g : GridJunction). LiesIn S (out_box g (head_at below j) (head_at above j))
    (flow_at assignment.demands j +ℤ flow_at assignment.emitters j))
    (let e : p.here ≡ here = (let a = p.is_here in cc) in e)
    (out_of project time S assignment j p.junction p.here (head_at below j) (head_at above j) c.some p.holds
    (emitter_at grid.junctions j p.here c.sound.emitters p.is_here)
    (omega (arith, ints, l)) (omega (arith, ints, h)) (c.assigned.junctions_obey j p.junction p.is_junction))
