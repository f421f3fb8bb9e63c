-- What certificates with a junction held tell: the flow of a link from that junction, and its head under a draw.
use Rattle.std.proofs.Common.{◌≡◌, ℕ, ◌<◌, ℤ, pos, ◌+ℤ◌, ◌-ℤ◌, ◌*ℤ◌, ◌≤ℤ◌, ◌<ℤ◌, neg_ℤ, refl, ap, subst, arith, Bool}
use Rattle.std.proofs.Common.{true, false, ◌==◌, List, length}
use Rattle.std.specs.Prelude.{Some, slice_get, MatchBool}
use Rattle.std.specs.List.{AllByRecursion}
use Rattle.std.proofs.lemmas.Int.{ints, by_lt_z}
use Rattle.std.proofs.lemmas.Bool.{eq-eqb}
use Rattle.std.proofs.lemmas.Option.{slice_get_within, slice_get-get_or}
use Rattle.hyd_num.proofs.Integers.{times_plus, times_minus, times_neg, times_one}
use Rattle.hyd_spec.specs.ProgramTypes.{Project, Junction, LinkState}
use Rattle.hyd_spec.specs.declared.TankState.{TankState}
use Rattle.hyd_spec.specs.Assignment.{Assignment, JunctionObeys, head_at, flow_at, where_so, node_heads}
use Rattle.hyd_spec.specs.AssignmentWithDraw.{JunctionObeysDrawing}
use Rattle.hyd_spec_certificates.specs.declared.Side.{Side}
use Rattle.hyd_spec_certificates.specs.declared.Side.TheVariants.{Upper, Lower}
use Rattle.hyd_spec_certificates.specs.declared.Problem.TheVariants.{Main}
use Rattle.hyd_spec_certificates.specs.Interval.{Interval}
use Rattle.hyd_spec_certificates.specs.PeriodNetwork.{Grid, GridLink, GridJunction, IsJunctionOf, fixed_heads}
use Rattle.hyd_spec_certificates.specs.NetOutflow.{margin}
use Rattle.hyd_spec_certificates.specs.Certificate.{Passes, IsCertificate, IsCertificateHolding}
use Rattle.hyd_spec_certificates.specs.BoxesWithHeldJunction.{held_in, held_flow_box, passing_draw}
use Rattle.hyd_theorems_on_definitions.specs.LyingInIntervals.{LiesIn, IsCompared, IsComparedDrawing}
use Rattle.hyd_theorems_on_definitions.specs.SoundLawsAndGrids.{IsSoundLaw}
use Rattle.hyd_theorems_on_definitions.specs.Sides.{along}
use Rattle.hyd_theorems_on_definitions.proofs.HeadsOfAllNodes.{head_front}
use Rattle.hyd_theorems_on_definitions.proofs.FlowsAtOneNode.{flow-below, flow-above}
use Rattle.hyd_theorems_on_definitions.proofs.ComparisonPrinciple.{IsPlace, place_at, place_long, below_main}
use Rattle.hyd_theorems_on_definitions.proofs.ComparisonPrinciple.{above_main}
use Rattle.hyd_theorems_on_definitions.proofs.FlowsInBoxes.{IsFollowed, followed_at}
use Rattle.hyd_theorems_on_definitions.proofs.HeldComparison.{ahead, net_on, within-margin, held-farthest, along-plus}
use Rattle.hyd_theorems_on_definitions.proofs.HeldComparison.{along-times}
use Rattle.hyd_lemmas.proofs.ListsOptionsAndResults.{item_there}

-- the held junction stands at its head
at-head : (grid : Grid) (side : Side) (place : ℕ) (h : ℤ) (u : List ℤ) (here : GridJunction)
    → IsCertificateHolding (Some (record { junction = place; head = h })) grid Main side u
    → slice_get grid.junctions place ≡ Some here
    → head_at u place ≡ h
at-head grid side place h u here certificate at =
    subst (λ (b : Bool). MatchBool b (head_at u place ≡ h) (Passes grid Main side u place here))
    (eq-eqb place place refl) (certificate.passes place here at)

-- ---- under a draw

module _ (project : Project) (S time : ℕ) (intervals : List Interval) (levels : List ℤ) (tanks : List TankState)
    (links : List LinkState) (place : ℕ) (q : ℤ) (assignment : Assignment) (grid : Grid)
    (c : IsComparedDrawing project S time intervals levels tanks links place q assignment grid) where
  -- the balance of a vector at a junction, with the draw with which it passes
  with-draw : (side : Side) (u : List ℤ) (i : ℕ) (here : GridJunction)
      → along side (pos S *ℤ passing_draw grid side u i here)
      ≡ (pos S *ℤ (margin grid i +ℤ pos 1)) -ℤ along side (pos S *ℤ net_on grid side u i here)
  with-draw Upper u i here = times_minus S (margin grid i +ℤ pos 1) (net_on grid Upper u i here)
  with-draw Lower u i here =
      let a = times_minus S (neg_ℤ (margin grid i +ℤ pos 1)) (net_on grid Lower u i here) in
      let b = times_neg S (margin grid i +ℤ pos 1) in
      omega (arith, ints, a, b)

  -- with so much drawn, or more on that side, the junction's head lies on the vector's side
  pub drawn_within : (side : Side) (h : ℤ) (u : List ℤ) (here : GridJunction)
      → IsCertificateHolding (Some (record { junction = place; head = h })) grid Main side u
      → slice_get grid.junctions place ≡ Some here
      → along side (pos S *ℤ passing_draw grid side u place here) ≤ℤ along side q
      → along side (head_at assignment.heads place) <ℤ along side (pos S *ℤ h)
  drawn_within side h u here certificate at enough = by_lt_z (along side (head_at assignment.heads place))
      (along side (pos S *ℤ h)) (λ lt. lt) (λ ge. absurd (
      let stands = at-head grid side place h u here certificate at in
      let own = certificate.one_each in
      let each = c.assigned.head_each in
      let long = place_long (IsJunctionOf project time) project.junctions.list grid.junctions c.is_grid.junctions in
      let inside = slice_get_within grid.junctions place here at in
      let same : length assignment.heads ≡ length u = omega (arith, own, each, long) in
      let turned = along-times side S (head_at u place) in
      let there = ap (λ (z : ℤ). along side (pos S *ℤ z)) stands in
      let beyond : pos 0 ≤ℤ ahead side S assignment.heads u place = omega (arith, ints, ge, turned, there) in
      let farthest =
      held-farthest project S time intervals levels tanks links place q assignment grid c side h u certificate
      (omega (arith, inside, each, long)) same beyond in
      let p = place-at place here inside at in
      let within = subst (λ (j : GridJunction). along side ((pos S *ℤ net_on grid side u place j) +ℤ where_so
      (place == place) q) ≤ℤ (pos S *ℤ margin grid place))
      p.1 (within-margin project S time intervals levels tanks links place q assignment grid c side u place p.0
      farthest beyond) in
      let draws : where_so (place == place) q ≡ q = ap (λ (b : Bool). where_so b q) (eq-eqb place place refl) in
      let drawn_along = ap (along side) draws in
      let apart = along-plus side (pos S *ℤ net_on grid side u place here) (where_so (place == place) q) in
      let sum = with-draw side u place here in
      let some = c.some in
      omega (
        arith,
        ints,
        within,
        drawn_along,
        apart,
        sum,
        enough,
        some,
        times_plus S (margin grid place) (pos 1),
        times_one S,
      )))
    where
      place-at : (i : ℕ) (here : GridJunction) → i < length grid.junctions → slice_get grid.junctions i ≡ Some here
          → (p : IsPlace (IsJunctionOf project time) project.junctions.list grid.junctions i) × (p.here ≡ here)
      place-at i here inside at =
          let p = place_at
          (IsJunctionOf project time) project.junctions.list grid.junctions c.is_grid.junctions i inside in
          (p, (let e = p.is_here in let same : p.here ≡ here = cc in same))

-- ---- without one

undrawn : (project : Project) (S time : ℕ) (intervals : List Interval) (levels : List ℤ) (tanks : List TankState)
    (links : List LinkState) (place : ℕ) (assignment : Assignment) (grid : Grid)
    → IsCompared project S time intervals levels tanks links assignment grid
    → IsComparedDrawing project S time intervals levels tanks links place (pos 0) assignment grid
undrawn project S time intervals levels tanks links place assignment grid c = record {
  some = c.some;
  is_grid = c.is_grid;
  sound = c.sound;
  lie = c.lie;
  assigned = record {
    scale = c.assigned.scale;
    level_each = c.assigned.level_each;
    tank_each = c.assigned.tank_each;
    head_each = c.assigned.head_each;
    demand_each = c.assigned.demand_each;
    emitter_each = c.assigned.emitter_each;
    links_follow = c.assigned.links_follow;
    junctions_obey = λ j junction at. obeys (j == place) j junction (c.assigned.junctions_obey j junction at);
  };
}
  where
    obeys : (b : Bool) (j : ℕ) (junction : Junction) → JunctionObeys project time S assignment j junction
        → JunctionObeysDrawing project time S assignment (where_so b (pos 0)) j junction
    obeys true j junction is = record {
      demand = is.demand;
      emitter = is.emitter;
      balance = record {
        low = (let b = is.balance.low in omega (arith, ints, b));
        high =
            (let b = is.balance.high in omega (arith, ints, b));
      };
    }
    obeys false j junction is = record {
      demand = is.demand;
      emitter = is.emitter;
      balance = record {
        low = (let b = is.balance.low in omega (arith, ints, b));
        high =
            (let b = is.balance.high in omega (arith, ints, b));
      };
    }

module _ (project : Project) (S time : ℕ) (intervals : List Interval) (levels : List ℤ) (tanks : List TankState)
    (links : List LinkState) (assignment : Assignment) (grid : Grid)
    (c : IsCompared project S time intervals levels tanks links assignment grid) where
  same-long : (u : List ℤ) → length u ≡ length grid.junctions → length assignment.heads ≡ length u
  same-long u own =
      let long = place_long (IsJunctionOf project time) project.junctions.list grid.junctions c.is_grid.junctions in
      let each = c.assigned.head_each in
      omega (arith, own, long, each)

  -- the head difference from the held junction to another, in the direction of the side, is at least the vector's
  difference-along : (side : Side) (place m : ℕ) (h : ℤ) (u : List ℤ) → IsCertificateHolding
      (Some (record { junction = place; head = h })) grid Main side u
      → place < length grid.junctions → m < length grid.junctions → pos 0 ≤ℤ ahead side S assignment.heads u place
      → (pos S *ℤ (along side (head_at u place) -ℤ along side (head_at u m)))
      ≤ℤ (along side (head_at (node_heads project S time levels assignment.heads) place) -ℤ along side
      (head_at (node_heads project S time levels assignment.heads) m))
  difference-along side place m h u certificate from to beyond =
      let same = same-long u certificate.one_each in
      let own = certificate.one_each in
      let f = held-farthest project S time intervals levels tanks links place (pos 0) assignment grid
      (undrawn project S time intervals levels tanks links place assignment grid c) side h u certificate
      (omega (arith, from, same, own)) same beyond m in
      let p = ap (along side) (head_front u (fixed_heads grid Main side) place (omega (arith, from, own))) in
      let r = ap (along side) (head_front u (fixed_heads grid Main side) m (omega (arith, to, own))) in
      let sp = ap (λ (z : ℤ). pos S *ℤ z) p in
      let sr = ap (λ (z : ℤ). pos S *ℤ z) r in
      omega (arith, ints, f, sp, sr, times_minus S (along side (head_at u place)) (along side (head_at u m)))

  follows-at : (l : ℕ) (link : GridLink) → slice_get grid.links l ≡ Some link
      → IsFollowed S (node_heads project S time levels assignment.heads) link (flow_at assignment.flows l)
  follows-at l link is =
      followed_at project tanks S
      (node_heads project S time levels assignment.heads) project.links.list links assignment.flows
      c.assigned.links_follow
      (subst (λ (ls : List GridLink). AllByRecursion (λ (link : GridLink).
      IsSoundLaw link.law) ls) c.is_grid.links_are c.sound.links)
      l link (subst (λ (ls : List GridLink). slice_get ls l ≡ Some link) c.is_grid.links_are is)

  pub held_flow_lies : (below above held_below held_above : List ℤ) → IsCertificate grid Main Lower below
      → IsCertificate grid Main Upper above
      → (l : ℕ) (link : GridLink) → slice_get grid.links l ≡ Some link → link.from < length grid.junctions
      → link.to < length grid.junctions
      → IsCertificateHolding (Some (held_in above link.from)) grid Main Lower held_below
      → IsCertificateHolding (Some (held_in below link.from)) grid Main Upper held_above
      → LiesIn S (held_flow_box link held_below held_above) (flow_at assignment.flows l)
  held_flow_lies below above held_below held_above under over l link is from to lower upper = record {
    low =
        let a = flow-below link.law S (head_at held_above link.from -ℤ head_at held_above link.to) x
        (flow_at assignment.flows l) f.sound c.some
        (difference-along Upper link.from link.to
        (head_at below link.from) held_above upper from to ahead-below) f.follows in
        rw times_minus (omega (arith, ints, a));
    high =
        let a = flow-above link.law S (head_at held_below link.from -ℤ head_at held_below link.to) x
        (flow_at assignment.flows l) f.sound c.some
        (let d = difference-along Lower link.from link.to
        (head_at above link.from) held_below lower from to ahead-above in
        let e = times_neg S (head_at held_below link.from -ℤ head_at held_below link.to) in
        let turned = ap (λ (z : ℤ). pos S *ℤ z) (let t : neg_ℤ (head_at held_below link.from) -ℤ neg_ℤ
        (head_at held_below link.to) ≡ neg_ℤ (head_at held_below link.from -ℤ head_at held_below link.to) = omega
        (arith, ints) in t) in
        omega (arith, ints, d, e, turned)) f.follows in
        rw times_plus (omega (arith, ints, a));
  }
    where
      x : ℤ
      x = head_at (node_heads project S time levels assignment.heads) link.from -ℤ head_at
          (node_heads project S time levels assignment.heads) link.to

      f : IsFollowed S (node_heads project S time levels assignment.heads) link (flow_at assignment.flows l)
      f = follows-at l link is

      here : (junction : GridJunction) × (slice_get grid.junctions link.from ≡ Some junction)
      here = item_there grid.junctions link.from from

      inside : link.from < length assignment.heads
      inside = let s = same-long below under.one_each in let o = under.one_each in omega (arith, from, s, o)

      ahead-below : pos 0 ≤ℤ ahead Upper S assignment.heads held_above link.from
      ahead-below =
          let over_it =
          above_main project S time intervals levels tanks links assignment grid below c under link.from _
          (slice_get-get_or assignment.heads link.from (pos 0) inside) in
          let e = ap (λ (z : ℤ). pos S *ℤ z) (at-head grid Upper link.from
          (head_at below link.from) held_above here.0 upper here.1) in
          omega (arith, ints, over_it, e)

      ahead-above : pos 0 ≤ℤ ahead Lower S assignment.heads held_below link.from
      ahead-above =
          let under_it =
          below_main project S time intervals levels tanks links assignment grid above c over link.from _
          (slice_get-get_or assignment.heads link.from (pos 0) inside) in
          let e = ap (λ (z : ℤ). pos S *ℤ z) (at-head grid Lower link.from
          (head_at above link.from) held_below here.0 lower here.1) in
          let turned = times_neg S (head_at held_below link.from) in
          omega (arith, ints, under_it, e, turned)

pub held_flow : (project : Project) (S time : ℕ) (intervals : List Interval) (levels : List ℤ) (tanks : List TankState)
    (links : List LinkState) (assignment : Assignment) (grid : Grid) (below above held_below held_above : List ℤ)
    (l : ℕ)
    (link : GridLink) → IsCompared project S time intervals levels tanks links assignment grid
    → IsCertificate grid Main Lower below → IsCertificate grid Main Upper above
    → slice_get grid.links l ≡ Some link → link.from < length grid.junctions → link.to < length grid.junctions
    → IsCertificateHolding (Some (held_in above link.from)) grid Main Lower held_below
    → IsCertificateHolding (Some (held_in below link.from)) grid Main Upper held_above
    → LiesIn S (held_flow_box link held_below held_above) (flow_at assignment.flows l)
held_flow project S time intervals levels tanks links assignment grid below above held_below held_above l link c under
    over is
    from to lower upper =
    held_flow_lies project S time intervals levels tanks links assignment grid c below above held_below held_above
    under over l
    link is from to lower upper
