-- Certificates with a junction held, against an assignment in which water may be drawn at that junction. On both
-- sides at once: heads are read in the direction of the side.
use Rattle.std.proofs.Common.{◌≡◌, ℕ, zero, suc, ◌+◌, ◌*◌, ◌<◌, ℤ, pos, ◌+ℤ◌, ◌-ℤ◌, ◌*ℤ◌, ◌≤ℤ◌, neg_ℤ, refl, sym, ap}
use Rattle.std.proofs.Common.{subst, ◌∙◌, arith, Bool, false, ◌==◌, List, [], ◌∷◌, ◌++◌, length, inl, inr}
use Rattle.std.specs.Prelude.{Some, map, MatchBool}
use Rattle.std.specs.List.{AllByRecursion}
use Rattle.std.proofs.lemmas.Int.{ints}
use Rattle.std.proofs.lemmas.Bool.{cases_eq, ne_eqb}
use Rattle.hyd_num.proofs.Integers.{times_plus, times_rises, times_neg, times_one}
use Rattle.hyd_spec.specs.ProgramTypes.{Project, LinkState}
use Rattle.hyd_spec.specs.declared.TankState.{TankState}
use Rattle.hyd_spec.specs.Scale.{at_scale}
use Rattle.hyd_spec.specs.DemandsHeadsAndPumpLifts.{reservoir_head}
use Rattle.hyd_spec.specs.Assignment.{Assignment, head_at, flow_at, where_so, net_outflow, node_heads, tank_heads}
use Rattle.hyd_spec_certificates.specs.declared.Side.{Side}
use Rattle.hyd_spec_certificates.specs.declared.Side.TheVariants.{Upper, Lower}
use Rattle.hyd_spec_certificates.specs.declared.Problem.TheVariants.{Main}
use Rattle.hyd_spec_certificates.specs.Interval.{Interval}
use Rattle.hyd_spec_certificates.specs.EnclosingFunctions.{low, high}
use Rattle.hyd_spec_certificates.specs.PeriodNetwork.{Grid, GridLink, GridJunction, IsJunctionOf, grid_links, all_heads}
use Rattle.hyd_spec_certificates.specs.PeriodNetwork.{fixed_heads}
use Rattle.hyd_spec_certificates.specs.NetOutflow.{net, net_low, net_high, margin, outflow_low, outflow_high, link_ends}
use Rattle.hyd_spec_certificates.specs.Certificate.{Passes, IsCertificateHolding}
use Rattle.hyd_theorems_on_definitions.specs.LyingInIntervals.{IsComparedDrawing}
use Rattle.hyd_theorems_on_definitions.specs.SoundLawsAndGrids.{IsSoundLaw}
use Rattle.hyd_theorems_on_definitions.specs.Sides.{along}
use Rattle.hyd_theorems_on_definitions.proofs.HeadsOfAllNodes.{lack, head_front, IsGreatestBelow, greatest_below}
use Rattle.hyd_theorems_on_definitions.proofs.FlowsAtOneNode.{IsDip, sum-upper, sum-lower}
use Rattle.hyd_theorems_on_definitions.proofs.ComparisonPrinciple.{outflow-follows-below, outflow-follows-above}
use Rattle.hyd_theorems_on_definitions.proofs.ComparisonPrinciple.{IsPlace}
use Rattle.hyd_theorems_on_definitions.proofs.ComparisonPrinciple.{place_at}
use Rattle.hyd_theorems_on_definitions.proofs.ComparisonPrinciple.{emitter_at}
use Rattle.hyd_theorems_on_definitions.proofs.ComparisonPrinciple.{fixed_below, fixed_above}

-- ---- heads in the direction of a side

-- how far the head of a node lies beyond a vector's
abbrev pub ahead : Side → ℕ → List ℤ → List ℤ → ℕ → ℤ
ahead side S heads u m = along side (head_at heads m) -ℤ (pos S *ℤ along side (head_at u m))

ahead-lack : (S : ℕ) (heads u : List ℤ) (m : ℕ) → ahead Lower S heads u m ≡ lack S heads u m
ahead-lack S heads u m = let e = times_neg S (head_at u m) in omega (arith, ints, e)

ahead-after : (side : Side) (S : ℕ) (xs ys ps rs : List ℤ) (t : ℤ) → length xs ≡ length ys
    → ((m : ℕ) → ahead side S ps rs m ≤ℤ t) → ((m : ℕ) → m < length xs → ahead side S xs ys m ≤ℤ t)
    → (m : ℕ) → ahead side S (xs ++ ps) (ys ++ rs) m ≤ℤ t
ahead-after side S [] [] ps rs t same after here m = after m
ahead-after side S [] (y ∷ ys) ps rs t same after here m = absurd (omega (arith, same))
ahead-after side S (x ∷ xs) [] ps rs t same after here m = absurd (omega (arith, same))
ahead-after side S (x ∷ xs) (y ∷ ys) ps rs t same after here zero = here 0 (omega arith)
ahead-after side S (x ∷ xs) (y ∷ ys) ps rs t same after here (suc m) =
    ahead-after side S xs ys ps rs t (omega (arith, same)) after (λ k lt. here (suc k) (omega (arith, lt))) m

-- no node's head lies farther beyond
abbrev pub IsFarthest : Side → ℕ → List ℤ → List ℤ → ℕ → Type 0
IsFarthest side S heads u i = (m : ℕ) → ahead side S heads u m ≤ℤ ahead side S heads u i

as-dip : (S : ℕ) (heads u : List ℤ) (i : ℕ) → IsFarthest Lower S heads u i → IsDip S heads u i
as-dip S heads u i farthest m =
    let f = farthest m in let a = ahead-lack S heads u m in let b = ahead-lack S heads u i in omega
    (arith, ints, f, a, b)

-- ---- net outflow

-- the net outflow of a junction on a side: at most for UPPER, at least for LOWER
abbrev pub net_on : Grid → Side → List ℤ → ℕ → GridJunction → ℤ
net_on grid Upper u i here = net_low grid Main u i here
net_on grid Lower u i here = net_high grid Main u i here

passes-along : (grid : Grid) (side : Side) (u : List ℤ) (i : ℕ) (here : GridJunction) → Passes grid Main side u i here
    → (margin grid i +ℤ pos 1) ≤ℤ along side (net_on grid side u i here)
passes-along grid Upper u i here passes = passes
passes-along grid Lower u i here passes = omega (arith, ints, passes)

pub along-times : (side : Side) (S : ℕ) (z : ℤ) → along side (pos S *ℤ z) ≡ pos S *ℤ along side z
along-times Upper S z = refl
along-times Lower S z = sym (times_neg S z)

pub along-plus : (side : Side) (a b : ℤ) → along side (a +ℤ b) ≡ along side a +ℤ along side b
along-plus Upper a b = refl
along-plus Lower a b = omega (arith, ints)

-- what the links, the outflows and the balance of a junction may miss, together
upper-miss : (S ends : ℕ) (n o out flows q : ℤ) → (pos S *ℤ n) ≤ℤ (out +ℤ pos (ends * (S * 10)))
    → (pos S *ℤ o) ≤ℤ (flows +ℤ pos (S * 20)) → ((out +ℤ q) +ℤ flows) ≤ℤ pos (S * 10)
    → ((pos S *ℤ (n +ℤ o)) +ℤ q) ≤ℤ (pos S *ℤ pos ((ends + 3) * 10))
upper-miss S ends n o out flows q links leaves balance = omega (arith, ints, links, leaves, balance, times_plus S n o)

lower-miss : (S ends : ℕ) (n o out flows q : ℤ) → out ≤ℤ ((pos S *ℤ n) +ℤ pos (ends * (S * 10)))
    → flows ≤ℤ ((pos S *ℤ o) +ℤ pos (S * 20)) → neg_ℤ (pos (S * 10)) ≤ℤ ((out +ℤ q) +ℤ flows)
    → neg_ℤ ((pos S *ℤ (n +ℤ o)) +ℤ q) ≤ℤ (pos S *ℤ pos ((ends + 3) * 10))
lower-miss S ends n o out flows q links leaves balance = omega (arith, ints, links, leaves, balance, times_plus S n o)

module _ (project : Project) (S time : ℕ) (intervals : List Interval) (levels : List ℤ) (tanks : List TankState)
    (links : List LinkState) (place : ℕ) (q : ℤ) (assignment : Assignment) (grid : Grid)
    (c : IsComparedDrawing project S time intervals levels tanks links place q assignment grid) where
  abbrev pub heads : List ℤ
  heads = node_heads project S time levels assignment.heads

  -- what is drawn at a junction
  abbrev pub drawn : ℕ → ℤ
  drawn i = where_so (i == place) q

  sound-links : AllByRecursion (λ (link : GridLink). IsSoundLaw link.law)
      (grid_links project tanks project.links.list links)
  sound-links = subst (λ (ls : List GridLink). AllByRecursion
      (λ (link : GridLink). IsSoundLaw link.law) ls) c.is_grid.links_are c.sound.links

  -- ---- one junction

  -- at the junction that lies farthest beyond a vector the net outflow on that side, with the draw, is within the
  -- margin
  pub within-margin : (side : Side) (u : List ℤ) (i : ℕ) (p : IsPlace
      (IsJunctionOf project time) project.junctions.list grid.junctions i)
      → IsFarthest side S heads (all_heads grid Main side u) i → pos 0 ≤ℤ ahead side S assignment.heads u i
      → along side ((pos S *ℤ net_on grid side u i p.here) +ℤ drawn i) ≤ℤ (pos S *ℤ margin grid i)
  within-margin Upper u i p farthest beyond =
      let obeys = c.assigned.junctions_obey i p.junction p.is_junction in
      let sums = sum-upper project tanks S heads (all_heads grid Main Upper u) i c.some
      (λ m. farthest m) project.links.list links
      assignment.flows c.assigned.links_follow sound-links in
      let turned = subst (λ (ls : List GridLink). (pos S *ℤ net low high (all_heads grid Main Upper u) i ls)
      ≤ℤ (net_outflow i project.links.list assignment.flows +ℤ pos (link_ends i ls * (S * 10))))
      (sym c.is_grid.links_are) sums in
      let leaves = outflow-follows-below project time S p.junction p.here (head_at u i) (head_at assignment.heads i)
      (flow_at assignment.demands i) (flow_at assignment.emitters i) c.some p.holds
      (emitter_at grid.junctions i p.here c.sound.emitters p.is_here)
      (omega (arith, ints, beyond)) obeys.demand obeys.emitter in
      upper-miss S (link_ends i grid.links) (net low high (all_heads grid Main Upper u) i grid.links)
      (outflow_low p.here (head_at u i))
      (net_outflow i project.links.list assignment.flows)
      (flow_at assignment.demands i +ℤ flow_at assignment.emitters i) (drawn i)
      turned leaves (let b = obeys.balance.low in omega (arith, ints, b))
  within-margin Lower u i p farthest beyond =
      let obeys = c.assigned.junctions_obey i p.junction p.is_junction in
      let sums = sum-lower project tanks S heads (all_heads grid Main Lower u) i c.some
      (as-dip S heads (all_heads grid Main Lower u) i farthest)
      project.links.list links assignment.flows c.assigned.links_follow sound-links in
      let turned = subst (λ (ls : List GridLink). net_outflow i project.links.list assignment.flows
      ≤ℤ ((pos S *ℤ net high low (all_heads grid Main Lower u) i ls) +ℤ pos (link_ends i ls * (S * 10))))
      (sym c.is_grid.links_are) sums in
      let leaves = outflow-follows-above project time S p.junction p.here (head_at u i) (head_at assignment.heads i)
      (flow_at assignment.demands i) (flow_at assignment.emitters i) c.some p.holds
      (emitter_at grid.junctions i p.here c.sound.emitters p.is_here)
      (let e = ahead-lack S assignment.heads u i in omega (arith, ints, beyond, e)) obeys.demand obeys.emitter in
      lower-miss S (link_ends i grid.links) (net high low (all_heads grid Main Lower u) i grid.links)
      (outflow_high p.here (head_at u i))
      (net_outflow i project.links.list assignment.flows)
      (flow_at assignment.demands i +ℤ flow_at assignment.emitters i) (drawn i)
      turned leaves (let b = obeys.balance.high in omega (arith, ints, b))

  -- so nothing is drawn where it passes
  no-pass : (side : Side) (u : List ℤ) (i : ℕ)
      (p : IsPlace (IsJunctionOf project time) project.junctions.list grid.junctions i)
      → IsFarthest side S heads (all_heads grid Main side u) i → pos 0 ≤ℤ ahead side S assignment.heads u i
      → (i == place) ≡ false → Passes grid Main side u i p.here → ⊥
  no-pass side u i p farthest beyond elsewhere passes =
      let within = within-margin side u i p farthest beyond in
      let over = times_rises S (margin grid i +ℤ pos 1) (along side (net_on grid side u i p.here))
      (passes-along grid side u i p.here passes) in
      let none : drawn i ≡ pos 0 = ap (λ (b : Bool). where_so b q) elsewhere in
      let apart = along-plus side (pos S *ℤ net_on grid side u i p.here) (drawn i) in
      let turned = along-times side S (net_on grid side u i p.here) in
      let zero_along : along side (drawn i) ≡ pos 0 = (ap (along side) none ∙ along-zero side) in
      let some = c.some in
      omega (
        arith,
        ints,
        within,
        over,
        apart,
        turned,
        zero_along,
        some,
        times_plus S (margin grid i) (pos 1),
        times_one S,
      )
    where
      along-zero : (side : Side) → along side (pos 0) ≡ pos 0
      along-zero Upper = refl
      along-zero Lower = refl

  -- ---- all nodes

  fixed-ahead : (side : Side) (t : ℤ) → pos 0 ≤ℤ t → (m : ℕ)
      → ahead side S
      (map (λ r. at_scale S
      (reservoir_head project time r)) project.reservoirs.list ++ tank_heads S project.tanks.list levels)
      (fixed_heads grid Main side) m ≤ℤ t
  fixed-ahead Upper t some m = fixed_below project S time intervals levels tanks links grid t c.is_grid c.lie some m
  fixed-ahead Lower t some m =
      let f = fixed_above project S time intervals levels tanks links grid t c.is_grid c.lie some m in
      let e = ahead-lack S
      (map (λ r. at_scale S
      (reservoir_head project time r)) project.reservoirs.list ++ tank_heads S project.tanks.list levels)
      (fixed_heads grid Main Lower) m in
      omega (arith, ints, f, e)

  farthest-of : (side : Side) (u : List ℤ) (i : ℕ) → length assignment.heads ≡ length u
      → pos 0 ≤ℤ ahead side S assignment.heads u i
      → IsGreatestBelow (ahead side S assignment.heads u) (length assignment.heads) i
      → IsFarthest side S heads (all_heads grid Main side u) i
  farthest-of side u i same beyond best m =
      rw (head_front assignment.heads _ i best.below, head_front u _ i (let l = best.below in omega (arith, l, same)))
      (ahead-after side S assignment.heads u _ _ (ahead side S assignment.heads u i) same
      (fixed-ahead side (ahead side S assignment.heads u i) beyond) best.each m)

  -- of a vector with the junction held at which water may be drawn: where that junction's head lies beyond the
  -- vector's, it lies farthest
  pub held-farthest : (side : Side) (h : ℤ) (u : List ℤ) → IsCertificateHolding
      (Some (record { junction = place; head = h })) grid Main side u
      → place < length assignment.heads → length assignment.heads ≡ length u
      → pos 0 ≤ℤ ahead side S assignment.heads u place
      → IsFarthest side S heads (all_heads grid Main side u) place
  held-farthest side h u certificate inside same beyond =
      let (i, best) = greatest_below (ahead side S assignment.heads u) (length assignment.heads)
      (omega (arith, inside)) in
      let most = best.each place inside in
      elim (cases_eq i place) [
        | inl e ↦ farthest-of side u place same beyond (subst
            (IsGreatestBelow (ahead side S assignment.heads u) (length assignment.heads)) e best)
        | inr ne ↦
            let long = certificate.one_each in
            let below = best.below in
            let p = place_at (IsJunctionOf project time) project.junctions.list grid.junctions c.is_grid.junctions i
            (omega (arith, below, same, long)) in
            let ahead_i : pos 0 ≤ℤ ahead side S assignment.heads u i = omega (arith, ints, most, beyond) in
            absurd (no-pass side u i p (farthest-of side u i same ahead_i best) ahead_i (ne_eqb i place ne)
            (passes-there i p.here (λ e. ne (sym e)) (certificate.passes i p.here p.is_here)))
      ]
    where
      passes-there : (i : ℕ) (here : GridJunction) → (place ≡ i → ⊥) → MatchBool (place == i) (head_at u i ≡ h)
          (Passes grid Main side u i here)
          → Passes grid Main side u i here
      passes-there i here ne suits = subst (λ (b : Bool). MatchBool b (head_at u i ≡ h)
          (Passes grid Main side u i here)) (ne_eqb place i ne) suits
