-- The inflow of a tank under each assignment of a network within a spread lies between the flows of certificates with
-- that tank pinned, each on the outermost grid of its side.
use Rattle.std.proofs.Common.{◌≡◌, ℕ, zero, suc, ◌+◌, ◌*◌, ◌<◌, ℤ, pos, ◌+ℤ◌, ◌-ℤ◌, ◌*ℤ◌, ◌≤ℤ◌, ◌<ℤ◌, neg_ℤ, refl, sym}
use Rattle.std.proofs.Common.{ap, subst, ◌∙◌, arith, List, [], ◌∷◌, ◌++◌, length, inl, inr}
use Rattle.std.specs.Prelude.{map}
use Rattle.std.proofs.lemmas.Int.{ints, by_lt_z}
use Rattle.std.proofs.lemmas.Bool.{cases_eq, eq-eqb, ne_eqb}
use Rattle.hyd_num.proofs.Integers.{times_plus, times_minus, times_neg}
use Rattle.hyd_spec.specs.ProgramTypes.{Project, Reservoir, LinkState, Tank}
use Rattle.hyd_spec.specs.declared.TankState.{TankState}
use Rattle.hyd_spec.specs.Scale.{at_scale}
use Rattle.hyd_spec.specs.NodeNumbers.{tank_node}
use Rattle.hyd_spec.specs.DemandsHeadsAndPumpLifts.{reservoir_head}
use Rattle.hyd_spec.specs.Tank.{tank_inflow}
use Rattle.hyd_spec.specs.Assignment.{Assignment, net_outflow, node_heads, tank_heads}
use Rattle.hyd_spec_certificates.specs.declared.Problem.TheVariants.{Pinned}
use Rattle.hyd_spec_certificates.specs.declared.Side.{Side}
use Rattle.hyd_spec_certificates.specs.declared.Side.TheVariants.{Upper, Lower}
use Rattle.hyd_spec_certificates.specs.Interval.{Interval, shifted}
use Rattle.hyd_spec_certificates.specs.EnclosingFunctions.{low, high}
use Rattle.hyd_spec_certificates.specs.PeriodNetwork.{Grid, GridLink, all_heads, fixed_heads, end_on, tank_side}
use Rattle.hyd_spec_certificates.specs.NetOutflow.{net, link_ends}
use Rattle.hyd_spec_certificates.specs.FlowIntervals.{inflow_box}
use Rattle.hyd_spec_certificates.specs.Certificate.{IsCertificate}
use Rattle.hyd_spec_spread.specs.Spreads.{Spread}
use Rattle.hyd_spec_spread.specs.IntervalsOfData.{known_heads}
use Rattle.hyd_spec_spread.specs.NetworksWithin.{NodeData, with_data, HasHeadWithin}
use Rattle.hyd_spec_spread.specs.OutermostGrids.{IsOutermostGrid}
use Rattle.hyd_theorems_on_definitions.specs.LyingInIntervals.{LiesIn, LevelsLie}
use Rattle.hyd_theorems_on_definitions.proofs.FlowsAtOneNode.{IsPeak, IsDip, sum-upper, sum-lower}
use Rattle.hyd_theorems_on_definitions.proofs.HeadsOfAllNodes.{excess, lack, excess_after, lack_after, head_front}
use Rattle.hyd_theorems_on_definitions.proofs.HeadsOfAllNodes.{IsGreatestBelow, greatest_below}
use Rattle.hyd_theorems_on_definitions.proofs.NetOutflowsRise.{SoundLinks}
use Rattle.hyd_theorems_on_definitions.proofs.PinnedTankInflows.{upper_ends, lower_ends, upper_room, lower_room}
use Rattle.hyd_theorems_on_spread.specs.AssignmentsWithin.{IsAssignmentWithin}
use Rattle.hyd_theorems_on_spread.proofs.HeadsWithin.{reservoirs-below, reservoirs-above, as-long, no-excess, no-lack}
use Rattle.hyd_theorems_on_spread.proofs.HeadsWithin.{some, same-links}
use Rattle.hyd_theorems_on_spread.proofs.LinksWithin.{links-sound, count-within}
use Rattle.hyd_theorems_on_spread.proofs.ZippedLists.{zip-long}

-- ---- ends of tanks' intervals with one tank pinned

upper-side : (p k : ℕ) (x : Interval) → (p ≡ k → ⊥) → end_on (tank_side (Pinned p) Upper k) x ≡ x.hi
upper-side p k x other = rw (ne_eqb p k other) refl

upper-own : (p k : ℕ) (x : Interval) → p ≡ k → end_on (tank_side (Pinned p) Upper k) x ≡ x.lo
upper-own p k x same = rw (eq-eqb p k same) refl

upper-others : (S p k : ℕ) (tanks : List Tank) (intervals : List Interval) (levels : List ℤ) (t : ℤ)
    → LevelsLie S intervals levels → pos 0 ≤ℤ t → (m : ℕ)
    → (k + m ≡ p → excess S (tank_heads S tanks levels) (upper_ends p k tanks intervals) m ≤ℤ t)
    → excess S (tank_heads S tanks levels) (upper_ends p k tanks intervals) m ≤ℤ t
upper-others S p k [] intervals levels t lie room m own = omega (arith, ints)
upper-others S p k (tank ∷ tanks) [] [] t lie room m own = omega (arith, ints)
upper-others S p k (tank ∷ tanks) [] (level ∷ levels) t lie room m own = absurd lie
upper-others S p k (tank ∷ tanks) (x ∷ intervals) [] t lie room m own = absurd lie
upper-others S p k (tank ∷ tanks) (x ∷ intervals) (level ∷ levels) t lie room zero own = elim (cases_eq p k) [
  | inl e ↦ own (let s : k + 0 ≡ p = omega arith in s)
  | inr other ↦ let l = lie.0.high in let e = upper-side p k (shifted tank.bottom x) other in
      omega (arith, ints, l, room, times_plus S x.hi tank.bottom, ap (λ (z : ℤ). pos S *ℤ z) e)
]
upper-others S p k (tank ∷ tanks) (x ∷ intervals) (level ∷ levels) t lie room (suc m) own =
    upper-others S p (suc k) tanks intervals levels t lie.1 room m (λ e. own (let s : k + suc m ≡ p = omega arith in s))

upper-pinned : (S p k : ℕ) (tanks : List Tank) (intervals : List Interval) (levels : List ℤ)
    → LevelsLie S intervals levels → (m : ℕ) → k + m ≡ p
    → pos 0 ≤ℤ excess S (tank_heads S tanks levels) (upper_ends p k tanks intervals) m
upper-pinned S p k [] intervals levels lie m own = omega (arith, ints)
upper-pinned S p k (tank ∷ tanks) [] [] lie m own = omega (arith, ints)
upper-pinned S p k (tank ∷ tanks) [] (level ∷ levels) lie m own = absurd lie
upper-pinned S p k (tank ∷ tanks) (x ∷ intervals) [] lie m own = absurd lie
upper-pinned S p k (tank ∷ tanks) (x ∷ intervals) (level ∷ levels) lie zero own =
    let l = lie.0.low in let e = upper-own p k (shifted tank.bottom x) (let s : p ≡ k = omega arith in s) in
    omega (arith, ints, l, times_plus S x.lo tank.bottom, ap (λ (z : ℤ). pos S *ℤ z) e)
upper-pinned S p k (tank ∷ tanks) (x ∷ intervals) (level ∷ levels) lie (suc m) own =
    upper-pinned S p (suc k) tanks intervals levels lie.1 m (let s : suc k + m ≡ p = omega arith in s)

lower-side : (p k : ℕ) (x : Interval) → (p ≡ k → ⊥) → end_on (tank_side (Pinned p) Lower k) x ≡ x.lo
lower-side p k x other = rw (ne_eqb p k other) refl

lower-own : (p k : ℕ) (x : Interval) → p ≡ k → end_on (tank_side (Pinned p) Lower k) x ≡ x.hi
lower-own p k x same = rw (eq-eqb p k same) refl

lower-others : (S p k : ℕ) (tanks : List Tank) (intervals : List Interval) (levels : List ℤ) (t : ℤ)
    → LevelsLie S intervals levels → pos 0 ≤ℤ t → (m : ℕ)
    → (k + m ≡ p → lack S (tank_heads S tanks levels) (lower_ends p k tanks intervals) m ≤ℤ t)
    → lack S (tank_heads S tanks levels) (lower_ends p k tanks intervals) m ≤ℤ t
lower-others S p k [] intervals levels t lie room m own = omega (arith, ints)
lower-others S p k (tank ∷ tanks) [] [] t lie room m own = omega (arith, ints)
lower-others S p k (tank ∷ tanks) [] (level ∷ levels) t lie room m own = absurd lie
lower-others S p k (tank ∷ tanks) (x ∷ intervals) [] t lie room m own = absurd lie
lower-others S p k (tank ∷ tanks) (x ∷ intervals) (level ∷ levels) t lie room zero own = elim (cases_eq p k) [
  | inl e ↦ own (let s : k + 0 ≡ p = omega arith in s)
  | inr other ↦ let l = lie.0.low in let e = lower-side p k (shifted tank.bottom x) other in
      omega (arith, ints, l, room, times_plus S x.lo tank.bottom, ap (λ (z : ℤ). pos S *ℤ z) e)
]
lower-others S p k (tank ∷ tanks) (x ∷ intervals) (level ∷ levels) t lie room (suc m) own =
    lower-others S p (suc k) tanks intervals levels t lie.1 room m (λ e. own (let s : k + suc m ≡ p = omega arith in s))

lower-pinned : (S p k : ℕ) (tanks : List Tank) (intervals : List Interval) (levels : List ℤ)
    → LevelsLie S intervals levels → (m : ℕ) → k + m ≡ p
    → pos 0 ≤ℤ lack S (tank_heads S tanks levels) (lower_ends p k tanks intervals) m
lower-pinned S p k [] intervals levels lie m own = omega (arith, ints)
lower-pinned S p k (tank ∷ tanks) [] [] lie m own = omega (arith, ints)
lower-pinned S p k (tank ∷ tanks) [] (level ∷ levels) lie m own = absurd lie
lower-pinned S p k (tank ∷ tanks) (x ∷ intervals) [] lie m own = absurd lie
lower-pinned S p k (tank ∷ tanks) (x ∷ intervals) (level ∷ levels) lie zero own =
    let l = lie.0.high in let e = lower-own p k (shifted tank.bottom x) (let s : p ≡ k = omega arith in s) in
    omega (arith, ints, l, times_plus S x.hi tank.bottom, ap (λ (z : ℤ). pos S *ℤ z) e)
lower-pinned S p k (tank ∷ tanks) (x ∷ intervals) (level ∷ levels) lie (suc m) own =
    lower-pinned S p (suc k) tanks intervals levels lie.1 m (let s : suc k + m ≡ p = omega arith in s)

-- ---- heads behind others

excess-past : (S : ℕ) (xs ys ps rs : List ℤ) (m : ℕ) → length xs ≡ length ys
    → excess S (xs ++ ps) (ys ++ rs) (length xs + m) ≡ excess S ps rs m
excess-past S [] [] ps rs m same = ap (λ (n : ℕ). excess S ps rs n) (let e : 0 + m ≡ m = omega arith in e)
excess-past S [] (y ∷ ys) ps rs m same = absurd (omega arith)
excess-past S (x ∷ xs) [] ps rs m same = absurd (omega arith)
excess-past S (x ∷ xs) (y ∷ ys) ps rs m same =
    ap (λ (n : ℕ). excess S (x ∷ (xs ++ ps)) (y ∷ (ys ++ rs)) n) (let e : suc (length xs) + m ≡ suc (length xs + m) =
    omega arith in e) ∙ excess-past S xs ys ps rs m (omega arith)

lack-past : (S : ℕ) (xs ys ps rs : List ℤ) (m : ℕ) → length xs ≡ length ys
    → lack S (xs ++ ps) (ys ++ rs) (length xs + m) ≡ lack S ps rs m
lack-past S [] [] ps rs m same = ap (λ (n : ℕ). lack S ps rs n) (let e : 0 + m ≡ m = omega arith in e)
lack-past S [] (y ∷ ys) ps rs m same = absurd (omega arith)
lack-past S (x ∷ xs) [] ps rs m same = absurd (omega arith)
lack-past S (x ∷ xs) (y ∷ ys) ps rs m same =
    ap (λ (n : ℕ). lack S (x ∷ (xs ++ ps)) (y ∷ (ys ++ rs)) n) (let e : suc (length xs) + m ≡ suc (length xs + m) =
    omega arith in e) ∙ lack-past S xs ys ps rs m (omega arith)

mapped-long : (X Y : Type 0) (f : X → Y) (xs : List X) → length (map f xs) ≡ length xs
mapped-long X Y f [] = refl
mapped-long X Y f (x ∷ xs) = let e = mapped-long X Y f xs in omega (arith, e)

module _ (project : Project) (spread : Spread) (S time : ℕ) (intervals : List Interval) (levels : List ℤ)
    (tanks : List TankState) (links : List LinkState) (nodes : NodeData) (assignment : Assignment)
    (is : IsAssignmentWithin project spread S time intervals levels tanks links nodes assignment) (grid : Grid)
    (k : ℕ) (u : List ℤ) where
  abbrev network : Project
  network = with_data project nodes

  abbrev reservoirs : List ℤ
  reservoirs = map (λ (r : Reservoir). at_scale S (reservoir_head network time r)) nodes.reservoirs.list

  positive : 0 < S
  positive = some project spread S time intervals levels tanks links nodes assignment is grid u

  -- the tank's node, as its place behind the junctions and the reservoirs
  its-place : tank_node project k ≡ length assignment.heads + (length reservoirs + k)
  its-place =
      let a = is.assigned.head_each in
      let b = mapped-long Reservoir ℤ (λ r. at_scale S (reservoir_head network time r)) nodes.reservoirs.list in
      let c = count-within project spread time nodes is.within in
      omega (arith, a, b, c)

  as-many : (side : Side) → length reservoirs ≡ length (map (end_on side) (known_heads project spread time))
  as-many side =
      let a = mapped-long Reservoir ℤ (λ r. at_scale S (reservoir_head network time r)) nodes.reservoirs.list in
      let b = mapped-long Interval ℤ (end_on side) (known_heads project spread time) in
      let c = zip-long (HasHeadWithin network time) (known_heads project spread time) nodes.reservoirs.list
      is.within.reservoirs in
      omega (arith, a, b, c)

  -- ---- UPPER

  upper-fixed : IsOutermostGrid project spread Upper time intervals tanks links grid → (t : ℤ)
      → upper_room project S intervals levels k ≤ℤ t → (m : ℕ)
      → excess S (reservoirs ++ tank_heads S project.tanks.list levels) (fixed_heads grid (Pinned k) Upper) m ≤ℤ t
  upper-fixed outermost t room m =
      let there = upper-pinned S k 0 project.tanks.list intervals levels is.lie k (omega arith) in
      let above : pos 0 ≤ℤ t = omega (arith, ints, there, room) in
      rw (outermost.reservoirs, outermost.tank_heads) (reservoirs-below network S time (known_heads project spread time)
      nodes.reservoirs.list _ _ t above is.within.reservoirs
      (λ i. upper-others S k 0 project.tanks.list intervals levels t is.lie above i
      (λ e. subst (λ (n : ℕ). excess S (tank_heads S project.tanks.list levels)
      (upper_ends k 0 project.tanks.list intervals) n ≤ℤ t) (let s : k ≡ i = omega arith in s) room)) m)

  upper-none : (j i : ℕ) → IsOutermostGrid project spread Upper time intervals tanks links grid
      → IsCertificate grid (Pinned k) Upper u → j < length assignment.heads
      → upper_room project S intervals levels k ≤ℤ excess S assignment.heads u j
      → IsGreatestBelow (excess S assignment.heads u) (length assignment.heads) i → ⊥
  upper-none j i outermost certificate lt ge best =
      let same = as-long project spread S time intervals levels tanks links nodes assignment is grid u (Pinned k) Upper
      outermost certificate in
      let top : excess S assignment.heads u j ≤ℤ excess S assignment.heads u i = best.each j lt in
      let room : upper_room project S intervals levels k ≤ℤ excess S assignment.heads u i =
      omega (arith, ints, top, ge) in
      let there = upper-pinned S k 0 project.tanks.list intervals levels is.lie k (omega arith) in
      let front : i < length u = (let l = best.below in omega (arith, l, same)) in
      no-excess project spread S time intervals levels tanks links nodes assignment is grid u (Pinned k) i outermost
      certificate front
      (λ m. rw (head_front assignment.heads _ i best.below, head_front u _ i front)
      (excess_after S assignment.heads u _ _ (excess S assignment.heads u i) same
      (upper-fixed outermost (excess S assignment.heads u i) room) m (λ lt. best.each m lt)))
      (omega (arith, ints, room, there))

  -- each junction's head lies less far from the vector than the pinned tank's
  upper-within : (j : ℕ) → IsOutermostGrid project spread Upper time intervals tanks links grid
      → IsCertificate grid (Pinned k) Upper u → j < length assignment.heads
      → excess S assignment.heads u j <ℤ upper_room project S intervals levels k
  upper-within j outermost certificate inside =
      by_lt_z (excess S assignment.heads u j) (upper_room project S intervals levels k) (λ lt. lt)
      (λ ge.
      let (i, best) = greatest_below (excess S assignment.heads u) (length assignment.heads) (omega (arith, inside)) in
      absurd (upper-none j i outermost certificate inside ge best))

  upper-place : IsOutermostGrid project spread Upper time intervals tanks links grid
      → length assignment.heads ≡ length u
      → excess S (node_heads network S time levels assignment.heads) (all_heads grid (Pinned k) Upper u)
      (tank_node project k) ≡ upper_room project S intervals levels k
  upper-place outermost same =
      ap (λ (n : ℕ). excess S (node_heads network S time levels assignment.heads)
      (all_heads grid (Pinned k) Upper u) n) its-place
      ∙ excess-past S assignment.heads u _ _ (length reservoirs + k) same
      ∙ rw (outermost.reservoirs, outermost.tank_heads)
      (excess-past S reservoirs (map (end_on Upper) (known_heads project spread time)) _ _ k (as-many Upper))

  upper-furthest : IsOutermostGrid project spread Upper time intervals tanks links grid
      → IsCertificate grid (Pinned k) Upper u
      → IsPeak S (node_heads network S time levels assignment.heads) (all_heads grid (Pinned k) Upper u)
      (tank_node project k)
  upper-furthest outermost certificate m =
      let same = as-long project spread S time intervals levels tanks links nodes assignment is grid u (Pinned k) Upper
      outermost certificate in
      let e = upper-place outermost same in
      let l : excess S (node_heads network S time levels assignment.heads) (all_heads grid (Pinned k) Upper u) m
      ≤ℤ upper_room project S intervals levels k =
      excess_after S assignment.heads u _ _ (upper_room project S intervals levels k) same
      (upper-fixed outermost (upper_room project S intervals levels k) (let r : upper_room project S intervals levels k
      ≤ℤ upper_room project S intervals levels k = omega (arith, ints) in r)) m
      (λ lt. let w = upper-within m outermost certificate lt in omega (arith, ints, w)) in
      omega (arith, ints, e, l)

  inflow-above : IsOutermostGrid project spread Upper time intervals tanks links grid
      → IsCertificate grid (Pinned k) Upper u → tank_inflow project k assignment.flows
      ≤ℤ ((pos S *ℤ neg_ℤ (net low high (all_heads grid (Pinned k) Upper u) (tank_node project k) grid.links))
      +ℤ pos (link_ends (tank_node project k) grid.links * (S * 10)))
  inflow-above outermost certificate =
      let alike = same-links project spread S time intervals levels tanks links nodes assignment is grid u in
      let sums = sum-upper network tanks S (node_heads network S time levels assignment.heads)
      (all_heads grid (Pinned k) Upper u) (tank_node project k) positive (upper-furthest outermost certificate)
      project.links.list links assignment.flows is.assigned.links_follow
      (subst (λ (ls : List GridLink). SoundLinks ls) (sym alike) (links-sound project tanks links is.made)) in
      let turned = subst (λ (ls : List GridLink). (pos S *ℤ net low high (all_heads grid (Pinned k) Upper u)
      (tank_node project k) ls) ≤ℤ (net_outflow (tank_node project k) project.links.list assignment.flows
      +ℤ pos (link_ends (tank_node project k) ls * (S * 10))))
      (alike ∙ sym outermost.links_are) sums in
      omega (
        arith,
        ints,
        turned,
        times_neg S (net low high (all_heads grid (Pinned k) Upper u) (tank_node project k) grid.links),
      )

  -- ---- LOWER

  lower-fixed : IsOutermostGrid project spread Lower time intervals tanks links grid → (t : ℤ)
      → lower_room project S intervals levels k ≤ℤ t → (m : ℕ)
      → lack S (reservoirs ++ tank_heads S project.tanks.list levels) (fixed_heads grid (Pinned k) Lower) m ≤ℤ t
  lower-fixed outermost t room m =
      let there = lower-pinned S k 0 project.tanks.list intervals levels is.lie k (omega arith) in
      let above : pos 0 ≤ℤ t = omega (arith, ints, there, room) in
      rw (outermost.reservoirs, outermost.tank_heads) (reservoirs-above network S time (known_heads project spread time)
      nodes.reservoirs.list _ _ t above is.within.reservoirs
      (λ i. lower-others S k 0 project.tanks.list intervals levels t is.lie above i
      (λ e. subst (λ (n : ℕ). lack S (tank_heads S project.tanks.list levels)
      (lower_ends k 0 project.tanks.list intervals) n ≤ℤ t) (let s : k ≡ i = omega arith in s) room)) m)

  lower-none : (j i : ℕ) → IsOutermostGrid project spread Lower time intervals tanks links grid
      → IsCertificate grid (Pinned k) Lower u → j < length assignment.heads
      → lower_room project S intervals levels k ≤ℤ lack S assignment.heads u j
      → IsGreatestBelow (lack S assignment.heads u) (length assignment.heads) i → ⊥
  lower-none j i outermost certificate lt ge best =
      let same = as-long project spread S time intervals levels tanks links nodes assignment is grid u (Pinned k) Lower
      outermost certificate in
      let top : lack S assignment.heads u j ≤ℤ lack S assignment.heads u i = best.each j lt in
      let room : lower_room project S intervals levels k ≤ℤ lack S assignment.heads u i =
      omega (arith, ints, top, ge) in
      let there = lower-pinned S k 0 project.tanks.list intervals levels is.lie k (omega arith) in
      let front : i < length u = (let l = best.below in omega (arith, l, same)) in
      no-lack project spread S time intervals levels tanks links nodes assignment is grid u (Pinned k) i outermost
      certificate front
      (λ m. rw (head_front assignment.heads _ i best.below, head_front u _ i front)
      (lack_after S assignment.heads u _ _ (lack S assignment.heads u i) same
      (lower-fixed outermost (lack S assignment.heads u i) room) m (λ lt. best.each m lt)))
      (omega (arith, ints, room, there))

  lower-within : (j : ℕ) → IsOutermostGrid project spread Lower time intervals tanks links grid
      → IsCertificate grid (Pinned k) Lower u → j < length assignment.heads
      → lack S assignment.heads u j <ℤ lower_room project S intervals levels k
  lower-within j outermost certificate inside =
      by_lt_z (lack S assignment.heads u j) (lower_room project S intervals levels k) (λ lt. lt)
      (λ ge.
      let (i, best) = greatest_below (lack S assignment.heads u) (length assignment.heads) (omega (arith, inside)) in
      absurd (lower-none j i outermost certificate inside ge best))

  lower-place : IsOutermostGrid project spread Lower time intervals tanks links grid
      → length assignment.heads ≡ length u
      → lack S (node_heads network S time levels assignment.heads) (all_heads grid (Pinned k) Lower u)
      (tank_node project k) ≡ lower_room project S intervals levels k
  lower-place outermost same =
      ap (λ (n : ℕ). lack S (node_heads network S time levels assignment.heads)
      (all_heads grid (Pinned k) Lower u) n) its-place
      ∙ lack-past S assignment.heads u _ _ (length reservoirs + k) same
      ∙ rw (outermost.reservoirs, outermost.tank_heads)
      (lack-past S reservoirs (map (end_on Lower) (known_heads project spread time)) _ _ k (as-many Lower))

  lower-furthest : IsOutermostGrid project spread Lower time intervals tanks links grid
      → IsCertificate grid (Pinned k) Lower u
      → IsDip S (node_heads network S time levels assignment.heads) (all_heads grid (Pinned k) Lower u)
      (tank_node project k)
  lower-furthest outermost certificate m =
      let same = as-long project spread S time intervals levels tanks links nodes assignment is grid u (Pinned k) Lower
      outermost certificate in
      let e = lower-place outermost same in
      let l : lack S (node_heads network S time levels assignment.heads) (all_heads grid (Pinned k) Lower u) m
      ≤ℤ lower_room project S intervals levels k =
      lack_after S assignment.heads u _ _ (lower_room project S intervals levels k) same
      (lower-fixed outermost (lower_room project S intervals levels k) (let r : lower_room project S intervals levels k
      ≤ℤ lower_room project S intervals levels k = omega (arith, ints) in r)) m
      (λ lt. let w = lower-within m outermost certificate lt in omega (arith, ints, w)) in
      omega (arith, ints, e, l)

  inflow-below : IsOutermostGrid project spread Lower time intervals tanks links grid
      → IsCertificate grid (Pinned k) Lower u
      → ((pos S *ℤ neg_ℤ (net high low (all_heads grid (Pinned k) Lower u) (tank_node project k) grid.links))
      -ℤ pos (link_ends (tank_node project k) grid.links * (S * 10))) ≤ℤ tank_inflow project k assignment.flows
  inflow-below outermost certificate =
      let alike = same-links project spread S time intervals levels tanks links nodes assignment is grid u in
      let sums = sum-lower network tanks S (node_heads network S time levels assignment.heads)
      (all_heads grid (Pinned k) Lower u) (tank_node project k) positive (lower-furthest outermost certificate)
      project.links.list links assignment.flows is.assigned.links_follow
      (subst (λ (ls : List GridLink). SoundLinks ls) (sym alike) (links-sound project tanks links is.made)) in
      let turned = subst (λ (ls : List GridLink). net_outflow (tank_node project k) project.links.list assignment.flows
      ≤ℤ ((pos S *ℤ net high low (all_heads grid (Pinned k) Lower u) (tank_node project k) ls)
      +ℤ pos (link_ends (tank_node project k) ls * (S * 10))))
      (alike ∙ sym outermost.links_are) sums in
      omega (
        arith,
        ints,
        turned,
        times_neg S (net high low (all_heads grid (Pinned k) Lower u) (tank_node project k) grid.links),
      )

-- ---- boxes

widened-by : (S ends : ℕ) (z : ℤ) → pos S *ℤ (z +ℤ pos (10 * ends)) ≡ (pos S *ℤ z) +ℤ pos (ends * (S * 10))
widened-by S ends z = times_plus S z (pos (10 * ends)) ∙ (let e : (pos S *ℤ z) +ℤ pos (S * (10 * ends)) ≡ (pos S *ℤ z)
    +ℤ pos (ends * (S * 10)) = omega (arith, ints) in e)

narrowed-by : (S ends : ℕ) (z : ℤ) → pos S *ℤ (z -ℤ pos (10 * ends)) ≡ (pos S *ℤ z) -ℤ pos (ends * (S * 10))
narrowed-by S ends z = times_minus S z (pos (10 * ends)) ∙ (let e : (pos S *ℤ z) -ℤ pos (S * (10 * ends))
    ≡ (pos S *ℤ z) -ℤ pos (ends * (S * 10)) = omega (arith, ints) in e)

pub inflow_lies : (project : Project) (spread : Spread) (S time : ℕ) (intervals : List Interval) (levels : List ℤ)
    (tanks : List TankState) (links : List LinkState) (nodes : NodeData) (assignment : Assignment)
    → IsAssignmentWithin project spread S time intervals levels tanks links nodes assignment
    → (under over : Grid) → IsOutermostGrid project spread Lower time intervals tanks links under
    → IsOutermostGrid project spread Upper time intervals tanks links over
    → (k : ℕ) (below above : List ℤ) → IsCertificate under (Pinned k) Lower below
    → IsCertificate over (Pinned k) Upper above → LiesIn S (record {
      lo = (inflow_box under k (tank_node project k) below above).lo;
      hi = (inflow_box over k (tank_node project k) below above).hi;
    }) (tank_inflow project k assignment.flows)
inflow_lies project spread S time intervals levels tanks links nodes assignment is under over lower upper k below above
    is_below is_above = record {
      low = rw (narrowed-by S (link_ends (tank_node project k) under.links)
          (neg_ℤ (net high low (all_heads under (Pinned k) Lower below) (tank_node project k) under.links)))
          (inflow-below project spread S time intervals levels tanks links nodes assignment is under k below lower
          is_below);
      high = rw (widened-by S (link_ends (tank_node project k) over.links)
          (neg_ℤ (net low high (all_heads over (Pinned k) Upper above) (tank_node project k) over.links)))
          (inflow-above project spread S time intervals levels tanks links nodes assignment is over k above upper
          is_above);
    }
