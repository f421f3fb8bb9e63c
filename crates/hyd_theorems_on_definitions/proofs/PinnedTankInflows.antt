-- Certificates with one tank pinned: no junction's head lies further from them than that tank's, so they bound its
-- inflow.
use Rattle.std.proofs.Common.{◌≡◌, ℕ, zero, suc, ◌+◌, ◌*◌, ◌<◌, ℤ, pos, ◌+ℤ◌, ◌-ℤ◌, ◌*ℤ◌, ◌≤ℤ◌, ◌<ℤ◌, neg_ℤ, refl, sym}
use Rattle.std.proofs.Common.{ap, subst, ◌∙◌, arith, List, [], ◌∷◌, ◌++◌, length, inl, inr}
use Rattle.std.specs.Prelude.{map}
use Rattle.std.specs.List.{AllByRecursion}
use Rattle.std.proofs.lemmas.Int.{ints, by_lt_z}
use Rattle.std.proofs.lemmas.Bool.{cases_eq, eq-eqb, ne_eqb}
use Rattle.hyd_num.proofs.Integers.{times_plus, times_minus, times_neg}
use Rattle.hyd_spec.specs.ProgramTypes.{Project, Reservoir, LinkState, Tank}
use Rattle.hyd_spec.specs.declared.TankState.{TankState}
use Rattle.hyd_spec_certificates.specs.declared.Side.TheVariants.{Upper, Lower}
use Rattle.hyd_spec_certificates.specs.declared.Problem.TheVariants.{Pinned}
use Rattle.hyd_spec.specs.Lists.{map_from}
use Rattle.hyd_spec_certificates.specs.Interval.{Interval, shifted}
use Rattle.hyd_spec.specs.Scale.{at_scale}
use Rattle.hyd_spec.specs.NodeNumbers.{tank_node, junction_count, reservoir_count}
use Rattle.hyd_spec.specs.DemandsHeadsAndPumpLifts.{reservoir_head}
use Rattle.hyd_spec.specs.Tank.{tank_inflow}
use Rattle.hyd_spec_certificates.specs.EnclosingFunctions.{low, high}
use Rattle.hyd_spec.specs.Assignment.{Assignment, net_outflow, node_heads, tank_heads}
use Rattle.hyd_spec_certificates.specs.PeriodNetwork.{Grid, GridLink, tank_intervals, all_heads, fixed_heads, end_on}
use Rattle.hyd_spec_certificates.specs.PeriodNetwork.{tank_side}
use Rattle.hyd_spec_certificates.specs.NetOutflow.{net, link_ends}
use Rattle.hyd_spec_certificates.specs.FlowIntervals.{inflow_box}
use Rattle.hyd_spec_certificates.specs.Certificate.{IsCertificate}
use Rattle.hyd_theorems_on_definitions.specs.LyingInIntervals.{LevelsLie, LiesIn, IsCompared}
use Rattle.hyd_theorems_on_definitions.specs.SoundLawsAndGrids.{IsSoundLaw}
use Rattle.hyd_theorems_on_definitions.proofs.HeadsOfAllNodes.{excess, lack, excess_after, lack_after, head_front}
use Rattle.hyd_theorems_on_definitions.proofs.HeadsOfAllNodes.{reservoirs_below}
use Rattle.hyd_theorems_on_definitions.proofs.HeadsOfAllNodes.{reservoirs_above, IsGreatestBelow, greatest_below}
use Rattle.hyd_theorems_on_definitions.proofs.FlowsAtOneNode.{IsPeak, IsDip, sum-upper, sum-lower}
use Rattle.hyd_theorems_on_definitions.proofs.ComparisonPrinciple.{no_excess, no_lack, one_each}

-- the ends of the tanks' intervals with tank p pinned, from tank number k on

abbrev pub upper_ends : ℕ → ℕ → List Tank → List Interval → List ℤ
upper_ends p k tanks intervals = map_from (λ k tank. end_on (tank_side (Pinned p) Upper k) tank) k
    (tank_intervals tanks intervals)

upper_side : (p k : ℕ) (x : Interval) → (p ≡ k → ⊥) → end_on (tank_side (Pinned p) Upper k) x ≡ x.hi
upper_side p k x other = rw (ne_eqb p k other) refl

upper_own : (p k : ℕ) (x : Interval) → p ≡ k → end_on (tank_side (Pinned p) Upper k) x ≡ x.lo
upper_own p k x same = rw (eq-eqb p k same) refl

upper_others : (S p k : ℕ) (tanks : List Tank) (intervals : List Interval) (levels : List ℤ) (t : ℤ)
    → LevelsLie S intervals levels → pos 0 ≤ℤ t → (m : ℕ)
    → (k + m ≡ p → excess S (tank_heads S tanks levels) (upper_ends p k tanks intervals) m ≤ℤ t)
    → excess S (tank_heads S tanks levels) (upper_ends p k tanks intervals) m ≤ℤ t
upper_others S p k [] intervals levels t lie some m own = omega (arith, ints)
upper_others S p k (tank ∷ tanks) [] [] t lie some m own = omega (arith, ints)
upper_others S p k (tank ∷ tanks) [] (level ∷ levels) t lie some m own = absurd lie
upper_others S p k (tank ∷ tanks) (x ∷ intervals) [] t lie some m own = absurd lie
upper_others S p k (tank ∷ tanks) (x ∷ intervals) (level ∷ levels) t lie some zero own = elim (cases_eq p k) [
  | inl e ↦ own (let s : k + 0 ≡ p = omega arith in s)
  | inr other ↦ let l = lie.0.high in let e = upper_side p k (shifted tank.bottom x) other in
      omega (arith, ints, l, some, times_plus S x.hi tank.bottom, ap (λ (z : ℤ). pos S *ℤ z) e)
]
upper_others S p k (tank ∷ tanks) (x ∷ intervals) (level ∷ levels) t lie some (suc m) own =
    upper_others S p (suc k) tanks intervals levels t lie.1 some m (λ e. own (let s : k + suc m ≡ p = omega arith in s))

upper_pinned : (S p k : ℕ) (tanks : List Tank) (intervals : List Interval) (levels : List ℤ)
    → LevelsLie S intervals levels → (m : ℕ) → k + m ≡ p
    → pos 0 ≤ℤ excess S (tank_heads S tanks levels) (upper_ends p k tanks intervals) m
upper_pinned S p k [] intervals levels lie m own = omega (arith, ints)
upper_pinned S p k (tank ∷ tanks) [] [] lie m own = omega (arith, ints)
upper_pinned S p k (tank ∷ tanks) [] (level ∷ levels) lie m own = absurd lie
upper_pinned S p k (tank ∷ tanks) (x ∷ intervals) [] lie m own = absurd lie
upper_pinned S p k (tank ∷ tanks) (x ∷ intervals) (level ∷ levels) lie zero own =
    let l = lie.0.low in let e = upper_own p k (shifted tank.bottom x) (let s : p ≡ k = omega arith in s) in
    omega (arith, ints, l, times_plus S x.lo tank.bottom, ap (λ (z : ℤ). pos S *ℤ z) e)
upper_pinned S p k (tank ∷ tanks) (x ∷ intervals) (level ∷ levels) lie (suc m) own =
    upper_pinned S p (suc k) tanks intervals levels lie.1 m (let s : suc k + m ≡ p = omega arith in s)

abbrev pub lower_ends : ℕ → ℕ → List Tank → List Interval → List ℤ
lower_ends p k tanks intervals = map_from (λ k tank. end_on (tank_side (Pinned p) Lower k) tank) k
    (tank_intervals tanks intervals)

lower_side : (p k : ℕ) (x : Interval) → (p ≡ k → ⊥) → end_on (tank_side (Pinned p) Lower k) x ≡ x.lo
lower_side p k x other = rw (ne_eqb p k other) refl

lower_own : (p k : ℕ) (x : Interval) → p ≡ k → end_on (tank_side (Pinned p) Lower k) x ≡ x.hi
lower_own p k x same = rw (eq-eqb p k same) refl

lower_others : (S p k : ℕ) (tanks : List Tank) (intervals : List Interval) (levels : List ℤ) (t : ℤ)
    → LevelsLie S intervals levels → pos 0 ≤ℤ t → (m : ℕ)
    → (k + m ≡ p → lack S (tank_heads S tanks levels) (lower_ends p k tanks intervals) m ≤ℤ t)
    → lack S (tank_heads S tanks levels) (lower_ends p k tanks intervals) m ≤ℤ t
lower_others S p k [] intervals levels t lie some m own = omega (arith, ints)
lower_others S p k (tank ∷ tanks) [] [] t lie some m own = omega (arith, ints)
lower_others S p k (tank ∷ tanks) [] (level ∷ levels) t lie some m own = absurd lie
lower_others S p k (tank ∷ tanks) (x ∷ intervals) [] t lie some m own = absurd lie
lower_others S p k (tank ∷ tanks) (x ∷ intervals) (level ∷ levels) t lie some zero own = elim (cases_eq p k) [
  | inl e ↦ own (let s : k + 0 ≡ p = omega arith in s)
  | inr other ↦ let l = lie.0.low in let e = lower_side p k (shifted tank.bottom x) other in
      omega (arith, ints, l, some, times_plus S x.lo tank.bottom, ap (λ (z : ℤ). pos S *ℤ z) e)
]
lower_others S p k (tank ∷ tanks) (x ∷ intervals) (level ∷ levels) t lie some (suc m) own =
    lower_others S p (suc k) tanks intervals levels t lie.1 some m (λ e. own (let s : k + suc m ≡ p = omega arith in s))

lower_pinned : (S p k : ℕ) (tanks : List Tank) (intervals : List Interval) (levels : List ℤ)
    → LevelsLie S intervals levels → (m : ℕ) → k + m ≡ p
    → pos 0 ≤ℤ lack S (tank_heads S tanks levels) (lower_ends p k tanks intervals) m
lower_pinned S p k [] intervals levels lie m own = omega (arith, ints)
lower_pinned S p k (tank ∷ tanks) [] [] lie m own = omega (arith, ints)
lower_pinned S p k (tank ∷ tanks) [] (level ∷ levels) lie m own = absurd lie
lower_pinned S p k (tank ∷ tanks) (x ∷ intervals) [] lie m own = absurd lie
lower_pinned S p k (tank ∷ tanks) (x ∷ intervals) (level ∷ levels) lie zero own =
    let l = lie.0.high in let e = lower_own p k (shifted tank.bottom x) (let s : p ≡ k = omega arith in s) in
    omega (arith, ints, l, times_plus S x.hi tank.bottom, ap (λ (z : ℤ). pos S *ℤ z) e)
lower_pinned S p k (tank ∷ tanks) (x ∷ intervals) (level ∷ levels) lie (suc m) own =
    lower_pinned S p (suc k) tanks intervals levels lie.1 m (let s : suc k + m ≡ p = omega arith in s)

excess_past : (S : ℕ) (xs ys ps rs : List ℤ) (m : ℕ) → length xs ≡ length ys
    → excess S (xs ++ ps) (ys ++ rs) (length xs + m) ≡ excess S ps rs m
excess_past S [] [] ps rs m same = ap (λ (n : ℕ). excess S ps rs n) (let e : 0 + m ≡ m = omega arith in e)
excess_past S [] (y ∷ ys) ps rs m same = absurd (omega arith)
excess_past S (x ∷ xs) [] ps rs m same = absurd (omega arith)
excess_past S (x ∷ xs) (y ∷ ys) ps rs m same =
    ap (λ (n : ℕ). excess S (x ∷ (xs ++ ps)) (y ∷ (ys ++ rs)) n) (let e : suc (length xs) + m ≡ suc (length xs + m) =
    omega arith in e) ∙ excess_past S xs ys ps rs m (omega arith)

excess_past_reservoirs : (S : ℕ) (f : Reservoir → ℤ) (reservoirs : List Reservoir) (ps rs : List ℤ) (m : ℕ)
    → excess S (map (λ r. at_scale S (f r)) reservoirs ++ ps) (map f reservoirs ++ rs) (length reservoirs + m)
    ≡ excess S ps rs m
excess_past_reservoirs S f [] ps rs m = ap (λ (n : ℕ). excess S ps rs n) (let e : 0 + m ≡ m = omega arith in e)
excess_past_reservoirs S f (r ∷ reservoirs) ps rs m =
    ap (λ (n : ℕ). excess S (at_scale S (f r) ∷ (map (λ r. at_scale S (f r)) reservoirs ++ ps))
    (f r ∷ (map f reservoirs ++ rs)) n) (let e : suc (length reservoirs) + m ≡ suc (length reservoirs + m) =
    omega arith in e)
    ∙ excess_past_reservoirs S f reservoirs ps rs m

lack_past : (S : ℕ) (xs ys ps rs : List ℤ) (m : ℕ) → length xs ≡ length ys
    → lack S (xs ++ ps) (ys ++ rs) (length xs + m) ≡ lack S ps rs m
lack_past S [] [] ps rs m same = ap (λ (n : ℕ). lack S ps rs n) (let e : 0 + m ≡ m = omega arith in e)
lack_past S [] (y ∷ ys) ps rs m same = absurd (omega arith)
lack_past S (x ∷ xs) [] ps rs m same = absurd (omega arith)
lack_past S (x ∷ xs) (y ∷ ys) ps rs m same =
    ap (λ (n : ℕ). lack S (x ∷ (xs ++ ps)) (y ∷ (ys ++ rs)) n) (let e : suc (length xs) + m ≡ suc (length xs + m) =
    omega arith in e) ∙ lack_past S xs ys ps rs m (omega arith)

lack_past_reservoirs : (S : ℕ) (f : Reservoir → ℤ) (reservoirs : List Reservoir) (ps rs : List ℤ) (m : ℕ)
    → lack S (map (λ r. at_scale S (f r)) reservoirs ++ ps) (map f reservoirs ++ rs) (length reservoirs + m)
    ≡ lack S ps rs m
lack_past_reservoirs S f [] ps rs m = ap (λ (n : ℕ). lack S ps rs n) (let e : 0 + m ≡ m = omega arith in e)
lack_past_reservoirs S f (r ∷ reservoirs) ps rs m =
    ap (λ (n : ℕ). lack S (at_scale S (f r) ∷ (map (λ r. at_scale S (f r)) reservoirs ++ ps))
    (f r ∷ (map f reservoirs ++ rs)) n) (let e : suc (length reservoirs) + m ≡ suc (length reservoirs + m) =
    omega arith in e)
    ∙ lack_past_reservoirs S f reservoirs ps rs m

-- how far the pinned tank's head lies from its end
abbrev pub upper_room : Project → ℕ → List Interval → List ℤ → ℕ → ℤ
upper_room project S intervals levels k = excess S (tank_heads S project.tanks.list levels)
    (upper_ends k 0 project.tanks.list intervals) k

upper_fixed : (project : Project) (S time : ℕ) (intervals : List Interval) (levels : List ℤ) (tanks : List TankState)
    (links : List LinkState) (assignment : Assignment) (grid : Grid) (k : ℕ) (t : ℤ)
    → IsCompared project S time intervals levels tanks links assignment grid → upper_room project S intervals levels k
    ≤ℤ t → (m : ℕ)
    → excess S (map (λ r. at_scale S (reservoir_head project time r)) project.reservoirs.list
    ++ tank_heads S project.tanks.list levels) (fixed_heads grid (Pinned k) Upper) m ≤ℤ t
upper_fixed project S time intervals levels tanks links assignment grid k t c room m =
    let some = upper_pinned S k 0 project.tanks.list intervals levels c.lie k (omega arith) in
    let above : pos 0 ≤ℤ t = omega (arith, ints, some, room) in
    rw (c.is_grid.reservoirs, c.is_grid.tank_heads) (reservoirs_below S (reservoir_head project time)
    project.reservoirs.list _ _ t above
    (λ i. upper_others S k 0 project.tanks.list intervals levels t c.lie above i
    (λ e. subst (λ (n : ℕ). excess S (tank_heads S project.tanks.list levels)
    (upper_ends k 0 project.tanks.list intervals) n ≤ℤ t) (let s : k ≡ i = omega arith in s) room)) m)

upper_none : (project : Project) (S time : ℕ) (intervals : List Interval) (levels : List ℤ) (tanks : List TankState)
    (links : List LinkState) (assignment : Assignment) (grid : Grid) (k : ℕ) (u : List ℤ) (j i : ℕ)
    → IsCompared project S time intervals levels tanks links assignment grid → IsCertificate grid (Pinned k) Upper u
    → j < length assignment.heads
    → upper_room project S intervals levels k ≤ℤ excess S assignment.heads u j
    → IsGreatestBelow (excess S assignment.heads u) (length assignment.heads) i → ⊥
upper_none project S time intervals levels tanks links assignment grid k u j i c certificate lt ge best =
    let same = one_each project S time intervals levels tanks links assignment grid (Pinned k) Upper u c certificate in
    let top : excess S assignment.heads u j ≤ℤ excess S assignment.heads u i = best.each j lt in
    let room : upper_room project S intervals levels k ≤ℤ excess S assignment.heads u i =
    omega (arith, ints, top, ge) in
    let some = upper_pinned S k 0 project.tanks.list intervals levels c.lie k (omega arith) in
    let front : i < length u = (let l = best.below in omega (arith, l, same)) in
    no_excess project S time intervals levels tanks links assignment grid (Pinned k) u i c certificate front
    (λ m. rw (head_front assignment.heads _ i best.below, head_front u _ i front)
    (excess_after S assignment.heads u _ _ (excess S assignment.heads u i) same
    (upper_fixed project S time intervals levels tanks links assignment grid k (excess S assignment.heads u i) c room)
    m (λ lt. best.each m lt)))
    (omega (arith, ints, room, some))

-- each junction's head lies less far from the vector
pub upper_within : (project : Project) (S time : ℕ) (intervals : List Interval) (levels : List ℤ)
    (tanks : List TankState) (links : List LinkState) (assignment : Assignment) (grid : Grid) (k : ℕ) (u : List ℤ)
    (j : ℕ)
    → IsCompared project S time intervals levels tanks links assignment grid → IsCertificate grid (Pinned k) Upper u
    → j < length assignment.heads → excess S assignment.heads u j <ℤ upper_room project S intervals levels k
upper_within project S time intervals levels tanks links assignment grid k u j c certificate inside =
    by_lt_z (excess S assignment.heads u j) (upper_room project S intervals levels k) (λ lt. lt)
    (λ ge.
    let (i, best) = greatest_below (excess S assignment.heads u) (length assignment.heads) (omega (arith, inside)) in
    absurd (upper_none project S time intervals levels tanks links assignment grid k u j i c certificate inside ge
    best))

-- and the pinned tank's lies furthest
pub upper_furthest : (project : Project) (S time : ℕ) (intervals : List Interval) (levels : List ℤ)
    (tanks : List TankState) (links : List LinkState) (assignment : Assignment) (grid : Grid) (k : ℕ) (u : List ℤ)
    → IsCompared project S time intervals levels tanks links assignment grid → IsCertificate grid (Pinned k) Upper u
    → IsPeak S (node_heads project S time levels assignment.heads) (all_heads grid (Pinned k) Upper u)
    (tank_node project k)
upper_furthest project S time intervals levels tanks links assignment grid k u c certificate m =
    let same = one_each project S time intervals levels tanks links assignment grid (Pinned k) Upper u c certificate in
    let e : excess S (node_heads project S time levels assignment.heads) (all_heads grid (Pinned k) Upper u)
    (tank_node project k) ≡ upper_room project S intervals levels k =
    upper_place project S time intervals levels tanks links assignment grid k u c same in
    let l : excess S (node_heads project S time levels assignment.heads) (all_heads grid (Pinned k) Upper u) m
    ≤ℤ upper_room project S intervals levels k =
    excess_after S assignment.heads u _ _ (upper_room project S intervals levels k) same
    (upper_fixed project S time intervals levels tanks links assignment grid k
    (upper_room project S intervals levels k) c (let r : upper_room project S intervals levels k
    ≤ℤ upper_room project S intervals levels k = omega (arith, ints) in r)) m
    (λ lt. let w = upper_within project S time intervals levels tanks links assignment grid k u m c certificate lt in
    omega (arith, ints, w)) in
    omega (arith, ints, e, l)
  where
    upper_place : (project : Project) (S time : ℕ) (intervals : List Interval) (levels : List ℤ)
        (tanks : List TankState) (links : List LinkState) (assignment : Assignment) (grid : Grid) (k : ℕ) (u : List ℤ)
        → IsCompared project S time intervals levels tanks links assignment grid → length assignment.heads ≡ length u
        → excess S (node_heads project S time levels assignment.heads) (all_heads grid (Pinned k) Upper u)
        (tank_node project k) ≡ upper_room project S intervals levels k
    upper_place project S time intervals levels tanks links assignment grid k u c same =
        ap (λ (n : ℕ). excess S (node_heads project S time levels assignment.heads)
        (all_heads grid (Pinned k) Upper u) n)
        (let e : (junction_count project + reservoir_count project) + k ≡ length assignment.heads
        + (reservoir_count project + k) = (let h = c.assigned.head_each in omega (arith, h)) in e)
        ∙ excess_past S assignment.heads u _ _ (reservoir_count project + k) same
        ∙ rw (c.is_grid.reservoirs, c.is_grid.tank_heads) (excess_past_reservoirs S (reservoir_head project time)
        project.reservoirs.list _ _ k)

-- how far the pinned tank's head lies from its end
abbrev pub lower_room : Project → ℕ → List Interval → List ℤ → ℕ → ℤ
lower_room project S intervals levels k = lack S (tank_heads S project.tanks.list levels)
    (lower_ends k 0 project.tanks.list intervals) k

lower_fixed : (project : Project) (S time : ℕ) (intervals : List Interval) (levels : List ℤ) (tanks : List TankState)
    (links : List LinkState) (assignment : Assignment) (grid : Grid) (k : ℕ) (t : ℤ)
    → IsCompared project S time intervals levels tanks links assignment grid → lower_room project S intervals levels k
    ≤ℤ t → (m : ℕ)
    → lack S (map (λ r. at_scale S (reservoir_head project time r)) project.reservoirs.list
    ++ tank_heads S project.tanks.list levels) (fixed_heads grid (Pinned k) Lower) m ≤ℤ t
lower_fixed project S time intervals levels tanks links assignment grid k t c room m =
    let some = lower_pinned S k 0 project.tanks.list intervals levels c.lie k (omega arith) in
    let above : pos 0 ≤ℤ t = omega (arith, ints, some, room) in
    rw (c.is_grid.reservoirs, c.is_grid.tank_heads) (reservoirs_above S (reservoir_head project time)
    project.reservoirs.list _ _ t above
    (λ i. lower_others S k 0 project.tanks.list intervals levels t c.lie above i
    (λ e. subst (λ (n : ℕ). lack S (tank_heads S project.tanks.list levels)
    (lower_ends k 0 project.tanks.list intervals) n ≤ℤ t) (let s : k ≡ i = omega arith in s) room)) m)

lower_none : (project : Project) (S time : ℕ) (intervals : List Interval) (levels : List ℤ) (tanks : List TankState)
    (links : List LinkState) (assignment : Assignment) (grid : Grid) (k : ℕ) (u : List ℤ) (j i : ℕ)
    → IsCompared project S time intervals levels tanks links assignment grid → IsCertificate grid (Pinned k) Lower u
    → j < length assignment.heads
    → lower_room project S intervals levels k ≤ℤ lack S assignment.heads u j
    → IsGreatestBelow (lack S assignment.heads u) (length assignment.heads) i → ⊥
lower_none project S time intervals levels tanks links assignment grid k u j i c certificate lt ge best =
    let same = one_each project S time intervals levels tanks links assignment grid (Pinned k) Lower u c certificate in
    let top : lack S assignment.heads u j ≤ℤ lack S assignment.heads u i = best.each j lt in
    let room : lower_room project S intervals levels k ≤ℤ lack S assignment.heads u i = omega (arith, ints, top, ge) in
    let some = lower_pinned S k 0 project.tanks.list intervals levels c.lie k (omega arith) in
    let front : i < length u = (let l = best.below in omega (arith, l, same)) in
    no_lack project S time intervals levels tanks links assignment grid (Pinned k) u i c certificate front
    (λ m. rw (head_front assignment.heads _ i best.below, head_front u _ i front)
    (lack_after S assignment.heads u _ _ (lack S assignment.heads u i) same
    (lower_fixed project S time intervals levels tanks links assignment grid k (lack S assignment.heads u i) c room) m
    (λ lt. best.each m lt)))
    (omega (arith, ints, room, some))

-- each junction's head lies less far from the vector
pub lower_within : (project : Project) (S time : ℕ) (intervals : List Interval) (levels : List ℤ)
    (tanks : List TankState) (links : List LinkState) (assignment : Assignment) (grid : Grid) (k : ℕ) (u : List ℤ)
    (j : ℕ)
    → IsCompared project S time intervals levels tanks links assignment grid → IsCertificate grid (Pinned k) Lower u
    → j < length assignment.heads → lack S assignment.heads u j <ℤ lower_room project S intervals levels k
lower_within project S time intervals levels tanks links assignment grid k u j c certificate inside =
    by_lt_z (lack S assignment.heads u j) (lower_room project S intervals levels k) (λ lt. lt)
    (λ ge.
    let (i, best) = greatest_below (lack S assignment.heads u) (length assignment.heads) (omega (arith, inside)) in
    absurd (lower_none project S time intervals levels tanks links assignment grid k u j i c certificate inside ge
    best))

-- and the pinned tank's lies furthest
pub lower_furthest : (project : Project) (S time : ℕ) (intervals : List Interval) (levels : List ℤ)
    (tanks : List TankState) (links : List LinkState) (assignment : Assignment) (grid : Grid) (k : ℕ) (u : List ℤ)
    → IsCompared project S time intervals levels tanks links assignment grid → IsCertificate grid (Pinned k) Lower u
    → IsDip S (node_heads project S time levels assignment.heads) (all_heads grid (Pinned k) Lower u)
    (tank_node project k)
lower_furthest project S time intervals levels tanks links assignment grid k u c certificate m =
    let same = one_each project S time intervals levels tanks links assignment grid (Pinned k) Lower u c certificate in
    let e : lack S (node_heads project S time levels assignment.heads) (all_heads grid (Pinned k) Lower u)
    (tank_node project k) ≡ lower_room project S intervals levels k =
    lower_place project S time intervals levels tanks links assignment grid k u c same in
    let l : lack S (node_heads project S time levels assignment.heads) (all_heads grid (Pinned k) Lower u) m
    ≤ℤ lower_room project S intervals levels k =
    lack_after S assignment.heads u _ _ (lower_room project S intervals levels k) same
    (lower_fixed project S time intervals levels tanks links assignment grid k
    (lower_room project S intervals levels k) c (let r : lower_room project S intervals levels k
    ≤ℤ lower_room project S intervals levels k = omega (arith, ints) in r)) m
    (λ lt. let w = lower_within project S time intervals levels tanks links assignment grid k u m c certificate lt in
    omega (arith, ints, w)) in
    omega (arith, ints, e, l)
  where
    lower_place : (project : Project) (S time : ℕ) (intervals : List Interval) (levels : List ℤ)
        (tanks : List TankState) (links : List LinkState) (assignment : Assignment) (grid : Grid) (k : ℕ) (u : List ℤ)
        → IsCompared project S time intervals levels tanks links assignment grid → length assignment.heads ≡ length u
        → lack S (node_heads project S time levels assignment.heads) (all_heads grid (Pinned k) Lower u)
        (tank_node project k) ≡ lower_room project S intervals levels k
    lower_place project S time intervals levels tanks links assignment grid k u c same =
        ap (λ (n : ℕ). lack S (node_heads project S time levels assignment.heads) (all_heads grid (Pinned k) Lower u) n)
        (let e : (junction_count project + reservoir_count project) + k ≡ length assignment.heads
        + (reservoir_count project + k) = (let h = c.assigned.head_each in omega (arith, h)) in e)
        ∙ lack_past S assignment.heads u _ _ (reservoir_count project + k) same
        ∙ rw (c.is_grid.reservoirs, c.is_grid.tank_heads) (lack_past_reservoirs S (reservoir_head project time)
        project.reservoirs.list _ _ k)

-- ---- the inflow of a tank

pub inflow_above : (project : Project) (S time : ℕ) (intervals : List Interval) (levels : List ℤ)
    (tanks : List TankState) (links : List LinkState) (assignment : Assignment) (grid : Grid) (k : ℕ) (above : List ℤ)
    → IsCompared project S time intervals levels tanks links assignment grid → IsCertificate grid (Pinned k) Upper above
    → tank_inflow project k assignment.flows
    ≤ℤ ((pos S *ℤ neg_ℤ (net low high (all_heads grid (Pinned k) Upper above) (tank_node project k) grid.links))
    +ℤ pos (link_ends (tank_node project k) grid.links * (S * 10)))
inflow_above project S time intervals levels tanks links assignment grid k above c certificate =
    let sums = sum-upper project tanks S (node_heads project S time levels assignment.heads)
    (all_heads grid (Pinned k) Upper above) (tank_node project k) c.some
    (upper_furthest project S time intervals levels tanks links assignment grid k above c certificate)
    project.links.list links assignment.flows c.assigned.links_follow
    (subst (λ (ls : List GridLink). AllByRecursion (λ (link : GridLink). IsSoundLaw link.law) ls) c.is_grid.links_are
    c.sound.links) in
    let turned = subst (λ (ls : List GridLink). (pos S *ℤ net low high (all_heads grid (Pinned k) Upper above)
    (tank_node project k) ls) ≤ℤ (net_outflow (tank_node project k) project.links.list assignment.flows
    +ℤ pos (link_ends (tank_node project k) ls * (S * 10))))
    (sym c.is_grid.links_are) sums in
    omega (
      arith,
      ints,
      turned,
      times_neg S (net low high (all_heads grid (Pinned k) Upper above)
          (tank_node project k) grid.links),
    )

pub inflow_below : (project : Project) (S time : ℕ) (intervals : List Interval) (levels : List ℤ)
    (tanks : List TankState) (links : List LinkState) (assignment : Assignment) (grid : Grid) (k : ℕ) (below : List ℤ)
    → IsCompared project S time intervals levels tanks links assignment grid → IsCertificate grid (Pinned k) Lower below
    → ((pos S *ℤ neg_ℤ (net high low (all_heads grid (Pinned k) Lower below) (tank_node project k) grid.links))
    -ℤ pos (link_ends (tank_node project k) grid.links * (S * 10))) ≤ℤ tank_inflow project k assignment.flows
inflow_below project S time intervals levels tanks links assignment grid k below c certificate =
    let sums = sum-lower project tanks S (node_heads project S time levels assignment.heads)
    (all_heads grid (Pinned k) Lower below) (tank_node project k) c.some
    (lower_furthest project S time intervals levels tanks links assignment grid k below c certificate)
    project.links.list links assignment.flows c.assigned.links_follow
    (subst (λ (ls : List GridLink). AllByRecursion (λ (link : GridLink). IsSoundLaw link.law) ls) c.is_grid.links_are
    c.sound.links) in
    let turned = subst (λ (ls : List GridLink). net_outflow (tank_node project k) project.links.list assignment.flows
    ≤ℤ ((pos S *ℤ net high low (all_heads grid (Pinned k) Lower below) (tank_node project k) ls)
    +ℤ pos (link_ends (tank_node project k) ls * (S * 10))))
    (sym c.is_grid.links_are) sums in
    omega (
      arith,
      ints,
      turned,
      times_neg S (net high low (all_heads grid (Pinned k) Lower below)
          (tank_node project k) grid.links),
    )

widened_by : (S ends : ℕ) (z : ℤ) → pos S *ℤ (z +ℤ pos (10 * ends)) ≡ (pos S *ℤ z) +ℤ pos (ends * (S * 10))
widened_by S ends z = times_plus S z (pos (10 * ends)) ∙ (let e : (pos S *ℤ z) +ℤ pos (S * (10 * ends)) ≡ (pos S *ℤ z)
    +ℤ pos (ends * (S * 10)) = omega (arith, ints) in e)

narrowed_by : (S ends : ℕ) (z : ℤ) → pos S *ℤ (z -ℤ pos (10 * ends)) ≡ (pos S *ℤ z) -ℤ pos (ends * (S * 10))
narrowed_by S ends z = times_minus S z (pos (10 * ends)) ∙ (let e : (pos S *ℤ z) -ℤ pos (S * (10 * ends))
    ≡ (pos S *ℤ z) -ℤ pos (ends * (S * 10)) = omega (arith, ints) in e)

pub inflow_lies : (project : Project) (S time : ℕ) (intervals : List Interval) (levels : List ℤ)
    (tanks : List TankState) (links : List LinkState) (assignment : Assignment) (grid : Grid) (k : ℕ)
    (below above : List ℤ)
    → IsCompared project S time intervals levels tanks links assignment grid
    → IsCertificate grid (Pinned k) Lower below → IsCertificate grid (Pinned k) Upper above
    → LiesIn S (inflow_box grid k (tank_node project k) below above) (tank_inflow project k assignment.flows)
inflow_lies project S time intervals levels tanks links assignment grid k below above c under over = record {
  low = rw (narrowed_by S (link_ends (tank_node project k) grid.links)
      (neg_ℤ (net high low (all_heads grid (Pinned k) Lower below) (tank_node project k) grid.links)))
      (inflow_below project S time intervals levels tanks links assignment grid k below c under);
  high = rw (widened_by S (link_ends (tank_node project k) grid.links)
      (neg_ℤ (net low high (all_heads grid (Pinned k) Upper above) (tank_node project k) grid.links)))
      (inflow_above project S time intervals levels tanks links assignment grid k above c over);
}
