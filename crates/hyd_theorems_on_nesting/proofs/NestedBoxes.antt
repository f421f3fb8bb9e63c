-- Boxes of an inner record lie inside those of an outer one, and each has a number.
use Rattle.std.proofs.Common.{◌≡◌, ℕ, zero, suc, ◌+◌, ◌<◌, ℤ, pos, ◌+ℤ◌, ◌-ℤ◌, ◌≤ℤ◌, refl, sym, ap, subst, ◌∙◌, arith}
use Rattle.std.proofs.Common.{Bool, true, false, ◌==◌, List, [], ◌∷◌, ◌++◌, length, map}
use Rattle.std.specs.Prelude.{Some, slice_get, slice_index_or, if◌then◌else◌}
use Rattle.std.specs.List.{AllByRecursion}
use Rattle.std.proofs.lemmas.Int.{ints}
use Rattle.std.proofs.lemmas.Bool.{eqb-true, eq-eqb}
use Rattle.std.proofs.lemmas.Option.{slice_get_within, slice_get-get_or}
use Rattle.hyd_spec.specs.ProgramTypes.{Project, Tank, Reservoir}
use Rattle.hyd_spec_certificates.specs.declared.Side.{Side}
use Rattle.hyd_spec_certificates.specs.declared.Side.TheVariants.{Upper, Lower}
use Rattle.hyd_spec_certificates.specs.declared.Problem.{Problem}
use Rattle.hyd_spec_certificates.specs.declared.Problem.TheVariants.{Main, Pinned}
use Rattle.hyd_spec.specs.Lists.{map_from}
use Rattle.hyd_spec_certificates.specs.Interval.{Interval, shifted}
use Rattle.hyd_spec.specs.NodeNumbers.{tank_node, tank_count, junction_count, reservoir_count}
use Rattle.hyd_spec.specs.DemandsHeadsAndPumpLifts.{reservoir_head}
use Rattle.hyd_spec.specs.Assignment.{head_at}
use Rattle.hyd_spec_certificates.specs.PeriodNetwork.{Grid, GridLink, IsJunctionOf, all_heads, fixed_heads, end_on}
use Rattle.hyd_spec_certificates.specs.PeriodNetwork.{opposite, tank_side, tank_intervals}
use Rattle.hyd_spec_certificates.specs.FlowIntervals.{flow_box, inflow_box}
use Rattle.hyd_spec_certificates.specs.Certificate.{IsCertificate}
use Rattle.hyd_spec_certificates.specs.RecordAndStanding.{Record, Standing, Vectors, no_vectors, vector_of}
use Rattle.hyd_spec_certificates.specs.Decided.{level_of_tank, inflow_of_tank, heads_below, heads_above, nowhere}
use Rattle.hyd_spec_certificates.specs.Valid.{IsProblem}
use Rattle.hyd_theorems_on_definitions.specs.LyingInIntervals.{IsInside}
use Rattle.hyd_theorems_on_definitions.specs.SoundLawsAndGrids.{IsSoundLaw}
use Rattle.hyd_num.proofs.Integers.{one_times}
use Rattle.hyd_lemmas.proofs.ListsOptionsAndResults.{same_item, item_there}
use Rattle.hyd_theorems_on_definitions.proofs.EachLaw.{IsLaw-each}
use Rattle.hyd_theorems_on_definitions.proofs.HeadsOfAllNodes.{excess}
use Rattle.hyd_theorems_on_definitions.proofs.ComparisonPrinciple.{place_long}
use Rattle.hyd_theorems_on_nesting.specs.Nesting.{IsOrdered, AreNested}
use Rattle.hyd_theorems_on_histories.proofs.ListsByPlace.{numbered_from_start}
use Rattle.hyd_theorems_on_definitions.proofs.TwoSides.{heads_below_plus}
use Rattle.hyd_theorems_on_definitions.proofs.NetOutflowsRise.{low-rises, high-rises, net-rises, net-ordered}
use Rattle.hyd_theorems_on_definitions.proofs.HeadLists.{head_behind}
use Rattle.hyd_spec_certificates.specs.EnclosingFunctions.{low, high}

-- ---- fixed heads

fixed-tanks : (f g : ℕ → Interval → ℤ) (from : ℕ) (tanks : List Interval) (t : ℤ) → pos 0 ≤ℤ t
    → ((k : ℕ) (x : Interval) → slice_get tanks k ≡ Some x → f (from + k) x ≤ℤ (g (from + k) x +ℤ t))
    → (m : ℕ) → excess 1 (map_from f from tanks) (map_from g from tanks) m ≤ℤ t
fixed-tanks f g from [] t room each m = omega (arith, ints, room)
fixed-tanks f g from (x ∷ tanks) t room each zero =
    let n : from + 0 ≡ from = omega arith in
    let e : f from x ≤ℤ (g from x +ℤ t) = subst (λ k. f k x ≤ℤ (g k x +ℤ t)) n (each 0 x refl) in
    omega (arith, ints, e, one_times (g from x))
fixed-tanks f g from (x ∷ tanks) t room each (suc m) = fixed-tanks f g (suc from) tanks t room
    (λ k y at. let n : from + suc k ≡ suc from + k = omega arith in
    subst (λ p. f p y ≤ℤ (g p y +ℤ t)) n (each (suc k) y at)) m

fixed-all : (reservoirs : List ℤ) (xs ys : List ℤ) (t : ℤ) → pos 0 ≤ℤ t → ((m : ℕ) → excess 1 xs ys m ≤ℤ t) → (m : ℕ)
    → excess 1 (reservoirs ++ xs) (reservoirs ++ ys) m ≤ℤ t
fixed-all [] xs ys t room each m = each m
fixed-all (r ∷ reservoirs) xs ys t room each zero = omega (arith, ints, room, one_times r)
fixed-all (r ∷ reservoirs) xs ys t room each (suc m) = fixed-all reservoirs xs ys t room each m

fixed-within : (grid : Grid) (p q : Problem) (t : ℤ) → pos 0 ≤ℤ t
    → ((k : ℕ) (x : Interval) → slice_get grid.tanks k ≡ Some x
    → end_on (tank_side q Lower k) x ≤ℤ (end_on (tank_side p Upper k) x +ℤ t))
    → (m : ℕ) → excess 1 (fixed_heads grid q Lower) (fixed_heads grid p Upper) m ≤ℤ t
fixed-within grid p q t room each m =
    fixed-all grid.reservoirs _ _ t room (fixed-tanks (λ k x. end_on (tank_side q Lower k) x)
    (λ k x. end_on (tank_side p Upper k) x) 0 grid.tanks t room
    (λ k x at. let n : k ≡ 0 + k = omega arith in
    subst (λ l. end_on (tank_side q Lower l) x ≤ℤ (end_on (tank_side p Upper l) x +ℤ t)) n (each k x at))) m

-- ---- heads of nodes

-- the same fixed heads under two vectors
all-below : (u v fixed : List ℤ) → length u ≡ length v → ((m : ℕ) → m < length u → head_at u m ≤ℤ head_at v m) → (m : ℕ)
    → head_at (u ++ fixed) m ≤ℤ head_at (v ++ fixed) m
all-below [] [] fixed same each m = omega (arith, ints)
all-below [] (y ∷ v) fixed same each m = absurd (omega (arith, same))
all-below (x ∷ u) [] fixed same each m = absurd (omega (arith, same))
all-below (x ∷ u) (y ∷ v) fixed same each zero = each 0 (omega arith)
all-below (x ∷ u) (y ∷ v) fixed same each (suc m) = all-below u v fixed (omega (arith, same))
    (λ k lt. each (suc k) (omega (arith, lt))) m

long-mapped : (X Y : Type 0) (f : X → Y) (xs : List X) → length (map f xs) ≡ length xs
long-mapped X Y f [] = refl
long-mapped X Y f (x ∷ xs) = let r = long-mapped X Y f xs in omega (arith, r)

interval-at : (tanks : List Tank) (levels : List Interval) (k : ℕ) (x : Interval)
    → slice_get (tank_intervals tanks levels) k ≡ Some x → (b : ℤ) × (x ≡ shifted b (slice_index_or levels k nowhere))
interval-at [] levels k x at = absurd (cc)
interval-at (t ∷ tanks) [] k x at = absurd (cc)
interval-at (t ∷ tanks) (l ∷ levels) zero x at = (t.bottom, sym (same_item Interval (shifted t.bottom l) x at))
interval-at (t ∷ tanks) (l ∷ levels) (suc k) x at = interval-at tanks levels k x at

interval-there : (tanks : List Tank) (levels : List Interval) (k : ℕ) (t : Tank) → slice_get tanks k ≡ Some t
    → length levels ≡ length tanks
    → slice_get (tank_intervals tanks levels) k ≡ Some (shifted t.bottom (slice_index_or levels k nowhere))
interval-there [] levels k t at same = absurd (cc)
interval-there (u ∷ tanks) [] k t at same = absurd (omega (arith, same))
interval-there (u ∷ tanks) (l ∷ levels) zero t at same = ap (λ (v : Tank). Some (shifted v.bottom l))
    (same_item Tank u t at)
interval-there (u ∷ tanks) (l ∷ levels) (suc k) t at same = interval-there tanks levels k t at (omega (arith, same))

module _ (project : Project) (standing : Standing) (grid : Grid) (outer inner : Record)
    (nested : AreNested project standing grid outer inner) where
  -- ---- the grid's tanks

  grid-ordered : (k : ℕ) (x : Interval) → slice_get grid.tanks k ≡ Some x → x.lo ≤ℤ x.hi
  grid-ordered k x at =
      let is = interval-at project.tanks.list standing.levels k x
      (subst (λ xs. slice_get xs k ≡ Some x) nested.is_grid.tank_heads at) in
      let o = (nested.ordered k).level in
      subst (λ y. y.lo ≤ℤ y.hi) (sym is.1) (omega (arith, ints, o))

  -- ---- main vectors

  main-sides : (u v : List ℤ) → IsCertificate grid Main Upper u → IsCertificate grid Main Lower v → (m : ℕ)
      → head_at (all_heads grid Main Lower v) m ≤ℤ head_at (all_heads grid Main Upper u) m
  main-sides u v above below m =
      let h = heads_below_plus grid nested.steady Main Main u v (pos 0) above below (omega (arith, ints))
      (fixed-within grid Main Main (pos 0) (omega (arith, ints)) (λ k x at. let o = grid-ordered k x at in
      omega (arith, ints, o))) m in
      omega (arith, ints, h)

  upper-within : (problem : Problem) → IsProblem project problem → (m : ℕ)
      → head_at (all_heads grid problem Upper (vector_of inner problem Upper)) m ≤ℤ head_at
      (all_heads grid problem Upper (vector_of outer problem Upper)) m
  upper-within problem is =
      let a = (nested.inner_certificates.each problem Upper is).one_each in
      let b = (nested.outer_certificates.each problem Upper is).one_each in
      all-below (vector_of inner problem Upper) (vector_of outer problem Upper) (fixed_heads grid problem Upper)
      (a ∙ sym b)
      (λ m lt. let t = item_there grid.junctions m (omega (arith, lt, a)) in nested.about.upper problem is m t.0 t.1)

  lower-within : (problem : Problem) → IsProblem project problem → (m : ℕ)
      → head_at (all_heads grid problem Lower (vector_of outer problem Lower)) m ≤ℤ head_at
      (all_heads grid problem Lower (vector_of inner problem Lower)) m
  lower-within problem is =
      let a = (nested.inner_certificates.each problem Lower is).one_each in
      let b = (nested.outer_certificates.each problem Lower is).one_each in
      all-below (vector_of outer problem Lower) (vector_of inner problem Lower) (fixed_heads grid problem Lower)
      (b ∙ sym a)
      (λ m lt. let t = item_there grid.junctions m (omega (arith, lt, b)) in nested.about.lower problem is m t.0 t.1)

  pub above_within : (m : ℕ) → head_at (heads_above grid inner) m ≤ℤ head_at (heads_above grid outer) m
  above_within = upper-within Main tt

  pub below_within : (m : ℕ) → head_at (heads_below grid outer) m ≤ℤ head_at (heads_below grid inner) m
  below_within = lower-within Main tt

  pub inner_ordered : (m : ℕ) → head_at (heads_below grid inner) m ≤ℤ head_at (heads_above grid inner) m
  inner_ordered = main-sides inner.main.upper inner.main.lower (nested.inner_certificates.each Main Upper tt)
      (nested.inner_certificates.each Main Lower tt)

  -- ---- flow boxes

  law-at : (links : List GridLink) (l : ℕ) (link : GridLink) → AllByRecursion (λ (x : GridLink). IsSoundLaw x.law) links
      → slice_get links l ≡ Some link → IsSoundLaw link.law
  law-at [] l link all at = absurd (cc)
  law-at (x ∷ links) zero link all at = subst (λ (y : GridLink). IsSoundLaw y.law) (same_item GridLink x link at) all.0
  law-at (x ∷ links) (suc l) link all at = law-at links l link all.1 at

  pub flow_inside : (l : ℕ) (link : GridLink) → slice_get grid.links l ≡ Some link
      → IsInside (flow_box link (heads_below grid inner) (heads_above grid inner))
      (flow_box link (heads_below grid outer) (heads_above grid outer))
  flow_inside l link at =
      let law = IsLaw-each link.law (law-at grid.links l link nested.steady.sound.links at) in
      let f = link.from in let t = link.to in
      let a = below_within f in let b = above_within f in let c = below_within t in let d = above_within t in
      record {
        low = let r = law.low_rises (head_at (heads_below grid outer) f -ℤ head_at (heads_above grid outer) t)
            (head_at (heads_below grid inner) f -ℤ head_at (heads_above grid inner) t) (omega (arith, ints, a, d)) in
            omega (arith, ints, r);
        high = let r = law.high_rises (head_at (heads_above grid inner) f -ℤ head_at (heads_below grid inner) t)
            (head_at (heads_above grid outer) f -ℤ head_at (heads_below grid outer) t) (omega (arith, ints, b, c)) in
            omega (arith, ints, r);
      }

  pub flow_ordered : (l : ℕ) (link : GridLink) → slice_get grid.links l ≡ Some link
      → IsOrdered (flow_box link (heads_below grid inner) (heads_above grid inner))
  flow_ordered l link at =
      let law = IsLaw-each link.law (law-at grid.links l link nested.steady.sound.links at) in
      let f = link.from in let t = link.to in
      let a = inner_ordered f in let b = inner_ordered t in
      let r = law.low_rises (head_at (heads_below grid inner) f -ℤ head_at (heads_above grid inner) t)
      (head_at (heads_above grid inner) f -ℤ head_at (heads_below grid inner) t) (omega (arith, ints, a, b)) in
      let o = law.ordered (head_at (heads_above grid inner) f -ℤ head_at (heads_below grid inner) t) in
      omega (arith, ints, r, o)

  -- ---- inflow boxes

  tank-head : (problem : Problem) (side : Side) (u : List ℤ) (k : ℕ) (tank : Tank) → IsCertificate grid problem side u
      → slice_get project.tanks.list k ≡ Some tank
      → head_at (all_heads grid problem side u) (tank_node project k) ≡ end_on (tank_side problem side k)
      (shifted tank.bottom (level_of_tank standing k))
  tank-head problem side u k tank certificate at =
      let junctions : length u ≡ junction_count project = certificate.one_each
      ∙ sym
      (place_long (IsJunctionOf project standing.time) project.junctions.list grid.junctions
      nested.is_grid.junctions) in
      let reservoirs : length grid.reservoirs ≡ reservoir_count project = ap length nested.is_grid.reservoirs
      ∙ long-mapped Reservoir ℤ (reservoir_head project standing.time) project.reservoirs.list in
      let place : slice_get grid.tanks k ≡ Some (shifted tank.bottom (level_of_tank standing k)) =
      ap (λ xs. slice_get xs k) nested.is_grid.tank_heads
      ∙ interval-there project.tanks.list standing.levels k tank at nested.levels_each in
      let n : tank_node project k ≡ junction_count project + (reservoir_count project + k) = omega arith in
      ap (head_at (all_heads grid problem side u)) n
      ∙ head_behind u (fixed_heads grid problem side) (junction_count project) (reservoir_count project + k) junctions
      ∙ head_behind grid.reservoirs _ (reservoir_count project) k reservoirs
      ∙ numbered_from_start Interval ℤ (λ i x. end_on (tank_side problem side i) x) grid.tanks k
      (shifted tank.bottom (level_of_tank standing k)) (pos 0) place

  inflow-is : (row : Record) (k : ℕ) → length row.pinned ≡ tank_count project → k < tank_count project
      → inflow_of_tank project grid row k ≡ inflow_box grid k (tank_node project k) (vector_of row (Pinned k) Lower)
      (vector_of row (Pinned k) Upper)
  inflow-is row k same inside =
      numbered_from_start Vectors Interval (λ n v. inflow_box grid n (tank_node project n) v.lower v.upper) row.pinned k
      (slice_index_or row.pinned k no_vectors) nowhere
      (slice_get-get_or row.pinned k no_vectors (omega (arith, same, inside)))

  pub inflow_inside : (k : ℕ) (tank : Tank) → slice_get project.tanks.list k ≡ Some tank
      → IsInside (inflow_of_tank project grid inner k) (inflow_of_tank project grid outer k)
  inflow_inside k tank at =
      let inside : k < tank_count project = slice_get_within project.tanks.list k tank at in
      let node = tank_node project k in
      let up = upper-within (Pinned k) inside in
      let down = lower-within (Pinned k) inside in
      let a = tank-head (Pinned k) Upper (vector_of inner (Pinned k) Upper) k tank
      (nested.inner_certificates.each (Pinned k) Upper inside) at in
      let b = tank-head (Pinned k) Upper (vector_of outer (Pinned k) Upper) k tank
      (nested.outer_certificates.each (Pinned k) Upper inside) at in
      let c = tank-head (Pinned k) Lower (vector_of inner (Pinned k) Lower) k tank
      (nested.inner_certificates.each (Pinned k) Lower inside) at in
      let d = tank-head (Pinned k) Lower (vector_of outer (Pinned k) Lower) k tank
      (nested.outer_certificates.each (Pinned k) Lower inside) at in
      let high-side = net-rises low high low-rises high-rises
      (all_heads grid (Pinned k) Upper (vector_of outer (Pinned k) Upper))
      (all_heads grid (Pinned k) Upper (vector_of inner (Pinned k) Upper)) node
      (λ m. let e = up m in omega (arith, ints, e, a, b)) grid.links nested.steady.sound.links in
      let low-side = net-rises high low high-rises low-rises
      (all_heads grid (Pinned k) Lower (vector_of inner (Pinned k) Lower))
      (all_heads grid (Pinned k) Lower (vector_of outer (Pinned k) Lower)) node
      (λ m. let e = down m in omega (arith, ints, e, c, d)) grid.links nested.steady.sound.links in
      rw (
        inflow-is inner k nested.inner_certificates.pinned_each inside,
        inflow-is outer k
            nested.outer_certificates.pinned_each inside,
      )
      (record { low = omega (arith, ints, low-side); high = omega (arith, ints, high-side) })

  -- the end of the pinned tank, and of the others
  pinned-low : (k n : ℕ) (x : Interval) → x.lo ≤ℤ x.hi → (t : ℤ) → pos 0 ≤ℤ t → (k ≡ n → (x.hi -ℤ x.lo) ≤ℤ t)
      → end_on (tank_side (Pinned k) Lower n) x ≤ℤ (end_on (tank_side (Pinned k) Upper n) x +ℤ t)
  pinned-low k n x order t room own = by-case (k == n) (λ e. own (eqb-true k n e))
    where
      by-case : (b : Bool) → (b ≡ true → (x.hi -ℤ x.lo) ≤ℤ t)
          → end_on (if b then opposite Lower else Lower) x ≤ℤ (end_on (if b then opposite Upper else Upper) x +ℤ t)
      by-case true h = let w = h refl in omega (arith, ints, w)
      by-case false h = omega (arith, ints, order, room)

  own-low : (k : ℕ) (x : Interval) → end_on (tank_side (Pinned k) Lower k) x ≡ x.hi
  own-low k x = rw (eq-eqb k k refl) refl

  own-high : (k : ℕ) (x : Interval) → end_on (tank_side (Pinned k) Upper k) x ≡ x.lo
  own-high k x = rw (eq-eqb k k refl) refl

  pub inflow_ordered : (k : ℕ) (tank : Tank) → slice_get project.tanks.list k ≡ Some tank
      → IsOrdered (inflow_of_tank project grid inner k)
  inflow_ordered k tank at =
      let inside : k < tank_count project = slice_get_within project.tanks.list k tank at in
      let node = tank_node project k in
      let x : Interval = shifted tank.bottom (level_of_tank standing k) in
      let o = (nested.ordered k).level in
      let room : pos 0 ≤ℤ (x.hi -ℤ x.lo) = omega (arith, ints, o) in
      let place : slice_get grid.tanks k ≡ Some x = ap (λ xs. slice_get xs k) nested.is_grid.tank_heads
      ∙ interval-there project.tanks.list standing.levels k tank at nested.levels_each in
      let v = vector_of inner (Pinned k) Lower in
      let u = vector_of inner (Pinned k) Upper in
      let over = nested.inner_certificates.each (Pinned k) Upper inside in
      let under = nested.inner_certificates.each (Pinned k) Lower inside in
      let plus = heads_below_plus grid nested.steady (Pinned k) (Pinned k) u v (x.hi -ℤ x.lo) over under room
      (fixed-within grid (Pinned k) (Pinned k) (x.hi -ℤ x.lo) room (λ n y is. pinned-low k n y (grid-ordered n y is)
      (x.hi -ℤ x.lo) room
      (λ e. let same : y ≡ x = same_item Interval y x (sym is ∙ ap (slice_get grid.tanks) (sym e) ∙ place) in
      subst (λ z. (z.hi -ℤ z.lo) ≤ℤ (x.hi -ℤ x.lo)) (sym same) (omega (arith, ints))))) in
      let a = tank-head (Pinned k) Upper u k tank over at ∙ own-high k x in
      let b = tank-head (Pinned k) Lower v k tank under at ∙ own-low k x in
      let rise = net-rises low high low-rises high-rises (all_heads grid (Pinned k) Upper u)
      (all_heads grid (Pinned k) Lower v) node (λ m. let p = plus m in
      omega (arith, ints, p, a, b)) grid.links nested.steady.sound.links in
      let order = net-ordered (all_heads grid (Pinned k) Lower v) node grid.links nested.steady.sound.links in
      rw (inflow-is inner k nested.inner_certificates.pinned_each inside) (omega (arith, ints, rise, order))
