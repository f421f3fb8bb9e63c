-- What is read of a network by number, and the quantities of a period, are the same of alike parts.
use Rattle.std.proofs.Common.{◌≡◌, ℕ, zero, suc, ◌+◌, ◌%◌, ◌^◌, ℤ, pos, List, [], ◌∷◌, map, length, Option, Some, None}
use Rattle.std.proofs.Common.{refl, ap, ap₂, ◌∙◌}
use Rattle.std.specs.Prelude.{◌/◌, ◌*ℤ◌, slice_get, slice_index_or, unsigned_abs}
use Rattle.std.specs.Option.{option_map_or, option_or}
use Rattle.std.specs.List.{AllZip}
use Rattle.hyd_spec.specs.ProgramTypes.{Project, Junction, Demand, Reservoir, Tank}
use Rattle.hyd_spec.specs.WholeNumbers.{cut}
use Rattle.hyd_spec.specs.Lists.{total}
use Rattle.hyd_spec.specs.NodeNumbers.{junction_count, nodes_before_tanks, tank_node}
use Rattle.hyd_spec.specs.DemandsHeadsAndPumpLifts.{multiplier_at, category_demand, demand_of, reservoir_head}
use Rattle.hyd_spec.specs.Tank.{Walls, Cylinder, Curve, shape_points, walls_of}
use Rattle.hyd_spec.specs.Rules.{elevation_of}
use Rattle.hyd_theorems_on_rereading.proofs.PartsWithSpares.{Inner, with_inner, IsLikeJunction, AreAlike}

pub same_map : {A B : Type 0} (f g : A → B) → ((x : A) → f x ≡ g x) → (xs : List A) → map f xs ≡ map g xs
same_map f g each [] = refl
same_map f g each (x ∷ xs) = ap₂ (λ v vs. v ∷ vs) (each x) (same_map f g each xs)

zip_long : {X : Type 0} (R : X → X → Type 0) (xs ys : List X) → AllZip R xs ys → length xs ≡ length ys
zip_long R [] [] all = refl
zip_long R [] (y ∷ ys) all = absurd all
zip_long R (x ∷ xs) [] all = absurd all
zip_long R (x ∷ xs) (y ∷ ys) all = ap (λ n. suc n) (zip_long R xs ys all.1)

like_elevation : (xs ys : List Junction) → AllZip IsLikeJunction xs ys → (k : ℕ)
    → option_map_or (λ (j : Junction). j.elevation) (slice_get xs k) (pos 0)
    ≡ option_map_or (λ (j : Junction). j.elevation) (slice_get ys k) (pos 0)
like_elevation [] [] all k = refl
like_elevation [] (y ∷ ys) all k = absurd all
like_elevation (x ∷ xs) [] all k = absurd all
like_elevation (x ∷ xs) (y ∷ ys) all zero = all.0.elevation
like_elevation (x ∷ xs) (y ∷ ys) all (suc k) = like_elevation xs ys all.1 k

module _ (p : Project) (x y : Inner) (alike : AreAlike x y) where
  -- ---- numbers of nodes

  pub same_count : junction_count (with_inner p x) ≡ junction_count (with_inner p y)
  same_count = zip_long IsLikeJunction x.junctions.list y.junctions.list alike.junctions

  pub same_before : nodes_before_tanks (with_inner p x) ≡ nodes_before_tanks (with_inner p y)
  same_before = ap (λ n. n + length p.reservoirs.list) same_count

  pub same_node : (k : ℕ) → tank_node (with_inner p x) k ≡ tank_node (with_inner p y) k
  same_node k = ap (λ n. n + k) same_before

  pub same_elevation : (node : ℕ) → elevation_of (with_inner p x) node ≡ elevation_of (with_inner p y) node
  same_elevation node = like_elevation x.junctions.list y.junctions.list alike.junctions node

  -- ---- quantities at a time

  pub same_multiplier : (pattern time : ℕ)
      → multiplier_at (with_inner p x) pattern time ≡ multiplier_at (with_inner p y) pattern time
  same_multiplier pattern time =
      let step = (time + p.times.pattern_start) / p.times.pattern in
      ap (λ (ms : List ℤ). slice_index_or ms (step % length ms) (pos 0)) (alike.multipliers pattern)

  by_category : (time : ℕ) (o : Option ℕ) (d : ℤ)
      → option_map_or (λ pattern. multiplier_at (with_inner p x) pattern time) o d
      ≡ option_map_or (λ pattern. multiplier_at (with_inner p y) pattern time) o d
  by_category time None d = refl
  by_category time (Some pattern) d = same_multiplier pattern time

  same_category : (time : ℕ) (category : Demand)
      → category_demand (with_inner p x) time category ≡ category_demand (with_inner p y) time category
  same_category time category =
      ap (λ (m : ℤ). cut (category.base *ℤ cut (m *ℤ p.options.multiplier.nano) (10 ^ 9)) (10 ^ 9))
      (by_category time (option_or category.pattern p.options.default_pattern) (pos (10 ^ 9)))

  pub same_demand : (time : ℕ) (a b : Junction) → IsLikeJunction a b
      → demand_of (with_inner p x) time a ≡ demand_of (with_inner p y) time b
  same_demand time a b like =
      ap total (same_map (category_demand (with_inner p x) time) (category_demand (with_inner p y) time)
      (same_category time) a.demands.list
      ∙ ap (λ ds. map (category_demand (with_inner p y) time) ds) like.demands)

  same_by_pattern : (time : ℕ) (head : ℤ) (o : Option ℕ)
      → option_map_or (λ pattern. cut (head *ℤ multiplier_at (with_inner p x) pattern time) (10 ^ 9)) o head
      ≡ option_map_or (λ pattern. cut (head *ℤ multiplier_at (with_inner p y) pattern time) (10 ^ 9)) o head
  same_by_pattern time head None = refl
  same_by_pattern time head (Some pattern) = ap (λ (m : ℤ). cut (head *ℤ m) (10 ^ 9)) (same_multiplier pattern time)

  pub same_reservoir : (time : ℕ) (r : Reservoir)
      → reservoir_head (with_inner p x) time r ≡ reservoir_head (with_inner p y) time r
  same_reservoir time r = same_by_pattern time r.head r.pattern

  -- ---- tanks

  by_shape : (o : Option ℕ) (d : Walls)
      → option_map_or (λ shape. Curve (shape_points (with_inner p x) shape)) o d
      ≡ option_map_or (λ shape. Curve (shape_points (with_inner p y) shape)) o d
  by_shape None d = refl
  by_shape (Some shape) d = ap Curve (alike.shapes shape)

  pub same_walls : (tank : Tank) → walls_of (with_inner p x) tank ≡ walls_of (with_inner p y) tank
  same_walls tank = by_shape tank.shape (Cylinder (unsigned_abs tank.area))
