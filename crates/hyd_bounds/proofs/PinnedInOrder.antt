-- Certificates that pin a tank are in order, up to the width of its interval.
use Rattle.std.proofs.Common.{◌≡◌, ℕ, zero, suc, ◌+◌, ◌<◌, ℤ, pos, ◌-ℤ◌, ◌≤ℤ◌, Bool, true, false, ◌==◌, List, [], ◌∷◌}
use Rattle.std.proofs.Common.{◌++◌, length, refl, ap, arith}
use Rattle.std.specs.Prelude.{Some, slice_get, if◌then◌else◌}
use Rattle.std.proofs.lemmas.Int.{ints}
use Rattle.std.proofs.lemmas.Option.{get_or_from_slice_get}
use Rattle.hyd_spec.specs.Assignment.{head_at}
use Rattle.hyd_spec.specs.Lists.{map_from}
use Rattle.hyd_spec_certificates.specs.declared.Problem.TheVariants.{Pinned}
use Rattle.hyd_spec_certificates.specs.declared.Side.{Side}
use Rattle.hyd_spec_certificates.specs.declared.Side.TheVariants.{Upper, Lower}
use Rattle.hyd_spec_certificates.specs.Interval.{Interval, exactly, width}
use Rattle.hyd_spec_certificates.specs.PeriodNetwork.{Grid, end_on, opposite, tank_side, all_heads, fixed_heads}
use Rattle.hyd_spec_certificates.specs.Certificate.{IsCertificate}
use Rattle.hyd_theorems_on_definitions.specs.SoundLawsAndGrids.{IsSteady, TanksInOrder}
use Rattle.hyd_num.proofs.Integers.{one_times}
use Rattle.hyd_theorems_on_definitions.proofs.TwoSides.{heads_below_plus}
use Rattle.hyd_vector_check.specs.ComparisonPrinciple.{FixedWithin}
use Rattle.hyd_bounds.specs.VectorsInOrder.{AreInOrder, tank_width}

-- the ends of tanks from number k on, with tank p pinned
abbrev ends : Side → ℕ → ℕ → List Interval → List ℤ
ends side p k tanks = map_from (λ j tank. end_on (tank_side (Pinned p) side j) tank) k tanks

-- the two ends of a tank, pinned or not
ends-within : (pinned : Bool) (x : Interval) (w : ℤ) → x.lo ≤ℤ x.hi → pos 0 ≤ℤ w → (pinned ≡ true → width x ≤ℤ w)
    → (end_on (if pinned then opposite Lower else Lower) x -ℤ end_on (if pinned then opposite Upper else Upper) x) ≤ℤ w
ends-within true x w order room wide = wide refl
ends-within false x w order room wide = omega (arith, ints, order, room)

same-number : (p k : ℕ) → (p == k) ≡ true → p ≡ k
same-number p k e = grind (arith, ints)

tanks-within : (p k : ℕ) (tanks : List Interval) (w : ℤ) → pos 0 ≤ℤ w → ((n : ℕ) (x : Interval)
    → slice_get tanks n ≡ Some x → x.lo ≤ℤ x.hi)
    → ((n : ℕ) (x : Interval) → slice_get tanks n ≡ Some x → p ≡ k + n → width x ≤ℤ w)
    → (m : ℕ) → (head_at (ends Lower p k tanks) m -ℤ head_at (ends Upper p k tanks) m) ≤ℤ w
tanks-within p k [] w room order wide m = omega (arith, ints, room)
tanks-within p k (x ∷ tanks) w room order wide zero =
    ends-within (p == k) x w (order 0 x refl) room (λ e. wide 0 x refl (let s = same-number p k e in omega (arith, s)))
tanks-within p k (x ∷ tanks) w room order wide (suc m) =
    tanks-within p (suc k) tanks w room (λ n y at. order (suc n) y at) (λ n y at e. wide (suc n) y at (omega (
      arith,
      e,
    ))) m

after-reservoirs : (reservoirs xs ys : List ℤ) (w : ℤ) → pos 0 ≤ℤ w → ((m : ℕ) → (head_at xs m -ℤ head_at ys m) ≤ℤ w)
    → (m : ℕ) → (head_at (reservoirs ++ xs) m -ℤ head_at (reservoirs ++ ys) m) ≤ℤ w
after-reservoirs [] xs ys w room within m = within m
after-reservoirs (r ∷ reservoirs) xs ys w room within zero = omega (arith, ints, room)
after-reservoirs (r ∷ reservoirs) xs ys w room within (suc m) = after-reservoirs reservoirs xs ys w room within m

tank-at : (tanks : List Interval) (k : ℕ) → k < length tanks → (x : Interval) × (slice_get tanks k ≡ Some x)
tank-at [] k lt = absurd (omega (arith, lt))
tank-at (x ∷ tanks) zero lt = (x, refl)
tank-at (x ∷ tanks) (suc k) lt = tank-at tanks k (omega (arith, lt))

width-of : (grid : Grid) (k : ℕ) (x : Interval) → slice_get grid.tanks k ≡ Some x → tank_width grid k ≡ width x
width-of grid k x at = ap width (get_or_from_slice_get grid.tanks k x (exactly (pos 0)) at)

wide : (grid : Grid) (k : ℕ) → k < length grid.tanks → TanksInOrder grid → pos 0 ≤ℤ tank_width grid k
wide grid k lt order =
    let at = tank-at grid.tanks k lt in
    let le = order k at.0 at.1 in
    let w = width-of grid k at.0 at.1 in
    omega (arith, ints, le, w)

pub pinned-fixed : (grid : Grid) (k : ℕ) → k < length grid.tanks → TanksInOrder grid
    → FixedWithin grid (Pinned k) (Pinned k) (tank_width grid k)
pinned-fixed grid k lt order =
    after-reservoirs grid.reservoirs (ends Lower k 0 grid.tanks) (ends Upper k 0 grid.tanks) (tank_width grid k) (wide
    grid k lt order)
    (tanks-within k 0 grid.tanks (tank_width grid k) (wide grid k lt order) order
    (λ n x at e. (let w = width-of grid n x at in let f = ap (tank_width grid) (let g : k ≡ n = omega (arith, e) in g)
    in omega (arith, ints, w, f))))

pub pinned-order : (grid : Grid) → IsSteady grid → (k : ℕ) (below above : List ℤ) → k < length grid.tanks
    → TanksInOrder grid
    → IsCertificate grid (Pinned k) Lower below → IsCertificate grid (Pinned k) Upper above
    → AreInOrder (tank_width grid k) (all_heads grid (Pinned k) Lower below) (all_heads grid (Pinned k) Upper above)
pinned-order grid steady k below above lt order under over =
    heads_below_plus grid steady (Pinned k) (Pinned k) above below (tank_width grid k) over under (wide grid k lt order)
    (λ m. (let f = pinned-fixed grid k lt order m in omega (
      arith,
      ints,
      f,
      one_times (head_at (fixed_heads grid
          (Pinned k) Upper) m),
    )))
