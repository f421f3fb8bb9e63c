-- MAIN certificates of both sides are in order, with the heads of reservoirs and tanks.
use Rattle.std.proofs.Common.{◌≡◌, ℕ, zero, suc, ℤ, pos, ◌-ℤ◌, ◌≤ℤ◌, List, [], ◌∷◌, refl, arith}
use Rattle.std.specs.Prelude.{Some, slice_get}
use Rattle.std.proofs.lemmas.Int.{ints}
use Rattle.hyd_spec.specs.Assignment.{head_at}
use Rattle.hyd_spec.specs.Lists.{map_from}
use Rattle.hyd_spec_certificates.specs.declared.Problem.TheVariants.{Main}
use Rattle.hyd_spec_certificates.specs.declared.Side.{Side}
use Rattle.hyd_spec_certificates.specs.declared.Side.TheVariants.{Upper, Lower}
use Rattle.hyd_spec_certificates.specs.Interval.{Interval}
use Rattle.hyd_spec_certificates.specs.PeriodNetwork.{Grid, end_on, tank_side, all_heads, fixed_heads}
use Rattle.hyd_spec_certificates.specs.Certificate.{IsCertificate}
use Rattle.hyd_theorems_on_definitions.specs.SoundLawsAndGrids.{IsSteady, TanksInOrder}
use Rattle.hyd_num.proofs.Integers.{one_times}
use Rattle.hyd_theorems_on_definitions.proofs.HeadLists.{fixed-in-order}
use Rattle.hyd_theorems_on_definitions.proofs.TwoSides.{heads_below_plus}
use Rattle.hyd_bounds.specs.VectorsInOrder.{AreInOrder}

-- the ends of tanks from number k on
abbrev ends : Side → ℕ → List Interval → List ℤ
ends side k tanks = map_from (λ j tank. end_on (tank_side Main side j) tank) k tanks

tanks-within : (k : ℕ) (tanks : List Interval) → ((n : ℕ) (x : Interval) → slice_get tanks n ≡ Some x → x.lo ≤ℤ x.hi)
    → (m : ℕ) → (head_at (ends Lower k tanks) m -ℤ head_at (ends Upper k tanks) m) ≤ℤ pos 0
tanks-within k [] order m = omega (arith, ints)
tanks-within k (x ∷ tanks) order zero = (let le = order 0 x refl in omega (arith, ints, le))
tanks-within k (x ∷ tanks) order (suc m) = tanks-within (suc k) tanks (λ n y at. order (suc n) y at) m

pub main_order : (grid : Grid) → IsSteady grid → TanksInOrder grid → (below above : List ℤ)
    → IsCertificate grid Main Lower below → IsCertificate grid Main Upper above
    → AreInOrder (pos 0) (all_heads grid Main Lower below) (all_heads grid Main Upper above)
main_order grid steady order below above under over =
    heads_below_plus grid steady Main Main above below (pos 0) over under (omega (arith, ints))
    (λ m. (let f = fixed-in-order grid.reservoirs (ends Lower 0 grid.tanks) (ends Upper 0 grid.tanks)
    (tanks-within 0 grid.tanks order) m in
    omega (arith, ints, f, one_times (head_at (fixed_heads grid Main Upper) m))))
