-- The tanks of a sound network hold water, and their levels and contents have bounds in order.
use Rattle.std.proofs.Common.{◌≡◌, ℕ, ◌*◌, ◌^◌, ◌<◌, ◌≤◌, ℤ, pos, negsuc, ◌*ℤ◌, ◌≤ℤ◌, refl, sym, ap, subst, arith, Bool}
use Rattle.std.proofs.Common.{true, false, List, []}
use Rattle.std.specs.Prelude.{unsigned_abs, Option, Some, None, is_some, if◌then◌else◌, slice_get, IfSome}
use Rattle.std.specs.Option.{option_map_or}
use Rattle.std.proofs.lemmas.Int.{ints}
use Rattle.std.proofs.lemmas.Option.{slice_get_within, get_or_from_slice_get}
use Rattle.hyd_num.proofs.Integers.{times_rises, one_times}
use Rattle.hyd_num.specs.FileQuantity.{ten_thousandths_of_metre_in_foot, head_ticks_in_billionth_of_metre}
use Rattle.hyd_num.specs.FileQuantity.{is_us_unit, head_ticks}
use Rattle.hyd_net.specs.ListView.{ListView}
use Rattle.hyd_net.specs.NumberRanges.{Numbers}
use Rattle.hyd_net.specs.RoundedFileNumbers.{IsAreaMade}
use Rattle.hyd_net.specs.NetworkRanges.{IsTank, IsShapeOf}
use Rattle.hyd_net.specs.Sound.{IsSound}
use Rattle.hyd_spec.specs.ProgramTypes.{Project, Tank, VolumePoint}
use Rattle.hyd_spec.specs.Lists.{Each}
use Rattle.hyd_spec.specs.Tank.{Cylinder, Curve, shape_points, walls_of}
use Rattle.hyd_theorems_on_definitions.specs.SoundTanks.{IsVessel}
use Rattle.hyd_theorems_on_definitions.proofs.OneStandingAndTightVector.{there}

-- what is asked of each tank
pub record IsSoundTank (project : Project) (tank : Tank) : Type 0 where
  pub ranges : IsTank project.shapes.list tank
  pub area : IsAreaMade project.options.unit tank

pub sound_tank : (project : Project) → IsSound project → Each project.tanks.list (λ k tank. IsSoundTank project tank)
sound_tank project sound k tank at =
    let inside = slice_get_within project.tanks.list k tank at in
    let e = get_or_from_slice_get project.tanks.list k tank tank at in
    record {
      ranges = subst (IsTank project.shapes.list) e (sound.quantities.tanks k tank inside);
      area = subst (IsAreaMade project.options.unit) e (sound.made.areas k tank inside);
    }

-- ---- a cylinder

across-above : (us : Bool) (nano : ℤ) → pos (10 ^ 8) ≤ℤ nano → pos (10 ^ 11) ≤ℤ head_ticks us nano
across-above true nano h =
    let a = times_rises ten_thousandths_of_metre_in_foot (pos (10 ^ 8)) nano h in omega (arith, ints, a)
across-above false nano h =
    let a = times_rises head_ticks_in_billionth_of_metre (pos (10 ^ 8)) nano h in omega (arith, ints, a)

square-above : (z : ℤ) → pos (10 ^ 11) ≤ℤ z → pos (4 * 10 ^ 26) ≤ℤ (pos 3141592654 *ℤ (z *ℤ z))
square-above (pos a) h =
    let l = times_rises a (pos (10 ^ 11)) (pos a) h in
    let m = times_rises 3141592654 (pos a *ℤ pos (10 ^ 11)) (pos a *ℤ pos a) l in
    let n : 10 ^ 11 ≤ a = omega (arith, ints, h) in
    omega (arith, ints, m, n)
square-above (negsuc n) h = absurd (omega (arith, ints, h))

pub some-area : (z : ℤ) → pos 1 ≤ℤ z → 0 < unsigned_abs z
some-area (pos n) h = omega (arith, ints, h)
some-area (negsuc n) h = absurd (omega (arith, ints, h))

cylinder : (project : Project) (tank : Tank) → tank.shape ≡ None → IsSoundTank project tank
    → IsVessel (Cylinder (unsigned_abs tank.area)) tank
cylinder project tank none is =
    let across = head_ticks (is_us_unit project.options.unit) tank.diameter.nano in
    let wide : pos (10 ^ 8) ≤ℤ tank.diameter.nano =
    subst (λ (o : Option ℕ). pos (if is_some o then 0 else 10 ^ 8) ≤ℤ tank.diameter.nano) none
    is.ranges.diameter.at_least in
    let big = square-above across (across-above (is_us_unit project.options.unit) tank.diameter.nano wide) in
    let apart = is.ranges.apart in
    record {
      holds_water = some-area tank.area (is.area.greatest (pos 1)
          (omega (arith, ints, big, one_times (pos (4 * 10 ^ 26)))));
      ordered = omega (arith, ints, apart);
      contents_ordered = omega (arith, ints, apart);
    }

-- ---- a tank with a curve

points-are : (shapes : List (ListView VolumePoint)) (n : ℕ) (shape : ListView VolumePoint)
    → slice_get shapes n ≡ Some shape
    → option_map_or (λ (points : ListView VolumePoint). points.list) (slice_get shapes n) [] ≡ shape.list
points-are shapes n shape at = ap (λ (o : Option (ListView VolumePoint)). option_map_or (λ points. points.list) o []) at

pub shape_of : (project : Project) (tank : Tank) (n : ℕ) → tank.shape ≡ Some n → IsSoundTank project tank
    → IsShapeOf tank (shape_points project n)
shape_of project tank n some is =
    let named = subst (λ (o : Option ℕ). IfSome o (Numbers (λ (shape : ListView VolumePoint). IsShapeOf tank
    shape.list) project.shapes.list)) some is.ranges.shape in
    let found = there (ListView VolumePoint) project.shapes.list n named.in_range in
    let e = get_or_from_slice_get project.shapes.list n found.item found.item found.is_item in
    subst (IsShapeOf tank) (sym (points-are project.shapes.list n found.item found.is_item))
    (subst (λ (shape : ListView VolumePoint). IsShapeOf tank shape.list) e (named.holds found.item))

curve : (project : Project) (tank : Tank) (n : ℕ) → tank.shape ≡ Some n → IsSoundTank project tank
    → IsVessel (Curve (shape_points project n)) tank
curve project tank n some is =
    let shape = shape_of project tank n some is in
    let apart = is.ranges.apart in
    let volumes = shape.apart in
    record {
      holds_water = (shape.curve.levels_rise, shape.curve.volumes_rise);
      ordered = omega (arith, ints, apart);
      contents_ordered = omega (arith, ints, volumes);
    }

by-shape : (project : Project) (tank : Tank) (shape : Option ℕ) → tank.shape ≡ shape → IsSoundTank project tank
    → IsVessel (option_map_or (λ n. Curve (shape_points project n)) shape (Cylinder (unsigned_abs tank.area))) tank
by-shape project tank None e is = cylinder project tank e is
by-shape project tank (Some n) e is = curve project tank n e is

pub vessels : (project : Project) → IsSound project → Each project.tanks.list
    (λ k tank. IsVessel (walls_of project tank) tank)
vessels project sound k tank at = by-shape project tank tank.shape refl (sound_tank project sound k tank at)
