-- Stocks within the bounds of the basin.
use Rattle.std.proofs.Common.{◌≡◌, ℕ, ℤ, pos, refl, ap, ◌∙◌, arith}
use Rattle.std.specs.Prelude.{Option, Some, slice_get, unsigned_abs}
use Rattle.std.specs.Option.{option_map_or}
use Rattle.std.proofs.lemmas.Int.{ints}
use Rattle.hyd_spec.specs.ProgramTypes.{Project, Tank}
use Rattle.hyd_spec.specs.Tank.{Walls, Cylinder, Curve, shape_points, walls_of, kept_volume}
use Rattle.hyd_net.specs.Curves.{volume_at}
use Rattle.hyd_spec_certificates.specs.Stocks.{Stocks}
use Rattle.hyd_theorems_on_definitions.specs.LyingInIntervals.{IsWithin}
use Rattle.hyd_tank.specs.StockIntervals.{AreHeld}
use Rattle.hyd_tests_on_tanks_and_demands.specs.Basins.{knees, HasBasin}

walls_are : (project : Project) (each : Tank) → each.shape ≡ Some 0 → shape_points project 0 ≡ knees
    → walls_of project each ≡ Curve knees
walls_are project each shape curve =
    ap (λ (o : Option ℕ). option_map_or (λ s. Curve (shape_points project s)) o (Cylinder (unsigned_abs each.area)))
    shape ∙ ap Curve curve

kept_at : (project : Project) (each : Tank) (level volume : ℤ) → (level_is : ℤ) → walls_of project each ≡ Curve knees
    → level ≡ level_is → volume_at knees level_is ≡ volume
    → kept_volume (walls_of project each) level ≡ volume
kept_at project each level volume level_is walls at is =
    ap (λ (w : Walls). kept_volume w level) walls ∙ ap (λ (m : ℤ). volume_at knees m) at ∙ is

pub are_held : (project : Project) (each : Tank) (stocks : Stocks) → HasBasin project → slice_get project.tanks.list 0
    ≡ Some each
    → IsWithin (record { least = pos 20000000000000; most = pos 90000000000000 }) stocks.level
    → IsWithin (record { least = pos 50000000000; most = pos 750000000000 }) stocks.volume
    → AreHeld (walls_of project each) each stocks
are_held project each stocks has at level volume =
    let is = has.tank each at in
    let low = is.minimum in
    let high = is.maximum in
    let walls = walls_are project each is.shape has.curve in
    let least = kept_at project each each.minimum (pos 50000000000) (pos 20000000000000) walls low refl in
    let most = kept_at project each each.maximum (pos 750000000000) (pos 90000000000000) walls high refl in
    let a = level.lo_above in let b = level.lo_below in let c = level.hi_above in let d = level.hi_below in
    let e = volume.lo_above in let f = volume.lo_below in let g = volume.hi_above in let h = volume.hi_below in
    record {
      level = record {
        lo_above = omega (arith, ints, low, a);
        lo_below = omega (arith, ints, high, b);
        hi_above = omega (arith, ints, low, c);
        hi_below = omega (arith, ints, high, d);
      };
      volume = record {
        lo_above = omega (arith, ints, least, e);
        lo_below = omega (arith, ints, most, f);
        hi_above = omega (arith, ints, least, g);
        hi_below = omega (arith, ints, most, h);
      };
    }
