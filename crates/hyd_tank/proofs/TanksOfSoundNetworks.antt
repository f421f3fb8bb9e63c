-- Tanks of sound networks.
use Rattle.std.proofs.Common.{◌≡◌, ℕ, ◌*◌, ◌^◌, ◌<◌, ◌≤◌, ℤ, pos, negsuc, ◌*ℤ◌, ◌≤ℤ◌, Bool, true, false, List, length}
use Rattle.std.proofs.Common.{refl, sym, ap, subst, ◌∙◌, arith}
use Rattle.std.specs.Prelude.{Option, Some, None, is_some, if◌then◌else◌, slice_get, IfSome, MatchOption}
use Rattle.std.specs.Option.{option_map_or}
use Rattle.std.proofs.lemmas.Int.{ints}
use Rattle.std.proofs.lemmas.Option.{same_Some}
use Rattle.std.proofs.Math.Nat.{mul-le-mul}
use Rattle.hyd_num.proofs.Integers.{times_rises}
use Rattle.hyd_num.specs.FileQuantity.{ten_thousandths_of_metre_in_foot, head_ticks_in_billionth_of_metre}
use Rattle.hyd_num.specs.FileQuantity.{is_us_unit, head_ticks}
use Rattle.hyd_num.specs.QuotientsAndRoots.{IsFloor}
use Rattle.hyd_net.specs.ListView.{ListView}
use Rattle.hyd_net.specs.NumberRanges.{Lies, Numbers}
use Rattle.hyd_net.specs.NetworkRanges.{IsTank, IsShapeOf}
use Rattle.hyd_net.specs.Sound.{IsSound}
use Rattle.hyd_spec.specs.ProgramTypes.{Project, Tank, VolumePoint}
use Rattle.hyd_spec.specs.Tank.{Walls, Cylinder, Curve, walls_of, shape_points}
use Rattle.hyd_spec_certificates.specs.Interval.{Interval}
use Rattle.hyd_spec_certificates.specs.Stocks.{Stocks, next_stocks, carried_stocks, carried_levels}
use Rattle.hyd_spec_certificates.specs.FirstSeconds.{IsEarliestSecond, IsLatestSecond}
use Rattle.hyd_theorems_on_definitions.proofs.StocksInIntervals.{next_within, volumes_within}
use Rattle.hyd_theorems_on_definitions.specs.SoundTanks.{IsVessel}
use Rattle.hyd_theorems_on_definitions.proofs.SoundTankLemmas.{IsSoundTank, sound_tank, shape_of, some-area}
use Rattle.hyd_tank.specs.declared.stock_intervals.Stock.{Stock}
use Rattle.hyd_tank.specs.StockIntervals.{stocks_of, stocks_at, AreHeld, cylinder, IsTankOfRange, IsCylinder, IsBasin}
use Rattle.hyd_tank.specs.StockIntervals.{IsTankOf}

pub cylinder_vessel : (tank : Tank) → IsCylinder tank → IsVessel (cylinder tank) tank
cylinder_vessel tank is =
    let apart = is.levels.apart in
    record {
      holds_water = some-area tank.area is.area.at_least;
      ordered = omega (arith, ints, apart);
      contents_ordered = omega (arith, ints, apart);
    }

-- ---- ranges

across-range : (us : Bool) (nano : ℤ) → pos (10 ^ 8) ≤ℤ nano → nano ≤ℤ pos (10 ^ 12)
    → Lies (pos (10 ^ 11)) (pos (10 ^ 16)) (head_ticks us nano)
across-range true nano low high =
    let a = times_rises ten_thousandths_of_metre_in_foot (pos (10 ^ 8)) nano low in
    let b = times_rises ten_thousandths_of_metre_in_foot nano (pos (10 ^ 12)) high in
    record { at_least = omega (arith, ints, a); at_most = omega (arith, ints, b) }
across-range false nano low high =
    let a = times_rises head_ticks_in_billionth_of_metre (pos (10 ^ 8)) nano low in
    let b = times_rises head_ticks_in_billionth_of_metre nano (pos (10 ^ 12)) high in
    record { at_least = omega (arith, ints, a); at_most = omega (arith, ints, b) }

area-range : (across area : ℤ) → Lies (pos (10 ^ 11)) (pos (10 ^ 16)) across
    → IsFloor (pos 3141592654 *ℤ (across *ℤ across)) (pos (4 * 10 ^ 26)) area → Lies (pos 1) (pos (10 ^ 15)) area
area-range (pos a) area range is =
    let low : 10 ^ 11 ≤ a = (let l = range.at_least in omega (arith, ints, l)) in
    let high : a ≤ 10 ^ 16 = (let h = range.at_most in omega (arith, ints, h)) in
    let least = mul-le-mul low low in
    let most = mul-le-mul high high in
    let under = is.at_most in
    record {
      at_least = is.greatest (pos 1) (omega (arith, ints, least));
      at_most = omega (arith, ints, under, most);
    }
area-range (negsuc n) area range is = absurd (let l = range.at_least in omega (arith, ints, l))

levels-range : (shapes : List (ListView VolumePoint)) (tank : Tank) → IsTank shapes tank → IsTankOfRange tank
levels-range shapes tank is =
    let lowest = is.lowest in
    let apart = is.apart in
    let bottom = is.bottom.at_least in
    let top = is.top.at_most in
    record { lowest = lowest; apart = omega (arith, ints, apart); highest = omega (arith, ints, bottom, top) }

cylinder-of : (project : Project) (tank : Tank) → tank.shape ≡ None → IsSoundTank project tank → IsCylinder tank
cylinder-of project tank none is =
    let wide : pos (10 ^ 8) ≤ℤ tank.diameter.nano =
    subst (λ (o : Option ℕ). pos (if is_some o then 0 else 10 ^ 8) ≤ℤ tank.diameter.nano) none
    is.ranges.diameter.at_least in
    let narrow = is.ranges.diameter.at_most in
    record {
      without_curve = none;
      area = area-range (head_ticks (is_us_unit project.options.unit) tank.diameter.nano) tank.area
          (across-range (is_us_unit project.options.unit) tank.diameter.nano wide (omega (arith, ints, narrow)))
          is.area;
      levels = levels-range project.shapes.list tank is.ranges;
    }

by-shape : (project : Project) (tank : Tank) (shape : Option ℕ) → tank.shape ≡ shape → IsSoundTank project tank
    → MatchOption shape (IsCylinder tank) (λ s. (s < length project.shapes.list)
    × IsBasin tank (shape_points project s))
by-shape project tank None e is = cylinder-of project tank e is
by-shape project tank (Some n) e is =
    let named = subst (λ (o : Option ℕ). IfSome o (Numbers (λ (shape : ListView VolumePoint). IsShapeOf tank
    shape.list) project.shapes.list)) e is.ranges.shape in (
      named.in_range,
      record {
        shape = shape_of project tank n e is;
        levels = levels-range project.shapes.list tank is.ranges;
      },
    )

-- the tanks of a sound network
pub tank_of : (project : Project) → IsSound project → (k : ℕ) (tank : Tank) → slice_get project.tanks.list k ≡ Some tank
    → IsTankOf project tank
tank_of project sound k tank at = by-shape project tank tank.shape refl (sound_tank project sound k tank at)

-- the tank that was found is the only one of its number
pub of_each : (P : Tank → Type 0) (tanks : List Tank) (k : ℕ) (found each : Tank) → slice_get tanks k ≡ Some found
    → slice_get tanks k ≡ Some each → P found → P each
of_each P tanks k found each at also h = subst P (same_Some found each (sym at ∙ also)) h

-- ---- walls

pub walls_without : (project : Project) (tank : Tank) → tank.shape ≡ None → walls_of project tank ≡ cylinder tank
walls_without project tank e = ap (λ (o : Option ℕ). option_map_or (λ shape. Curve (shape_points project shape)) o
    (cylinder tank)) e

pub walls_with : (project : Project) (tank : Tank) (n : ℕ) → tank.shape ≡ Some n
    → walls_of project tank ≡ Curve (shape_points project n)
walls_with project tank n e = ap (λ (o : Option ℕ). option_map_or (λ shape. Curve (shape_points project shape)) o
    (cylinder tank)) e

pub is_cylinder : (project : Project) (tank : Tank) → tank.shape ≡ None → IsTankOf project tank → IsCylinder tank
is_cylinder project tank e is = subst (λ (o : Option ℕ). MatchOption o (IsCylinder tank)
    (λ s. (s < length project.shapes.list) × IsBasin tank (shape_points project s))) e is

pub is_basin : (project : Project) (tank : Tank) (n : ℕ) → tank.shape ≡ Some n → IsTankOf project tank
    → (n < length project.shapes.list) × IsBasin tank (shape_points project n)
is_basin project tank n e is = subst (λ (o : Option ℕ). MatchOption o (IsCylinder tank)
    (λ s. (s < length project.shapes.list) × IsBasin tank (shape_points project s))) e is

-- ---- stocks

pub next_held : (walls : Walls) (tank : Tank) (stocks : Stocks) (inflow : Interval) (seconds : ℕ)
    → IsVessel walls tank → AreHeld walls tank (next_stocks walls tank stocks inflow seconds)
next_held (Cylinder area) tank stocks inflow seconds vessel = record {
  level = next_within (Cylinder area) tank stocks inflow seconds vessel;
  volume = record {
    lo_above = omega (arith, ints);
    lo_below = omega (arith, ints);
    hi_above = omega (arith, ints);
    hi_below = omega (arith, ints);
  };
}
next_held (Curve points) tank stocks inflow seconds vessel = record {
  level = next_within (Curve points) tank stocks inflow seconds vessel;
  volume = volumes_within points tank stocks inflow seconds vessel;
}

pub carried_is : (walls : Walls) (tank : Tank) (stocks : Stocks) (inflow : Interval) (seconds : ℕ)
    → (carried_stocks walls tank stocks inflow seconds).level ≡ carried_levels walls tank stocks inflow seconds
carried_is (Cylinder area) tank stocks inflow seconds = refl
carried_is (Curve points) tank stocks inflow seconds = refl

-- a cylinder's volume plays no part
module _ (tank : Tank) (stock : Stock) (inflow : Interval) (target : ℤ) (cap e : ℕ) where
  pub earliest_without : (rising : Bool) → IsEarliestSecond (cylinder tank) tank (stocks_at stock.level) inflow target
      rising cap e
      → IsEarliestSecond (cylinder tank) tank (stocks_of stock) inflow target rising cap e
  earliest_without true first = first
  earliest_without false first = first

  pub latest_without : (rising : Bool) → IsLatestSecond (cylinder tank) tank (stocks_at stock.level) inflow target
      rising cap e
      → IsLatestSecond (cylinder tank) tank (stocks_of stock) inflow target rising cap e
  latest_without true first = first
  latest_without false first = first
