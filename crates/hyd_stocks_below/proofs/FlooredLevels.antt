-- Exact levels, rounded down.
use Rattle.std.proofs.Common.{◌≡◌, ℕ, ◌*◌, ◌<◌, ◌≤◌, ℤ, pos, ◌+ℤ◌, ◌*ℤ◌, ◌≤ℤ◌, ◌<ℤ◌, unsigned_abs, List, Bool}
use Rattle.std.proofs.Common.{true, false, refl, arith}
use Rattle.std.specs.Prelude.{int_le}
use Rattle.std.proofs.lemmas.Int.{ints}
use Rattle.hyd_num.proofs.Integers.{times_plus, times_one, times_rises, times_reflects, one_times}
use Rattle.hyd_num.specs.Rational.{Rational, floor, whole}
use Rattle.hyd_net.specs.NumberRanges.{head_limit}
use Rattle.hyd_spec.specs.ProgramTypes.{Tank, VolumePoint}
use Rattle.hyd_spec.specs.Tank.{Walls, Curve, Stock, level_bounds, content_bounds, exact_content, level_at}
use Rattle.hyd_spec.specs.Tank.{carried_level, placed}
use Rattle.hyd_spec_witnesses.specs.MiddleCandidate.{halves, level_below}
use Rattle.hyd_lemmas.proofs.BooleanTests.{le-yes, le-no}
use Rattle.hyd_lemmas.proofs.Integers.{exchanged, floor_low, floor_greatest}
use Rattle.hyd_theorems_on_definitions.specs.SoundTanks.{IsVessel}
use Rattle.hyd_theorems_on_definitions.proofs.ValuesAtTwoScales.{Leads}
use Rattle.hyd_theorems_on_definitions.proofs.ValuesByContent.{FitsAt, placed-rises, placed-most, placed-least, placed-some}
use Rattle.hyd_theorems_on_definitions.proofs.StocksInIntervals.{exact-some, level-fits-at, level-leads, carried-some}
use Rattle.hyd_tank.specs.StockIntervals.{IsTankOfRange}
use Rattle.hyd_stocks_at_scale.specs.declared.carried_levels.ExactLevel.{ExactLevel}
use Rattle.hyd_stocks_at_scale.specs.ExactLevels.{IsLevel}
use Rattle.hyd_stocks_at_scale.specs.Motions.{content_limit}

-- ---- whole parts

less-by : (s : ℕ) (a b : ℤ) (t : Bool) → int_le b a ≡ t → (pos s *ℤ a) <ℤ (pos s *ℤ b) → a <ℤ b
less-by s a b true e h = absurd (let r = times_rises s b a (le-yes b a e) in omega (arith, ints, r, h))
less-by s a b false e h = le-no b a e

pub less : (s : ℕ) (a b : ℤ) → (pos s *ℤ a) <ℤ (pos s *ℤ b) → a <ℤ b
less s a b h = less-by s a b (int_le b a) refl h

-- the whole number below a value and less than one below it
pub floor_of : (x : Rational) (z : ℤ) → 0 < x.den → (pos x.den *ℤ z) ≤ℤ x.num → x.num <ℤ (pos x.den *ℤ (z +ℤ pos 1))
    → z ≡ floor x
floor_of x z some low high =
    let up = floor_greatest x z some low in
    let under = floor_low x some in
    let down = less x.den (floor x) (z +ℤ pos 1) (omega (arith, ints, under, high)) in
    omega (arith, ints, up, down)

-- the whole part of an exact level
pub whole_part : (level : ExactLevel) (x : Rational) → 0 < x.den → IsLevel level x → level.whole ≡ floor x
whole_part level x some is =
    let value = (pos level.of *ℤ level.whole) +ℤ pos level.part in
    let p = is.proper in
    let same = is.same in
    let some-of : 0 < level.of = omega (arith, p) in
    let low = times_rises x.den (pos level.of *ℤ level.whole) value (omega (arith, ints)) in
    let next : (value +ℤ pos 1) ≤ℤ (pos level.of *ℤ (level.whole +ℤ pos 1)) =
    omega (arith, ints, p, times_plus level.of level.whole (pos 1), times_one level.of) in
    let high = times_rises x.den (value +ℤ pos 1) (pos level.of *ℤ (level.whole +ℤ pos 1)) next in
    let from = times_reflects level.of (pos x.den *ℤ level.whole) x.num some-of
    (omega (arith, ints, low, same, exchanged level.of x.den level.whole)) in
    let to = less level.of x.num (pos x.den *ℤ (level.whole +ℤ pos 1))
    (omega (
      arith,
      ints,
      high,
      same,
      some,
      times_plus x.den value (pos 1),
      times_one x.den,
      exchanged level.of x.den (level.whole +ℤ pos 1),
    )) in
    floor_of x level.whole some from to

-- ---- values that are one

-- at one scale, a value that is at most another one is so when both are rounded down
pub floor_rises : (S : ℕ) (r s : Rational) → 0 < S → 0 < r.den → 0 < s.den → Leads S S r s → floor r ≤ℤ floor s
floor_rises S r s some r-some s-some leads =
    let low = floor_low r r-some in
    let f = floor r in
    let c = leads.crossed in
    let crossed = times_reflects S (pos s.den *ℤ r.num) (pos r.den *ℤ s.num) some
    (omega (arith, ints, c, exchanged S s.den r.num, exchanged S r.den s.num)) in
    let under = times_rises s.den (pos r.den *ℤ f) r.num low in
    floor_greatest s f s-some (times_reflects r.den (pos s.den *ℤ f) s.num r-some
    (omega (arith, ints, under, crossed, exchanged s.den r.den f)))

-- a stock with this volume and no inflow has this exact volume
module _ (points : List VolumePoint) (tank : Tank) (vessel : IsVessel (Curve points) tank) (level volume : ℤ) where
  abbrev filled : Stock
  filled = record { level = level; volume = volume }

  abbrev exact : Rational
  exact = exact_content (Curve points) filled (pos 0) 0

  at-once : (pos 864 *ℤ volume) ≡ exact.num
  at-once = omega (arith, ints)

  up : Leads halves halves exact (whole volume)
  up = record { crossed = omega (arith, ints, at-once, one_times (pos halves *ℤ exact.num), exchanged halves 864 volume) }

  down : Leads halves halves (whole volume) exact
  down = record {
    crossed = omega (arith, ints, at-once, one_times (pos halves *ℤ exact.num), exchanged halves 864 volume);
  }

  some : 0 < exact.den
  some = exact-some (Curve points) filled (pos 0) 0 vessel.holds_water

  abbrev low : Rational
  low = carried_level halves (Curve points) tank filled (pos 0) 0

  abbrev high : Rational
  high = placed halves (content_bounds (Curve points) tank) (level_bounds tank) (whole volume)
      (level_at halves (Curve points) tank (whole volume))

  exact-fits : FitsAt halves (content_bounds (Curve points) tank) (level_bounds tank) exact
      (level_at halves (Curve points) tank exact)
  exact-fits = level-fits-at halves (Curve points) tank exact vessel some

  whole-fits : FitsAt halves (content_bounds (Curve points) tank) (level_bounds tank) (whole volume)
      (level_at halves (Curve points) tank (whole volume))
  whole-fits = level-fits-at halves (Curve points) tank (whole volume) vessel (omega arith)

  low-some : 0 < low.den
  low-some = carried-some halves (Curve points) tank filled (pos 0) 0 vessel

  high-some : 0 < high.den
  high-some = placed-some halves (content_bounds (Curve points) tank) (level_bounds tank) (whole volume)
      (level_at halves (Curve points) tank (whole volume)) whole-fits.value_some

  -- the level carried at once is that which goes with the volume
  pub level_at_once : floor low ≡ level_below points tank volume
  level_at_once =
      let up-level = level-leads halves halves (Curve points) tank exact (whole volume) vessel (omega arith)
      (omega arith) some (omega arith) up in
      let down-level = level-leads halves halves (Curve points) tank (whole volume) exact vessel (omega arith)
      (omega arith) (omega arith) some down in
      let a = floor_rises halves low high (omega arith) low-some high-some
      (placed-rises halves halves (content_bounds (Curve points) tank) (level_bounds tank) exact (whole volume)
      (level_at halves (Curve points) tank exact) (level_at halves (Curve points) tank (whole volume)) (omega arith)
      (omega arith) vessel.ordered exact-fits whole-fits up up-level) in
      let b = floor_rises halves high low (omega arith) high-some low-some
      (placed-rises halves halves (content_bounds (Curve points) tank) (level_bounds tank) (whole volume) exact
      (level_at halves (Curve points) tank (whole volume)) (level_at halves (Curve points) tank exact) (omega arith)
      (omega arith) vessel.ordered whole-fits exact-fits down down-level) in
      omega (arith, ints, a, b)

-- ---- sizes

-- a carried level, rounded down, lies within bounds
pub carried_small : (walls : Walls) (tank : Tank) (stock : Stock) (q : ℤ) (seconds : ℕ) → IsVessel walls tank
    → IsTankOfRange tank → unsigned_abs (floor (carried_level halves walls tank stock q seconds)) ≤ content_limit
carried_small walls tank stock q seconds vessel range =
    let contents = content_bounds walls tank in
    let x = exact_content walls stock q seconds in
    let level = level_at halves walls tank x in
    let r = carried_level halves walls tank stock q seconds in
    let r-some = carried-some halves walls tank stock q seconds vessel in
    let fits = level-fits-at halves walls tank x vessel (exact-some walls stock q seconds vessel.holds_water) in
    let least = placed-least halves contents (level_bounds tank) x level vessel.ordered fits in
    let most = placed-most halves contents (level_bounds tank) x level vessel.ordered fits in
    let from = floor_greatest r (pos halves *ℤ tank.minimum) r-some least in
    let under = floor_low r r-some in
    let to = times_reflects r.den (floor r) (pos halves *ℤ tank.maximum) r-some (omega (arith, ints, under, most)) in
    let lowest = range.lowest in
    let highest = range.highest in
    let bottom = times_rises halves (pos 0) tank.minimum lowest in
    let top = times_rises halves tank.maximum (pos (2 * head_limit)) highest in
    omega (arith, ints, from, to, bottom, top)
