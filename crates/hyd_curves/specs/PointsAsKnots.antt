-- Points in ticks as the knots of a curve.
use Rattle.std.specs.Prelude.{◌^◌, ◌≤◌, unsigned_abs}
use Rattle.hyd_net.specs.Curves.{Knot}
use Rattle.hyd_curves.specs.declared.points_in_ticks.Ticks.{Ticks}

-- a place and a value of at most 10^18 ticks either way
pub record IsSmall (ticks : Ticks) : Type 0 where
  pub place : unsigned_abs ticks.place ≤ 10 ^ 18
  pub value : unsigned_abs ticks.value ≤ 10 ^ 18

abbrev pub knot_of : Ticks → Knot
knot_of ticks = record { place = ticks.place; value = ticks.value }
