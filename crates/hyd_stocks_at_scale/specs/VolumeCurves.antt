-- A volume curve as it is read at a scale.
use Rattle.std.specs.Prelude.{ℕ, ◌*◌, ◌^◌, ◌<◌, ◌≤◌, ◌-◌, ℤ, pos, ◌+ℤ◌, ◌-ℤ◌, ◌*ℤ◌, ◌<ℤ◌, ◌≤ℤ◌, unsigned_abs}
use Rattle.std.specs.Prelude.{List, map, length}
use Rattle.std.specs.List.{HoldsAt}
use Rattle.hyd_num.specs.Rational.{Rational}
use Rattle.hyd_net.specs.Curves.{Knot as Place}
use Rattle.hyd_spec.specs.ProgramTypes.{VolumePoint}
use Rattle.hyd_stocks_at_scale.specs.declared.volume_curve.Known.{Known}
use Rattle.hyd_stocks_at_scale.specs.declared.volume_curve.Known.TheVariants.{Level, Volume}
use Rattle.hyd_stocks_at_scale.specs.declared.volume_curve.Knot.{Knot}
use Rattle.hyd_stocks_at_scale.specs.declared.volume_curve.Mixed.{Mixed}

-- the most parts that a tick is taken in: 864 of each of 1,024
abbrev pub finest : ℕ
finest = 884736

-- a knot as the definitions have it
abbrev pub place_of : Knot → Place
place_of knot = record { place = knot.place; value = knot.value }

-- a point by its level or by its volume
abbrev pub knot_by : Known → VolumePoint → Place
knot_by Level point = record { place = point.level; value = point.volume }
knot_by Volume point = record { place = point.volume; value = point.level }

abbrev pub knots_by : Known → List VolumePoint → List Place
knots_by known points = map (knot_by known) points

-- knots next to each other on a volume curve
pub record AreNeighbours (first second : Place) : Type 0 where
  pub apart : first.place <ℤ second.place
  pub rising : first.value ≤ℤ second.value
  pub first_place : unsigned_abs first.place ≤ 10 ^ 18
  pub second_place : unsigned_abs second.place ≤ 10 ^ 18
  pub first_value : unsigned_abs first.value ≤ 10 ^ 18
  pub second_value : unsigned_abs second.value ≤ 10 ^ 18
  pub width : unsigned_abs (second.place -ℤ first.place) ≤ 10 ^ 18
  pub rise : unsigned_abs (second.value -ℤ first.value) ≤ 10 ^ 18
  pub small : unsigned_abs (second.place -ℤ first.place) * unsigned_abs (second.value -ℤ first.value) ≤ 2 * 10 ^ 35

-- x parts lie from a knot on, or up to one
abbrev pub IsFrom : ℕ → ℤ → Place → Type 0
IsFrom scale x knot = (pos scale *ℤ knot.place) ≤ℤ x

abbrev pub IsUpTo : ℕ → ℤ → Place → Type 0
IsUpTo scale x knot = x ≤ℤ (pos scale *ℤ knot.place)

-- x parts lie on a curve
pub record IsOnCurve (known : Known) (scale : ℕ) (points : List VolumePoint) (x : ℤ) : Type 0 where
  pub from_first : HoldsAt (λ point. IsFrom scale x (knot_by known point)) points 0
  pub to_last : HoldsAt (λ point. IsUpTo scale x (knot_by known point)) points (length points - 1)

-- the number that a mixed number stands for
abbrev pub value_of : Mixed → Rational
value_of mixed = record { num = (pos mixed.of *ℤ mixed.whole) +ℤ pos mixed.part; den = mixed.of }

-- a number of times that value
abbrev pub times_value : ℕ → Mixed → Rational
times_value times mixed = record { num = pos times *ℤ (value_of mixed).num; den = mixed.of }

-- a mixed number of a size that a curve can give
pub record IsMixed (mixed : Mixed) : Type 0 where
  pub proper : mixed.part < mixed.of
  pub whole : unsigned_abs mixed.whole ≤ 2 * 10 ^ 24
  pub of : mixed.of ≤ 10 ^ 18

-- the value is at least a number of ticks in parts, or at most one
abbrev pub IsAtLeast : ℕ → ℤ → Mixed → Type 0
IsAtLeast scale ticks mixed = (pos mixed.of *ℤ (pos scale *ℤ ticks)) ≤ℤ (value_of mixed).num

abbrev pub IsAtMost : ℕ → ℤ → Mixed → Type 0
IsAtMost scale ticks mixed = (value_of mixed).num ≤ℤ (pos mixed.of *ℤ (pos scale *ℤ ticks))
