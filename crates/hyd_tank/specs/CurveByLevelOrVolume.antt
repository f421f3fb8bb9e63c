-- A volume curve as it is read: by its levels or by its volumes.
use Rattle.std.specs.Prelude.{ℕ, ◌*◌, ◌^◌, ◌<◌, ◌≤◌, ◌-◌, ℤ, pos, ◌+ℤ◌, ◌-ℤ◌, ◌*ℤ◌, ◌<ℤ◌, ◌≤ℤ◌, unsigned_abs, List, map}
use Rattle.std.specs.Prelude.{length}
use Rattle.std.specs.List.{HoldsAt}
use Rattle.hyd_num.specs.Rational.{Rational}
use Rattle.hyd_net.specs.Curves.{Knot as Place, on_line, value_at}
use Rattle.hyd_spec.specs.ProgramTypes.{VolumePoint}
use Rattle.hyd_tank.specs.declared.volume_curve.Known.{Known}
use Rattle.hyd_tank.specs.declared.volume_curve.Known.TheVariants.{Level, Volume}
use Rattle.hyd_tank.specs.declared.volume_curve.Knot.{Knot}
use Rattle.hyd_tank.specs.declared.volume_curve.Mixed.{Mixed}

-- a knot as the definitions have it
abbrev pub place_of : Knot → Place
place_of knot = record { place = knot.place; value = knot.value }

-- a point by its level or by its volume
abbrev pub knot_by : Known → VolumePoint → Place
knot_by Level point = record { place = point.level; value = point.volume }
knot_by Volume point = record { place = point.volume; value = point.level }

abbrev pub knots_by : Known → List VolumePoint → List Place
knots_by known points = map (knot_by known) points

-- the number that a mixed number stands for
abbrev pub value_of : Mixed → Rational
value_of mixed = record { num = (pos mixed.of *ℤ mixed.whole) +ℤ pos mixed.part; den = mixed.of }

-- a number of times that value
abbrev pub times_value : ℕ → Mixed → Rational
times_value times mixed = record { num = pos times *ℤ (value_of mixed).num; den = mixed.of }

-- the value in ticks at a place of x / scale
abbrev pub value_in : ℕ → List Place → ℤ → Rational
value_in scale knots x = let value = value_at scale knots x in record { num = value.num; den = value.den * scale }

-- the same on the line of two knots
abbrev pub line_in : ℕ → Place → Place → ℤ → Rational
line_in scale first second x = let value = on_line scale first second x in
    record { num = value.num; den = value.den * scale }

-- knots next to each other on a volume curve
pub record AreNeighbours (first second : Place) : Type 0 where
  pub apart : first.place <ℤ second.place
  pub rising : first.value ≤ℤ second.value
  pub first_place : unsigned_abs first.place ≤ 10 ^ 18
  pub second_place : unsigned_abs second.place ≤ 10 ^ 18
  pub whole : unsigned_abs first.value ≤ 10 ^ 18
  pub rise : unsigned_abs (second.value -ℤ first.value) ≤ 10 ^ 18
  pub small : unsigned_abs (second.place -ℤ first.place) * unsigned_abs (second.value -ℤ first.value) ≤ 2 * 10 ^ 35

-- a mixed number that stays small when it is taken `times` times
pub record IsMixed (times : ℕ) (mixed : Mixed) : Type 0 where
  pub some : 0 < mixed.of
  pub whole : unsigned_abs mixed.whole ≤ 10 ^ 18
  pub share : mixed.part ≤ 10 ^ 18 * mixed.of
  pub small : times * mixed.part ≤ 2 * 10 ^ 38

-- the value is at least a number, or at most one
abbrev pub IsAtLeast : ℤ → Mixed → Type 0
IsAtLeast ticks mixed = (pos mixed.of *ℤ ticks) ≤ℤ (value_of mixed).num

abbrev pub IsAtMost : ℤ → Mixed → Type 0
IsAtMost ticks mixed = (value_of mixed).num ≤ℤ (pos mixed.of *ℤ ticks)

-- x / scale lies from a knot on, or up to one
abbrev pub IsFrom : ℕ → ℤ → Place → Type 0
IsFrom scale x knot = (pos scale *ℤ knot.place) ≤ℤ x

abbrev pub IsUpTo : ℕ → ℤ → Place → Type 0
IsUpTo scale x knot = x ≤ℤ (pos scale *ℤ knot.place)

-- x / scale lies on a curve
pub record IsOnCurve (known : Known) (scale : ℕ) (points : List VolumePoint) (x : ℤ) : Type 0 where
  pub from_first : HoldsAt (λ point. IsFrom scale x (knot_by known point)) points 0
  pub to_last : HoldsAt (λ point. IsUpTo scale x (knot_by known point)) points (length points - 1)
