-- The knots of a law by straight lines.
use Rattle.std.specs.Prelude.{◌^◌, ◌≤◌, ℤ, pos, ◌≡◌, ◌<◌, unsigned_abs, List, length, map, All}
use Rattle.hyd_net.specs.Curves.{Knot as Place}
use Rattle.hyd_num.specs.Rational.{Rational}
use Rattle.hyd_theorems_on_definitions.specs.SoundLawsAndGrids.{AreInOrder}
use Rattle.hyd_law.specs.declared.law_kinds.Knot.{Knot}

-- the flow of a knot by its head difference
abbrev pub place_of : Knot → Place
place_of knot = record { place = knot.head; value = knot.flow }

-- the flows by the head differences
abbrev pub places : List Knot → List Place
places knots = map place_of knots

-- a head difference of at most 10^18 ticks and a flow of at most 10^16 ticks, either way
pub record IsKnot (knot : Knot) : Type 0 where
  pub head_range : unsigned_abs knot.head ≤ 10 ^ 18
  pub flow_range : unsigned_abs knot.flow ≤ 10 ^ 16

-- at least two knots in order
pub record IsCurve (knots : List Knot) : Type 0 where
  pub two : 2 ≤ length knots
  pub ordered : AreInOrder (places knots)
  pub ranges : All IsKnot knots

-- a numerator and a denominator above 0 are those of a value
pub record IsValue (numerator denominator : ℤ) (x : Rational) : Type 0 where
  pub num_is : numerator ≡ x.num
  pub den_is : denominator ≡ pos x.den
  pub above : 0 < x.den
