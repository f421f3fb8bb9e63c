-- A tank with a volume curve of three lines, and numbers that no unit makes round.
use Rattle.std.specs.Prelude.{ℤ, pos, [], ◌∷◌, List, Some, false}
use Rattle.hyd_spec.specs.ProgramTypes.{Decimal, Tank, VolumePoint}
use Rattle.hyd_spec.specs.Tank.{Walls, Curve}
use Rattle.hyd_spec_certificates.specs.Interval.{Interval}
use Rattle.hyd_spec_certificates.specs.Stocks.{Stocks}

-- Levels in head ticks, volumes in volume ticks.
abbrev pub flask_points : List VolumePoint
flask_points = record { level = pos 1000000000000; volume = pos 7 }
    ∷ record { level = pos 20000000000003; volume = pos 300000000001 }
    ∷ record { level = pos 50000000000000; volume = pos 800000000011 }
    ∷ record { level = pos 90000000000007; volume = pos 2000000000003 }
    ∷ []

abbrev pub flask_walls : Walls
flask_walls = Curve flask_points

-- Its minimum and its maximum lie on the first and the last line.
abbrev pub flask : Decimal → Tank
flask diameter = record {
  bottom = pos 0;
  initial = pos 20000000000003;
  minimum = pos 3000000000001;
  maximum = pos 80000000000009;
  area = pos 0;
  diameter = diameter;
  shape = Some 0;
  overflow = false;
}

-- Stocks between two levels and two volumes.
abbrev pub stocks : ℤ → ℤ → ℤ → ℤ → Stocks
stocks low high less more = record { level = record { lo = low; hi = high }; volume = record { lo = less; hi = more } }

-- An inflow between two.
abbrev pub between : ℤ → ℤ → Interval
between least most = record { lo = least; hi = most }
