-- A tank with a volume curve that fills or drains past 6.25 m, or to a bound where its volume is no whole number.
use Rattle.std.specs.Prelude.{ℤ, pos, Bool, true, false, List, [], ◌∷◌, Some}
use Rattle.hyd_spec.specs.ProgramTypes.{Decimal, Tank, VolumePoint}
use Rattle.hyd_spec.specs.Tank.{Walls, Curve}
use Rattle.hyd_spec_certificates.specs.Interval.{exactly}
use Rattle.hyd_spec_certificates.specs.Stocks.{Stocks}
use Rattle.hyd_spec_open_ends.specs.StocksOverLengths.{Arrival}
use Rattle.hyd_cases_of_open_ends.specs.FillingTank.{between}

-- From 0 to 4 m it holds 12.000000001 cubic metres, up to 12 m 58.830987654.
abbrev pub curve : List VolumePoint
curve =
    (record { level = pos 0; volume = pos 0 })
    ∷ (record { level = pos 40000000000000; volume = pos 12000000001 })
    ∷ (record { level = pos 120000000000000; volume = pos 58830987654 }) ∷ []

abbrev pub walls : Walls
walls = Curve curve

-- The tank, from 1 m to 10 m: 3.00000000025 and 47.12324074075 cubic metres.
abbrev pub basin : Decimal → Tank
basin diameter = record {
  bottom = pos 0;
  initial = pos 50000000000000;
  minimum = pos 10000000000000;
  maximum = pos 100000000000000;
  area = pos 3141592654;
  diameter = diameter;
  shape = Some 0;
  overflow = false;
}

-- Its stocks from one volume to another, at a level that nothing is asked of.
abbrev pub holding : ℤ → ℤ → Stocks
holding lo hi = record { level = exactly (pos 50000000000000); volume = between lo hi }

-- Its stocks from levels and from volumes.
abbrev pub stocks_of : ℤ → ℤ → ℤ → ℤ → Stocks
stocks_of low high lo hi = record { level = between low high; volume = between lo hi }

-- A bound has just been reached.
abbrev pub filled : Bool → Arrival
filled not_before = record { target = pos 100000000000000; rising = true; not_before = not_before }

abbrev pub emptied : Bool → Arrival
emptied not_before = record { target = pos 10000000000000; rising = false; not_before = not_before }
