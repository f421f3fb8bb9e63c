-- A cylinder two metres wide and ten metres high that fills or drains past 6.25 m, and controls on levels there.
use Rattle.std.specs.Prelude.{ℤ, pos, Bool, true, false, List, [], ◌∷◌, None}
use Rattle.hyd_spec.specs.ProgramTypes.{Decimal, Tank, Control, AtLevel, AtTime, Open, Closed}
use Rattle.hyd_spec_certificates.specs.Interval.{Interval, exactly}
use Rattle.hyd_spec_certificates.specs.Stocks.{Stocks}
use Rattle.hyd_spec_open_ends.specs.StocksOverLengths.{Arrival}

-- From one number to another.
abbrev pub between : ℤ → ℤ → Interval
between lo hi = record { lo = lo; hi = hi }

-- Its stocks from one level to another.
abbrev pub stocks : ℤ → ℤ → Stocks
stocks lo hi = record { level = between lo hi; volume = exactly (pos 0) }

-- The tank, empty at first.
abbrev pub tower : Decimal → Tank
tower diameter = record {
  bottom = pos 0;
  initial = pos 0;
  minimum = pos 0;
  maximum = pos 100000000000000;
  area = pos 3141592654;
  diameter = diameter;
  shape = None;
  overflow = false;
}

-- 6.25 m has just been reached from below, or from above.
abbrev pub from_below : Bool → Arrival
from_below not_before = record { target = pos 62500000000000; rising = true; not_before = not_before }

abbrev pub from_above : Bool → Arrival
from_above not_before = record { target = pos 62500000000000; rising = false; not_before = not_before }

-- Controls of two tanks by levels, and one by time.
abbrev pub controls : List Control
controls =
    (record { link = 0; to = Open; when = AtLevel 0 true (pos 62500000000000) })
    ∷ (record { link = 0; to = Closed; when = AtLevel 0 true (pos 62600000000000) })
    ∷ (record { link = 1; to = Closed; when = AtTime 60 })
    ∷ (record { link = 1; to = Open; when = AtLevel 1 false (pos 63000000000000) }) ∷ []
