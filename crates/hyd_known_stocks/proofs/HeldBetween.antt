-- Volumes at levels within the bounds of a tank lie within its bounds, in the order of the levels.
use Rattle.std.proofs.Common.{◌≡◌, ℤ, ◌≤ℤ◌, arith, subst, sym, refl}
use Rattle.std.specs.Prelude.{Option, Some, None}
use Rattle.std.proofs.lemmas.Int.{ints}
use Rattle.hyd_net.specs.NumberRanges.{Lies}
use Rattle.hyd_spec.specs.ProgramTypes.{Project, Tank}
use Rattle.hyd_spec.specs.Tank.{Walls, walls_of, shape_points, kept_volume}
use Rattle.hyd_spec_certificates.specs.Interval.{Interval}
use Rattle.hyd_tank.specs.StockIntervals.{AreHeld, IsTankOf}
use Rattle.hyd_tank.proofs.TanksOfSoundNetworks.{walls_without, walls_with, is_basin}
use Rattle.hyd_open_stocks.proofs.LevelsOnCurve.{volumes_in_order}
use Rattle.hyd_known_stocks.specs.KnownStocks.{stocks_between}

-- what is kept doesn't fall with the level
abbrev pub KeptInOrder : Walls → Type 0
KeptInOrder walls = (x y : ℤ) → x ≤ℤ y → kept_volume walls x ≤ℤ kept_volume walls y

pub in_order : (project : Project) (tank : Tank) → IsTankOf project tank → KeptInOrder (walls_of project tank)
in_order project tank is = by-shape tank.shape refl
  where
    by-shape : (o : Option _) → tank.shape ≡ o → KeptInOrder (walls_of project tank)
    by-shape None e = subst KeptInOrder (sym (walls_without project tank e)) (λ x y le. omega (arith, ints))
    by-shape (Some n) e = subst KeptInOrder (sym (walls_with project tank n e))
        (λ x y le. (volumes_in_order (shape_points project n) x y (is_basin project tank n e is).1.shape.curve le).0)

pub held_between : (walls : Walls) (tank : Tank) (level : Interval) → KeptInOrder walls
    → Lies tank.minimum tank.maximum level.lo → Lies tank.minimum tank.maximum level.hi
    → AreHeld walls tank (stocks_between walls level)
held_between walls tank level order low high = record {
  level = record {
    lo_above = low.at_least;
    lo_below = low.at_most;
    hi_above = high.at_least;
    hi_below = high.at_most;
  };
  volume = record {
    lo_above = order tank.minimum level.lo low.at_least;
    lo_below = order level.lo tank.maximum low.at_most;
    hi_above = order tank.minimum level.hi high.at_least;
    hi_below = order level.hi tank.maximum high.at_most;
  };
}
