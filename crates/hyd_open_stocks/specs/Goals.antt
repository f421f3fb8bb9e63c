-- Goals: the stocks at which a tank has met a level, within the tank's bounds.
use Rattle.std.specs.Prelude.{◌≡◌, ℤ, pos, ◌-ℤ◌, ◌≤ℤ◌, Bool, true, false}
use Rattle.std.specs.Int.{int_max, int_min}
use Rattle.hyd_spec.specs.ProgramTypes.{Tank}
use Rattle.hyd_spec.specs.Tank.{Walls, Cylinder, Curve, Bounds, content_bounds}
use Rattle.hyd_spec_certificates.specs.Interval.{Interval}
use Rattle.hyd_spec_certificates.specs.Stocks.{Stocks, exact_least, exact_greatest}
use Rattle.hyd_spec_open_ends.specs.StocksOverLengths.{Ends, goal_stocks, goal_volume, least_content, greatest_content}
use Rattle.hyd_tank.specs.StockIntervals.{stocks_of, AreHeld}
use Rattle.hyd_open_stocks.specs.declared.goals.Goal.{Goal}

-- the levels of a cylinder, the volumes of a tank with a volume curve
abbrev pub contents_in : Walls → Stocks → Interval
contents_in (Cylinder area) stocks = stocks.level
contents_in (Curve points) stocks = stocks.volume

-- both ends held within bounds
abbrev pub held : Bounds → Interval → Interval
held bounds x = record {
  lo = int_min (int_max x.lo bounds.least) bounds.most;
  hi = int_min (int_max x.hi bounds.least) bounds.most;
}

-- with a volume curve the least volume is within the bounds, and the greatest exceeds the held one by so much; of a
-- cylinder nothing is said to be beyond
abbrev pub IsBeyond : Walls → Tank → Bool → ℤ → Goal → Type 0
IsBeyond (Cylinder area) tank rising target goal = goal.beyond ≡ pos 0
IsBeyond (Curve points) tank rising target goal =
    (goal.stock.volume.lo ≡ (goal_volume points tank rising target).lo)
    × (goal.beyond ≡ (goal_volume points tank rising target).hi -ℤ goal.stock.volume.hi)

-- the goal is the stock at which the tank has met a level, held within the tank's bounds
pub record IsGoal (walls : Walls) (tank : Tank) (rising : Bool) (target : ℤ) (goal : Goal) : Type 0 where
  pub within : AreHeld walls tank (stocks_of goal.stock)
  pub contents : contents_in walls (stocks_of goal.stock)
      ≡ held (content_bounds walls tank) (contents_in walls (goal_stocks walls tank rising target))
  pub not_short : pos 0 ≤ℤ goal.beyond
  pub beyond : IsBeyond walls tank rising target goal

-- the ends of what goes with the contents at which the level is met
pub record AreAtOnce (ends : Ends) (walls : Walls) (tank : Tank) (rising : Bool) (target : ℤ) (x : Interval) : Type 0
  where
    pub lo : x.lo ≡ ends.lower (least_content walls (goal_stocks walls tank rising target))
    pub hi : x.hi ≡ ends.upper (greatest_content walls (goal_stocks walls tank rising target))

-- the end of what goes with the contents a second of an inflow later, on the side to which the tank moves
abbrev pub IsLater : Ends → Walls → Tank → Interval → Bool → ℤ → Interval → Type 0
IsLater ends walls tank inflow true target x =
    x.hi ≡ ends.upper (exact_greatest walls (goal_stocks walls tank true target) inflow 1)
IsLater ends walls tank inflow false target x =
    x.lo ≡ ends.lower (exact_least walls (goal_stocks walls tank false target) inflow 1)
