-- How the content of a tank moves at a scale, in whole numbers.
use Rattle.std.specs.Prelude.{◌≡◌, ℕ, ◌*◌, ◌^◌, ◌<◌, ◌≤◌, ℤ, pos, ◌+ℤ◌, ◌*ℤ◌, ◌≤ℤ◌, unsigned_abs, ◌↔◌}
use Rattle.hyd_num.specs.Rational.{Rational}
use Rattle.hyd_net.specs.NumberRanges.{Lies}
use Rattle.hyd_spec.specs.Tank.{Stock as OneStock, Walls, Cylinder, Curve, exact_content}
use Rattle.hyd_stocks_at_scale.specs.declared.motions.Stock.{Stock}
use Rattle.hyd_stocks_at_scale.specs.declared.motions.Motion.{Motion}

-- the stock that the code's stands for
abbrev pub stock_of : Stock → OneStock
stock_of stock = record { level = stock.level; volume = stock.volume }

-- ---- ranges

-- at least each content of a tank, in parts of a tick at each scale, and those near it
abbrev pub content_limit : ℕ
content_limit = 1100 * 10 ^ 18

-- the same in shares
abbrev pub share_limit : ℕ
share_limit = 33 * 10 ^ 36

-- at least each inflow of a tank by flows of links that a witness is met by
abbrev pub inflow_limit : ℕ
inflow_limit = 5 * 10 ^ 26

-- at least what such an inflow adds to a content each second, in shares
abbrev pub rate_limit : ℕ
rate_limit = 312500000000 * inflow_limit

-- a stock that a tank may have, at each scale
pub record IsSmallStock (stock : Stock) : Type 0 where
  pub level : unsigned_abs stock.level ≤ content_limit
  pub volume : unsigned_abs stock.volume ≤ content_limit

-- ---- motions

-- how many shares of a content make a part of a tick: a flow tick for a second is 312,500,000,000 of 27 times the area
-- for a level, and one of 864 for a volume
abbrev pub breadth_of : Walls → ℤ
breadth_of (Cylinder area) = pos (27 * area)
breadth_of (Curve points) = pos 864

-- a value is so many shares, of which `breadth` make one
pub record IsInShares (breadth shares : ℤ) (x : Rational) : Type 0 where
  pub some : 0 < x.den
  pub same : pos x.den *ℤ shares ≡ breadth *ℤ x.num

-- the shares after some seconds
abbrev pub exact_shares : Motion → ℕ → ℤ
exact_shares motion seconds = motion.start +ℤ (pos seconds *ℤ motion.rate)

-- a motion whose products fit
pub record IsMotion (motion : Motion) : Type 0 where
  pub breadth : Lies (pos 1) (pos (3 * 10 ^ 16)) motion.breadth
  pub start : unsigned_abs motion.start ≤ share_limit
  pub rate : unsigned_abs motion.rate ≤ rate_limit

-- a stock's content moves so under an inflow
pub record Moves (walls : Walls) (stock : OneStock) (q : ℤ) (motion : Motion) : Type 0 where
  pub ranges : IsMotion motion
  pub breadth : motion.breadth ≡ breadth_of walls
  pub exact : (seconds : ℕ) → IsInShares motion.breadth (exact_shares motion seconds)
      (exact_content walls stock q seconds)

-- a number lies on the same side as the exact one of each number of at most 10^38
pub record LiesAs (exact z : ℤ) : Type 0 where
  pub at_least : (y : ℤ) → unsigned_abs y ≤ 10 ^ 38 → (y ≤ℤ z) ↔ (y ≤ℤ exact)
  pub at_most : (y : ℤ) → unsigned_abs y ≤ 10 ^ 38 → (z ≤ℤ y) ↔ (exact ≤ℤ y)
