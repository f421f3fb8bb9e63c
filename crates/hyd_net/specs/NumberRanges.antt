-- Ranges of whole numbers, and of the quantities and numbers of a file.
use Rattle.std.specs.Prelude.{ℕ, ◌*◌, ◌^◌, ◌<◌, List, length, ℤ, pos, neg_ℤ, ◌≤ℤ◌}
use Rattle.std.specs.List.{HoldsAt}
use Rattle.hyd_num.specs.declared.decimals.Decimal.{Decimal}

-- z lies from low to high, both included
pub record Lies (low high z : ℤ) : Type 0 where
  pub at_least : low ≤ℤ z
  pub at_most : z ≤ℤ high

-- z lies from minus the limit to the limit
abbrev pub LiesWithin : ℕ → ℤ → Type 0
LiesWithin limit z = Lies (neg_ℤ (pos limit)) (pos limit) z

-- how far up or down a head, an elevation or a level goes, in head ticks of 10^-13 metres: 10,000 metres
abbrev pub head_limit : ℕ
head_limit = 10 ^ 17

-- the greatest flow either way, in flow ticks of 10^-7 cubic metres a day: 10^8 cubic metres a day
abbrev pub flow_limit : ℕ
flow_limit = 10 ^ 15

-- the greatest volume, in volume ticks of 10^-9 cubic metres: 10^9 cubic metres
abbrev pub volume_limit : ℕ
volume_limit = 10 ^ 18

-- how far up or down the head of a pump goes at no flow, in head ticks: 1,000 metres
abbrev pub shutoff_head_limit : ℕ
shutoff_head_limit = 10 ^ 16

-- the least by which a tank's maximum level exceeds its minimum, in head ticks: 0.01 foot
abbrev pub least_level_difference : ℕ
least_level_difference = 30480000000

-- the least by which what a tank holds at its maximum level exceeds what it holds at its minimum, in volume ticks of
-- 10^-9 cubic metres: a litre
abbrev pub least_volume_difference : ℕ
least_volume_difference = 10 ^ 6

-- a head, an elevation or a level in head ticks is in range
abbrev pub IsHead : ℤ → Type 0
IsHead ticks = LiesWithin head_limit ticks

-- a flow in flow ticks is in range
abbrev pub IsFlow : ℤ → Type 0
IsFlow ticks = LiesWithin flow_limit ticks

-- a setting or a multiplier in billionths: at least 0 and at most a whole number
abbrev pub IsUpTo : ℕ → ℤ → Type 0
IsUpTo most nano = Lies (pos 0) (pos (most * 10 ^ 9)) nano

-- a number of the file that is at least 0 and at most a whole number
abbrev pub IsNumberUpTo : ℕ → Decimal → Type 0
IsNumberUpTo most number = IsUpTo most number.nano

-- a number of the file that is above 0 and at most a whole number
abbrev pub IsPositiveUpTo : ℕ → Decimal → Type 0
IsPositiveUpTo most number = Lies (pos 1) (pos (most * 10 ^ 9)) number.nano

-- a number in range of a table, and a fact about what it numbers
pub record Numbers {X : Type 0} (P : X → Type 0) (table : List X) (number : ℕ) : Type 0 where
  pub in_range : number < length table
  pub holds : HoldsAt P table number
