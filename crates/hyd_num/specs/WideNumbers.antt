-- Numbers wider than 128 bits, in three parts of 56 bits, and how two numbers compare.
use Rattle.std.specs.Prelude.{◌≡◌, ℕ, ◌+◌, ◌*◌, ◌^◌, ◌<◌}
use Rattle.std.specs.declared.cmp.Ordering.{Ordering}
use Rattle.std.specs.declared.cmp.Ordering.TheVariants.{Less, Equal, Greater}
use Rattle.hyd_num.specs.declared.square_comparison.Wide.{Wide}

-- the number of three parts of 56 bits
abbrev pub value : Wide → ℕ
value x = x.high * 2 ^ 112 + x.middle * 2 ^ 56 + x.low

-- the lower parts have 56 bits
pub record HasParts (x : Wide) : Type 0 where
  pub middle : x.middle < 2 ^ 56
  pub low : x.low < 2 ^ 56

-- how x compares with y
abbrev pub IsOrder : ℕ → ℕ → Ordering → Type 0
IsOrder x y Less = x < y
IsOrder x y Equal = x ≡ y
IsOrder x y Greater = y < x
