-- Strides: how far leaps go on along the way that a round went.
-- Source: this program's.
use Rattle.std.specs.Prelude.{ℕ, ◌+◌, ◌-◌, ◌*◌, ◌^◌, ◌<◌, ◌≤◌, ℤ, pos, ◌-ℤ◌, ◌≤ℤ◌, unsigned_abs, Bool, true, false}
use Rattle.std.specs.Prelude.{List, length}
use Rattle.hyd_spec.specs.Assignment.{head_at}
use Rattle.hyd_spec_certificates.specs.declared.Side.{Side}
use Rattle.hyd_theorems_on_definitions.specs.Sides.{along}
use Rattle.hyd_sweep.specs.declared.strides.Stride.{Stride}

-- ---- one stride

-- a stride goes 1 to 2^18 times as far as the way, or some part of that
pub record IsStride (stride : Stride) : Type 0 where
  pub some : 1 ≤ stride.times
  pub most : stride.times ≤ 2 ^ 18
  pub parts : 1 ≤ stride.parts

-- how many times as far as the way a stride and those after it go at most, with so many tries left: while strides grow,
-- all of those from it on to the longest and back; while they shrink, less than twice the stride, and 1 for each try
abbrev pub reach_of : Bool → ℕ → ℕ → ℕ
reach_of true times left = (3 * 2 ^ 18 - times) + left
reach_of false times left = 2 * times + left

abbrev pub reach : Stride → ℕ → ℕ
reach stride left = reach_of stride.grows stride.times left

-- ---- vectors

-- each head of v lies at most so many times its way farther out than that of u
abbrev pub LiesWithin : Side → ℕ → List ℤ → List ℤ → List ℤ → Type 0
LiesWithin side times ways u v = (i : ℕ) → i < length u
    → (along side (head_at v i) -ℤ along side (head_at u i)) ≤ℤ pos (times * unsigned_abs (head_at ways i))

-- after a round from u to w each head goes on to v by less than 2^20 times as far as the round moved it, and stays
-- where it didn't
abbrev pub GoesOnWithin : Side → List ℤ → List ℤ → List ℤ → Type 0
GoesOnWithin side u w v = (i : ℕ) → i < length w
    → (along side (head_at v i) -ℤ along side (head_at w i))
    ≤ℤ pos ((2 ^ 20 - 1) * unsigned_abs (head_at w i -ℤ head_at u i))
