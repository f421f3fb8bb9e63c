-- Contents of tanks in whole ticks and in parts of them.
use Rattle.std.specs.Prelude.{ℕ, ◌*◌, ◌^◌, ◌≤◌, ◌⊎◌, ◌≡◌, ℤ, pos, ◌+ℤ◌, ◌*ℤ◌, ◌<ℤ◌, ◌≤ℤ◌, unsigned_abs}
use Rattle.std.specs.Int.{int_max, int_min}
use Rattle.hyd_num.specs.Rational.{Rational}
use Rattle.hyd_net.specs.NumberRanges.{Lies, volume_limit}
use Rattle.hyd_spec.specs.Tank.{Bounds}
use Rattle.hyd_spec.specs.PeriodLength.{IsLeast}
use Rattle.hyd_tank.specs.declared.contents_of_tanks.Bounds.{Bounds as Limits}
use Rattle.hyd_tank.specs.declared.contents_of_tanks.Motion.{Motion}

-- the bounds that the code's stand for
abbrev pub bounds_of : Limits → Bounds
bounds_of limits = record { least = limits.least; most = limits.most }

-- bounds of levels or volumes, in ticks, from 0 to the limit of volumes (levels keep to a lesser one)
pub record AreBounds (bounds : Limits) : Type 0 where
  pub from : pos 0 ≤ℤ bounds.least
  pub apart : bounds.least <ℤ bounds.most
  pub up_to : bounds.most ≤ℤ pos volume_limit

-- a motion whose products fit
pub record IsMotion (motion : Motion) : Type 0 where
  pub breadth : Lies (pos 1) (pos (9 * 10 ^ 19)) motion.breadth
  pub drive : Lies (pos 0) (pos (10 ^ 23)) motion.drive

-- a number of parts, of which `breadth` make a tick, as a value in ticks
abbrev pub in_ticks : ℤ → ℤ → Rational
in_ticks breadth parts = record { num = parts; den = unsigned_abs breadth }

-- the content that an inflow leads to
abbrev pub moved : Motion → ℤ → ℤ → Rational
moved motion content inflow = in_ticks motion.breadth ((motion.breadth *ℤ content) +ℤ (motion.drive *ℤ inflow))

-- a number of parts held within bounds
abbrev pub held_in : ℤ → Limits → ℤ → ℤ
held_in breadth bounds parts = int_max (breadth *ℤ bounds.least) (int_min parts (breadth *ℤ bounds.most))

-- a value strictly between bounds
pub record IsBetween (bounds : Bounds) (x : Rational) : Type 0 where
  pub above_least : (pos x.den *ℤ bounds.least) <ℤ x.num
  pub below_most : x.num <ℤ (pos x.den *ℤ bounds.most)

-- the least number of seconds, at least one, at which a rate a second meets a need; the cap where none up to it does
abbrev pub IsFirstMeeting : ℤ → ℤ → ℕ → ℕ → Type 0
IsFirstMeeting need rate cap second = IsLeast (λ s. (s ≡ cap) ⊎ ((1 ≤ s) × (need ≤ℤ (pos s *ℤ rate)))) second
