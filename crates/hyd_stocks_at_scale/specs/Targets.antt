-- Target levels of tanks at a scale, as contents in shares.
use Rattle.std.specs.Prelude.{◌≡◌, ◌⊎◌, ℕ, ◌≤◌, ℤ, ◌≤ℤ◌, Bool, true, false, IsTrue, ◌↔◌, unsigned_abs, ⊤}
use Rattle.hyd_spec.specs.ProgramTypes.{Tank}
use Rattle.hyd_spec.specs.Tank.{Stock, Walls, has_reached}
use Rattle.hyd_spec.specs.PeriodLength.{IsLeast}
use Rattle.hyd_stocks_at_scale.specs.declared.first_seconds.Target.{Target}
use Rattle.hyd_stocks_at_scale.specs.declared.first_seconds.Target.TheVariants.{Always, Never, Shares}
use Rattle.hyd_stocks_at_scale.specs.declared.motions.Motion.{Motion}
use Rattle.hyd_stocks_at_scale.specs.Motions.{exact_shares, share_limit, Moves}

-- a content in shares has met a target
abbrev pub Meets : Bool → Target → ℤ → Type 0
Meets rising Always content = ⊤
Meets rising Never content = ⊥
Meets true (Shares shares) content = shares ≤ℤ content
Meets false (Shares shares) content = content ≤ℤ shares

-- the target, where it is a content, is one that a tank may have
abbrev pub IsSmall : Target → Type 0
IsSmall Always = ⊤
IsSmall Never = ⊤
IsSmall (Shares shares) = unsigned_abs shares ≤ share_limit

-- the first second at which a content has met a target, or the cap
abbrev pub IsFirstMet : Motion → Target → Bool → ℕ → ℕ → Type 0
IsFirstMet motion target rising cap second =
    IsLeast (λ s. (s ≡ cap) ⊎ ((1 ≤ s) × Meets rising target (exact_shares motion s))) second

-- a target content stands for a target level: a tank has reached the level exactly where its content has met that
-- target
abbrev pub StandsFor : ℕ → Walls → Tank → ℤ → Bool → Target → Type 0
StandsFor S walls tank level rising target = (stock : Stock) (q : ℤ) (motion : Motion) (seconds : ℕ)
    → Moves walls stock q motion → IsTrue (has_reached S walls tank stock q rising level seconds)
    ↔ Meets rising target (exact_shares motion seconds)
