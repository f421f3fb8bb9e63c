-- How narrow the levels behind a period are.
-- Source: this program's.
use Rattle.std.specs.Prelude.{◌≡◌, ℤ, ◌+ℤ◌, ◌*ℤ◌, ◌≤ℤ◌, pos}
use Rattle.hyd_spec.specs.Lists.{Each}
use Rattle.hyd_spec_certificates.specs.Interval.{width}
use Rattle.hyd_spec_certificates.specs.Decided.{level_of_tank}
use Rattle.hyd_spec_open_ends.specs.OpenStandings.{OpenStanding}

-- where both the start and the end of a period are known to the second, no level interval is more than twice as wide as
-- it was before, and a hundredth of a width besides
abbrev pub AreSteady : ℤ → OpenStanding → OpenStanding → Type 0
AreSteady W standing next = standing.late ≡ 0 → next.late ≡ 0 → Each next.known.levels (λ k level.
    (pos 100 *ℤ width level) ≤ℤ ((pos 200 *ℤ width (level_of_tank standing.known k)) +ℤ W))
