-- The exact flow of a demand that depends on the pressure, as two relations: nothing up to a minimum pressure, all from
-- a required one on, and an inner relation between. Pressures are S-th parts of a head tick, flows of a flow tick.
-- Source: EPANET 2.2 User Manual, chapter 3 (pressure-driven demand).
use Rattle.std.specs.Prelude.{ℤ, pos, ◌≤ℤ◌, ◌-ℤ◌, MatchBool, int_le, if◌then◌else◌}
use Rattle.std.specs.Int.{int_min}
use Rattle.hyd_num.specs.Rational.{Rational, is_at_most}
use Rattle.hyd_spec.specs.Scale.{at_scale}
use Rattle.hyd_spec.specs.Law.{Relation}
use Rattle.hyd_spec.specs.Outflow.{pressure_at}

-- The flow at pressure p is at least a.
abbrev pub steps_at_least : Rational → Rational → ℤ → Relation → Relation
steps_at_least minimum required demand between S p a =
    MatchBool (is_at_most (pressure_at S p) minimum) (a ≤ℤ pos 0)
    (MatchBool (is_at_most required (pressure_at S p)) (a ≤ℤ at_scale S demand) (between S p a))

-- It is at most a.
abbrev pub steps_at_most : Rational → Rational → ℤ → Relation → Relation
steps_at_most minimum required demand between S p a =
    MatchBool (is_at_most (pressure_at S p) minimum) (pos 0 ≤ℤ a)
    (MatchBool (is_at_most required (pressure_at S p)) (at_scale S demand ≤ℤ a) (between S p a))

-- By whole numbers: nothing up to one pressure, the demand from another on, at most it by a function between.
abbrev pub stepped : ℤ → ℤ → ℤ → (ℤ → ℤ) → ℤ → ℤ
stepped demand none all between p =
    if int_le p none then pos 0 else if int_le all p then demand else int_min demand (between (p -ℤ none))
