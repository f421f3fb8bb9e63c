-- The exact flow of a demand that is driven by pressure, as two relations with its numbers in place of a network's, and
-- what is asked of those numbers. Pressures and flows are S-th parts of ticks.
-- Source: EPANET 2.2 User Manual, chapter 3 (pressure-driven demand).
use Rattle.std.specs.Prelude.{ℕ, ◌<◌, ℤ, pos, ◌+ℤ◌, ◌-ℤ◌, ◌*ℤ◌, ◌≤ℤ◌, ◌<ℤ◌, MatchBool}
use Rattle.hyd_num.specs.Rational.{Rational, negated, is_at_most}
use Rattle.hyd_spec.specs.ProgramTypes.{Capacity}
use Rattle.hyd_spec.specs.Scale.{at_scale, tolerance}
use Rattle.hyd_spec.specs.Outflow.{IsWithinTolerance, pressure_at}
use Rattle.hyd_spec.specs.Law.{Relation, QuadraticLaw, Lifted, flow_at_least, flow_at_most}
use Rattle.hyd_theorems_on_definitions.specs.SoundLawsAndGrids.{IsSoundCapacity}

-- ---- between the two pressures

-- The flow between the two pressures is at least a number.
abbrev pub part_at_least : Rational → Capacity → Relation
part_at_least minimum capacity = flow_at_least (Lifted (negated minimum) (QuadraticLaw capacity))

-- It is at most a number.
abbrev pub part_at_most : Rational → Capacity → Relation
part_at_most minimum capacity = flow_at_most (Lifted (negated minimum) (QuadraticLaw capacity))

-- It is within the tolerance of q.
pub record FollowsPart (minimum : Rational) (capacity : Capacity) (S : ℕ) (p q : ℤ) : Type 0 where
  pub at_least : part_at_least minimum capacity S p (q -ℤ tolerance S)
  pub at_most : part_at_most minimum capacity S p (q +ℤ tolerance S)

-- ---- at every pressure

-- The flow is at least a number: nothing up to the minimum pressure, the demand from the required one on.
abbrev pub steps_at_least : Rational → Rational → ℤ → Relation → Relation
steps_at_least minimum required demand between S p a =
    MatchBool (is_at_most (pressure_at S p) minimum) (a ≤ℤ pos 0)
    (MatchBool (is_at_most required (pressure_at S p)) (a ≤ℤ at_scale S demand) (between S p a))

-- It is at most a number.
abbrev pub steps_at_most : Rational → Rational → ℤ → Relation → Relation
steps_at_most minimum required demand between S p a =
    MatchBool (is_at_most (pressure_at S p) minimum) (pos 0 ≤ℤ a)
    (MatchBool (is_at_most required (pressure_at S p)) (at_scale S demand ≤ℤ a) (between S p a))

-- It is within the tolerance of q.
abbrev pub FollowsPressure : Rational → Rational → ℤ → Capacity → ℕ → ℤ → ℤ → Type 0
FollowsPressure minimum required demand capacity S p q =
    MatchBool (is_at_most (pressure_at S p) minimum) (IsWithinTolerance S q (pos 0))
    (MatchBool (is_at_most required (pressure_at S p)) (IsWithinTolerance S q (at_scale S demand))
    (FollowsPart minimum capacity S p q))

-- ---- what is asked of the numbers

-- The demand isn't below 0, its capacity is sound, and the flow between the two pressures begins with nothing above the
-- minimum one and is at most the demand below the required one.
pub record Parts (minimum required : Rational) (demand : ℤ) (capacity : Capacity) : Type 0 where
  pub some_least : 0 < minimum.den
  pub some_most : 0 < required.den
  pub positive : pos 0 ≤ℤ demand
  pub sound : IsSoundCapacity capacity
  pub begins : (S : ℕ) (p : ℤ) → (minimum.num *ℤ pos S) <ℤ (p *ℤ pos minimum.den)
      → part_at_least minimum capacity S p (pos 0)
  pub ends : (S : ℕ) (p : ℤ) → 0 < S → (p *ℤ pos required.den) <ℤ (required.num *ℤ pos S)
      → part_at_most minimum capacity S p (pos S *ℤ demand)
