-- What leaves a junction beside its links: its demand flow and its emitter flow, at a pressure p
-- (head above the elevation, S-th parts of a head tick). Flows are S-th parts of a flow tick.
-- Source: EPANET 2.2 User Manual, chapter 3 (demands, pressure-driven demand, emitters); a demand of 0 or less under
-- pressure-driven analysis and an emitter at a negative pressure are this program's.
use Rattle.std.specs.Prelude.{◌≡◌, ℕ, ℤ, pos, ◌+ℤ◌, ◌-ℤ◌, ◌≤ℤ◌, Bool, false, int_le, if◌then◌else◌, MatchBool}
use Rattle.std.specs.Prelude.{MatchOption}
use Rattle.hyd_spec.specs.ProgramTypes.{Project, Junction}
use Rattle.hyd_num.specs.Rational.{Rational, negated, is_at_most}
use Rattle.hyd_spec.specs.Scale.{at_scale, tolerance}
use Rattle.hyd_spec.specs.DemandsHeadsAndPumpLifts.{is_us, demand_of, minimum_pressure, required_pressure}
use Rattle.hyd_spec.specs.Law.{QuadraticLaw, Follows, Relation, lifted, odd_at_least, odd_at_most, pressure_resistance}
use Rattle.hyd_spec.specs.Loss.{SquareLossAtMost, SquareLossAtLeast}

-- Two flows differ by at most the tolerance.
pub record IsWithinTolerance (S : ℕ) (q exact : ℤ) : Type 0 where
  pub low : (exact -ℤ tolerance S) ≤ℤ q
  pub high : q ≤ℤ (exact +ℤ tolerance S)

-- A pressure in S-th parts of a tick, as an exact value in ticks.
abbrev pub pressure_at : ℕ → ℤ → Rational
pressure_at S p = record { num = p; den = S }

-- The demand at the junction depends on the pressure: pressure-driven analysis, and a demand above 0.
abbrev pub is_pressure_driven : Project → ℤ → Bool
is_pressure_driven project demand = if int_le demand (pos 0) then false else project.options.pda

-- The flow between the two pressures is at least a number: of a demand D it is v with v^2 (Pf - P0) = D^2 (p - P0), v
-- at least 0, the square root law of the pressure above the minimum.
abbrev pub part_at_least : Project → ℤ → Relation
part_at_least project demand =
    let resistance = pressure_resistance demand project.options.p0 project.options.pf (is_us project) in
    lifted (negated (minimum_pressure project))
    (odd_at_least (SquareLossAtMost resistance) (SquareLossAtLeast resistance))

-- The flow between the two pressures is at most a number.
abbrev pub part_at_most : Project → ℤ → Relation
part_at_most project demand =
    let resistance = pressure_resistance demand project.options.p0 project.options.pf (is_us project) in
    lifted (negated (minimum_pressure project))
    (odd_at_most (SquareLossAtMost resistance) (SquareLossAtLeast resistance))

-- Between the two pressures the square root law's flow is within the tolerance of q.
pub record FollowsPart (project : Project) (demand : ℤ) (S : ℕ) (p q : ℤ) : Type 0 where
  pub at_least : part_at_least project demand S p (q -ℤ tolerance S)
  pub at_most : part_at_most project demand S p (q +ℤ tolerance S)

-- The flow q (S-th parts) of a pressure-driven demand (whole flow ticks) at pressure p: within the tolerance of nothing
-- up to the minimum pressure, of the whole demand from the required one on, of the square root law between.
abbrev pub FollowsPressure : Project → ℤ → ℕ → ℤ → ℤ → Type 0
FollowsPressure project demand S p q =
    MatchBool (is_at_most (pressure_at S p) (minimum_pressure project)) (IsWithinTolerance S q (pos 0))
    (MatchBool (is_at_most (required_pressure project) (pressure_at S p)) (IsWithinTolerance S q (at_scale S demand))
    (FollowsPart project demand S p q))

-- The demand flow q of a junction at a time and pressure p.
abbrev pub FollowsDemand : Project → ℕ → Junction → ℕ → ℤ → ℤ → Type 0
FollowsDemand project time junction S p q =
    let demand = demand_of project time junction in
    MatchBool (is_pressure_driven project demand) (FollowsPressure project demand S p q)
    (IsWithinTolerance S q (at_scale S demand))

-- The emitter flow q of a junction at pressure p: within the tolerance of C p^0.5, in reverse at a
-- negative pressure; none where the junction has no emitter.
abbrev pub FollowsEmitter : Junction → ℕ → ℤ → ℤ → Type 0
FollowsEmitter junction S p q =
    MatchOption junction.emitter (q ≡ pos 0) (λ capacity. Follows (QuadraticLaw capacity) S p q)
