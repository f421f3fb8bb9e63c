-- A period has its length.
use Rattle.std.proofs.Common.{◌≡◌, ◌≢◌, ℕ, ◌+◌, arith}
use Rattle.hyd_spec.specs.ProgramTypes.{Project}
use Rattle.hyd_spec.specs.PeriodLength.{Period, IsLeast, MayEnd, HasItsLength, at_end, before_end}

-- at the end of the run it is 0
pub length_at_end : (project : Project) (S : ℕ) (period : Period) → period.time ≡ project.times.duration
    → HasItsLength project S period → period.length ≡ 0
length_at_end project S period end (at_end e none) = none
length_at_end project S period end (before_end before least) = absurd (before end)

-- before it, it goes to the first instant at which it may end
pub length_before : (project : Project) (S : ℕ) (period : Period) (e : ℕ) → period.time ≢ project.times.duration
    → IsLeast (MayEnd project S period) e → HasItsLength project S period → period.time + period.length ≡ e
length_before project S period e before least (at_end end none) = absurd (before end)
length_before project S period e before least (before_end b other) =
    let one = least.least (period.time + period.length) other.holds in
    let two = other.least e least.holds in
    omega (arith, one, two)
