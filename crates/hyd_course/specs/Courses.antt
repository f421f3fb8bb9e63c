-- The course of a witness's periods.
-- Source: this program's.
use Rattle.std.specs.Prelude.{ℕ}
use Rattle.hyd_spec.specs.ProgramTypes.{Project}
use Rattle.hyd_spec_witnesses.specs.MetPeriods.{Reached}
use Rattle.hyd_course.specs.Standings.{IsStanding, StandsAt}
use Rattle.hyd_course.specs.Trials.{IsTrial}
use Rattle.hyd_course.specs.declared.course.Course.{Course}

-- a course of a network, wherever it stands
pub record IsCourse (project : Project) (course : Course) : Type 0 where
  pub standing : IsStanding project course.standing
  pub trial : IsTrial project course.trial

-- a course of a network that stands so at scale S
pub record IsCourseOf (project : Project) (S : ℕ) (reached : Reached) (course : Course) : Type 0 where
  pub is : IsCourse project course
  pub stands : StandsAt project S reached course.standing
