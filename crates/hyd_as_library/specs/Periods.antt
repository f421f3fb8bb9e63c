-- What the answer of one period says of the run.
-- Source: this program's.
use Rattle.std.specs.Prelude.{◌≡◌}
use Rattle.hyd_spec_certificates.specs.declared.StopCause.{StopCause}
use Rattle.hyd_sim.specs.Steps.{IsPeriod, StepGives}
use Rattle.hyd_sim.specs.RunView.{SimView}
use Rattle.hyd_sim.specs.declared.steps.Step.TheVariants as steps
use Rattle.hyd_as_library.specs.declared.Ended.{Ended}
use Rattle.hyd_as_library.specs.declared.Ended.TheVariants.{OutOfMemory, NoPeriod, Desk, Print}

-- No period was done. The run was over before, and nothing changed; or it can't go on, by a cause that holds at its
-- standing, which stays.
pub data HasNoPeriod (before now : SimView) : Type 0 where
  over : StepGives before now steps.Finished → HasNoPeriod before now
  stopped : (cause : StopCause) → StepGives before now (steps.Stop cause) → HasNoPeriod before now

-- Why a period wasn't done and printed, and where the run stands then: where there was no memory, nothing was done;
-- where a print failed, the period was.
abbrev pub PeriodFails : Ended → SimView → SimView → Type 0
PeriodFails OutOfMemory before now = now ≡ before
PeriodFails NoPeriod before now = HasNoPeriod before now
PeriodFails Desk before now = ⊥
PeriodFails Print before now = IsPeriod before now
