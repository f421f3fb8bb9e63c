-- What a step that did no period says of the run.
use Rattle.std.proofs.Common.{◌≢◌, refl}
use Rattle.hyd_sim.specs.Steps.{StepGives}
use Rattle.hyd_sim.specs.RunView.{SimView}
use Rattle.hyd_sim.specs.declared.steps.Step.{Step}
use Rattle.hyd_sim.specs.declared.steps.Step.TheVariants.{Period, Finished, Stop}
use Rattle.hyd_as_library.specs.Periods.{HasNoPeriod, over, stopped}

pub no_period : (before now : SimView) (step : Step) → step ≢ Period → StepGives before now step
    → HasNoPeriod before now
no_period before now Period other gives = absurd (other refl)
no_period before now Finished other gives = over gives
no_period before now (Stop cause) other gives = stopped cause gives
