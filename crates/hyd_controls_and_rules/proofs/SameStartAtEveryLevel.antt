-- The start of a period, at every level inside.
use Rattle.std.proofs.Common.{◌≡◌, ℕ, ◌<◌, ℤ, List, [], sym, refl, false}
use Rattle.hyd_spec.specs.ProgramTypes.{Project, LinkState}
use Rattle.hyd_spec.specs.PumpPatternsAndSimpleControls.{started, acts_at}
use Rattle.hyd_spec.specs.History.{tank_states}
use Rattle.hyd_spec_certificates.specs.Interval.{Interval}
use Rattle.hyd_spec_certificates.specs.Decided.{acts_on}
use Rattle.hyd_spec_certificates.specs.Valid.{ControlsAreDecided}
use Rattle.hyd_theorems_on_histories.specs.PassedOn.{LevelsLie}
use Rattle.hyd_theorems_on_histories.proofs.AgreementAtStart.{same_links}

-- where all level controls are decided, they act at every level as at the intervals
pub start_is : (project : Project) (S time : ℕ) (intervals : List Interval) (exact : List ℤ) (states : List LinkState)
    → 0 < S → LevelsLie S intervals exact
    → ControlsAreDecided project intervals → started project time (acts_on intervals) states ≡ started project time
    (acts_at S exact) states
start_is project S time intervals exact states some lie decided =
    let tanks = tank_states S project.tanks.list exact in
    sym (same_links project S time (record {
      number = 0;
      time = time;
      levels = intervals;
      volumes = [];
      tanks = tanks;
      commanded = states;
      finished = false;
    }) exact [] states some
    (record { time_is = refl; levels_lie = lie; volumes_lie = tt; tanks_are = refl; commanded_are = refl }) decided)
