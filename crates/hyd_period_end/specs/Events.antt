-- Events at the end of a period, by what is known at its start and its carried levels.
use Rattle.std.specs.Prelude.{List, ◌++◌}
use Rattle.hyd_spec.specs.ProgramTypes.{Project}
use Rattle.hyd_spec.specs.declared.TankState.{TankState}
use Rattle.hyd_spec.specs.Lists.{map_from, present}
use Rattle.hyd_spec_certificates.specs.Interval.{Interval}
use Rattle.hyd_spec_certificates.specs.declared.Event.{Event}
use Rattle.hyd_spec_certificates.specs.EndsOfPeriods.{tank_events, control_event}

-- The events of tanks by their states at the start, then those of level controls by the levels there, both at carried
-- levels.
abbrev pub events_by : Project → List TankState → List Interval → List Interval → List Event
events_by project states levels carried =
    tank_events 0 project.tanks.list states carried
    ++ present (map_from (control_event levels carried) 0 project.controls.list)
