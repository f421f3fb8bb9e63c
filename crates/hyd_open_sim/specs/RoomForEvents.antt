-- Room for what happens at the ends of periods that are open by some seconds.
use Rattle.std.specs.Prelude.{◌+◌, length}
use Rattle.hyd_net.specs.ListView.{ListView}
use Rattle.hyd_spec.specs.ProgramTypes.{Project}
use Rattle.hyd_spec.specs.NodeNumbers.{tank_count}
use Rattle.hyd_spec_certificates.specs.declared.Event.{Event}
use Rattle.hyd_period_facts.specs.ReservedMemory.{Takes}

-- There is room for an event of each tank and each control.
abbrev pub HasEventRoom : Project → ListView Event → Type 0
HasEventRoom project opened = Takes opened (tank_count project + length project.controls.list)
