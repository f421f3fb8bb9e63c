-- The room that facts have, and facts of no period.
use Rattle.std.specs.Prelude.{◌≡◌, ℕ, ◌+◌, ◌≤◌, [], length}
use Rattle.hyd_net.specs.ListView.{ListView}
use Rattle.hyd_spec.specs.ProgramTypes.{Project}
use Rattle.hyd_spec.specs.NodeNumbers.{tank_count}
use Rattle.hyd_period_facts.specs.declared.facts.Facts.{Facts}

-- Nothing is known.
pub record AreNone (facts : Facts) : Type 0 where
  pub time : facts.time ≡ 0
  pub length : facts.length ≡ 0
  pub levels : facts.levels.list ≡ []
  pub volumes : facts.volumes.list ≡ []
  pub inflows : facts.inflows.list ≡ []
  pub tanks : facts.tanks.list ≡ []
  pub links : facts.links.list ≡ []
  pub changes : facts.changes.list ≡ []
  pub events : facts.events.list ≡ []

-- The list takes so many items in all without memory being taken.
abbrev pub Takes : {T : Type 0} → ListView T → ℕ → Type 0
Takes view items = items ≤ length view.list + view.spare

-- There is room for the facts of each period of a network: for each tank and each link, for a change by each control
-- and to each
-- link, and for an event of each tank and each control.
pub record HasRoom (project : Project) (facts : Facts) : Type 0 where
  pub levels : Takes facts.levels (tank_count project)
  pub volumes : Takes facts.volumes (tank_count project)
  pub inflows : Takes facts.inflows (tank_count project)
  pub tanks : Takes facts.tanks (tank_count project)
  pub links : Takes facts.links (length project.links.list)
  pub changes : Takes facts.changes (length project.controls.list + length project.links.list)
  pub events : Takes facts.events (tank_count project + length project.controls.list)
