-- When facts are those of a period whose start or end may be open by some seconds.
-- Source: this program's.
use Rattle.std.specs.Prelude.{◌≡◌, ℕ, ◌<◌, List, [], ◌++◌, map, Option}
use Rattle.hyd_spec.specs.ProgramTypes.{Project}
use Rattle.hyd_spec.specs.Lists.{map_from}
use Rattle.hyd_spec.specs.declared.Change.{Change}
use Rattle.hyd_spec_certificates.specs.SpansAsIntervals.{levels_of, flows_of}
use Rattle.hyd_spec_certificates.specs.declared.Event.{Event}
use Rattle.hyd_spec_certificates.specs.PeriodNetwork.{Grid}
use Rattle.hyd_spec_certificates.specs.Decided.{Watch, inflow_of_tank, links_at}
use Rattle.hyd_spec_certificates.specs.ChangesAtStart.{changes_at}
use Rattle.hyd_spec_open_ends.specs.OpenStandings.{OpenStanding, OpenRecord}
use Rattle.hyd_spec_open_ends.specs.OpenEnds.{Way, EndsIn, first_end, late_at_end}
use Rattle.hyd_spec_open_ends.specs.Arrivals.{Arrives}
use Rattle.hyd_spec_open_reports.specs.OpenReport.{events_left, changes_left}
use Rattle.hyd_tank.specs.StockIntervals.{volumes_of}
use Rattle.hyd_period_facts.specs.declared.facts.Facts.{Facts}

-- What a period's end brings: after how many seconds from its first start it comes first, how many seconds it is open,
-- the events of an end that is known to the second, those of one that is open, and what rules change there. The period
-- at the end of the run brings nothing.
pub data EndBringsOpenly (project : Project) (grid : Grid) (standing : OpenStanding) (found : OpenRecord)
    : ℕ → ℕ → List Event → List Event → List Change → Type 0 where
  at_last : standing.known.time ≡ project.times.duration → EndBringsOpenly project grid standing found 0 0 [] [] []
  at_known : (way : Way) (reached : Option Watch) → EndsIn project grid standing found.row way
      → Arrives project grid standing.known found.row way reached → late_at_end standing.late way ≡ 0
      → EndBringsOpenly project grid standing found (first_end way) 0
      (events_left project grid standing.known found reached) [] (changes_left project grid standing found.row way)
  at_open : (way : Way) (reached : Option Watch) → EndsIn project grid standing found.row way
      → Arrives project grid standing.known found.row way reached → 0 < late_at_end standing.late way
      → EndBringsOpenly project grid standing found (first_end way) (late_at_end standing.late way)
      [] (events_left project grid standing.known found reached) (changes_left project grid standing found.row way)

-- The facts are those of the period of a record that begins at a standing, and its end is open by so many seconds, with
-- these events where it isn't known to the second: the first second of its start, after how many its end comes first,
-- the stocks and the states of its tanks at the start, their inflows by the record, the states of links after the
-- controls of the start, what these controls change there and then what its end brings.
pub record AreOpenFacts (project : Project) (grid : Grid) (standing : OpenStanding) (found : OpenRecord)
    (first late : ℕ) (opened : List Event) (facts : Facts) : Type 0 where
  pub time : facts.time ≡ standing.known.time
  pub length : facts.length ≡ first
  pub levels : map levels_of facts.levels.list ≡ standing.known.levels
  pub volumes : map volumes_of facts.volumes.list ≡ standing.known.volumes
  pub inflows : map flows_of facts.inflows.list
      ≡ map_from (λ k tank. inflow_of_tank project grid found.row k) 0 project.tanks.list
  pub tanks : facts.tanks.list ≡ standing.known.tanks
  pub links : facts.links.list ≡ links_at project standing.known
  -- the changes by rules at the end
  pub by_rules : List Change
  pub changes : facts.changes.list ≡ changes_at project standing.known ++ by_rules
  pub brings : EndBringsOpenly project grid standing found first late facts.events.list opened by_rules
