-- What the end of a period brings: what tanks reach, and what rules change.
-- Source: this program's; the events are those of EPANET 2.2 User Manual, chapter 3 (tanks and controls).
use Rattle.std.specs.Prelude.{◌≡◌, ℕ, suc, ◌&&◌, not, List, [], ◌∷◌, ◌++◌, Option, Some, None, slice_index_or}
use Rattle.std.specs.Prelude.{if◌then◌else◌, int_le}
use Rattle.hyd_spec.specs.ProgramTypes.{Project, Tank, Control, When, AtLevel}
use Rattle.hyd_spec.specs.declared.TankState.{TankState}
use Rattle.hyd_spec.specs.declared.Change.{Change}
use Rattle.hyd_spec_certificates.specs.declared.Event.{Event}
use Rattle.hyd_spec_certificates.specs.declared.EventKind.TheVariants.{Full as BecomesFull, Empty as BecomesEmpty}
use Rattle.hyd_spec_certificates.specs.declared.EventKind.TheVariants.{Control as ReachesLevel}
use Rattle.hyd_spec.specs.Lists.{map_from, present}
use Rattle.hyd_spec_certificates.specs.Interval.{Interval}
use Rattle.hyd_spec.specs.LinkLaw.{is_full, is_empty}
use Rattle.hyd_spec_certificates.specs.PeriodNetwork.{Grid}
use Rattle.hyd_spec_certificates.specs.RecordAndStanding.{Record, Standing}
use Rattle.hyd_spec_certificates.specs.ThreeValuedLogic.{is_yes}
use Rattle.hyd_spec_certificates.specs.Decided.{carried_at, acts_on, control_truth, nowhere, decided_changes, EndsBy}
use Rattle.hyd_spec_certificates.specs.Decided.{ByRules, WithoutRules}

-- A tank that wasn't full (empty) and whose whole interval of carried levels stands at its maximum (minimum).
abbrev pub tank_event : ℕ → Tank → TankState → Interval → List Event
tank_event k tank state level =
    if not (is_full state) && int_le tank.maximum level.lo then record { tank = k; what = BecomesFull } ∷ []
    else if not (is_empty state) && int_le level.hi tank.minimum then record { tank = k; what = BecomesEmpty } ∷ []
    else []

-- The events of tanks, from tank number k on, at their intervals of carried levels.
abbrev pub tank_events : ℕ → List Tank → List TankState → List Interval → List Event
tank_events k (tank ∷ tanks) (state ∷ states) (level ∷ levels) =
    tank_event k tank state level ++ tank_events (suc k) tanks states levels
tank_events k tanks states levels = []

-- A level control that didn't hold, and whose level the tank's whole interval of carried levels has reached.
abbrev pub control_event : List Interval → List Interval → ℕ → Control → Option Event
control_event before carried number control = by_when control.when
  where
    by_when : When → Option Event
    by_when (AtLevel tank above ticks) =
        if not (acts_on before tank above ticks) && is_yes (control_truth (slice_index_or carried tank nowhere) above
        ticks)
        then Some (record { tank = tank; what = ReachesLevel number })
        else None
    by_when when = None

-- The events at the end of a period: those of tanks in order, then those of level controls in order.
abbrev pub events_of : Project → Grid → Standing → Record → List Event
events_of project grid standing row =
    let carried = carried_at project grid standing row row.length in
    tank_events 0 project.tanks.list standing.tanks carried
    ++ present (map_from (control_event standing.levels carried) 0 project.controls.list)

-- What a period's end brings: its events, and what rules change there. The period at the end of the run brings nothing,
-- one that the clock or an event ends no changes.
pub data EndBrings (project : Project) (grid : Grid) (standing : Standing) (row : Record) : List Event → List Change
    → Type 0 where
  at_end : standing.time ≡ project.times.duration → EndBrings project grid standing row [] []
  by_rules : EndsBy project grid standing row (ByRules row.length)
      → EndBrings project grid standing row (events_of project grid standing row)
      (decided_changes project grid standing row row.length)
  by_clock : EndsBy project grid standing row (WithoutRules row.length)
      → EndBrings project grid standing row (events_of project grid standing row) []
