use Rattle.std.proofs.Common.{◌∙◌, ◌++◌, List, ap}
use Rattle.std.specs.Prelude.{map}
use Rattle.hyd_spec.specs.Lists.{map_from, present}
use Rattle.hyd_spec_certificates.specs.SpansAsIntervals.{levels_of}
use Rattle.hyd_spec_certificates.specs.declared.Event.{Event}
use Rattle.hyd_spec_certificates.specs.EndsOfPeriods.{tank_events, control_event}
use Rattle.hyd_period_end.proofs.EventsSoFar.{events_are}
use Rattle.hyd_period_end.proofs.events.put_events.Goals as goal

pub returns-clause-list : goal.returns-clause-list
returns-clause-list c =
    let project = c.args.project.now in
    let carried = map levels_of c.args.carried.now in
    let controls : List Event = present (map_from (control_event (map levels_of c.args.levels.now) carried) 0
    project.controls.list) in
    c.add_controls.ensures.events
    ∙ ap (λ (es : List Event). es ++ controls) (c.add_tanks.ensures.events
    ∙ ap (λ (es : List Event). es ++ tank_events 0 project.tanks.list c.args.states.now carried) c.clear.ensures.empty)

pub returns-clause-events : goal.returns-clause-events
returns-clause-events c = λ grid standing row a b d.
    returns-clause-list c
    ∙ events_are c.args.project.now grid standing row c.args.states.now (map levels_of c.args.levels.now)
    (map levels_of c.args.carried.now) a b d
