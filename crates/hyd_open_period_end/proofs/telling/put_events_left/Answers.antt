use Rattle.std.proofs.Common.{List, ap, ◌∙◌}
use Rattle.std.specs.Prelude.{map}
use Rattle.hyd_spec.specs.declared.TankState.{TankState}
use Rattle.hyd_spec_certificates.specs.Interval.{Interval}
use Rattle.hyd_spec_certificates.specs.SpansAsIntervals.{levels_of}
use Rattle.hyd_period_end.specs.Events.{events_by}
use Rattle.hyd_open_period_end.proofs.telling.put_events_left.Goals as goal

pub returns-clause-events : goal.returns-clause-events
returns-clause-events c = λ grid standing found started least most.
    let project = c.args.project.now in
    c.put_events.ensures.list
    ∙ ap (λ (ss : List TankState). events_by project ss (map levels_of c.as_slice-2.result.now)
    (map levels_of c.as_slice-3.result.now)) (c.as_slice.ensures ∙ started.tanks)
    ∙ ap (λ (ls : List Interval). events_by project standing.tanks ls (map levels_of c.as_slice-3.result.now))
    (ap (map levels_of) c.as_slice-2.ensures ∙ started.levels)
    ∙ ap (λ (ls : List Interval). events_by project standing.tanks standing.levels ls)
    (ap (map levels_of) c.as_slice-3.ensures
    ∙ c.put_carried_at_end.ensures.levels grid standing found started least most)
