use Rattle.std.proofs.Common.{refl}
use Rattle.hyd_cases_of_definitions.proofs.statuses_events_tank_laws_and_clauses.pressure_clauses.Goals as goal

pub returns-clause-pounds_less : goal.returns-clause-pounds_less
returns-clause-pounds_less c = λ project junction span number junctions reservoirs is_junction elevation unit nano. rw
    (junctions, reservoirs, is_junction, elevation, unit, nano) refl

pub returns-clause-pounds_notmore : goal.returns-clause-pounds_notmore
returns-clause-pounds_notmore c = λ project junction span number junctions reservoirs is_junction elevation unit nano.
    rw (junctions, reservoirs, is_junction, elevation, unit, nano) refl

pub returns-clause-pounds_more : goal.returns-clause-pounds_more
returns-clause-pounds_more c = λ project junction span number junctions reservoirs is_junction elevation unit nano. rw
    (junctions, reservoirs, is_junction, elevation, unit, nano) refl

pub returns-clause-pounds_notless : goal.returns-clause-pounds_notless
returns-clause-pounds_notless c = λ project junction span number junctions reservoirs is_junction elevation unit nano.
    rw (junctions, reservoirs, is_junction, elevation, unit, nano) refl

pub returns-clause-pounds_below_less : goal.returns-clause-pounds_below_less
returns-clause-pounds_below_less c = λ project junction span number junctions reservoirs is_junction elevation unit
    nano. rw (junctions, reservoirs, is_junction, elevation, unit, nano) refl

pub returns-clause-pounds_below_notmore : goal.returns-clause-pounds_below_notmore
returns-clause-pounds_below_notmore c = λ project junction span number junctions reservoirs is_junction elevation unit
    nano. rw (junctions, reservoirs, is_junction, elevation, unit, nano) refl

pub returns-clause-pounds_below_more : goal.returns-clause-pounds_below_more
returns-clause-pounds_below_more c = λ project junction span number junctions reservoirs is_junction elevation unit
    nano. rw (junctions, reservoirs, is_junction, elevation, unit, nano) refl

pub returns-clause-pounds_below_notless : goal.returns-clause-pounds_below_notless
returns-clause-pounds_below_notless c = λ project junction span number junctions reservoirs is_junction elevation unit
    nano. rw (junctions, reservoirs, is_junction, elevation, unit, nano) refl

pub returns-clause-metres_less : goal.returns-clause-metres_less
returns-clause-metres_less c = λ project junction span number junctions reservoirs is_junction elevation unit nano. rw
    (junctions, reservoirs, is_junction, elevation, unit, nano) refl

pub returns-clause-metres_notmore : goal.returns-clause-metres_notmore
returns-clause-metres_notmore c = λ project junction span number junctions reservoirs is_junction elevation unit nano.
    rw (junctions, reservoirs, is_junction, elevation, unit, nano) refl

pub returns-clause-metres_more : goal.returns-clause-metres_more
returns-clause-metres_more c = λ project junction span number junctions reservoirs is_junction elevation unit nano. rw
    (junctions, reservoirs, is_junction, elevation, unit, nano) refl

pub returns-clause-metres_notless : goal.returns-clause-metres_notless
returns-clause-metres_notless c = λ project junction span number junctions reservoirs is_junction elevation unit nano.
    rw (junctions, reservoirs, is_junction, elevation, unit, nano) refl
